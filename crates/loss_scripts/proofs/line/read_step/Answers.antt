use Rattle.line_world.specs.declared.event.Event.TheVariants.{Take, Hear, LoseDown, LoseUp, ChangeDown, ChangeUp, Quiet, Restart}
use Rattle.loss_scripts.specs.declared.line.ScriptStep.TheVariants.{Times, Until, Clean}
use Rattle.loss_scripts.proofs.Forms.{other}
use Rattle.loss_scripts.proofs.line.read_step.Goals as goal

pub returns-clause-none : goal.returns-clause-none
returns-clause-none c (Times Take n) h = c.in_default.ensures.none n h
returns-clause-none c (Times Hear n) h = c.in_default-times.ensures.none n h
returns-clause-none c (Times (LoseDown k) n) h = c.in_default-number_after.ensures.none k h.0
returns-clause-none c (Times (LoseUp k) n) h = c.in_default-number_after-2.ensures.none k h.0
returns-clause-none c (Times (ChangeDown k n) m) h = h
returns-clause-none c (Times (ChangeUp k n) m) h = h
returns-clause-none c (Times Quiet n) h = other c.is_text.result c.is_text.ensures c.if-is_text.false h.0
returns-clause-none c (Times (Restart k) n) h = c.in_default-number_after-3.ensures.none k h.0
returns-clause-none c (Until n) h = c.in_default-number_after-4.ensures.none n h
returns-clause-none c Clean h = other c.is_text-2.result c.is_text-2.ensures c.if-is_text-2.false h
