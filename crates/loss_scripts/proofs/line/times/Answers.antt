use Rattle.loss_scripts.proofs.Forms.{not_counted, other}
use Rattle.loss_scripts.proofs.line.times.Goals as goal

pub returns-clause-none : goal.returns-clause-none
returns-clause-none c =
    not_counted _ c.args.text.now c.args.alone.now c.args.counted.now (other c.is_text.result c.is_text.ensures c.if-is_text.false) c.number_after.ensures.none
