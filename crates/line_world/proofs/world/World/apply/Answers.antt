use Rattle.std.proofs.Common.{◌∙◌, rules}
use Rattle.line_world.proofs.Events.{kept_event, safe_event, since_event}
use Rattle.line_world.proofs.Starts.{starts_event}
use Rattle.line_world.proofs.Tame.{tame_of, short_event, silent_event}
use Rattle.line_world.proofs.Work.{next_possible, work_falls}
use Rattle.line_world.proofs.world.World.apply.Goals as goal

pub returns-clause-safe : goal.returns-clause-safe
returns-clause-safe c = rw c.happen.ensures.world (safe_event c.args.self.now c.args.event c.recall_invariant.ensures)

pub returns-clause-since : goal.returns-clause-since
returns-clause-since c = rw c.happen.ensures.world (λ earlier safe. since_event earlier c.args.self.now c.args.event c.recall_invariant.ensures safe)

pub returns-clause-start : goal.returns-clause-start
returns-clause-start c = rw c.happen.ensures.world (starts_event c.args.self.now c.args.event c.recall_invariant.ensures)

pub returns-clause-tame : goal.returns-clause-tame
returns-clause-tame c = rw c.happen.ensures.world (tame_of _ (kept_event c.args.self.now c.args.event c.recall_invariant.ensures))

pub returns-clause-short : goal.returns-clause-short
returns-clause-short c = rw c.happen.ensures.world (short_event c.args.self.now c.args.event c.recall_invariant.ensures)

pub returns-clause-silent : goal.returns-clause-silent
returns-clause-silent c = rw c.happen.ensures.world (silent_event c.args.self.now c.args.event)

pub returns-clause-next : goal.returns-clause-next
returns-clause-next c = λ is. c.happen.ensures.possible ∙ next_possible c.args.self.now c.args.event is

pub returns-clause-work : goal.returns-clause-work
returns-clause-work c = rw c.happen.ensures.world (work_falls c.args.self.now c.args.event c.recall_invariant.ensures)

pub returns-clause-possible : goal.returns-clause-possible
returns-clause-possible c = search rules

pub returns-clause-world : goal.returns-clause-world
returns-clause-world c = search rules
