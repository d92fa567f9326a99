use Rattle.line_world.proofs.Events.{kept_events, safe_events, since_events}
use Rattle.line_world.proofs.Starts.{starts_events}
use Rattle.line_world.proofs.Tame.{tame_of, short_events, silent_events}
use Rattle.line_world.proofs.world.World.run.Goals as goal

pub returns-clause-safe : goal.returns-clause-safe
returns-clause-safe c = rw c.happen_in_turn.ensures.world (safe_events c.args.self.now c.args.events.now c.recall_invariant.ensures)

pub returns-clause-since : goal.returns-clause-since
returns-clause-since c = rw c.happen_in_turn.ensures.world (λ earlier safe. since_events earlier c.args.self.now c.args.events.now c.recall_invariant.ensures safe)

pub returns-clause-start : goal.returns-clause-start
returns-clause-start c = rw c.happen_in_turn.ensures.world (starts_events c.args.self.now c.args.events.now c.recall_invariant.ensures)

pub returns-clause-tame : goal.returns-clause-tame
returns-clause-tame c = rw c.happen_in_turn.ensures.world (tame_of _ (kept_events c.args.self.now c.args.events.now c.recall_invariant.ensures))

pub returns-clause-short : goal.returns-clause-short
returns-clause-short c = rw c.happen_in_turn.ensures.world (short_events c.args.self.now c.args.events.now c.recall_invariant.ensures)

pub returns-clause-silent : goal.returns-clause-silent
returns-clause-silent c = rw c.happen_in_turn.ensures.world (silent_events c.args.self.now c.args.events.now c.recall_invariant.ensures)
