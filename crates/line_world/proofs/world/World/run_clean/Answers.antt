use Rattle.line_world.proofs.CleanLine.{loads_clean}
use Rattle.line_world.proofs.Events.{kept_events, safe_events, since_events}
use Rattle.line_world.proofs.Starts.{starts_events}
use Rattle.line_world.proofs.Tame.{tame_of, short_events, silent_events}
use Rattle.line_world.proofs.world.World.run_clean.Goals as goal

pub returns-clause-run : goal.returns-clause-run
returns-clause-run c = record {
  run = c.run_to_end.ensures;
  start = rw c.run_to_end.ensures.world (starts_events c.args.self.now c.run_to_end.ensures.events c.recall_invariant.ensures);
  loads = λ opening. rw c.run_to_end.ensures.world
      (loads_clean c.args.self.now c.run_to_end.ensures.events c.run_to_end.result opening c.recall_invariant.ensures c.run_to_end.ensures.clean (rw c.run_to_end.ensures.world at c.run_to_end.ensures.end_is));
  short = rw c.run_to_end.ensures.world (short_events c.args.self.now c.run_to_end.ensures.events c.recall_invariant.ensures);
  silent = rw c.run_to_end.ensures.world (silent_events c.args.self.now c.run_to_end.ensures.events c.recall_invariant.ensures);
}

pub returns-clause-safe : goal.returns-clause-safe
returns-clause-safe c = rw c.run_to_end.ensures.world (safe_events c.args.self.now c.run_to_end.ensures.events c.recall_invariant.ensures)

pub returns-clause-since : goal.returns-clause-since
returns-clause-since c = rw c.run_to_end.ensures.world (λ earlier safe. since_events earlier c.args.self.now c.run_to_end.ensures.events c.recall_invariant.ensures safe)

pub returns-clause-tame : goal.returns-clause-tame
returns-clause-tame c = rw c.run_to_end.ensures.world (tame_of _ (kept_events c.args.self.now c.run_to_end.ensures.events c.recall_invariant.ensures))
