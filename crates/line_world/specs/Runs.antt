-- What a list of events, and a run on a line that loses nothing, leave.
use Rattle.std.specs.Prelude.{◌≡◌, ◌≤◌, true, List, length, Some}
use Rattle.odt_machine.specs.Answer.{longest_answer}
use Rattle.host_core.specs.declared.phase.End.{End}
use Rattle.host_core.specs.Core.{ended}
use Rattle.line_world.specs.declared.event.Event.{Event}
use Rattle.line_world.specs.Scene.{Scene}
use Rattle.line_world.specs.World.{after, typed, had_timeout, IsCleanRun}
use Rattle.line_world.specs.Promises.{StartsOnce}
use Rattle.line_world.specs.CleanLine.{IsAtOpening, LoadsClean}

-- the events of a line that loses nothing, up to the first end, lead from one world to another that has this end
pub record RunsTo (before now : Scene) (end : End) : Type 0 where
  pub events : List Event
  pub clean : IsCleanRun before events
  pub world : now ≡ after before events
  pub end_is : ended now.core.phase ≡ Some end

-- the same; the program is started at most once on the way; a world as it was opened is loaded whole where its memory has every word; and
-- no more than the longest answer waits where no more waited before, or after a timeout
pub record RunsClean (before now : Scene) (end : End) : Type 0 where
  pub run : RunsTo before now end
  pub start : StartsOnce before.core now.core (typed before run.events)
  pub loads : IsAtOpening before → LoadsClean before now (typed before run.events) end
  pub short : length before.up ≤ longest_answer → length now.up ≤ longest_answer
  pub silent : had_timeout before run.events ≡ true → length now.up ≤ longest_answer
