-- Events that end from here on end from the start on, and lead to the same world.
use Rattle.std.proofs.Common.{◌≡◌, List}
use Rattle.line_world.specs.declared.event.Event.{Event}
use Rattle.line_world.specs.World.{after, work_left}
use Rattle.tape_commands.specs.Played.{IsCleanUntil}
use Rattle.tape_commands.proofs.play.run_until.Given as goal

abbrev pub invariant-loop-world : goal.invariant-loop-world
invariant-loop-world l = (events : List Event) → IsCleanUntil l.sent l.world events → (all : List Event) × IsCleanUntil l.sent l.initial.world all × (after l.world events ≡ after l.initial.world all)

abbrev pub decreases-loop-world : goal.decreases-loop-world
decreases-loop-world l = work_left l.world
