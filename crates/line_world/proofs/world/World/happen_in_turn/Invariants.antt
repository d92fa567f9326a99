use Rattle.std.proofs.Common.{◌≡◌, take}
use Rattle.line_world.specs.World.{after, possible_count}
use Rattle.line_world.proofs.world.World.happen_in_turn.Given as goal

abbrev pub invariant-loop-event : goal.invariant-loop-event
invariant-loop-event l = record {
  world : l.self ≡ after l.initial.self (take l.event-index l.events);
  count : l.possible ≡ possible_count l.initial.self (take l.event-index l.events);
}
