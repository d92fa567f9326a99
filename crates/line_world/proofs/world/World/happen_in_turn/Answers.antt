use Rattle.std.proofs.Common.{◌≡◌, ◌≤◌, ◌∙◌, ap, length, take, arith, length-take}
use Rattle.std.proofs.lemmas.List.{take_all}
use Rattle.line_world.specs.World.{after, possible_count}
use Rattle.line_world.proofs.InTurn.{more_world, more_count, count_length, one_more, none_more}
use Rattle.line_world.proofs.world.World.happen_in_turn.Goals as goal
use Rattle.line_world.proofs.world.World.happen_in_turn.Goals.{then-happen, else-happen}

pub loop-event-preserved : goal.loop-event-preserved
loop-event-preserved c =
    let i = c.loop-event.event-index in
    let count = more_count c.args.self.now c.loop-event.self c.args.events.now i c.loop-event.possible _ c.happen.result c.loop-event-test.true c.loop-event.invariant.world c.loop-event.invariant.count c.happen.ensures.possible in
    record {
      world = more_world c.args.self.now c.loop-event.self c.happen.new.self c.args.events.now i _ c.loop-event-test.true c.loop-event.invariant.world c.happen.ensures.world;
      count = elim c.if-happen.branch [
        | then-happen w ↦ one_more _ _ _ _ w.if-happen.true w.possible-is count
        | else-happen w ↦ none_more _ _ _ _ w.if-happen.false w.possible-is count
      ];
    }

pub overflow_add-possible : goal.overflow_add-possible
overflow_add-possible c =
    let low : possible_count c.args.self.now (take c.loop-event.event-index c.args.events.now) ≤ length (take c.loop-event.event-index c.args.events.now) = count_length c.args.self.now (take c.loop-event.event-index c.args.events.now) in
    omega (arith, length-take c.loop-event.event-index c.args.events.now)

pub returns : goal.returns
returns c =
    let all : take c.loop-event.event-index c.args.events.now ≡ c.args.events.now = take_all c.loop-event.event-index c.args.events.now c.loop-event-test.false in
    record {
      count = c.loop-event.invariant.count ∙ ap (possible_count c.args.self.now) all;
      world = c.loop-event.invariant.world ∙ ap (after c.args.self.now) all;
    }
