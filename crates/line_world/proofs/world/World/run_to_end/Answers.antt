use Rattle.line_world.proofs.InTurn.{stretch_none, stretch_more, stretch_end, phase_end}
use Rattle.line_world.proofs.world.World.run_to_end.Goals as goal

pub loop-end-init : goal.loop-end-init
loop-end-init c = stretch_none c.args.self.now

pub loop-end-preserved : goal.loop-end-preserved
loop-end-preserved c =
    stretch_more c.args.self.now c.loop-end.self c.apply.new.self c.next_event-event.result c.loop-end.invariant
    (phase_end c.core.result.now c.loop-end.self.core _ c.in_default.ensures.value c.core.ensures.value) c.next_event-event.ensures c.apply.ensures.world

pub loop-end-smaller : goal.loop-end-smaller
loop-end-smaller c =
    c.apply.ensures.work c.next_event-event.ensures (phase_end c.core.result.now c.loop-end.self.core _ c.in_default.ensures.value c.core.ensures.value)

pub returns-in-Some : goal.returns-in-Some
returns-in-Some c =
    stretch_end c.args.self.now c.loop-end.self c.in-Some.end c.loop-end.invariant (phase_end c.core.result.now c.loop-end.self.core _ c.in-Some.ensures.value c.core.ensures.value)
