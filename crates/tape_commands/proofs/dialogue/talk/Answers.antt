use Rattle.std.proofs.Common.{sym, ap, ◌∙◌}
use Rattle.host_core.specs.Core.{Core, ended}
use Rattle.byte_io.proofs.Faults.{on_err}
use Rattle.tape_commands.proofs.Dialogues.{conversation_none, conversation_more, conversation_ends, conversation_stops, conversation_unfinished}
use Rattle.tape_commands.proofs.dialogue.talk.Goals as goal

pub loop-end-init : goal.loop-end-init
loop-end-init g c = conversation_none c.args.world.now c.new-under_way.result (g.W.Write.contents c.args.out.now) c.new-under_way.ensures

pub returns-in-Some-clause-ok : goal.returns-in-Some-clause-ok
returns-in-Some-clause-ok g c =
    conversation_ends c.args.world.now c.loop-end.world c.in-Some.end c.loop-end.under_way (g.W.Write.contents c.args.out.now) (g.W.Write.contents c.loop-end.out) (g.W.Write.contents c.finish.new.out) c.loop-end.invariant
    (ap (λ (core : Core). ended core.phase) (sym c.core.ensures.value) ∙ sym c.end.ensures.value ∙ c.in-Some.is)
    (λ held holds. (c.in_ok-finish.ensures.ok held holds).0)

pub returns-in_err-finish-clause-front : goal.returns-in_err-finish-clause-front
returns-in_err-finish-clause-front g c =
    on_err _ _
    (conversation_unfinished c.args.world.now c.loop-end.world c.in-Some.end c.loop-end.under_way (g.W.Write.contents c.args.out.now) (g.W.Write.contents c.loop-end.out) (g.W.Write.contents c.finish.new.out) c.loop-end.invariant
    (ap (λ (core : Core). ended core.phase) (sym c.core.ensures.value) ∙ sym c.end.ensures.value ∙ c.in-Some.is) c.in_err-finish.ensures.front)

pub returns-in_err-turn-clause-front : goal.returns-in_err-turn-clause-front
returns-in_err-turn-clause-front g c =
    on_err _ _
    (conversation_stops c.args.world.now c.loop-end.world c.loop-end.under_way (g.W.Write.contents c.args.out.now) (g.W.Write.contents c.loop-end.out) (g.W.Write.contents c.turn.new.out) c.loop-end.invariant
    (ap (λ (core : Core). ended core.phase) (sym c.core.ensures.value) ∙ sym c.end.ensures.value ∙ c.in_default.is) c.in_err-turn.ensures.front)

pub loop-end-preserved : goal.loop-end-preserved
loop-end-preserved g c =
    conversation_more c.args.world.now c.loop-end.world c.turn.new.world c.loop-end.under_way c.turn.new.under_way (g.W.Write.contents c.args.out.now) (g.W.Write.contents c.loop-end.out) (g.W.Write.contents c.turn.new.out)
    (ap (λ (core : Core). ended core.phase) (sym c.core.ensures.value) ∙ sym c.end.ensures.value ∙ c.in_default.is) c.in_ok-turn.ensures.world c.in_ok-turn.ensures.ok c.loop-end.invariant
