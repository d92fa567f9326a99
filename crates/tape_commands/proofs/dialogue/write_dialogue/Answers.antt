use Rattle.request_values.specs.Change.{◌⇒◌}
use Rattle.std.proofs.Common.{refl, inl, ap, ◌∙◌}
use Rattle.tape_image.specs.Plan.{starting}
use Rattle.input_files.specs.Tapes.{OfTaken}
use Rattle.endings.specs.declared.command_fault.CommandFault.TheVariants.{Memory}
use Rattle.std.proofs.KnownBytes.{Keeps-refl}
use Rattle.tape_commands.specs.Dialogue.{IsDialogueFault}
use Rattle.endings.proofs.Faults.{fault_is}
use Rattle.tape_commands.proofs.Dialogues.{opens_dialogue, machine_fault, stopped_in_talk, report_failed, dialogue_made}
use Rattle.tape_commands.proofs.dialogue.write_dialogue.Goals as goal

pub returns-in_err-odt-clause-err : goal.returns-in_err-odt-clause-err
returns-in_err-odt-clause-err g c =
    fault_is c.from_residual.result c.in_err-odt.field-0.0
    (λ fault. OfTaken c.args.taken.now (λ inputs inputs'. IsDialogueFault (inputs ⇒ inputs') c.args.stage (g.W.Write.contents c.args.out.now ⇒ g.W.Write.contents c.args.out.now) fault))
    c.from_residual.ensures.1 (λ inputs inputs' are. machine_fault _ _ _ _ _ (are.texts, are.taken) (Keeps-refl (g.W.Write.contents c.args.out.now)) c.in_err-odt.ensures.err)

pub returns-in_err-plan-clause-err : goal.returns-in_err-plan-clause-err
returns-in_err-plan-clause-err g c = fault_is c.from_residual-in_err-plan.result Memory
    (λ fault. OfTaken c.args.taken.now (λ inputs inputs'. IsDialogueFault (inputs ⇒ inputs') c.args.stage (g.W.Write.contents c.args.out.now ⇒ g.W.Write.contents c.args.out.now) fault))
    c.from_residual-in_err-plan.ensures.1 (λ inputs inputs' are. inl (Keeps-refl (g.W.Write.contents c.args.out.now)))

pub returns-in_err-end-clause-err : goal.returns-in_err-end-clause-err
returns-in_err-end-clause-err g c =
    fault_is c.from_residual-in_err-end.result c.in_err-end.field-0.0
    (λ fault. OfTaken c.args.taken.now (λ inputs inputs'. IsDialogueFault (inputs ⇒ inputs') c.args.stage (g.W.Write.contents c.args.out.now ⇒ g.W.Write.contents c.talk.new.out) fault))
    c.from_residual-in_err-end.ensures.1
    (λ inputs inputs' are. stopped_in_talk inputs inputs' c.args.stage c.args.taken.now.tapes.items c.args.taken.now.layouts.items are c.open_world-world.result
    (opens_dialogue c.args.stage c.args.taken.now.tapes.items c.deref.result.now _ _ c.in_ok-odt.odt c.open_world-world.result _ c.deref.ensures.value are.tapes_are (c.starting.ensures.value ∙ ap (λ p. starting p c.args.stage.start) c.in_ok-plan.ensures.plan) c.in_ok-odt.ensures.ok refl c.open_world-world.ensures.world)
    c.in_ok-odt.odt (g.W.Write.contents c.args.out.now) (g.W.Write.contents c.talk.new.out) _ c.in_ok-odt.ensures.ok c.in_ok-odt.ensures.machine c.open_world-world.ensures.host c.in_err-end.ensures.err c.in_err-end.ensures.front)

pub returns-in_err-write_report-clause-err : goal.returns-in_err-write_report-clause-err
returns-in_err-write_report-clause-err g c =
    fault_is c.from_residual-in_err-write_report.result c.in_err-write_report.field-0.0
    (λ fault. OfTaken c.args.taken.now (λ inputs inputs'. IsDialogueFault (inputs ⇒ inputs') c.args.stage (g.W.Write.contents c.args.out.now ⇒ g.W.Write.contents c.write_report.new.out) fault))
    c.from_residual-in_err-write_report.ensures.1
    (λ inputs inputs' are. report_failed inputs inputs' c.args.stage c.args.taken.now.tapes.items c.args.taken.now.layouts.items are c.open_world-world.result
    (opens_dialogue c.args.stage c.args.taken.now.tapes.items c.deref.result.now _ _ c.in_ok-odt.odt c.open_world-world.result _ c.deref.ensures.value are.tapes_are (c.starting.ensures.value ∙ ap (λ p. starting p c.args.stage.start) c.in_ok-plan.ensures.plan) c.in_ok-odt.ensures.ok refl c.open_world-world.ensures.world)
    c.talk.new.world c.in_ok-end.end (g.W.Write.contents c.args.out.now) (g.W.Write.contents c.talk.new.out) (g.W.Write.contents c.write_report.new.out) _
    c.in_ok-end.ensures.ok c.in_err-write_report.ensures.err)

pub returns-clause-ok : goal.returns-clause-ok
returns-clause-ok g c inputs inputs' are =
    dialogue_made inputs inputs' c.args.stage c.args.taken.now.tapes.items c.args.taken.now.layouts.items are c.open_world-world.result
    (opens_dialogue c.args.stage c.args.taken.now.tapes.items c.deref.result.now _ _ c.in_ok-odt.odt c.open_world-world.result _ c.deref.ensures.value are.tapes_are (c.starting.ensures.value ∙ ap (λ p. starting p c.args.stage.start) c.in_ok-plan.ensures.plan) c.in_ok-odt.ensures.ok refl c.open_world-world.ensures.world)
    c.talk.new.world c.in_ok-end.end (g.W.Write.contents c.args.out.now) (g.W.Write.contents c.talk.new.out) (g.W.Write.contents c.write_report.new.out)
    c.in_ok-end.ensures.ok c.in_ok-write_report.ensures.ok
