use Rattle.request_values.specs.Change.{◌⇒◌}
use Rattle.std.proofs.Common.{map}
use Rattle.std.proofs.KnownBytes.{Keeps-refl}
use Rattle.std.proofs.lemmas.Result.{IfErr-weaker, IfOk-weaker}
use Rattle.endings.proofs.Faults.{fault_is}
use Rattle.tape_commands.specs.Dialogue.{IsDialogueFault, staged}
use Rattle.tape_commands.proofs.Dialogues.{tapes_fault}
use Rattle.tape_commands.proofs.dialogue.dialogue_to.Goals as goal

pub returns-in_err-taken-clause-err : goal.returns-in_err-taken-clause-err
returns-in_err-taken-clause-err g c =
    fault_is c.from_residual.result c.in_err-taken.field-0.0
    (IsDialogueFault (map g.R.Read.remaining c.args.tapes.now ⇒ map g.R.Read.remaining c.take_tapes.new.inputs) (staged c.args.words c.args.style c.args.start) (g.W.Write.contents c.args.out.now ⇒ g.W.Write.contents c.args.out.now))
    c.from_residual.ensures.1 (tapes_fault _ _ _ _ _ (Keeps-refl (g.W.Write.contents c.args.out.now)) c.in_err-taken.ensures.err)

pub returns-clause-ok : goal.returns-clause-ok
returns-clause-ok g c = IfOk-weaker c.write_dialogue.result _ _ (λ end of. of _ _ c.in_ok-taken.ensures.ok) c.write_dialogue.ensures.ok

pub returns-clause-err : goal.returns-clause-err
returns-clause-err g c = IfErr-weaker c.write_dialogue.result _ _ (λ fault of. of _ _ c.in_ok-taken.ensures.ok) c.write_dialogue.ensures.err
