use Rattle.request_values.specs.Change.{◌⇒◌}
use Rattle.std.proofs.Common.{subst}
use Rattle.std.proofs.KnownBytes.{Keeps-refl}
use Rattle.std.specs.Io.KnownBytes.{Appends}
use Rattle.byte_io.specs.Output.{WritesProperPrefix}
use Rattle.tape_commands.specs.Rehearsal.{IsRehearseFault}
use Rattle.input_files.specs.Tapes.{OfTaken}
use Rattle.endings.specs.declared.command_fault.CommandFault.TheVariants.{Write}
use Rattle.endings.proofs.Faults.{fault_is}
use Rattle.tape_commands.proofs.Rehearsals.{play_fault, script_fault, rehearsed}
use Rattle.tape_commands.proofs.rehearse.write_rehearsal.Goals as goal

pub returns-in_err-script-clause-err : goal.returns-in_err-script-clause-err
returns-in_err-script-clause-err g c =
    fault_is c.from_residual.result c.in_err-script.field-0.0
    (λ fault. OfTaken c.args.taken.now (λ inputs inputs'. IsRehearseFault (inputs ⇒ inputs') (g.S.Read.remaining c.args.script.now) (g.W.Write.contents c.args.out.now ⇒ g.W.Write.contents c.args.out.now) fault))
    c.from_residual.ensures.1
    (λ inputs inputs' are. script_fault _ _ _ _ _ (are.texts, are.taken) (Keeps-refl (g.W.Write.contents c.args.out.now)) c.in_err-script.ensures.err)

pub returns-in_err-text-clause-err : goal.returns-in_err-text-clause-err
returns-in_err-text-clause-err g c =
    fault_is c.from_residual-in_err-text.result c.in_err-text.field-0.0
    (λ fault. OfTaken c.args.taken.now (λ inputs inputs'. IsRehearseFault (inputs ⇒ inputs') (g.S.Read.remaining c.args.script.now) (g.W.Write.contents c.args.out.now ⇒ g.W.Write.contents c.args.out.now) fault))
    c.from_residual-in_err-text.ensures.1
    (λ inputs inputs' are. play_fault _ _ _ _ c.in_ok-script.script _ (are.texts, are.taken) c.in_ok-script.ensures.ok (Keeps-refl (g.W.Write.contents c.args.out.now)) c.in_err-text.ensures.err)

pub returns-in_err-write_whole-clause-err : goal.returns-in_err-write_whole-clause-err
returns-in_err-write_whole-clause-err g c =
    fault_is c.from_residual-in_err-write_whole.result Write
    (λ fault. OfTaken c.args.taken.now (λ inputs inputs'. IsRehearseFault (inputs ⇒ inputs') (g.S.Read.remaining c.args.script.now) (g.W.Write.contents c.args.out.now ⇒ g.W.Write.contents c.write_whole.new.out) fault))
    c.from_residual-in_err-write_whole.ensures.1 (λ inputs inputs' are. (
      c.in_ok-text.text.items,
      rehearsed _ _ _ c.args.taken.now.tapes.items c.deref.result.now c.args.taken.now.layouts.items _ _ are c.deref.ensures.value c.in_ok-script.ensures.ok c.in_ok-text.ensures.ok,
      subst (WritesProperPrefix (g.W.Write.contents c.args.out.now) (g.W.Write.contents c.write_whole.new.out)) c.deref-2.ensures.value c.in_err-write_whole.ensures.err,
    ))

pub returns-clause-ok : goal.returns-clause-ok
returns-clause-ok g c = (
  c.in_ok-text.text.items,
  λ inputs inputs' are. rehearsed _ _ _ c.args.taken.now.tapes.items c.deref.result.now c.args.taken.now.layouts.items _ _ are c.deref.ensures.value c.in_ok-script.ensures.ok c.in_ok-text.ensures.ok,
  subst (Appends (g.W.Write.contents c.args.out.now) (g.W.Write.contents c.write_whole.new.out)) c.deref-2.ensures.value c.in_ok-write_whole.ensures.ok,
)
