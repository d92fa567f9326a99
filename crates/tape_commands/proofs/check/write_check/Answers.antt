use Rattle.request_values.specs.Change.{◌⇒◌}
use Rattle.std.proofs.Common.{subst}
use Rattle.std.specs.Io.KnownBytes.{Appends}
use Rattle.byte_io.specs.Output.{WritesProperPrefix}
use Rattle.input_files.specs.Tapes.{OfTaken}
use Rattle.endings.specs.declared.command_fault.CommandFault.TheVariants.{Write}
use Rattle.endings.proofs.Faults.{fault_is}
use Rattle.tape_commands.specs.CheckFault.{IsCheckFault}
use Rattle.tape_commands.proofs.Texts.{are_texts}
use Rattle.tape_commands.proofs.check.write_check.Goals as goal

pub returns-in_err-write_whole-clause-err : goal.returns-in_err-write_whole-clause-err
returns-in_err-write_whole-clause-err g c =
    fault_is c.from_residual-in_err-write_whole.result Write
    (λ fault. OfTaken c.args.taken.now (λ inputs inputs'. IsCheckFault c.args.options.blocks (inputs ⇒ inputs') (g.W.Write.contents c.args.out.now ⇒ g.W.Write.contents c.write_whole.new.out) fault))
    c.from_residual-in_err-write_whole.ensures.1
    (λ inputs inputs' are. record {
      texts = are.texts;
      taken = are.taken;
      text = c.in_ok-report.report.items;
      is_text = c.in_ok-report.ensures are.texts (are_texts _ _ _ _ are);
      written = subst (WritesProperPrefix (g.W.Write.contents c.args.out.now) (g.W.Write.contents c.write_whole.new.out)) c.deref-2.ensures.value c.in_err-write_whole.ensures.err;
    })

pub returns-clause-ok : goal.returns-clause-ok
returns-clause-ok g c inputs inputs' are = record {
  texts = are.texts;
  taken = are.taken;
  text = c.in_ok-report.report.items;
  is_text = c.in_ok-report.ensures are.texts (are_texts _ _ _ _ are);
  written = subst (Appends (g.W.Write.contents c.args.out.now) (g.W.Write.contents c.write_whole.new.out)) c.deref-2.ensures.value c.in_ok-write_whole.ensures.ok;
}
