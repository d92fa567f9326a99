use Rattle.std.proofs.Common.{◌++◌, List, ℕ, refl, subst, ap, ◌∙◌}
use Rattle.std.specs.Io.KnownBytes.{Appends}
use Rattle.byte_io.specs.Output.{WritesProperPrefix}
use Rattle.endings.specs.declared.command_fault.CommandFault.TheVariants.{Write, Memory}
use Rattle.endings.proofs.Faults.{fault_is}
use Rattle.tape_commands.specs.Report.{report}
use Rattle.tape_commands.specs.Dialogue.{IsReportFault}
use Rattle.tape_commands.proofs.dialogue.write_report.Goals as goal

pub returns-in_err-put_report-clause-err : goal.returns-in_err-put_report-clause-err
returns-in_err-put_report-clause-err g c =
    fault_is c.from_residual.result Memory (IsReportFault (g.W.Write.contents c.args.out.now) (g.W.Write.contents c.args.out.now) (report c.args.world.now)) c.from_residual.ensures.1 refl

pub returns-in_err-write_whole-clause-err : goal.returns-in_err-write_whole-clause-err
returns-in_err-write_whole-clause-err g c =
    fault_is c.from_residual-in_err-write_whole.result Write (IsReportFault (g.W.Write.contents c.args.out.now) (g.W.Write.contents c.write_whole.new.out) (report c.args.world.now)) c.from_residual-in_err-write_whole.ensures.1
    (subst (WritesProperPrefix (g.W.Write.contents c.args.out.now) (g.W.Write.contents c.write_whole.new.out))
    (c.deref.ensures.value ∙ c.in_ok-put_report.ensures ∙ ap (λ (s : List ℕ). s ++ report c.args.world.now) c.new-text.ensures.items) c.in_err-write_whole.ensures.err)

pub returns-clause-ok : goal.returns-clause-ok
returns-clause-ok g c =
    subst (Appends (g.W.Write.contents c.args.out.now) (g.W.Write.contents c.write_whole.new.out))
    (c.deref.ensures.value ∙ c.in_ok-put_report.ensures ∙ ap (λ (s : List ℕ). s ++ report c.args.world.now) c.new-text.ensures.items) c.in_ok-write_whole.ensures.ok
