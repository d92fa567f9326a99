use Rattle.std.proofs.Common.{ap, ◌∙◌}
use Rattle.host_core.specs.Core.{Core, ended}
use Rattle.tape_image.specs.Plan.{PlanValue}
use Rattle.tape_commands.proofs.Reports.{on_ok, report_parts}
use Rattle.tape_commands.proofs.report.put_report.Goals as goal

pub returns : goal.returns
returns c =
    on_ok _ _ _ c.put_words.ensures (report_parts c.args.world.now _ _ _ _ _ _ _ c.odt-2.result.now _
    (c.end.ensures.value ∙ ap (λ (core : Core). ended core.phase) c.core.ensures.value) (c.mode.ensures.value ∙ ap (λ m. m.mode) c.odt.ensures.value) c.odt-2.ensures.value
    (c.words.ensures.value ∙ ap (λ (p : PlanValue). p.words) (c.plan.ensures.value ∙ ap (λ (core : Core). core.plan) c.core-2.ensures.value))
    c.in_ok-put_counts.ensures c.in_ok-put_end.ensures c.in_ok-put_mode.ensures)
