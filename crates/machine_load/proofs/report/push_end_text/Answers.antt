use Rattle.std.proofs.Common.{◌∙◌, ◌++◌, ap, append_assoc, sym}
use Rattle.std.specs.Prelude.{codes}
use Rattle.octal.specs.Octal.{octal_text}
use Rattle.machine_load.specs.declared.load_end.LoadEnd.{LoadEnd}
use Rattle.machine_load.specs.LoadReport.{end_text}
use Rattle.machine_load.proofs.report.push_end_text.Goals as goal

pub returns-in-Stale-clause-items : goal.returns-in-Stale-clause-items
returns-in-Stale-clause-items c =
    c.push_octal.ensures.items
    ∙ (ap (λ items. items ++ octal_text c.in-Stale.address) c.push_bytes.ensures.items
    ∙ (append_assoc c.args.text.now.items (codes "Stale ") (octal_text c.in-Stale.address) ∙ ap (λ (end : LoadEnd). c.args.text.now.items ++ end_text end) (sym c.in-Stale.is)))
