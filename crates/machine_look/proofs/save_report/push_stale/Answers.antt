use Rattle.std.proofs.Common.{◌++◌, ◌∙◌, List, ℕ, ap, append_assoc}
use Rattle.octal.specs.Octal.{octal_text}
use Rattle.machine_look.proofs.save_report.push_stale.Goals as goal

pub returns-clause-items : goal.returns-clause-items
returns-clause-items c =
    c.push_octal.ensures.items ∙ (ap (λ (text : List ℕ). text ++ octal_text c.args.address) c.push_bytes.ensures.items ∙ append_assoc c.args.text.now.items _ (octal_text c.args.address))
