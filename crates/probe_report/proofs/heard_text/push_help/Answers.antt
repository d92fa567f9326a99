use Rattle.std.proofs.Common.{ℕ, List, [], ◌∷◌, ◌++◌, ◌∙◌, ap, append_assoc}
use Rattle.std.specs.Prelude.{codes}
use Rattle.probe_report.specs.HeardText.{quoted}
use Rattle.probe_report.proofs.heard_text.push_help.Goals as goal

pub returns-clause-items : goal.returns-clause-items
returns-clause-items c =
    let text = c.args.text.now.items in
    let words : List ℕ = codes "help: docs/REAL-MACHINE.md, " in
    let name = quoted c.args.heading.now in
    c.push_bytes-2.ensures.items
    ∙ (ap (λ (t : List ℕ). t ++ 10 ∷ []) (c.push_quoted.ensures.items ∙ ap (λ (t : List ℕ). t ++ name) c.push_bytes.ensures.items)
    ∙ (ap (λ (t : List ℕ). t ++ 10 ∷ []) (append_assoc text words name) ∙ append_assoc text (words ++ name) (10 ∷ [])))
