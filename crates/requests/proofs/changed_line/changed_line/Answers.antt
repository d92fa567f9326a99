use Rattle.std.proofs.Common.{◌≡◌, ◌∙◌, ℕ, List, [], ◌++◌, ap, ap₂, append_assoc, codes, decimal, subst}
use Rattle.requests.specs.ChangedLine.{plural}
use Rattle.requests.proofs.changed_line.changed_line.Goals as goal

-- four pieces, one behind the other
gathered : (a b d e f first second third third' fourth : List ℕ) → a ≡ [] → b ≡ a ++ first → d ≡ b ++ second → e ≡ d ++ third' → third' ≡ third → f ≡ e ++ fourth
    → f ≡ first ++ (second ++ (third ++ fourth))
gathered a b d e f first second third third' fourth p q r s is t =
    t ∙ ap (λ x. x ++ fourth) (s ∙ ap₂ (λ x y. x ++ y) (r ∙ ap (λ x. x ++ second) (q ∙ ap (λ x. x ++ first) p)) is)
    ∙ append_assoc (first ++ second) third fourth ∙ append_assoc first second (third ++ fourth)

pub returns : goal.returns
returns c =
    gathered _ _ _ _ _ (codes "ldaodt: ") (decimal c.args.count) (plural c.args.count) _ (codes " came changed, or not from ODT: docs/REAL-MACHINE.md, step 7\n")
    c.new-line.ensures c.push_bytes.ensures.items
    (subst (λ n. c.push_decimal.new.text.items ≡ c.push_bytes.new.text.items ++ decimal n) c.from.ensures c.push_decimal.ensures.items) c.push_bytes-2.ensures.items c.plural.ensures.text c.push_bytes-3.ensures.items
