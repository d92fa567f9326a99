use Rattle.std.proofs.Common.{◌≡◌, ℕ, ◌+◌, Bool, List, [], ◌∷◌, ◌++◌, ◌∙◌, take, get_or, append_assoc, arith, refl, subst}
use Rattle.std.proofs.lemmas.List.{take_more}
use Rattle.memory_report.specs.Bus.{bus_of, is_same}
use Rattle.memory_report.specs.Report.{same_text}
use Rattle.memory_report.proofs.Joins.{few_shown, more_shown, more_text}
use Rattle.memory_report.proofs.bus_text.push_same_words.Goals as goal

pub loop-address-preserved : goal.loop-address-preserved
loop-address-preserved c =
    let all : List ℕ = c.args.bus.now.marked.items in
    let here : List ℕ = c.deref-address-items.result.now in
    let p : ℕ → Bool = is_same (bus_of c.args.bus.now) in
    let i = c.loop-address.address-index in
    let this : ℕ = get_or here i _ in
    let same : here ≡ all = c.deref-address-items.ensures.value in
    let more : take (i + 1) all ≡ take i all ++ this ∷ [] = subst (λ (list : List ℕ). take (i + 1) list ≡ take i list ++ this ∷ []) same (take_more here i _ c.loop-address-test.true) in
    let shown = c.loop-address.invariant.1 in (
      rw (c.push_if_same-shown.ensures.items, c.loop-address.invariant.0, more, more_text (same_text c.args.at) p (take i all) this c.loop-address.shown shown) (simp append_assoc refl),
      c.push_if_same-shown.ensures.shown ∙ (more_shown p (take i all) this c.loop-address.shown shown ∙ rw more refl),
      omega (arith, c.push_if_same-shown.ensures.shown ∙ more_shown p (take i all) this c.loop-address.shown shown, few_shown p (take i all ++ this ∷ [])),
      omega (arith, c.push_if_same-shown.ensures.length, c.loop-address.invariant.3),
    )
