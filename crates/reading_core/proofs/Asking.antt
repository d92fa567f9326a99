-- Ranges and plans have addresses of words.
use Rattle.std.proofs.Common.{◌≡◌, ℕ, zero, suc, ◌+◌, ◌-◌, ◌*◌, ◌/◌, ◌<◌, [], ◌∷◌, ◌++◌, length, get_or, refl, arith, ap, subst, sym, ◌∙◌}
use Rattle.std.specs.Prelude.{All, AllPairs}
use Rattle.std.proofs.lemmas.List.{get_or-map, length-map, length_push}
use Rattle.std.proofs.lemmas.List.Elements.{All-nil, All-push, All-get_or, All-map}
use Rattle.std.proofs.lemmas.List.Quantifiers.{all_pairs_push}
use Rattle.host_core.specs.Core.{no_word}
use Rattle.host_core.specs.Word.{WordValue}
use Rattle.host_core.specs.Plan.{PlanValue, IsPlan}
use Rattle.reading_core.specs.Addresses.{IsAddress, AreAddresses, IsRange, addresses_of, addresses_from, addresses_between}

-- ---- one after another

pub none_from : (from : ℕ) → addresses_from from 0 ≡ []
unfolding addresses_from
none_from from = refl

pub one_more : (from n : ℕ) → addresses_from from (suc n) ≡ addresses_from from n ++ (from + 2 * n) ∷ []
unfolding addresses_from
one_more from n = refl

pub one_more_from : (from n : ℕ) → addresses_from from (n + 1) ≡ addresses_from from n ++ (from + 2 * n) ∷ []
one_more_from from n = ap (addresses_from from) (next n) ∙ one_more from n
  where
    next : (n : ℕ) → n + 1 ≡ suc n
    next n = omega arith

pub length_from : (from n : ℕ) → length (addresses_from from n) ≡ n
length_from from zero = ap length (none_from from)
length_from from (suc n) = ap length (one_more from n) ∙ (length_push (addresses_from from n) (from + 2 * n) ∙ omega (arith, length_from from n))

each_from : (P : ℕ → Type 0) (from n : ℕ) → ((k : ℕ) → k < n → P (from + 2 * k)) → All P (addresses_from from n)
each_from P from zero h = subst (All P) (sym (none_from from)) (All-nil P)
each_from P from (suc n) h =
    subst (All P) (sym (one_more from n)) (All-push P (addresses_from from n) (from + 2 * n) (each_from P from n (λ k low. h k (omega arith))) (h n (omega arith)))

rising_from : (from n : ℕ) → AllPairs (λ a b. a < b) (addresses_from from n)
rising_from from zero = subst (AllPairs (λ a b. a < b)) (sym (none_from from)) (λ i j d before low. absurd (omega (arith, low)))
rising_from from (suc n) =
    subst (AllPairs (λ a b. a < b)) (sym (one_more from n))
    (all_pairs_push (λ a b. a < b) (addresses_from from n) (from + 2 * n) (rising_from from n)
    (λ k d low. All-get_or (λ a. a < from + 2 * n) (addresses_from from n) k d low (each_from (λ a. a < from + 2 * n) from n (λ i below. omega arith))))

pub range_asked : (from to : ℕ) → IsRange from to → AreAddresses (addresses_between from to)
range_asked from to r = record {
  each = each_from IsAddress from ((to - from) / 2 + 1) (λ k low. record { even = omega (arith, r.from_is.even); below = omega (arith, low, r.to_is.below, r.order) });
  rising = rising_from from ((to - from) / 2 + 1);
  few = rw (length_from from ((to - from) / 2 + 1)) (omega (arith, r.to_is.below, r.to_is.even, r.from_is.even, r.order));
}

-- ---- of a plan

pub plan_asked : (plan : PlanValue) → IsPlan plan → AreAddresses (addresses_of plan.words)
plan_asked plan p = record {
  each = All-map IsAddress (λ (w : WordValue). w.address) plan.words (λ k d low. record { even = (p.each k d low).even; below = (p.each k d low).below });
  rising = rising;
  few = rw (length-map plan.words (λ (w : WordValue). w.address)) p.few;
}
  where
    at : (k d : ℕ) → k < length plan.words → get_or (addresses_of plan.words) k d ≡ (get_or plan.words k no_word).address
    at k d low = get_or-map (λ (w : WordValue). w.address) plan.words k no_word d low

    rising : AllPairs (λ a b. a < b) (addresses_of plan.words)
    rising i j d before low =
        let within : j < length plan.words = subst (λ n. j < n) (length-map plan.words (λ (w : WordValue). w.address)) low in
        rw (at i d (omega (arith, within, before)), at j d within) (p.rising i j no_word before within)
