-- Every so manieth word of a range has an address.
use Rattle.std.proofs.Common.{◌≡◌, ℕ, zero, suc, ◌+◌, ◌-◌, ◌*◌, ◌/◌, ◌%◌, ◌<◌, ◌≤◌, [], ◌∷◌, ◌++◌, length, refl, arith, ap, subst, sym, ◌∙◌, mul_assoc}
use Rattle.std.specs.Prelude.{All, AllPairs}
use Rattle.std.proofs.Math.Nat.{add-mul-mod_self_left, div-mul-le_self, mul-div-le}
use Rattle.std.proofs.lemmas.Nat.{le-div, mul-le}
use Rattle.std.proofs.lemmas.List.{length_push}
use Rattle.std.proofs.lemmas.List.Elements.{All-nil, All-push, All-get_or}
use Rattle.std.proofs.lemmas.List.Quantifiers.{all_pairs_push}
use Rattle.reading_core.specs.Addresses.{IsAddress, AreAddresses, IsRange}
use Rattle.memory_core.specs.Addresses.{addresses_by, every_address}

pub none_by : (from step : ℕ) → addresses_by from step 0 ≡ []
unfolding addresses_by
none_by from step = refl

pub one_more : (from step n : ℕ) → addresses_by from step (suc n) ≡ addresses_by from step n ++ (from + step * n) ∷ []
unfolding addresses_by
one_more from step n = refl

pub one_more_by : (from step n : ℕ) → addresses_by from step (n + 1) ≡ addresses_by from step n ++ (from + step * n) ∷ []
one_more_by from step n = ap (addresses_by from step) (next n) ∙ one_more from step n
  where
    next : (n : ℕ) → n + 1 ≡ suc n
    next n = omega arith

length_by : (from step n : ℕ) → length (addresses_by from step n) ≡ n
length_by from step zero = ap length (none_by from step)
length_by from step (suc n) = ap length (one_more from step n) ∙ (length_push (addresses_by from step n) (from + step * n) ∙ omega (arith, length_by from step n))

each_by : (P : ℕ → Type 0) (from step n : ℕ) → ((k : ℕ) → k < n → P (from + step * k)) → All P (addresses_by from step n)
each_by P from step zero h = subst (All P) (sym (none_by from step)) (All-nil P)
each_by P from step (suc n) h =
    subst (All P) (sym (one_more from step n)) (All-push P (addresses_by from step n) (from + step * n) (each_by P from step n (λ k low. h k (omega arith))) (h n (omega arith)))

-- a step further is further
pub step_le : (step k n : ℕ) → k ≤ n → step * k ≤ step * n
step_le step k n low = mul-le step k step n (omega arith) low

step_less : (step k n : ℕ) → 1 ≤ step → k < n → step * k < step * n
step_less step k n some low = omega (arith, some, step_le step (k + 1) n (omega (arith, low)))

rising_by : (from step n : ℕ) → 1 ≤ step → AllPairs (λ a b. a < b) (addresses_by from step n)
rising_by from step zero some = subst (AllPairs (λ a b. a < b)) (sym (none_by from step)) (λ i j d before low. absurd (omega (arith, low)))
rising_by from step (suc n) some =
    subst (AllPairs (λ a b. a < b)) (sym (one_more from step n))
    (all_pairs_push (λ a b. a < b) (addresses_by from step n) (from + step * n) (rising_by from step n some)
    (λ k d low. All-get_or (λ a. a < from + step * n) (addresses_by from step n) k d low (each_by (λ a. a < from + step * n) from step n (λ i below. omega (arith, step_less step i n some below)))))

-- no step of the range passes its end
pub within : (from to step k : ℕ) → from ≤ to → k < (to - from) / step + 1 → from + step * k ≤ to
within from to step k order low = omega (arith, order, mul-div-le (to - from) step, step_le step k ((to - from) / step) (omega (arith, low)))

even_step : (from every k : ℕ) → from % 2 ≡ 0 → (from + 2 * every * k) % 2 ≡ 0
even_step from every k even = subst (λ n. (from + n) % 2 ≡ 0) (sym (mul_assoc 2 every k)) (add-mul-mod_self_left from 2 (every * k) ∙ even)

few_words : (d every : ℕ) → 1 ≤ every → d / (2 * every) ≤ d / 2
few_words d every some =
    let q : ℕ = d / (2 * every) in
    le-div q d 2 (omega arith) (omega (arith, mul-le q 2 q (2 * every) (omega arith) (omega (arith, some)), div-mul-le_self d (2 * every)))

pub range_asked : (from to every : ℕ) → IsRange from to → 1 ≤ every → AreAddresses (every_address from to every)
range_asked from to every r some = record {
  each = each_by IsAddress from (2 * every) ((to - from) / (2 * every) + 1) (λ k low. record { even = even_step from every k r.from_is.even; below = omega (arith, within from to (2 * every) k r.order low, r.to_is.below) });
  rising = rising_by from (2 * every) ((to - from) / (2 * every) + 1) (omega arith);
  few = rw (length_by from (2 * every) ((to - from) / (2 * every) + 1)) (omega (arith, few_words (to - from) every some, r.to_is.below, r.to_is.even, r.from_is.even, r.order));
}
