-- The tape's highest word behind the samples of a life.
use Rattle.std.proofs.Common.{◌≡◌, ℕ, ◌+◌, ◌-◌, ◌<◌, ◌≤◌, ◌==◌, ◌&&◌, not, Bool, true, false, ◌⊎◌, inl, inr, List, [], ◌∷◌, ◌++◌, length, get_or, arith, refl, subst, sym, append-nil, if◌then◌else◌}
use Rattle.std.specs.Prelude.{All}
use Rattle.std.proofs.lemmas.Bool.Decides.{nat_tests}
use Rattle.std.proofs.lemmas.List.{get_or_append_left, length-append, length-map}
use Rattle.std.proofs.Math.Seq.{get_or-append_seam}
use Rattle.std.proofs.lemmas.List.Elements.{All-append, All-cons, All-nil}
use Rattle.tape_image.specs.Plan.{IsPlan}
use Rattle.tape_image.specs.Word.{WordValue}
use Rattle.host_core.specs.Core.{Core, no_word, word_nr}
use Rattle.looking_law.specs.RecordLook.{IsHighest}
use Rattle.reading_core.specs.Addresses.{AreAddresses, IsAddress, addresses_of}
use Rattle.sample_looks.specs.Samples.{AreSamples}
use Rattle.sample_looks.proofs.OfRecord.{of_record}
use Rattle.machine_load.specs.Looks.{highest_of, looked_at}

below : (v n : ℕ) → v ≤ n → (v ≡ n → ⊥) → v < n
below v n within less = grind (arith, within, less)

-- where a word is left, the last is there
last_there : (words : List WordValue) (v : ℕ) → v ≤ length words → (v ≡ length words → ⊥) → length words - 1 + 1 ≡ length words
last_there words v within less = omega (arith, within, below v (length words) within less)

-- what is looked at beyond the samples is the plan's last word
pub is_highest : (first : Core) (asked : Bool) → first.verified ≤ length first.plan.words → All (IsHighest first.plan) (highest_of first asked)
is_highest first asked within = by_case asked (first.verified == length first.plan.words) refl
  where
    by_case : (asked all : Bool) → (first.verified == length first.plan.words) ≡ all
        → All (IsHighest first.plan) (if asked && not all then (word_nr first.plan.words (length first.plan.words - 1)).address ∷ [] else [])
    by_case false all is = All-nil (IsHighest first.plan)
    by_case true true is = All-nil (IsHighest first.plan)
    by_case true false is =
        All-cons (IsHighest first.plan) _ [] (length first.plan.words - 1, last_there first.plan.words first.verified within (λ same. absurd (grind (arith, nat_tests, same, is))), refl) (All-nil (IsHighest first.plan))

-- one address more, above all samples
pub rises : (first : Core) (asked : Bool) (samples : List WordValue) → IsPlan first.plan → first.verified ≤ length first.plan.words → AreSamples first.plan.words first.verified samples
    → AreAddresses (addresses_of samples) → length samples ≤ 8 → AreAddresses (looked_at first asked samples)
rises first asked samples plan within of rise few = by_case asked (first.verified == length first.plan.words) refl
  where
    none : AreAddresses (addresses_of samples ++ [])
    none = subst AreAddresses (sym (append-nil (addresses_of samples))) rise

    highest : ℕ
    highest = (word_nr first.plan.words (length first.plan.words - 1)).address

    count : length (addresses_of samples) ≡ length samples
    count = length-map samples (λ (w : WordValue). w.address)

    above : (first.verified ≡ length first.plan.words → ⊥) → All (λ a. a < highest) (addresses_of samples)
    above less k d low =
        let one = of_record first.plan (record { verified = first.verified; going = false }) samples of k d low in
        let last = last_there first.plan.words first.verified within less in
        subst (λ a. a < highest) (sym one.2) (plan.rising one.0 (length first.plan.words - 1) no_word (omega (arith, one.1, within, less_one one.0 one.1 less)) (omega (arith, last)))
      where
        less_one : (i : ℕ) → i < first.verified → (first.verified ≡ length first.plan.words → ⊥) → i + 1 < length first.plan.words
        less_one i low less = omega (arith, low, below first.verified (length first.plan.words) within less)

    one_more : (first.verified ≡ length first.plan.words → ⊥) → AreAddresses (addresses_of samples ++ highest ∷ [])
    one_more less = record {
      each = All-append IsAddress (addresses_of samples) (highest ∷ []) rise.each (All-cons IsAddress highest [] top (All-nil IsAddress));
      rising = λ i j d before low. pair i j d before low (in_front j (omega (arith, low, length-append (addresses_of samples) (highest ∷ []))));
      few = omega (arith, length-append (addresses_of samples) (highest ∷ []), count, few);
    }
      where
        last : length first.plan.words - 1 < length first.plan.words
        last = omega (arith, last_there first.plan.words first.verified within less)

        top : IsAddress highest
        top = let is = plan.each (length first.plan.words - 1) no_word last in record { even = is.even; below = is.below }

        in_front : (j : ℕ) → j < length (addresses_of samples) + 1 → (j < length (addresses_of samples)) ⊎ (j ≡ length (addresses_of samples))
        in_front j low = grind (arith, low)

        pair : (i j d : ℕ) → i < j → j < length (addresses_of samples ++ highest ∷ []) → (j < length (addresses_of samples)) ⊎ (j ≡ length (addresses_of samples))
            → get_or (addresses_of samples ++ highest ∷ []) i d < get_or (addresses_of samples ++ highest ∷ []) j d
        pair i j d before low (inl front) =
            rw (get_or_append_left (addresses_of samples) (highest ∷ []) d i (omega (arith, before, front)), get_or_append_left (addresses_of samples) (highest ∷ []) d j front) (rise.rising i j d before front)
        pair i j d before low (inr here) =
            let at : i < length (addresses_of samples) = omega (arith, before, here) in
            subst (λ n. get_or (addresses_of samples ++ highest ∷ []) i d < get_or (addresses_of samples ++ highest ∷ []) n d) (sym here)
            (rw (get_or_append_left (addresses_of samples) (highest ∷ []) d i at, get_or-append_seam (addresses_of samples) highest [] d) (above less i d at))

    by_case : (asked all : Bool) → (first.verified == length first.plan.words) ≡ all → AreAddresses (addresses_of samples ++ (if asked && not all then highest ∷ [] else []))
    by_case false all is = none
    by_case true true is = none
    by_case true false is = one_more (λ same. absurd (grind (arith, nat_tests, same, is)))
