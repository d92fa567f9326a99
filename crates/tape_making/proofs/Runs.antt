-- The bytes that follow one another.
use Rattle.std.proofs.Common.{◌≡◌, ℕ, ◌+◌, ◌-◌, ◌<◌, ◌≤◌, List, [], ◌∷◌, ◌++◌, length, get_or, arith, ap, sym, refl, ◌∙◌, inl, inr, Option, Some, None, true, false, length-append}
use Rattle.std.specs.Prelude.{is_some}
use Rattle.std.proofs.lemmas.Bool.{cases_lt}
use Rattle.std.proofs.lemmas.List.{get_or_append_left, get_or-append_right, get_or_past}
use Rattle.tape_making.specs.MadeTape.{IsRun, byte_on}

-- nothing where a test finds nothing
pub none_there : (o : Option ℕ) → is_some o ≡ false → o ≡ None
none_there None e = refl
none_there (Some x) e = absurd (let h : true ≡ false = e in cc)

-- the bytes from an address up to another
pub record IsRunTo (bytes : List (Option ℕ)) (first to : ℕ) (run : List ℕ) : Type 0 where
  pub long : first + length run ≡ to
  pub each : (k : ℕ) → k < length run → byte_on bytes (first + k) ≡ Some (get_or run k 0)
  pub short : length run ≤ 512

pub run_none : (bytes : List (Option ℕ)) (first : ℕ) (run : List ℕ) → run ≡ [] → IsRunTo bytes first first run
run_none bytes first run none =
    let empty : length run ≡ 0 = ap (length {A = ℕ}) none in
    record { long = omega arith; each = λ k low. absurd (omega arith); short = omega arith }

pub run_more : (bytes : List (Option ℕ)) (first to : ℕ) (old new : List ℕ) (x : ℕ) → IsRunTo bytes first to old → byte_on bytes to ≡ Some x → (length old ≡ 512 → ⊥) → new ≡ old ++ x ∷ []
    → IsRunTo bytes first (to + 1) new
run_more bytes first to old new x so there room joined =
    let one_more : length new ≡ length old + 1 = omega (arith, ap (length {A = ℕ}) joined, length-append old (x ∷ [])) in
    record {
      long = omega (arith, so.long);
      each = λ k low. elim (cases_lt k (length old)) [
        | inl before ↦ so.each k before ∙ ap Some (sym (get_or_append_left old (x ∷ []) 0 k before) ∙ ap (λ l. get_or l k 0) (sym joined))
        | inr last ↦
            let here : k ≡ length old = omega arith in
            let place : first + k ≡ to = omega (arith, so.long) in
            ap (byte_on bytes) place ∙ there
            ∙ ap Some (let none : k - length old ≡ 0 = omega arith in ap (λ i. get_or (x ∷ []) i 0) (sym none) ∙ sym (get_or-append_right old (x ∷ []) (length old) k 0 refl last) ∙ ap (λ l. get_or l k 0) (sym joined))
      ];
      short = omega (arith, so.short, room);
    }

pub run_full : (bytes : List (Option ℕ)) (first to : ℕ) (run : List ℕ) → IsRunTo bytes first to run → to < length bytes → length run ≡ 512 → IsRun bytes first run
run_full bytes first to run so low full = record { each = so.each; within = omega (arith, so.long); short = so.short; ends = λ few. absurd (omega arith) }

pub run_ended : (bytes : List (Option ℕ)) (first to : ℕ) (run : List ℕ) → IsRunTo bytes first to run → to ≤ length bytes → byte_on bytes to ≡ None → IsRun bytes first run
run_ended bytes first to run so low none = record { each = so.each; within = omega (arith, so.long); short = so.short; ends = λ few. ap (byte_on bytes) so.long ∙ none }

pub run_last : (bytes : List (Option ℕ)) (first to : ℕ) (run : List ℕ) → IsRunTo bytes first to run → to ≤ length bytes → length bytes ≤ to → IsRun bytes first run
run_last bytes first to run so low all = run_ended bytes first to run so low (get_or_past bytes to None all)
