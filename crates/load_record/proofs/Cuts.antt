-- How a text is cut into its lines.
use Rattle.std.proofs.Common.{◌≡◌, ℕ, ◌+◌, ◌<◌, ◌≤◌, Bool, true, false, cond, nat_lt, List, [], ◌∷◌, length, take, drop, Some, None, arith, sym, refl, subst, not}
use Rattle.std.specs.List.{position, position_or_len, slice_split}
use Rattle.std.proofs.lemmas.List.Splits.{slice_split_first, slice_split_none}
use Rattle.std.proofs.lemmas.List.Elements.{All-from_get_or}
use Rattle.std.proofs.lemmas.List.Sums.{prefix_len_passes}
use Rattle.std.proofs.lemmas.Bool.Decides.{nat_tests}
use Rattle.load_record.specs.Reading.{is_line_end}

-- what a test of numbers chose
found_by : (m n : ℕ) (end : ℕ) → cond (nat_lt m n) (Some m) None ≡ Some end → (m < n) × (m ≡ end)
found_by m n end is = elim (nat_lt m n) as (λ t. nat_lt m n ≡ t → cond t (Some m) None ≡ Some end → (m < n) × (m ≡ end))
    [ true ↦ (λ on e. (grind (arith, nat_tests), cc)) | false ↦ (λ off e. absurd (let h : None ≡ Some end = e in cc)) ] refl is

none_by : (m n : ℕ) → cond (nat_lt m n) (Some m) None ≡ None → n ≤ m
none_by m n is = elim (nat_lt m n) as (λ t. nat_lt m n ≡ t → cond t (Some m) None ≡ None → n ≤ m)
    [ true ↦ (λ on e. absurd (let h : Some m ≡ None = e in cc)) | false ↦ (λ off e. grind (arith, nat_tests)) ] refl is

passes_not : (b : Bool) → not b ≡ true → b ≡ false
passes_not true e = sym e
passes_not false e = refl

-- the first LF ends the first line
pub cut_at : (text : List ℕ) (end : ℕ) → position is_line_end text ≡ Some end
    → slice_split is_line_end text ≡ take end text ∷ slice_split is_line_end (drop (end + 1) text)
cut_at text end is =
    let at = found_by (position_or_len is_line_end text) (length text) end is in
    subst (λ n. slice_split is_line_end text ≡ take n text ∷ slice_split is_line_end (drop (n + 1) text)) at.1 (slice_split_first is_line_end text 0 at.0)

-- without LF there is no line
pub cut_nowhere : (text : List ℕ) → position is_line_end text ≡ None → slice_split is_line_end text ≡ text ∷ []
cut_nowhere text is =
    let far = none_by (position_or_len is_line_end text) (length text) is in
    slice_split_none is_line_end text (All-from_get_or (λ c. is_line_end c ≡ false) text 0 (λ i within. passes_not _ (prefix_len_passes (λ c. not (is_line_end c)) text i 0 (omega arith))))
