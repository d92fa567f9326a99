-- The first line of a text.
use Rattle.std.proofs.Common.{◌≡◌, ℕ, ◌+◌, ◌<◌, ◌≤◌, Bool, true, false, cond, nat_lt, List, [], ◌∷◌, length, take, drop, Some, None, arith, ap, sym, refl, ◌∙◌, subst, ◌==◌, not}
use Rattle.std.specs.List.{position, position_or_len, slice_split}
use Rattle.std.specs.Str.Lines.{lines, lines_of_parts, strip_carriage_return}
use Rattle.std.proofs.lemmas.List.Splits.{slice_split_first, slice_split_none, length-slice_split}
use Rattle.std.proofs.lemmas.List.Elements.{All-from_get_or}
use Rattle.std.proofs.lemmas.List.Sums.{prefix_len_passes}
use Rattle.std.proofs.lemmas.Bool.Decides.{nat_tests}

-- the test for the line feed
abbrev feed : ℕ → Bool
feed c = c == 10

-- a part that others follow is a line
parts_more : (x : List ℕ) (parts : List (List ℕ)) → 0 < length parts → lines_of_parts (x ∷ parts) ≡ strip_carriage_return x ∷ lines_of_parts parts
parts_more x [] some = absurd (omega arith)
parts_more x (y ∷ parts) some = refl

-- what a test of numbers chose
found_by : (m n : ℕ) (end : ℕ) → cond (nat_lt m n) (Some m) None ≡ Some end → (m < n) × (m ≡ end)
found_by m n end is = elim (nat_lt m n) as (λ t. nat_lt m n ≡ t → cond t (Some m) None ≡ Some end → (m < n) × (m ≡ end))
    [ true ↦ (λ on e. (grind (arith, nat_tests), cc)) | false ↦ (λ off e. absurd (let h : None ≡ Some end = e in cc)) ] refl is

none_by : (m n : ℕ) → cond (nat_lt m n) (Some m) None ≡ None → n ≤ m
none_by m n is = elim (nat_lt m n) as (λ t. nat_lt m n ≡ t → cond t (Some m) None ≡ None → n ≤ m)
    [ true ↦ (λ on e. absurd (let h : Some m ≡ None = e in cc)) | false ↦ (λ off e. grind (arith, nat_tests)) ] refl is

pub lines_at : (text : List ℕ) (end : ℕ) → position feed text ≡ Some end → lines text ≡ strip_carriage_return (take end text) ∷ lines (drop (end + 1) text)
lines_at text end is =
    let at = found_by (position_or_len feed text) (length text) end is in
    let split = slice_split_first feed text 0 at.0 in
    let here : slice_split feed text ≡ take end text ∷ slice_split feed (drop (end + 1) text) = subst (λ n. slice_split feed text ≡ take n text ∷ slice_split feed (drop (n + 1) text)) at.1 split in
    ap lines_of_parts here ∙ parts_more (take end text) (slice_split feed (drop (end + 1) text)) (omega (arith, length-slice_split feed (drop (end + 1) text)))

passes_not : (b : Bool) → not b ≡ true → b ≡ false
passes_not true e = sym e
passes_not false e = refl

one_line : (text : List ℕ) → 0 < length text → lines_of_parts (text ∷ []) ≡ text ∷ []
one_line [] some = absurd (omega arith)
one_line (c ∷ cs) some =
    let some_byte : (length (c ∷ cs) == 0) ≡ false = grind (arith, nat_tests) in
    ap (λ test. cond test [] ((c ∷ cs) ∷ [])) some_byte

pub lines_last : (text : List ℕ) → position feed text ≡ None → 0 < length text → lines text ≡ text ∷ []
lines_last text is some =
    let far = none_by (position_or_len feed text) (length text) is in
    let all = All-from_get_or (λ c. feed c ≡ false) text 0 (λ i within. passes_not _ (prefix_len_passes (λ c. not (feed c)) text i 0 (omega arith))) in
    ap lines_of_parts (slice_split_none feed text all) ∙ one_line text some
