-- The blocks of what was read, and that a tape may have them.
use Rattle.std.proofs.Common.{◌≡◌, ℕ, zero, suc, ◌+◌, ◌*◌, ◌/◌, ◌%◌, ◌-◌, ◌^◌, ◌<◌, ◌≤◌, List, [], ◌∷◌, ◌++◌, length, min, take, drop, refl, arith, ap, sym, ◌∙◌, inl, inr, length-append, length-drop, subst}
use Rattle.std.specs.Prelude.{All, sum_by}
use Rattle.std.specs.List.{flat_map}
use Rattle.std.proofs.Math.Seq.{take-add}
use Rattle.std.proofs.lemmas.Bool.{cases_lt}
use Rattle.std.proofs.lemmas.List.{take_all}
use Rattle.std.proofs.lemmas.List.Sums.{sum_by_push}
use Rattle.std.proofs.lemmas.List.Elements.{All-nil, All-cons, All-push, All-head, All-tail, All-take, All-drop}
use Rattle.tape_values.specs.Block.{BlockValue, IsBlock, HoldsBytes, low_first, top}
use Rattle.tape_values.specs.Tape.{plain_text}
use Rattle.tape_values.proofs.Plain.{length-plain_text}
use Rattle.tape_shelf.specs.SavedTape.{saved_block, saved_blocks, saved_tape}

-- ---- parts of a list

length_take_no_more : (n : ℕ) (xs : List ℕ) → length (take n xs) ≤ length xs
length_take_no_more zero xs = omega arith
length_take_no_more (suc n) [] = omega arith
length_take_no_more (suc n) (x ∷ xs) = omega (arith, length_take_no_more n xs)

length_take_some : (n : ℕ) (xs : List ℕ) → 0 < n → 0 < length xs → 0 < length (take n xs)
length_take_some zero xs some long = absurd (omega arith)
length_take_some (suc n) [] some long = absurd (omega arith)
length_take_some (suc n) (x ∷ xs) some long = omega arith

-- ---- one after another

pub no_blocks : (from : ℕ) (numbers : List ℕ) → saved_blocks from numbers 0 ≡ []
unfolding saved_blocks
no_blocks from numbers = refl

pub one_more : (from : ℕ) (numbers : List ℕ) (n : ℕ) → saved_blocks from numbers (suc n) ≡ saved_blocks from numbers n ++ saved_block from numbers n ∷ []
unfolding saved_blocks
one_more from numbers n = refl

pub one_more_block : (from : ℕ) (numbers : List ℕ) (n : ℕ) → saved_blocks from numbers (n + 1) ≡ saved_blocks from numbers n ++ saved_block from numbers n ∷ []
one_more_block from numbers n = ap (saved_blocks from numbers) (next n) ∙ one_more from numbers n
  where
    next : (n : ℕ) → n + 1 ≡ suc n
    next n = omega arith

-- ---- a tape may have them

pub bytes_length : (numbers : List ℕ) → length (flat_map low_first numbers) ≡ 2 * length numbers
bytes_length [] = refl
bytes_length (n ∷ numbers) = omega (arith, bytes_length numbers)

these_left : (numbers : List ℕ) (n : ℕ) → length (take 256 (drop (256 * n) numbers)) ≤ length numbers - 256 * n
these_left numbers n = omega (arith, length_take_no_more 256 (drop (256 * n) numbers), length-drop (256 * n) numbers)

these_some : (numbers : List ℕ) (n : ℕ) → 256 * n < length numbers → 0 < length (take 256 (drop (256 * n) numbers))
these_some numbers n within = length_take_some 256 (drop (256 * n) numbers) (omega arith) (omega (arith, length-drop (256 * n) numbers))

good_block : (from : ℕ) (numbers : List ℕ) (n : ℕ) → from + 2 * length numbers ≤ top → 256 * n < length numbers → IsBlock (saved_block from numbers n)
good_block from numbers n low within = record {
  not_empty = omega (arith, bytes_length (take 256 (drop (256 * n) numbers)), these_some numbers n within);
  below_top = omega (arith, bytes_length (take 256 (drop (256 * n) numbers)), these_left numbers n);
}

pub good_blocks : (from : ℕ) (numbers : List ℕ) (n : ℕ) → from + 2 * length numbers ≤ top → 256 * n < length numbers + 256 → All IsBlock (saved_blocks from numbers n)
good_blocks from numbers zero low few = subst (All IsBlock) (sym (no_blocks from numbers)) (All-nil IsBlock)
good_blocks from numbers (suc n) low few =
    subst (All IsBlock) (sym (one_more from numbers n))
    (All-push IsBlock (saved_blocks from numbers n) (saved_block from numbers n) (good_blocks from numbers n low (omega arith)) (good_block from numbers n low (omega arith)))

real_bytes : (numbers : List ℕ) → All (λ n. n < 65536) numbers → All (λ byte. byte < 2 ^ 8) (flat_map low_first numbers)
real_bytes [] small = All-nil (λ byte. byte < 2 ^ 8)
real_bytes (n ∷ numbers) small =
    let this : n < 65536 = All-head (λ n. n < 65536) n numbers small in
    All-cons (λ byte. byte < 2 ^ 8) (n % 256) (n / 256 ∷ flat_map low_first numbers) (omega arith)
    (All-cons (λ byte. byte < 2 ^ 8) (n / 256) (flat_map low_first numbers) (omega arith) (real_bytes numbers (All-tail (λ n. n < 65536) n numbers small)))

pub holds_bytes : (from : ℕ) (numbers : List ℕ) (n : ℕ) → All (λ n. n < 65536) numbers → All HoldsBytes (saved_blocks from numbers n)
holds_bytes from numbers zero small = subst (All HoldsBytes) (sym (no_blocks from numbers)) (All-nil HoldsBytes)
holds_bytes from numbers (suc n) small =
    subst (All HoldsBytes) (sym (one_more from numbers n))
    (All-push HoldsBytes (saved_blocks from numbers n) (saved_block from numbers n) (holds_bytes from numbers n small)
    (real_bytes (take 256 (drop (256 * n) numbers)) (All-take (λ n. n < 65536) 256 (drop (256 * n) numbers) (All-drop (λ n. n < 65536) (256 * n) numbers small))))

-- a block and its frame
abbrev framed_length : BlockValue → ℕ
framed_length b = 7 + length b.bytes

-- the blocks so far have the bytes of the numbers so far, and their frames
framed_numbers : (from : ℕ) (numbers : List ℕ) (n : ℕ) → sum_by framed_length (saved_blocks from numbers n) ≡ 7 * n + 2 * length (take (256 * n) numbers)
framed_numbers from numbers zero = ap (sum_by framed_length) (no_blocks from numbers)
framed_numbers from numbers (suc n) =
    let more : length (take (256 * suc n) numbers) ≡ length (take (256 * n) numbers) + length (take 256 (drop (256 * n) numbers)) =
    (let same : 256 * suc n ≡ 256 * n + 256 = omega arith in ap (λ k. length (take k numbers)) same)
    ∙ (ap length (take-add (256 * n) 256 numbers) ∙ length-append (take (256 * n) numbers) (take 256 (drop (256 * n) numbers))) in
    subst (λ blocks. sum_by framed_length blocks ≡ 7 * suc n + 2 * length (take (256 * suc n) numbers)) (sym (one_more from numbers n))
    (omega (arith, sum_by_push framed_length (saved_blocks from numbers n) (saved_block from numbers n), framed_numbers from numbers n, bytes_length (take 256 (drop (256 * n) numbers)), more))

-- as many numbers as there are words, or fewer, need no more room than that many words
pub room_enough : (from : ℕ) (numbers : List ℕ) (start words : ℕ) → length numbers ≤ words → length (plain_text (saved_tape from numbers start)) ≤ 7 + 7 * ((words + 255) / 256) + 2 * words
room_enough from numbers start words few =
    let blocks : ℕ = (length numbers + 255) / 256 in
    omega (arith, few, length-plain_text (saved_tape from numbers start), framed_numbers from numbers blocks, length_take_no_more (256 * blocks) numbers)

-- ---- a part of the numbers

-- the next 256, or as many as are left
pub part_is : (numbers : List ℕ) (first behind : ℕ) → behind ≡ min (first + 256) (length numbers) → take (behind - first) (drop first numbers) ≡ take 256 (drop first numbers)
part_is numbers first behind is =
    elim (cases_lt (first + 256) (length numbers)) [
      | inl more ↦ (let all : behind - first ≡ 256 = omega arith in ap (λ k. take k (drop first numbers)) all)
      | inr last ↦
          take_all (behind - first) (drop first numbers) (omega (arith, length-drop first numbers))
          ∙ sym (take_all 256 (drop first numbers) (omega (arith, length-drop first numbers)))
    ]
