-- Steps that were done on a shelf, and the text of the tape that they put there.
use Rattle.std.proofs.Common.{◌≡◌, ℕ, zero, suc, ◌+◌, ◌*◌, ◌/◌, ◌<◌, ◌≤◌, Bool, true, false, nat_lt, List, [], ◌∷◌, ◌++◌, length, take, drop, map, refl, arith, ap, sym, subst, ◌∙◌, append_assoc, append-nil, length-append, length-drop}
use Rattle.std.specs.Prelude.{if◌then◌else◌}
use Rattle.std.specs.List.{flat_map}
use Rattle.std.proofs.lemmas.Bool.Decides.{nat_tests}
use Rattle.std.proofs.lemmas.List.{map-append}
use Rattle.tape_values.specs.Block.{BlockValue, block_at, data_block, low_first, transfer_block}
use Rattle.tape_values.specs.Tape.{plain_text, text_of}
use Rattle.tape_values.specs.Tape.Piece.{block}
use Rattle.tape_values.proofs.Pieces.{text_of-append}
use Rattle.tape_shelf.specs.SavedSteps.{adds, full, puts}
use Rattle.tape_shelf.specs.SavedTape.{last_text, rest_block, saved_block, saved_blocks, saved_tape}
use Rattle.tape_shelf.specs.Shelf.{ShelfStep, Reserve, NotReserved, Resume, NotResumed, Add, NotAdded, Put, NotPut, written}
use Rattle.tape_shelf.specs.ShelfTold.{AreDone, IsDone, ShelfTold}
use Rattle.tape_shelf.proofs.SavedBlocks.{no_blocks, one_more_block}

-- ---- steps that were done

pub done_join : (folder : List ℕ) (one two : List ShelfStep) (a b c : ShelfTold) → AreDone folder one a b → AreDone folder two b c → AreDone folder (one ++ two) a c
done_join folder [] two a b c is h = subst (λ x. AreDone folder two x c) is h
done_join folder (s ∷ one) two a b c h k = (h.0, h.1, done_join folder one two h.0 b c h.2 k)

pub done_one : (folder : List ℕ) (step : ShelfStep) (a b : ShelfTold) → IsDone folder step a b → AreDone folder (step ∷ []) a b
done_one folder step a b h = (b, h, refl)

pub done_more : (folder : List ℕ) (steps : List ShelfStep) (step : ShelfStep) (a b c : ShelfTold) → AreDone folder steps a b → IsDone folder step b c → AreDone folder (steps ++ step ∷ []) a c
done_more folder steps step a b c h k = done_join folder steps (step ∷ []) a b c h (done_one folder step b c k)

-- ---- the blocks that are added

pub no_adds : (from : ℕ) (numbers : List ℕ) → adds from numbers 0 ≡ []
unfolding adds
no_adds from numbers = refl

one_more : (from : ℕ) (numbers : List ℕ) (n : ℕ) → adds from numbers (suc n) ≡ adds from numbers n ++ Add (data_block (saved_block from numbers n)) ∷ []
unfolding adds
one_more from numbers n = refl

pub one_more_add : (from : ℕ) (numbers : List ℕ) (n : ℕ) → adds from numbers (n + 1) ≡ adds from numbers n ++ Add (data_block (saved_block from numbers n)) ∷ []
one_more_add from numbers n = ap (adds from numbers) (next n) ∙ one_more from numbers n
  where
    next : (n : ℕ) → n + 1 ≡ suc n
    next n = omega arith

-- numbers that come behind change no block that is full

drop_front : (k : ℕ) (xs ys : List ℕ) → k ≤ length xs → drop k (xs ++ ys) ≡ drop k xs ++ ys
drop_front zero xs ys le = refl
drop_front (suc k) [] ys le = absurd (omega arith)
drop_front (suc k) (x ∷ xs) ys le = drop_front k xs ys (omega arith)

pub take_front : (k : ℕ) (xs ys : List ℕ) → k ≤ length xs → take k (xs ++ ys) ≡ take k xs
take_front zero xs ys le = refl
take_front (suc k) [] ys le = absurd (omega arith)
take_front (suc k) (x ∷ xs) ys le = ap (λ l. x ∷ l) (take_front k xs ys (omega arith))

pub same_block : (from : ℕ) (numbers more : List ℕ) (n : ℕ) → 256 * n + 256 ≤ length numbers → saved_block from (numbers ++ more) n ≡ saved_block from numbers n
same_block from numbers more n le =
    ap (λ these. block_at (from + 2 * 256 * n) (flat_map low_first these))
    (ap (take 256) (drop_front (256 * n) numbers more (omega arith)) ∙ take_front 256 (drop (256 * n) numbers) more (omega (arith, length-drop (256 * n) numbers)))

pub same_adds : (from : ℕ) (numbers more : List ℕ) (n : ℕ) → 256 * n ≤ length numbers → adds from (numbers ++ more) n ≡ adds from numbers n
same_adds from numbers more zero le = no_adds from (numbers ++ more) ∙ sym (no_adds from numbers)
same_adds from numbers more (suc n) le =
    one_more from (numbers ++ more) n
    ∙ (ap (λ steps. steps ++ Add (data_block (saved_block from (numbers ++ more) n)) ∷ []) (same_adds from numbers more n (omega arith))
    ∙ (ap (λ b. adds from numbers n ++ Add (data_block b) ∷ []) (same_block from numbers more n (omega arith)) ∙ sym (one_more from numbers n)))

-- ---- the text of the whole tape

pub written_append : (one two : List ShelfStep) → written (one ++ two) ≡ written one ++ written two
written_append [] two = refl
written_append (Reserve n ∷ one) two = written_append one two
written_append (NotReserved n fault ∷ one) two = written_append one two
written_append (Resume found ∷ one) two = written_append one two
written_append (NotResumed fault ∷ one) two = written_append one two
written_append (Add text ∷ one) two = ap (λ t. text ++ t) (written_append one two) ∙ sym (append_assoc text (written one) (written two))
written_append (NotAdded text ∷ one) two = written_append one two
written_append (Put text ∷ one) two = ap (λ t. text ++ t) (written_append one two) ∙ sym (append_assoc text (written one) (written two))
written_append (NotPut text fault ∷ one) two = written_append one two

-- the text of some blocks
abbrev blocks_text : List BlockValue → List ℕ
blocks_text blocks = text_of (map block blocks)

text_more : (blocks : List BlockValue) (b : BlockValue) → blocks_text (blocks ++ b ∷ []) ≡ blocks_text blocks ++ data_block b
text_more blocks b =
    ap text_of (map-append block blocks (b ∷ []))
    ∙ text_of-append (map block blocks) (block b ∷ [])
    ∙ ap (λ t. blocks_text blocks ++ t) (append-nil (data_block b))

next_text : (from : ℕ) (numbers : List ℕ) (n : ℕ) → blocks_text (saved_blocks from numbers (n + 1)) ≡ blocks_text (saved_blocks from numbers n) ++ data_block (saved_block from numbers n)
next_text from numbers n = ap blocks_text (one_more_block from numbers n) ∙ text_more (saved_blocks from numbers n) (saved_block from numbers n)

written_adds : (from : ℕ) (numbers : List ℕ) (n : ℕ) → written (adds from numbers n) ≡ blocks_text (saved_blocks from numbers n)
written_adds from numbers zero = ap written (no_adds from numbers) ∙ sym (ap blocks_text (no_blocks from numbers))
written_adds from numbers (suc n) =
    ap written (one_more from numbers n)
    ∙ (written_append (adds from numbers n) (Add (data_block (saved_block from numbers n)) ∷ [])
    ∙ (ap (λ t. t ++ (data_block (saved_block from numbers n) ++ [])) (written_adds from numbers n)
    ∙ (ap (λ t. blocks_text (saved_blocks from numbers n) ++ t) (append-nil (data_block (saved_block from numbers n)))
    ∙ (sym (next_text from numbers n) ∙ (let same : n + 1 ≡ suc n = omega arith in ap (λ k. blocks_text (saved_blocks from numbers k)) same)))))

is_less : (a b : ℕ) → nat_lt a b ≡ true → a < b
is_less a b h = grind (arith, nat_tests)

is_not_less : (a b : ℕ) → nat_lt a b ≡ false → b ≤ a
is_not_less a b h = grind (arith, nat_tests)

-- the full blocks and what is left behind them are all the blocks
with_rest : (from : ℕ) (numbers : List ℕ) (test : Bool) → nat_lt (256 * full numbers) (length numbers) ≡ test
    → blocks_text (saved_blocks from numbers (full numbers)) ++ (if test then data_block (saved_block from numbers (full numbers)) else [])
    ≡ blocks_text (saved_blocks from numbers ((length numbers + 255) / 256))
with_rest from numbers true is =
    let more : full numbers + 1 ≡ (length numbers + 255) / 256 = omega (arith, is_less (256 * full numbers) (length numbers) is) in
    sym (next_text from numbers (full numbers)) ∙ ap (λ k. blocks_text (saved_blocks from numbers k)) more
with_rest from numbers false is =
    let all : full numbers ≡ (length numbers + 255) / 256 = omega (arith, is_not_less (256 * full numbers) (length numbers) is) in
    append-nil (blocks_text (saved_blocks from numbers (full numbers))) ∙ ap (λ k. blocks_text (saved_blocks from numbers k)) all

pub whole : (from : ℕ) (numbers : List ℕ) (start : ℕ) → 0 < length numbers → written (puts from numbers start) ≡ plain_text (saved_tape from numbers start)
whole from [] start some = absurd (omega arith)
whole from (number ∷ rest) start some =
    let numbers : List ℕ = number ∷ rest in
    let front : List ℕ = blocks_text (saved_blocks from numbers (full numbers)) in
    written_append (adds from numbers (full numbers)) (Put (last_text from numbers start) ∷ [])
    ∙ (ap (λ t. t ++ (last_text from numbers start ++ [])) (written_adds from numbers (full numbers))
    ∙ (ap (λ t. front ++ t) (append-nil (last_text from numbers start))
    ∙ (sym (append_assoc front (rest_block from numbers) (transfer_block start))
    ∙ ap (λ t. t ++ transfer_block start) (with_rest from numbers (nat_lt (256 * full numbers) (length numbers)) refl))))

-- ---- blocks behind others

pub drop_behind : (found read : List ℕ) (j : ℕ) → drop (length found + j) (found ++ read) ≡ drop j read
drop_behind [] read j = let none : length {A = ℕ} [] + j ≡ j = omega arith in ap (λ k. drop k read) none
drop_behind (n ∷ found) read j = (let next : suc (length found) + j ≡ suc (length found + j) = omega arith in ap (λ k. drop k ((n ∷ found) ++ read)) next) ∙ drop_behind found read j

-- a block of the numbers behind others, which fill blocks, is that of all of them
pub block_behind : (from : ℕ) (found read : List ℕ) (n k : ℕ) → length found ≡ 256 * n → saved_block from (found ++ read) (n + k) ≡ saved_block (from + 2 * length found) read k
block_behind from found read n k whole =
    let there : from + 2 * 256 * (n + k) ≡ from + 2 * length found + 2 * 256 * k = omega (arith, whole) in
    let at : 256 * (n + k) ≡ length found + 256 * k = omega (arith, whole) in
    ap (λ a. block_at a (flat_map low_first (take 256 (drop (256 * (n + k)) (found ++ read))))) there
    ∙ ap (λ these. block_at (from + 2 * length found + 2 * 256 * k) (flat_map low_first (take 256 these))) (ap (λ j. drop j (found ++ read)) at ∙ drop_behind found read (256 * k))

pub full_behind : (found read : List ℕ) → length found ≡ 256 * full found → full (found ++ read) ≡ full found + full read
full_behind found read whole = omega (arith, whole, length-append found read)

-- ---- the last text behind others

rest_behind : (from : ℕ) (found read : List ℕ) → length found ≡ 256 * full found → rest_block from (found ++ read) ≡ rest_block (from + 2 * length found) read
rest_behind from found read whole =
    let test : nat_lt (256 * full (found ++ read)) (length (found ++ read)) ≡ nat_lt (256 * full read) (length read) =
    same_test (256 * full (found ++ read)) (length (found ++ read)) (256 * full read) (length read) (length found)
    (omega (arith, whole, full_behind found read whole)) (length-append found read) in
    ap (λ t. if t then data_block (saved_block from (found ++ read) (full (found ++ read))) else []) test
    ∙ ap (λ b. if nat_lt (256 * full read) (length read) then data_block b else [])
    (ap (saved_block from (found ++ read)) (full_behind found read whole) ∙ block_behind from found read (full found) (full read) whole)
  where
    same_test : (a b a' b' k : ℕ) → a ≡ k + a' → b ≡ k + b' → nat_lt a b ≡ nat_lt a' b'
    same_test a b a' b' k is is' = by (nat_lt a b) (nat_lt a' b') refl refl
      where
        by : (t t' : Bool) → nat_lt a b ≡ t → nat_lt a' b' ≡ t' → nat_lt a b ≡ nat_lt a' b'
        by true true e e' = e ∙ sym e'
        by false false e e' = e ∙ sym e'
        by true false e e' = absurd (let low = is_less a b e in let high = is_not_less a' b' e' in omega (arith, low, high, is, is'))
        by false true e e' = absurd (let high = is_not_less a b e in let low = is_less a' b' e' in omega (arith, low, high, is, is'))

pub last_behind : (from behind : ℕ) (found read : List ℕ) (start : ℕ) → length found ≡ 256 * full found → behind ≡ from + 2 * length found → last_text behind read start ≡ last_text from (found ++ read) start
last_behind from behind found read start whole is =
    ap (λ at. rest_block at read ++ transfer_block start) is ∙ ap (λ front. front ++ transfer_block start) (sym (rest_behind from found read whole))
