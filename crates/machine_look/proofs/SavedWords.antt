-- The words of the tape of what was read.
use Rattle.std.proofs.Common.{◌≡◌, ℕ, zero, suc, ◌+◌, ◌*◌, ◌/◌, ◌%◌, ◌-◌, ◌<◌, ◌≤◌, true, false, cond, eqb, ◌&&◌, List, [], ◌∷◌, ◌++◌, length, take, drop, get_or, Option, Some, None, refl, arith, ap, sym, ◌∙◌, inl, inr}
use Rattle.std.specs.Prelude.{All, AllPairs}
use Rattle.std.specs.List.{flat_map}
use Rattle.std.specs.Option.{option_or}
use Rattle.std.proofs.Math.Seq.{take-add}
use Rattle.std.proofs.lemmas.Bool.{cases_eq, cases_lt, eq-eqb, ne_eqb}
use Rattle.std.proofs.lemmas.List.{length-take-le, take_all}
use Rattle.std.proofs.lemmas.List.Concat.{flat_map-append}
use Rattle.std.proofs.lemmas.List.Kept.{AllPairs-cons}
use Rattle.std.proofs.lemmas.List.Elements.{All-nil, All-cons, All-head, All-tail}
use Rattle.tape_values.specs.Block.{block_at, low_first, top}
use Rattle.tape_values.specs.Tape.{TapeValue}
use Rattle.tape_image.specs.Memory.{half}
use Rattle.tape_image.specs.Word.{WordValue, IsWord, covers, whole_word}
use Rattle.tape_image.specs.Image.{byte_in, byte_at}
use Rattle.tape_image.specs.Plan.{IsPlan, plan_of, program_start, given_byte}
use Rattle.tape_image.proofs.Blocks.{byte_in-before, byte_in-inside, byte_in-behind, option_or-none}
use Rattle.tape_image.proofs.Laying.{byte_at-append, byte_in-append}
use Rattle.tape_image.proofs.Given.{Rises}
use Rattle.tape_image.proofs.Images.{get-image_of}
use Rattle.tape_image.proofs.Plans.{IsPlan-of_blocks, program_start-even}
use Rattle.tape_image.proofs.SameWords.{plan_words}
use Rattle.tape_shelf.specs.SavedTape.{saved_block, saved_blocks, saved_tape}
use Rattle.machine_look.specs.SavedWords.{words_read, HoldsWhatWasRead, StandFrom}
use Rattle.tape_shelf.proofs.SavedBlocks.{bytes_length, good_blocks, holds_bytes, no_blocks, one_more}

-- ---- the bytes of its blocks

no_bytes : (from b : ℕ) → byte_in (block_at from []) b ≡ None
no_bytes from b = elim (cases_lt b from) [ inl l ↦ byte_in-before from [] b l | inr m ↦ byte_in-behind from [] b (omega arith) ]

-- a block behind those that have the numbers before it
next_block : (from : ℕ) (numbers : List ℕ) (n b : ℕ) → 256 * n ≤ length numbers
    → option_or (byte_in (saved_block from numbers n) b) (byte_in (block_at from (flat_map low_first (take (256 * n) numbers))) b)
    ≡ byte_in (block_at from (flat_map low_first (take (256 * suc n) numbers))) b
next_block from numbers n b low =
    let before : List ℕ = take (256 * n) numbers in
    let these : List ℕ = take 256 (drop (256 * n) numbers) in
    let place : from + 512 * n ≡ from + length (flat_map low_first before) = omega (arith, bytes_length before, length-take-le (256 * n) numbers low) in
    let both : flat_map low_first before ++ flat_map low_first these ≡ flat_map low_first (take (256 * suc n) numbers) =
    sym (flat_map-append low_first before these) ∙ (ap (flat_map low_first) (sym (take-add (256 * n) 256 numbers)) ∙ (let same : 256 * n + 256 ≡ 256 * suc n = omega arith in ap (λ k. flat_map low_first (take k numbers)) same)) in
    ap (λ a. option_or (byte_in (block_at a (flat_map low_first these)) b) (byte_in (block_at from (flat_map low_first before)) b)) place
    ∙ (sym (byte_in-append from (flat_map low_first before) (flat_map low_first these) b)
    ∙ ap (λ bytes. byte_in (block_at from bytes) b) both)

-- the first blocks have the bytes of the first numbers
first_bytes : (from : ℕ) (numbers : List ℕ) (n b : ℕ) → 256 * n < length numbers + 256 → byte_at (saved_blocks from numbers n) b ≡ byte_in (block_at from (flat_map low_first (take (256 * n) numbers))) b
first_bytes from numbers zero b few = ap (λ blocks. byte_at blocks b) (no_blocks from numbers) ∙ sym (no_bytes from b)
first_bytes from numbers (suc n) b few =
    ap (λ blocks. byte_at blocks b) (one_more from numbers n)
    ∙ (byte_at-append (saved_blocks from numbers n) (saved_block from numbers n ∷ []) b
    ∙ (ap (option_or (byte_in (saved_block from numbers n) b)) (first_bytes from numbers n b (omega arith))
    ∙ next_block from numbers n b (omega arith)))

-- ---- the bytes of one word

covers_both : (b : ℕ) → covers b 0o177777 ≡ true
covers_both b = elim (eqb (b % 2) 0) as (λ t. eqb (cond t 255 255) 255 ≡ true) [ true ↦ refl | false ↦ refl ]

-- a word's own two bytes
own_byte : (a n b : ℕ) → a % 2 ≡ 0 → a / 2 ≡ b / 2 → byte_in (block_at a (low_first n)) b ≡ Some (half b n)
own_byte a n b even here =
    byte_in-inside a (low_first n) b (omega arith) (omega arith)
    ∙ elim (cases_eq (b % 2) 0) [
      | inl low ↦
          (let first : b - a ≡ 0 = omega arith in ap (λ i. Some (get_or (low_first n) i 0)) first)
          ∙ ap (λ t. Some (cond t (n % 256) (n / 256))) (sym (eq-eqb (b % 2) 0 low))
      | inr high ↦
          (let second : b - a ≡ 1 = omega arith in ap (λ i. Some (get_or (low_first n) i 0)) second)
          ∙ ap (λ t. Some (cond t (n % 256) (n / 256))) (sym (ne_eqb (b % 2) 0 high))
    ]

-- and no others
other_byte : (a n b : ℕ) → a % 2 ≡ 0 → (a / 2 ≡ b / 2 → ⊥) → byte_in (block_at a (low_first n)) b ≡ None
other_byte a n b even apart =
    elim (cases_lt b a) [
      | inl below ↦ byte_in-before a (low_first n) b below
      | inr above ↦ elim (cases_lt b (a + 2)) [
        | inl within ↦ absurd (apart (omega arith))
        | inr behind ↦ byte_in-behind a (low_first n) b (omega arith)
      ]
    ]

-- a word before others, which lie above it
word_before : (a n b : ℕ) (rest : Option ℕ) → a % 2 ≡ 0 → (a / 2 ≡ b / 2 → rest ≡ None)
    → option_or rest (byte_in (block_at a (low_first n)) b) ≡ cond (eqb (a / 2) (b / 2) && covers b 0o177777) (Some (half b n)) rest
word_before a n b rest even above =
    elim (cases_eq (a / 2) (b / 2)) [
      | inl here ↦
          ap (λ o. option_or o (byte_in (block_at a (low_first n)) b)) (above here)
          ∙ (own_byte a n b even here
          ∙ (ap (λ t. cond (t && true) (Some (half b n)) rest) (sym (eq-eqb (a / 2) (b / 2) here))
          ∙ ap (λ t. cond (eqb (a / 2) (b / 2) && t) (Some (half b n)) rest) (sym (covers_both b))))
      | inr apart ↦
          ap (option_or rest) (other_byte a n b even apart)
          ∙ (option_or-none rest ∙ ap (λ t. cond (t && covers b 0o177777) (Some (half b n)) rest) (sym (ne_eqb (a / 2) (b / 2) apart)))
    ]

-- ---- the bytes of all of them

pub stand_behind : (from a : ℕ) (addresses : List ℕ) → StandFrom from (a ∷ addresses) → StandFrom (from + 2) addresses
stand_behind from a addresses stand i low = let this : get_or (a ∷ addresses) (suc i) 0 ≡ from + 2 * suc i = stand (suc i) (omega arith) in omega (arith, this)

read_bytes : (from : ℕ) (addresses numbers : List ℕ) (b : ℕ) → from % 2 ≡ 0 → StandFrom from addresses → length numbers ≤ length addresses
    → byte_in (block_at from (flat_map low_first numbers)) b ≡ given_byte (words_read addresses numbers) b
read_bytes from [] [] b even stand few = no_bytes from b
read_bytes from [] (n ∷ numbers) b even stand few = absurd (omega arith)
read_bytes from (a ∷ addresses) [] b even stand few = no_bytes from b
read_bytes from (a ∷ addresses) (n ∷ numbers) b even stand few =
    let first : a ≡ from + 2 * 0 = stand 0 (omega arith) in
    let same : from ≡ a = omega (arith, first) in
    let rest = read_bytes (from + 2) addresses numbers b (omega arith) (stand_behind from a addresses stand) (omega arith) in
    byte_in-append from (low_first n) (flat_map low_first numbers) b
    ∙ (ap (λ o. option_or o (byte_in (block_at from (low_first n)) b)) rest
    ∙ (word_before from n b (given_byte (words_read addresses numbers) b) even (λ here. sym rest ∙ byte_in-before (from + 2) (flat_map low_first numbers) b (omega arith))
    ∙ ap (λ place. cond (eqb (place / 2) (b / 2) && covers b 0o177777) (Some (half b n)) (given_byte (words_read addresses numbers) b)) same))

-- the bytes of the tape's blocks
tape_bytes : (from : ℕ) (addresses numbers : List ℕ) (b : ℕ) → from % 2 ≡ 0 → StandFrom from addresses → length numbers ≤ length addresses
    → byte_at (saved_blocks from numbers ((length numbers + 255) / 256)) b ≡ given_byte (words_read addresses numbers) b
tape_bytes from addresses numbers b even stand few =
    first_bytes from numbers ((length numbers + 255) / 256) b (omega arith)
    ∙ (ap (λ these. byte_in (block_at from (flat_map low_first these)) b) (take_all (256 * ((length numbers + 255) / 256)) numbers (omega arith))
    ∙ read_bytes from addresses numbers b even stand few)

-- ---- the words

each_read : (from : ℕ) (addresses numbers : List ℕ) → from % 2 ≡ 0 → StandFrom from addresses → from + 2 * length numbers ≤ top → All (λ n. n < 65536) numbers → All IsWord (words_read addresses numbers)
each_read from [] numbers even stand low small = All-nil IsWord
each_read from (a ∷ addresses) [] even stand low small = All-nil IsWord
each_read from (a ∷ addresses) (n ∷ numbers) even stand low small =
    let first : a ≡ from + 2 * 0 = stand 0 (omega arith) in
    All-cons IsWord (whole_word a n) (words_read addresses numbers)
    (record {
      even = omega (arith, first);
      below = omega (arith, first);
      inside = record { one_mask = inr (inr refl); low = λ e. absurd (cc e); high = λ e. absurd (cc e) };
      fits = All-head (λ n. n < 65536) n numbers small;
    })
    (each_read (from + 2) addresses numbers (omega arith) (stand_behind from a addresses stand) (omega arith) (All-tail (λ n. n < 65536) n numbers small))

all_above : (v : WordValue) (from : ℕ) (addresses numbers : List ℕ) → StandFrom from addresses → v.address < from → All (Rises v) (words_read addresses numbers)
all_above v from [] numbers stand low = All-nil (Rises v)
all_above v from (a ∷ addresses) [] stand low = All-nil (Rises v)
all_above v from (a ∷ addresses) (n ∷ numbers) stand low =
    let first : a ≡ from + 2 * 0 = stand 0 (omega arith) in
    All-cons (Rises v) (whole_word a n) (words_read addresses numbers) (omega (arith, first)) (all_above v (from + 2) addresses numbers (stand_behind from a addresses stand) (omega arith))

rising_read : (from : ℕ) (addresses numbers : List ℕ) → StandFrom from addresses → AllPairs Rises (words_read addresses numbers)
rising_read from [] numbers stand = λ i j d before low. absurd (omega (arith, low))
rising_read from (a ∷ addresses) [] stand = λ i j d before low. absurd (omega (arith, low))
rising_read from (a ∷ addresses) (n ∷ numbers) stand =
    let first : a ≡ from + 2 * 0 = stand 0 (omega arith) in
    AllPairs-cons Rises (whole_word a n) (words_read addresses numbers)
    (all_above (whole_word a n) (from + 2) addresses numbers (stand_behind from a addresses stand) (omega (arith, first)))
    (rising_read (from + 2) addresses numbers (stand_behind from a addresses stand))

-- ---- the plan

pub read_plan : (from : ℕ) (addresses numbers : List ℕ) (start : ℕ) → from + 2 * length numbers ≤ top → All (λ n. n < 65536) numbers → start < 65536 → IsPlan (plan_of (saved_tape from numbers start))
read_plan from addresses numbers start low small begins =
    let tape : TapeValue = saved_tape from numbers start in
    IsPlan-of_blocks tape.blocks (program_start start) (good_blocks from numbers ((length numbers + 255) / 256) low (omega arith)) (holds_bytes from numbers ((length numbers + 255) / 256) small) (program_start-even start begins)

pub holds_what_was_read : (from : ℕ) (addresses numbers : List ℕ) (start : ℕ) → from % 2 ≡ 0 → from + 2 * length numbers ≤ top → All (λ n. n < 65536) numbers → start < 65536
    → StandFrom from addresses → length numbers ≤ length addresses → HoldsWhatWasRead addresses numbers (saved_tape from numbers start)
holds_what_was_read from addresses numbers start even low small begins stand few =
    let tape : TapeValue = saved_tape from numbers start in
    let good = good_blocks from numbers ((length numbers + 255) / 256) low (omega arith) in
    let is : IsPlan (plan_of tape) = IsPlan-of_blocks tape.blocks (program_start start) good (holds_bytes from numbers ((length numbers + 255) / 256) small) (program_start-even start begins) in
    let bytes = λ (b : ℕ). get-image_of tape.blocks good b ∙ tape_bytes from addresses numbers b even stand few in
    record {
      words = sym ((plan_words (plan_of tape) is (words_read addresses numbers)).0 (record { each = each_read from addresses numbers even stand low small; rising = rising_read from addresses numbers stand; bytes = λ b. sym (bytes b) }));
      bytes = bytes;
      start = refl;
    }
