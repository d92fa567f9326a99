-- The words of chunks that stand.
use Rattle.std.proofs.Common.{◌≡◌, ℕ, zero, suc, ◌+◌, ◌*◌, ◌/◌, ◌%◌, ◌<◌, ◌≤◌, ◌⊎◌, Bool, true, false, ltb, List, length, Some, inl, inr, refl, arith, ap, sym, subst, ◌∙◌}
use Rattle.std.proofs.lemmas.Bool.{and_parts, eqb-true}
use Rattle.std.proofs.lemmas.List.Elements.{Contains-get_or}
use Rattle.std.proofs.lemmas.Bool.Decides.{nat_tests}
use Rattle.std.specs.Prelude.{◌==◌, ◌&&◌, if◌then◌else◌, slice_index, nat_lt}
use Rattle.tape_image.specs.Memory.{byte_of, half, top_of}
use Rattle.tape_image.specs.Plan.{PlanValue, IsPlan}
use Rattle.tape_image.specs.Word.{WordValue, IsWord, Stands, covers, gives}
use Rattle.tape_image.proofs.Given.{image_at_word}
use Rattle.odt_machine.specs.Machine.{is_word, word_at}
use Rattle.host_core.specs.Core.{word_nr, no_word}
use Rattle.line_world.specs.Safe.{FirstStand, WordLies}
use Rattle.exchange_core.specs.declared.chunk.Chunk.{Chunk}
use Rattle.exchange_core.specs.Chunk.{AreChunks, IsIn, chunk_nr, words_behind}
use Rattle.exchange_core.proofs.Chunks.{behind_grows, chunk_has, chunk_others}
use Rattle.exchange_law.specs.Law.{Holds}

-- ---- the two bytes of a word

-- the place of a half: 0 for the low one, 1 for the high one
half_even : (b word : ℕ) → b % 2 ≡ 0 → half b word ≡ half 0 word
half_even b word even = ap (λ (n : ℕ). if n == 0 then word % 256 else word / 256) even

half_odd : (b word : ℕ) → b % 2 ≡ 1 → half b word ≡ half 1 word
half_odd b word odd = ap (λ (n : ℕ). if n == 0 then word % 256 else word / 256) odd

-- where a place is a word's half
pub record IsHalf (w : WordValue) (h b : ℕ) : Type 0 where
  pub word : w.address / 2 ≡ b / 2
  pub side : (word : ℕ) → half b word ≡ half h word

low_half : (w : WordValue) → w.address % 2 ≡ 0 → IsHalf w 0 w.address
low_half w even = record { word = refl; side = λ word. half_even w.address word even }

high_half : (w : WordValue) → w.address % 2 ≡ 0 → IsHalf w 1 (w.address + 1)
high_half w even = record { word = omega (arith, even); side = λ word. half_odd (w.address + 1) word (omega (arith, even)) }

-- the word gives the byte there, where its mask has it
gives_half : (w : WordValue) (h b : ℕ) → IsHalf w h b → covers h w.mask ≡ true → gives w b ≡ true
gives_half w h b is has = both (w.address / 2 == b / 2) (covers b w.mask) (same (w.address / 2) (b / 2) is.word) (ap (λ n. n == 255) (is.side w.mask) ∙ has)
  where
    both : (p q : Bool) → p ≡ true → q ≡ true → (p && q) ≡ true
    both p q e f = ap (λ x. x && q) e ∙ f

    same : (x y : ℕ) → x ≡ y → (x == y) ≡ true
    same x y e = grind (arith, nat_tests)

-- the byte of memory there
pub byte_half : (memory : List ℕ) (w : WordValue) (h b : ℕ) → IsHalf w h b → half h (word_at memory w.address) ≡ byte_of memory b
byte_half memory w h b is = sym (is.side (word_at memory w.address)) ∙ ap (λ k. half b (slice_index memory k)) is.word

-- ---- a word stands where its bytes do

-- each byte that the word gives is in memory
abbrev AreThere : List ℕ → WordValue → Type 0
AreThere memory w = (b : ℕ) → gives w b ≡ true → byte_of memory b ≡ half b w.value

there_stands : (memory : List ℕ) (w : WordValue) → w.address % 2 ≡ 0 → AreThere memory w → Stands w (word_at memory w.address)
there_stands memory w even there = record {
  low = λ has. at 0 w.address (low_half w even) has;
  high = λ has. at 1 (w.address + 1) (high_half w even) has;
}
  where
    at : (h b : ℕ) → IsHalf w h b → covers h w.mask ≡ true → half h (word_at memory w.address) ≡ half h w.value
    at h b is has = byte_half memory w h b is ∙ (there b (gives_half w h b is has) ∙ is.side w.value)

-- a word goes on standing where its bytes don't change
pub still_stands : (before now : List ℕ) (w : WordValue) → w.address % 2 ≡ 0 → ((b : ℕ) → gives w b ≡ true → byte_of now b ≡ byte_of before b) → Stands w (word_at before w.address) → Stands w (word_at now w.address)
still_stands before now w even same stands = record {
  low = λ has. at 0 w.address (low_half w even) has (stands.low has);
  high = λ has. at 1 (w.address + 1) (high_half w even) has (stands.high has);
}
  where
    at : (h b : ℕ) → IsHalf w h b → covers h w.mask ≡ true → half h (word_at before w.address) ≡ half h w.value → half h (word_at now w.address) ≡ half h w.value
    at h b is has old = byte_half now w h b is ∙ (same b (gives_half w h b is has) ∙ (sym (byte_half before w h b is) ∙ old))

-- each byte that a standing word gives is in memory
pub stands_there : (memory : List ℕ) (w : WordValue) → Stands w (word_at memory w.address) → (b : ℕ) → gives w b ≡ true → byte_of memory b ≡ half b w.value
stands_there memory w s b g =
    let parts = and_parts (w.address / 2 == b / 2) (covers b w.mask) g in
    let same : w.address / 2 ≡ b / 2 = eqb-true (w.address / 2) (b / 2) parts.0 in
    ap (λ k. half b (slice_index memory k)) (sym same) ∙ side (b % 2 == 0) refl parts.1
  where
    side : (test : Bool) → (b % 2 == 0) ≡ test → covers b w.mask ≡ true → half b (word_at memory w.address) ≡ half b w.value
    side true e has = half_by true e (word_at memory w.address) ∙ (s.low (ap (λ n. n == 255) (sym (half_by true e w.mask)) ∙ has) ∙ sym (half_by true e w.value))
      where
        half_by : (test : Bool) → (b % 2 == 0) ≡ true → (word : ℕ) → half b word ≡ half 0 word
        half_by test e word = ap (λ t. if t then word % 256 else word / 256) e
    side false e has = half_by e (word_at memory w.address) ∙ (s.high (ap (λ n. n == 255) (sym (half_by e w.mask)) ∙ has) ∙ sym (half_by e w.value))
      where
        half_by : (b % 2 == 0) ≡ false → (word : ℕ) → half b word ≡ half 1 word
        half_by e word = ap (λ t. if t then word % 256 else word / 256) e

-- ---- a word lies where one of its bytes does

pub some_half : (w : WordValue) → IsWord w → (covers 0 w.mask ≡ true) ⊎ (covers 1 w.mask ≡ true)
some_half w is = elim is.inside.one_mask [
  | inl low ↦ inl (ap (covers 0) low)
  | inr (inl high) ↦ inr (ap (covers 1) high)
  | inr (inr whole) ↦ inl (ap (covers 0) whole)
]

pub lies_below : (memory : List ℕ) (a : ℕ) → a % 2 ≡ 0 → a < 2 * length memory → is_word memory a ≡ true
lies_below memory a even below = both (a % 2 == 0) (nat_lt a (2 * length memory)) (zero_is (a % 2) even) (less a (2 * length memory) below)
  where
    both : (p q : Bool) → p ≡ true → q ≡ true → (p && q) ≡ true
    both p q e f = ap (λ x. x && q) e ∙ f

    zero_is : (n : ℕ) → n ≡ 0 → (n == 0) ≡ true
    zero_is n e = ap (λ k. k == 0) e

    less : (a n : ℕ) → a < n → nat_lt a n ≡ true
    less a n h = grind (arith, nat_tests)

below_at : (w : WordValue) (h b n : ℕ) → w.address % 2 ≡ 0 → IsHalf w h b → b < 2 * n → w.address < 2 * n
below_at w h b n even is below = let word = is.word in omega (arith, even, word, below)

-- ---- the words of the chunks

-- a chunk that is done has the word
abbrev pub Found : ℕ → List Chunk → ℕ → ℕ → Type 0
Found from chunks i done = (k : ℕ) × (k < done) × (words_behind from chunks k ≤ i) × (i < (chunk_nr chunks k).until)

lower : (a b : ℕ) → ltb a b ≡ true → a < b
lower a b e = grind (arith, nat_tests)

higher : (a b : ℕ) → ltb a b ≡ false → b ≤ a
higher a b e = grind (arith, nat_tests)

found_or : (from : ℕ) (chunks : List Chunk) (i done : ℕ) (test : Bool) → ltb i (words_behind from chunks done) ≡ test → (i < words_behind from chunks done → Found from chunks i done) → i < (chunk_nr chunks done).until → Found from chunks i (suc done)
found_or from chunks i done true less earlier below = let f = earlier (lower i (words_behind from chunks done) less) in (f.0, omega (arith, f.1), f.2, f.3)
found_or from chunks i done false more earlier below = (done, omega arith, higher i (words_behind from chunks done) more, below)

pub find : (from : ℕ) (chunks : List Chunk) (i : ℕ) → from ≤ i → (done : ℕ) → i < words_behind from chunks done → Found from chunks i done
find from chunks i le zero below = absurd (omega (arith, le, below))
find from chunks i le (suc done) below = found_or from chunks i done (ltb i (words_behind from chunks done)) refl (λ less. find from chunks i le done less) below

some_same : (a b : ℕ) → Some a ≡ Some b → a ≡ b
some_same a b e = cc e

-- the byte that a word of a chunk gives is in memory
chunk_word : (plan : PlanValue) (chunks : List Chunk) (before now : List ℕ) (done : ℕ) (from i k : ℕ) → IsPlan plan → AreChunks plan from chunks → done ≤ length chunks → Holds plan.image chunks before done now → i < length plan.words →
    k < done → words_behind from chunks k ≤ i → i < (chunk_nr chunks k).until → AreThere now (word_nr plan.words i)
chunk_word plan chunks before now done from i k is are within h below less low high b gives_b =
    let inside : IsIn (chunk_nr chunks k) b = chunk_has plan from chunks are k i (omega (arith, less, within)) low high b gives_b in
    some_same (byte_of now b) (half b (word_nr plan.words i).value)
    (sym (h.stand k less b inside) ∙ image_at_word plan (word_nr plan.words i) b is (Contains-get_or plan.words i no_word below) gives_b)

-- a word of a chunk lies in memory
chunk_word_lies : (plan : PlanValue) (chunks : List Chunk) (before now : List ℕ) (from i k : ℕ) → IsPlan plan → AreChunks plan from chunks → length now ≡ length before → ((k : ℕ) → k < length chunks → (chunk_nr chunks k).address + (chunk_nr chunks k).size ≤ top_of before) →
    i < length plan.words → k < length chunks → words_behind from chunks k ≤ i → i < (chunk_nr chunks k).until → WordLies plan.words now i
chunk_word_lies plan chunks before now from i k is are size room below less low high =
    let w : WordValue = word_nr plan.words i in
    let word : IsWord (word_nr plan.words i) = is.each i no_word below in
    lies_below now (word_nr plan.words i).address word.even (here word (some_half (word_nr plan.words i) word))
  where
    at : (h b : ℕ) → IsWord (word_nr plan.words i) → IsHalf (word_nr plan.words i) h b → covers h (word_nr plan.words i).mask ≡ true → (word_nr plan.words i).address < 2 * length now
    at h b word side has =
        let inside : IsIn (chunk_nr chunks k) b = chunk_has plan from chunks are k i less low high b (gives_half (word_nr plan.words i) h b side has) in
        let top = room k less in
        below_at (word_nr plan.words i) h b (length now) word.even side (let to = inside.to in omega (arith, to, top, size))

    here : IsWord (word_nr plan.words i) → (covers 0 (word_nr plan.words i).mask ≡ true) ⊎ (covers 1 (word_nr plan.words i).mask ≡ true) → (word_nr plan.words i).address < 2 * length now
    here word (inl low_has) = at 0 (word_nr plan.words i).address word (low_half (word_nr plan.words i) word.even) low_has
    here word (inr high_has) = at 1 ((word_nr plan.words i).address + 1) word (high_half (word_nr plan.words i) word.even) high_has

pub lies_same : (words : List WordValue) (before now : List ℕ) (i : ℕ) → length now ≡ length before → WordLies words before i → WordLies words now i
lies_same words before now i size lies = subst (λ n. ((word_nr words i).address % 2 == 0 && nat_lt (word_nr words i).address (2 * n)) ≡ true) (sym size) lies

-- the words before the first chunk are the plan's
pub begins_within : (plan : PlanValue) (from : ℕ) (chunks : List Chunk) → AreChunks plan from chunks → from ≤ length plan.words
begins_within plan from chunks are = let low = are.rising 0 are.some in let high = are.within 0 are.some in omega (arith, low, high)

-- and no chunk has a byte of them
pub first_others : (plan : PlanValue) (from : ℕ) (chunks : List Chunk) → AreChunks plan from chunks → (k i : ℕ) → k < length chunks → i < from →
    (b : ℕ) → gives (word_nr plan.words i) b ≡ true → IsIn (chunk_nr chunks k) b → ⊥
first_others plan from chunks are k i below first b g inside =
    let more = behind_grows plan from chunks are k (omega (arith, below)) in
    chunk_others plan from chunks are k i below (omega (arith, first, more)) b g inside

-- no more words are verified than there are
pub words_within : (plan : PlanValue) (from : ℕ) (chunks : List Chunk) → AreChunks plan from chunks → (done : ℕ) → done ≤ length chunks → words_behind from chunks done ≤ length plan.words
words_within plan from chunks are zero le = begins_within plan from chunks are
words_within plan from chunks are (suc done) le = are.within done (omega (arith, le))

-- the words of the chunks that are done stand, and those before them go on standing
pub words_stand : (plan : PlanValue) (chunks : List Chunk) (before now : List ℕ) (done from : ℕ) → IsPlan plan → AreChunks plan from chunks → done ≤ length chunks → Holds plan.image chunks before done now →
    ((k : ℕ) → k < length chunks → (chunk_nr chunks k).address + (chunk_nr chunks k).size ≤ top_of before) → FirstStand plan.words from before → FirstStand plan.words (words_behind from chunks done) now
words_stand plan chunks before now done from is are within h room first = record {
  lies = λ i below. lies i below (ltb i from) refl;
  stands = λ i below. stands i below (ltb i from) refl;
}
  where
    in_plan : (i : ℕ) → i < words_behind from chunks done → i < length plan.words
    in_plan i below = let all = words_within plan from chunks are done within in omega (arith, below, all)

    lies : (i : ℕ) → i < words_behind from chunks done → (test : Bool) → ltb i from ≡ test → WordLies plan.words now i
    lies i below true less = lies_same plan.words before now i h.size (first.lies i (lower i from less))
    lies i below false more =
        let f = find from chunks i (higher i from more) done below in
        chunk_word_lies plan chunks before now from i f.0 is are h.size room (in_plan i below) (let k = f.1 in omega (arith, k, within)) f.2 f.3

    stands : (i : ℕ) → i < words_behind from chunks done → (test : Bool) → ltb i from ≡ test → Stands (word_nr plan.words i) (word_at now (word_nr plan.words i).address)
    stands i below true less =
        still_stands before now (word_nr plan.words i) (is.each i no_word (in_plan i below)).even
        (λ b gives_b. h.others b (λ k inside_k isin. first_others plan from chunks are k i inside_k (lower i from less) b gives_b isin)) (first.stands i (lower i from less))
    stands i below false more =
        let f = find from chunks i (higher i from more) done below in
        there_stands now (word_nr plan.words i) (is.each i no_word (in_plan i below)).even
        (chunk_word plan chunks before now done from i f.0 is are within h (in_plan i below) f.1 f.2 f.3)
