-- The blocks of soundings.
use Rattle.std.proofs.Common.{◌≡◌, ℕ, zero, suc, ◌+◌, ◌-◌, ◌/◌, ◌%◌, ◌^◌, ◌<◌, ◌≤◌, ◌⊎◌, true, List, [], ◌∷◌, ◌++◌, length, get_or, Option, Some, None, inl, inr, refl, arith, ap, sym, subst, ◌∙◌}
use Rattle.std.specs.Prelude.{All, IsSome, ◌==◌, if◌then◌else◌}
use Rattle.std.specs.Option.{option_or}
use Rattle.std.specs.FinMap.{get}
use Rattle.std.proofs.lemmas.Bool.{cases_eq}
use Rattle.std.proofs.lemmas.List.Elements.{All-nil, All-cons, All-push, Contains-get_or}
use Rattle.std.proofs.lemmas.List.Sums.{sum_by_push}
use Rattle.tape_values.specs.Block.{BlockValue, HoldsBytes, IsBlock, block_at, low_first}
use Rattle.tape_values.specs.Tape.{written_length}
use Rattle.tape_image.specs.Image.{byte_at, byte_in}
use Rattle.tape_image.specs.Memory.{half}
use Rattle.tape_image.specs.Plan.{PlanValue, IsPlan}
use Rattle.tape_image.specs.Word.{WordValue, IsWord, gives}
use Rattle.tape_image.proofs.Blocks.{before, behind, byte_in-before, byte_in-behind, byte_in-inside, inside, part_of}
use Rattle.tape_image.proofs.Given.{image_at_word}
use Rattle.tape_image.proofs.Laying.{byte_at-append}
use Rattle.host_core.specs.Core.{no_word, word_nr}
use Rattle.exchange_core.proofs.Chunks.{words_apart}
use Rattle.exchange_core.specs.StubPlan.{AreSoundingsBefore, IsSounding, block_of}
use Rattle.exchange_core.proofs.Bytes.{AreBytes, IsAt, at_given, given_at, in_word, of_both, of_high, of_low}

-- ---- the block of a word

-- a block with these bytes at this place is the word's: each is the half that is told there
pub record Holds (w : WordValue) (block : BlockValue) : Type 0 where
  pub is : IsBlock block
  pub holds : HoldsBytes block
  pub few : length block.bytes ≤ 2
  pub own : (b : ℕ) → IsAt w b → byte_in block b ≡ Some (half b w.value)
  pub only : (b : ℕ) → IsSome (byte_in block b) → IsAt w b

-- a block has bytes where it is, and nowhere else
pub block_only : (from : ℕ) (bytes : List ℕ) (b : ℕ) → IsSome (byte_in (block_at from bytes) b) → (from ≤ b) × (b < from + length bytes)
block_only from bytes b some = elim (part_of from (length bytes) b) [
  | before less ↦ absurd (cc (subst IsSome (byte_in-before from bytes b less) some))
  | inside least less ↦ (least, less)
  | behind more ↦ absurd (cc (subst IsSome (byte_in-behind from bytes b more) some))
]

holds_all : (w : WordValue) (from : ℕ) (bytes : List ℕ) → IsWord w → AreBytes w from (from + length bytes) → 0 < length bytes → length bytes ≤ 2 → All (λ n. n < 2 ^ 8) bytes →
    ((i : ℕ) → i < length bytes → get_or bytes i 0 ≡ half (from + i) w.value) → Holds w (block_at from bytes)
holds_all w from bytes is are some few small each = record {
  is = record { not_empty = some; below_top = (let e = are.end in let high = (in_word w is).high in let even = is.even in let below = is.below in omega (arith, e, high, even, below)) };
  holds = small;
  few = few;
  own = λ b at. own b (let f = at.from in let e = are.begin in omega (arith, f, e)) (let t = at.to in let e = are.end in omega (arith, t, e));
  only = λ b some. let within = block_only from bytes b some in record { from = (let e = are.begin in omega (arith, e, within.0)); to = (let e = are.end in omega (arith, e, within.1)) };
}
  where
    own : (b : ℕ) → from ≤ b → b < from + length bytes → byte_in (block_at from bytes) b ≡ Some (half b w.value)
    own b least less =
        let there : from + (b - from) ≡ b = omega (arith, least) in
        byte_in-inside from bytes b least less ∙ ap (λ n. Some n) (each (b - from) (omega (arith, least, less)) ∙ ap (λ a. half a w.value) there)

pub even_half : (b n : ℕ) → b % 2 ≡ 0 → half b n ≡ n % 256
even_half b n even = ap (λ (r : ℕ). if r == 0 then n % 256 else n / 256) even

pub odd_half : (b n : ℕ) → b % 2 ≡ 1 → half b n ≡ n / 256
odd_half b n odd = ap (λ (r : ℕ). if r == 0 then n % 256 else n / 256) odd

byte_all : (n : ℕ) → n < 256 → All (λ n. n < 2 ^ 8) (n ∷ [])
byte_all n small = All-cons (λ n. n < 2 ^ 8) n [] small (All-nil (λ n. n < 2 ^ 8))

pub block_holds : (w : WordValue) → IsWord w → Holds w (block_of w)
block_holds w is = elim is.inside.one_mask [
  | inl only ↦ subst (Holds w) (sym (of_mask 0o377 only)) (holds_all w w.address (w.value % 256 ∷ []) is (of_low w only) (omega arith) (omega arith) (byte_all (w.value % 256) (omega arith)) (λ i less. one_low i less))
  | inr (inl only) ↦ subst (Holds w) (sym (of_mask 0o177400 only)) (holds_all w (w.address + 1) (w.value / 256 ∷ []) is (up (of_high w only)) (omega arith) (omega arith) (byte_all (w.value / 256) (let fits = is.fits in omega (arith, fits))) (λ i less. one_high i less))
  | inr (inr whole) ↦
      subst (Holds w) (sym (of_mask 0o177777 whole))
      (holds_all w w.address (low_first w.value) is (of_both w whole) (omega arith) (omega arith)
      (All-cons (λ n. n < 2 ^ 8) (w.value % 256) (w.value / 256 ∷ []) (omega arith) (byte_all (w.value / 256) (let fits = is.fits in omega (arith, fits)))) (λ i less. two i less))
]
  where
    of_mask : (m : ℕ) → w.mask ≡ m → block_of w ≡ block_at (if m == 0o177400 then w.address + 1 else w.address) (if m == 0o377 then w.value % 256 ∷ [] else if m == 0o177400 then w.value / 256 ∷ [] else low_first w.value)
    of_mask m e = ap (λ m. block_at (if m == 0o177400 then w.address + 1 else w.address) (if m == 0o377 then w.value % 256 ∷ [] else if m == 0o177400 then w.value / 256 ∷ [] else low_first w.value)) e

    up : AreBytes w (w.address + 1) (w.address + 2) → AreBytes w (w.address + 1) (w.address + 1 + 1)
    up are = record { begin = are.begin; end = (let e = are.end in omega (arith, e)) }

    one_low : (i : ℕ) → i < 1 → get_or (w.value % 256 ∷ []) i 0 ≡ half (w.address + i) w.value
    one_low zero less = sym (even_half (w.address + 0) w.value (let even = is.even in omega (arith, even)))
    one_low (suc i) less = absurd (omega (arith, less))

    one_high : (i : ℕ) → i < 1 → get_or (w.value / 256 ∷ []) i 0 ≡ half (w.address + 1 + i) w.value
    one_high zero less = sym (odd_half (w.address + 1 + 0) w.value (let even = is.even in omega (arith, even)))
    one_high (suc i) less = absurd (omega (arith, less))

    two : (i : ℕ) → i < 2 → get_or (low_first w.value) i 0 ≡ half (w.address + i) w.value
    two zero less = sym (even_half (w.address + 0) w.value (let even = is.even in omega (arith, even)))
    two (suc zero) less = sym (odd_half (w.address + 1) w.value (let even = is.even in omega (arith, even)))
    two (suc (suc i)) less = absurd (omega (arith, less))

-- ---- one sounding more

either : (o p : Option ℕ) → IsSome (option_or o p) → IsSome o ⊎ IsSome p
either None p some = inr some
either (Some x) p some = inl refl

-- of an optional byte: there is one, or none
pub some_or_none : (o : Option ℕ) → IsSome o ⊎ (o ≡ None)
some_or_none None = inr refl
some_or_none (Some x) = inl refl

-- behind the others
pub behind_others : (blocks : List BlockValue) (block : BlockValue) (b : ℕ) → byte_at (blocks ++ block ∷ []) b ≡ option_or (byte_in block b) (byte_at blocks b)
behind_others blocks block b = byte_at-append blocks (block ∷ []) b

pub with_block : (blocks : List BlockValue) (block : BlockValue) → written_length (blocks ++ block ∷ []) ≡ written_length blocks + (7 + length block.bytes)
with_block blocks block = let more = sum_by_push (λ (b : BlockValue). 7 + length b.bytes) blocks block in omega (arith, more)

pub sounding_more : (plan : PlanValue) (from to n : ℕ) (blocks : List BlockValue) → IsPlan plan → to ≤ length plan.words → IsSounding from to n → AreSoundingsBefore plan from to n blocks →
    AreSoundingsBefore plan from to (n + 1) (blocks ++ block_of (word_nr plan.words n) ∷ [])
sounding_more plan from to n blocks is within sounding are = record {
  each = All-push IsBlock blocks (block_of w) are.each holds.is;
  holds = All-push HoldsBytes blocks (block_of w) are.holds holds.holds;
  short = (let short = are.short in let few = holds.few in let more = with_block blocks (block_of w) in let begins = sounding.begins in omega (arith, short, few, more, begins));
  sounded = λ j this less b g. behind_others blocks (block_of w) b ∙ here j this less b g;
  others = λ b some. elim (either (byte_in (block_of w) b) (byte_at blocks b) (subst IsSome (behind_others blocks (block_of w) b) some)) [
    | inl new ↦ (n, sounding, at_given w word b (holds.only b new))
    | inr old ↦ are.others b old
  ];
}
  where
    w : WordValue
    w = word_nr plan.words n

    below : n < length plan.words
    below = let ends = sounding.ends in omega (arith, ends, within)

    word : IsWord w
    word = is.each n no_word below

    holds : Holds w (block_of w)
    holds = block_holds w word

    in_image : (j : ℕ) → j < length plan.words → (b : ℕ) → gives (word_nr plan.words j) b ≡ true → get plan.image b ≡ Some (half b (word_nr plan.words j).value)
    in_image j less b g = image_at_word plan (word_nr plan.words j) b is (Contains-get_or plan.words j no_word less) g

    here : (j : ℕ) → IsSounding from to j → j < n + 1 → (b : ℕ) → gives (word_nr plan.words j) b ≡ true → option_or (byte_in (block_of w) b) (byte_at blocks b) ≡ get plan.image b
    here j this less b g = elim (cases_eq j n) [
      | inl same ↦
          (let g' : gives w b ≡ true = subst (λ k. gives (word_nr plan.words k) b ≡ true) same g in
          ap (λ o. option_or o (byte_at blocks b)) (holds.own b (given_at w word b g')) ∙ sym (in_image n below b g'))
      | inr apart ↦ elim (some_or_none (byte_in (block_of w) b)) [
        | inl new ↦ absurd (words_apart plan j n b is (omega (arith, less, apart)) below g (at_given w word b (holds.only b new)))
        | inr none ↦ ap (λ o. option_or o (byte_at blocks b)) none ∙ are.sounded j this (omega (arith, less, apart)) b g
      ]
    ]

pub no_sounding : (plan : PlanValue) (from to n : ℕ) (blocks : List BlockValue) → (IsSounding from to n → ⊥) → from ≤ n → AreSoundingsBefore plan from to n blocks → AreSoundingsBefore plan from to (n + 1) blocks
no_sounding plan from to n blocks other begins are = record {
  each = are.each;
  holds = are.holds;
  short = (let short = are.short in omega (arith, short, begins));
  sounded = λ j this less b g. elim (cases_eq j n) [
    | inl same ↦ absurd (other (subst (IsSounding from to) same this))
    | inr apart ↦ are.sounded j this (omega (arith, less, apart)) b g
  ];
  others = are.others;
}
