-- The tape and the plan of a stub.
use Rattle.std.proofs.Common.{◌≡◌, ℕ, zero, suc, ◌+◌, ◌-◌, ◌*◌, ◌/◌, ◌%◌, ◌^◌, ◌<◌, ◌≤◌, ◌⊎◌, true, List, [], ◌∷◌, ◌++◌, length, get_or, Some, None, Result, Ok, Err, inl, inr, refl, arith, ap, sym, subst, ◌∙◌}
use Rattle.std.specs.Prelude.{All, IfOk, IsSome, ◌==◌, if◌then◌else◌, slice_index}
use Rattle.std.specs.List.{flat_map}
use Rattle.std.specs.Option.{option_or}
use Rattle.std.specs.FinMap.{get}
use Rattle.std.proofs.lemmas.Bool.{eq-eqb}
use Rattle.std.proofs.lemmas.List.Elements.{All-nil, All-cons, All-head, All-push, All-tail, Contains-get_or}
use Rattle.tape_values.specs.Block.{BlockValue, HoldsBytes, IsBlock, block_at, low_first, top}
use Rattle.tape_values.specs.Tape.{IsSound, TapeValue}
use Rattle.tape_image.specs.Image.{IsImageOf, byte_at, byte_in}
use Rattle.tape_image.specs.Memory.{half}
use Rattle.tape_image.specs.Plan.{PlanValue, IsPlan, plan_of, program_start}
use Rattle.tape_image.specs.Word.{WordValue, gives}
use Rattle.tape_image.proofs.Blocks.{before, behind, byte_in-inside, inside, part_of}
use Rattle.tape_image.proofs.Given.{image_at_word}
use Rattle.host_core.specs.Core.{no_word, word_nr}
use Rattle.exchange_core.proofs.Chunks.{words_apart}
use Rattle.exchange_core.specs.StubPlan.{AreSoundings, IsOfStub, IsStubPlan, IsStubTape, LiesBehind, place_of}
use Rattle.exchange_core.specs.Window.{AreTogether, IsWindow}
use Rattle.exchange_core.proofs.Bytes.{at_given, of_both}
use Rattle.exchange_core.proofs.Soundings.{behind_others, block_only, some_or_none, with_block}

-- ---- the words of the window

-- words that are together lie one behind the other
stands_at : (words : List WordValue) (i n k : ℕ) → AreTogether words i n → k + i < n → (word_nr words (k + i)).address ≡ (word_nr words i).address + 2 * k
stands_at words i n zero are less = let none : i ≡ 0 + i = omega arith in subst (λ m. (word_nr words m).address ≡ (word_nr words i).address + 2 * 0) none (omega arith)
stands_at words i n (suc k) are less =
    let before = stands_at words i n k are (omega (arith, less)) in
    let step = are.next (k + i) (omega arith) (omega (arith, less)) in
    let one : k + i + 1 ≡ suc k + i = omega arith in
    let there : (word_nr words (k + i + 1)).address ≡ (word_nr words i).address + 2 * suc k = omega (arith, before, step) in
    subst (λ m. (word_nr words m).address ≡ (word_nr words i).address + 2 * suc k) one there

-- ---- the stub's bytes

bytes_length : (words : List ℕ) → length (flat_map low_first words) ≡ 2 * length words
bytes_length [] = refl
bytes_length (w ∷ words) = omega (arith, bytes_length words)

all_bytes : (words : List ℕ) → All (λ n. n < 65536) words → All (λ n. n < 2 ^ 8) (flat_map low_first words)
all_bytes [] small = All-nil (λ n. n < 2 ^ 8)
all_bytes (w ∷ words) small =
    let fits = All-head (λ n. n < 65536) w words small in
    All-cons (λ n. n < 2 ^ 8) (w % 256) (w / 256 ∷ flat_map low_first words) (omega arith)
    (All-cons (λ n. n < 2 ^ 8) (w / 256) (flat_map low_first words) (omega (arith, fits)) (all_bytes words (All-tail (λ n. n < 65536) w words small)))

-- the byte at a place is a half of its word
byte_nr : (words : List ℕ) (i : ℕ) → i < 2 * length words → get_or (flat_map low_first words) i 0 ≡ half i (get_or words (i / 2) 0)
byte_nr [] i less = absurd (omega (arith, less))
byte_nr (w ∷ words) zero less = refl
byte_nr (w ∷ words) (suc zero) less = refl
byte_nr (w ∷ words) (suc (suc i)) less =
    let place : suc (suc i) / 2 ≡ suc (i / 2) = omega arith in
    let side : suc (suc i) % 2 ≡ i % 2 = omega arith in
    byte_nr words i (omega (arith, less))
    ∙ (ap (λ (r : ℕ). if r == 0 then get_or words (i / 2) 0 % 256 else get_or words (i / 2) 0 / 256) (sym side) ∙ ap (λ k. half (suc (suc i)) (get_or (w ∷ words) k 0)) (sym place))

stub_byte : (place : ℕ) (words : List ℕ) (b : ℕ) → place % 2 ≡ 0 → IsOfStub place words b → byte_in (block_at place (flat_map low_first words)) b ≡ Some (half b (slice_index words ((b - place) / 2)))
stub_byte place words b even is =
    byte_in-inside place (flat_map low_first words) b is.from (let t = is.to in omega (arith, t, bytes_length words))
    ∙ ap (λ n. Some n) (byte_nr words (b - place) (let f = is.from in let t = is.to in omega (arith, f, t)) ∙ ap (λ (r : ℕ). if r == 0 then get_or words ((b - place) / 2) 0 % 256 else get_or words ((b - place) / 2) 0 / 256) (let f = is.from in let side : (b - place) % 2 ≡ b % 2 = omega (arith, f, even) in side))

no_stub_byte : (place : ℕ) (words : List ℕ) (b : ℕ) → (IsOfStub place words b → ⊥) → byte_in (block_at place (flat_map low_first words)) b ≡ None
no_stub_byte place words b not_there = elim (some_or_none (byte_in (block_at place (flat_map low_first words)) b)) [
  | inl some ↦ (let within = block_only place (flat_map low_first words) b some in absurd (not_there (record { from = within.0; to = omega (arith, within.1, bytes_length words) })))
  | inr none ↦ none
]

-- ---- the tape

pub place_even : (plan : PlanValue) (from size window : ℕ) → IsPlan plan → IsWindow plan.words from size window → 0 < size → (place_of plan window % 2 ≡ 0) × (place_of plan window + 2 * size ≤ top)
place_even plan from size window is w some =
    let first = is.each window no_word (let within = w.within in omega (arith, within, some)) in
    let even = first.even in
    (even, below (size - 1) (omega (arith, some)))
  where
    below : (k : ℕ) → size ≡ k + 1 → place_of plan window + 2 * size ≤ top
    below k count =
        let last = is.each (k + window) no_word (let within = w.within in omega (arith, within, count)) in
        let there = stands_at plan.words window (window + size) k w.together (omega (arith, count)) in
        let less = last.below in
        let even = last.even in
        omega (arith, there, less, even, count)

pub sound_tape : (plan : PlanValue) (from window : ℕ) (words : List ℕ) (soundings : List BlockValue) → IsPlan plan → IsWindow plan.words from (length words) window → 0 < length words → All (λ n. n < 65536) words →
    AreSoundings plan from window soundings → IsSound (record { blocks = soundings ++ block_at (place_of plan window) (flat_map low_first words) ∷ []; start = place_of plan window })
sound_tape plan from window words soundings is w some small are = record {
  each_block = All-push IsBlock soundings code are.each (record { not_empty = omega (arith, bytes_length words, some); below_top = omega (arith, bytes_length words, place.1) });
  each_byte = All-push HoldsBytes soundings code are.holds (all_bytes words small);
  within = (let more = with_block soundings code in let short = are.short in let few = is.few in let within = w.within in omega (arith, more, short, few, within, bytes_length words));
  start_word = omega (arith, place.1);
}
  where
    code : BlockValue
    code = block_at (place_of plan window) (flat_map low_first words)

    place : (place_of plan window % 2 ≡ 0) × (place_of plan window + 2 * length words ≤ top)
    place = place_even plan from (length words) window is w some

-- ---- the plan

-- a byte of the stub is one of a word of the window
in_window : (plan : PlanValue) (from window : ℕ) (words : List ℕ) (b : ℕ) → IsPlan plan → IsWindow plan.words from (length words) window → IsOfStub (place_of plan window) words b →
    (j : ℕ) × (window ≤ j) × (j < length plan.words) × (gives (word_nr plan.words j) b ≡ true)
in_window plan from window words b is w there = at ((b - place_of plan window) / 2) refl
  where
    at : (k : ℕ) → (b - place_of plan window) / 2 ≡ k → (j : ℕ) × (window ≤ j) × (j < length plan.words) × (gives (word_nr plan.words j) b ≡ true)
    at k half_is =
        let f = there.from in
        let t = there.to in
        let within = w.within in
        let less : k < length words = omega (arith, half_is, f, t) in
        let low = is.each (k + window) no_word (omega (arith, within, less)) in
        let lies = stands_at plan.words window (window + length words) k w.together (omega (arith, less)) in
        let both = of_both (word_nr plan.words (k + window)) (w.together.whole (k + window) (omega arith) (omega (arith, less))) in (
          k + window,
          omega arith,
          omega (arith, within, less),
          at_given (word_nr plan.words (k + window)) low b (record { from = (let e = both.begin in omega (arith, e, lies, half_is, f)); to = (let e = both.end in omega (arith, e, lies, half_is, f)) }),
        )

-- so no word before it gives one
not_before : (plan : PlanValue) (from window : ℕ) (words : List ℕ) (i b : ℕ) → IsPlan plan → IsWindow plan.words from (length words) window → i < window → gives (word_nr plan.words i) b ≡ true → IsOfStub (place_of plan window) words b → ⊥
not_before plan from window words i b is w less g there =
    let (j, least, within, g') = in_window plan from window words b is w there in
    words_apart plan i j b is (omega (arith, less, least)) within g g'

pub stub_is : (plan : PlanValue) (from window : ℕ) (words : List ℕ) (tape : TapeValue) (stub : PlanValue) → IsWindow plan.words from (length words) window → 0 < length words → IsStubTape plan from window words tape →
    stub ≡ plan_of tape → IsImageOf tape.blocks stub.image → IsPlan stub → IsStubPlan plan from window words stub
stub_is plan from window words tape stub w some made is image sound = record {
  sound = sound;
  start = ap (λ (p : PlanValue). p.start) is ∙ (ap program_start made.start_is ∙ ap (λ t. if t then Some (place_of plan window) else None) (eq-eqb (place_of plan window % 2) 0 place.0));
  code = λ b there. bytes b ∙ ap (λ o. option_or o (byte_at made.soundings b)) (stub_byte (place_of plan window) words b place.0 there);
  sounded = λ j sounding b g.
      bytes b ∙ (ap (λ o. option_or o (byte_at made.soundings b)) (no_stub_byte (place_of plan window) words b (not_before plan from window words j b made.sound w sounding.ends g)) ∙ made.are.sounded j sounding sounding.ends b g);
  others = λ b not_there has. made.are.others b (subst IsSome (bytes b ∙ ap (λ o. option_or o (byte_at made.soundings b)) (no_stub_byte (place_of plan window) words b not_there)) has);
}
  where
    place : (place_of plan window % 2 ≡ 0) × (place_of plan window + 2 * length words ≤ top)
    place = place_even plan from (length words) window made.sound w some

    bytes : (b : ℕ) → get stub.image b ≡ option_or (byte_in (block_at (place_of plan window) (flat_map low_first words)) b) (byte_at made.soundings b)
    bytes b = image b ∙ (ap (λ blocks. byte_at blocks b) made.blocks_are ∙ behind_others made.soundings (block_at (place_of plan window) (flat_map low_first words)) b)

-- an address is the stub's, or is not
is_or_not : (place : ℕ) (words : List ℕ) (b : ℕ) → IsOfStub place words b ⊎ (IsOfStub place words b → ⊥)
is_or_not place words b = elim (part_of place (2 * length words) b) [
  | before less ↦ inr (λ there. let f = there.from in absurd (omega (arith, f, less)))
  | inside least less ↦ inl (record { from = least; to = less })
  | behind more ↦ inr (λ there. let t = there.to in absurd (omega (arith, t, more)))
]

pub lies_behind : (plan : PlanValue) (from window : ℕ) (words : List ℕ) (stub : PlanValue) → IsPlan plan → IsWindow plan.words from (length words) window → IsStubPlan plan from window words stub → LiesBehind plan from stub
lies_behind plan from window words stub is w p = record {
  inside = λ b has. elim (is_or_not (place_of plan window) words b) [
    | inl there ↦ (let (j, least, within, g) = in_window plan from window words b is w there in in_image j b within g)
    | inr not_there ↦ (let (j, sounding, g) = p.others b not_there has in in_image j b (let e = sounding.ends in let v = w.within in omega (arith, e, v)) g)
  ];
  behind = λ i less b g. elim (some_or_none (get stub.image b)) [
    | inr none ↦ none
    | inl has ↦ absurd (elim (is_or_not (place_of plan window) words b) [
      | inl there ↦ not_before plan from window words i b is w (let v = w.behind in omega (arith, v, less)) g there
      | inr not_there ↦ (let (j, sounding, g') = p.others b not_there has in words_apart plan i j b is (let s = sounding.begins in omega (arith, s, less)) (let e = sounding.ends in let v = w.within in omega (arith, e, v)) g g')
    ])
  ];
}
  where
    in_image : (j b : ℕ) → j < length plan.words → gives (word_nr plan.words j) b ≡ true → IsSome (get plan.image b)
    in_image j b within g = subst IsSome (sym (image_at_word plan (word_nr plan.words j) b is (Contains-get_or plan.words j no_word within) g)) refl

-- where a plan is made of the tape
pub ok_stub : {E : Type 0} (r : Result PlanValue E) (plan : PlanValue) (from window : ℕ) (words : List ℕ) (tape : TapeValue) → IsWindow plan.words from (length words) window → 0 < length words → IsStubTape plan from window words tape →
    IfOk r (λ stub. stub ≡ plan_of tape) → IfOk r (λ stub. IsImageOf tape.blocks stub.image) → IfOk r IsPlan → IfOk r (IsStubPlan plan from window words)
ok_stub {E} (Ok stub) plan from window words tape w some made is image sound = stub_is plan from window words tape stub w some made is image sound
ok_stub {E} (Err fault) plan from window words tape w some made is image sound = tt

pub ok_behind : {E : Type 0} (r : Result PlanValue E) (plan : PlanValue) (from window : ℕ) (words : List ℕ) → IsPlan plan → IsWindow plan.words from (length words) window → IfOk r (IsStubPlan plan from window words) → IfOk r (LiesBehind plan from)
ok_behind {E} (Ok stub) plan from window words is w p = lies_behind plan from window words stub is w p
ok_behind {E} (Err fault) plan from window words is w p = tt
