-- A stub that was planned is found where its words stand.
use Rattle.std.proofs.Common.{◌≡◌, ℕ, zero, suc, ◌+◌, ◌-◌, ◌*◌, ◌/◌, ◌%◌, ◌<◌, ◌≤◌, Bool, true, false, List, [], ◌∷◌, ◌++◌, length, Option, Some, None, unwrap_or, inl, refl, arith, ap, sym, subst, ◌∙◌}
use Rattle.std.proofs.lemmas.List.{get_or_default}
use Rattle.std.proofs.lemmas.List.Elements.{All-head, All-tail, Contains-get_or}
use Rattle.std.proofs.lemmas.List.Folds.{Any-from_list_any}
use Rattle.std.specs.Prelude.{All, slice_index, ◌==◌, if◌then◌else◌, ⊤}
use Rattle.std.specs.List.{list_any}
use Rattle.std.specs.FinMap.{get}
use Rattle.tape_image.specs.Memory.{byte_of, half, top_of}
use Rattle.tape_image.specs.Plan.{PlanValue, IsPlan}
use Rattle.tape_image.specs.Word.{WordValue, gives}
use Rattle.tape_image.proofs.Given.{given_byte-none, gives-address, image_at_word}
use Rattle.odt_machine.specs.Machine.{word_at}
use Rattle.host_core.specs.Core.{no_word, word_nr}
use Rattle.line_world.specs.Safe.{FirstStand}
use Rattle.exchange_core.specs.declared.chunk.Chunk.{Chunk}
use Rattle.exchange_core.specs.declared.stretch.Stretch.{Stretch}
use Rattle.exchange_core.specs.Chunk.{AreChunks, IsIn, chunk_nr, words_behind}
use Rattle.exchange_core.specs.Stretch.{places, places_from}
use Rattle.exchange_core.proofs.Chunks.{behind_rises}
use Rattle.exchange_law.specs.Law.{bytes_of}
use Rattle.exchange_law.specs.Station.{Each}
use Rattle.exchange_law.proofs.Passing.{within_all}
use Rattle.exchange_law.proofs.Words.{lies_below, stands_there}
use Rattle.exchange_core.specs.StubPlan.{IsStubPlan, place_of}
use Rattle.stub.specs.Place.{AreThere, StretchesFit, StubStands, stub_end}
use Rattle.stub.specs.Words.{stub_words}
use Rattle.stub.proofs.Decoding.{are_found}
use Rattle.exchange_law.specs.Start.{bytes_in, program as stub_program}
use Rattle.load_lives.specs.Planned.{PlannedStubsAreStubs}
use Rattle.load_lives.proofs.Storing.{gives_below}

-- ---- where the stretches end

-- each ends at this address, or below it
abbrev AllBelow : ℕ → List Stretch → Type 0
AllBelow top [] = ⊤
AllBelow top (stretch ∷ stretches) = (stretch.to ≤ top) × AllBelow top stretches

-- each address lies below this one
abbrev EachBelow : ℕ → List ℕ → Type 0
EachBelow top those = Each (λ a. a < top) those

below_parts : (top : ℕ) (xs ys : List ℕ) → EachBelow top (xs ++ ys) → EachBelow top xs × EachBelow top ys
below_parts top [] ys all = (tt, all)
below_parts top (x ∷ xs) ys all = let rest = below_parts top xs ys all.1 in ((all.0, rest.0), rest.1)

-- a stretch ends behind its last address
ends_below : (top n a : ℕ) → 0 < n → EachBelow top (places_from n a) → a + n ≤ top
ends_below top zero a some all = absurd (omega (arith, some))
ends_below top (suc zero) a some all = let here = all.0 in omega (arith, here)
ends_below top (suc (suc n)) a some all = let rest = ends_below top (suc n) (a + 1) (omega arith) all.1 in omega (arith, rest)

stretches_below : (top : ℕ) (stretches : List Stretch) → All (λ s. s.from < s.to) stretches → EachBelow top (places stretches) → AllBelow top stretches
stretches_below top [] some all = tt
stretches_below top (s ∷ stretches) some all =
    let parts = below_parts top (places_from (s.to - s.from) s.from) (places stretches) all in
    let rising : s.from < s.to = All-head (λ (t : Stretch). t.from < t.to) s stretches some in (
      (let last = ends_below top (s.to - s.from) s.from (omega (arith, rising)) parts.0 in omega (arith, last, rising)),
      stretches_below top stretches (All-tail (λ (t : Stretch). t.from < t.to) s stretches some) parts.1,
    )

chunks_below : (top : ℕ) (chunks : List Chunk) → ((k : ℕ) → k < length chunks → (chunk_nr chunks k).address + (chunk_nr chunks k).size ≤ top) → EachBelow top (bytes_of chunks)
chunks_below top chunks each = within_all (λ a. a < top) chunks (λ i below b inside. let end = each i below in let to = inside.to in omega (arith, end, to))

-- stretches below the stub fit it
fit_below : (place until top : ℕ) (stretches : List Stretch) → place ≤ top → All (λ s. s.from < s.to) stretches → AllBelow place stretches → StretchesFit place until top stretches
fit_below place until top [] low some all = tt
fit_below place until top (s ∷ stretches) low some all = (
  record { rising = All-head (λ (t : Stretch). t.from < t.to) s stretches some; below = (let end = all.0 in omega (arith, low, end)); apart = inl all.0 },
  fit_below place until top stretches low (All-tail (λ (t : Stretch). t.from < t.to) s stretches some) all.1,
)

-- ---- the chunks lie below the window

chunk_ends : (tape : PlanValue) (from window : ℕ) (chunks : List Chunk) → AreChunks tape from chunks → words_behind from chunks (length chunks) ≡ window → window < length tape.words → (k : ℕ) → k < length chunks →
    (chunk_nr chunks k).address + (chunk_nr chunks k).size ≤ place_of tape window
chunk_ends tape from window chunks are all within k below =
    let c : Chunk = chunk_nr chunks k in
    let b : ℕ = c.address + c.size - 1 in
    let some = (are.each k below).some in
    let inside : IsIn (chunk_nr chunks k) b = record { from = omega (arith, some); to = omega (arith, some) } in
    let given = (are.bytes k b below).0 inside in
    let last : words_behind from chunks (suc k) ≤ window = subst (λ n. words_behind from chunks (suc k) ≤ n) all (up k below) in
    let before : given.0 < window = let less = given.2 in omega (arith, less, last) in
    let rises = are.sound.rising given.0 window no_word before within in
    let even = (are.sound.each given.0 no_word (omega (arith, before, within))).even in
    let even' = (are.sound.each window no_word within).even in
    low (word_nr tape.words given.0).address b (place_of tape window) (c.address + c.size) (gives-address (word_nr tape.words given.0) b given.3) even even' rises (omega (arith, some))
  where
    low : (a b p end : ℕ) → a / 2 ≡ b / 2 → a % 2 ≡ 0 → p % 2 ≡ 0 → a < p → end ≡ b + 1 → end ≤ p
    low a b p end same even even' less is = omega (arith, same, even, even', less, is)

    up : (k : ℕ) → k < length chunks → words_behind from chunks (suc k) ≤ words_behind from chunks (length chunks)
    up k below =
        let there : (length chunks - suc k) + suc k ≡ length chunks = omega (arith, below) in
        subst (λ n. words_behind from chunks (suc k) ≤ words_behind from chunks n) there (behind_rises tape from chunks are (length chunks - suc k) (suc k) (omega (arith, there)))

-- ---- the stub's bytes

-- a word of the plan gives the byte
record IsGivenBy (plan : PlanValue) (b byte : ℕ) : Type 0 where
  pub k : ℕ
  pub below : k < length plan.words
  pub gives_it : gives (word_nr plan.words k) b ≡ true
  pub is : half b (word_nr plan.words k).value ≡ byte

given_by : (plan : PlanValue) (b byte : ℕ) → IsPlan plan → get plan.image b ≡ Some byte → IsGivenBy plan b byte
given_by plan b byte is e = by (list_any (λ w. gives w b) plan.words) refl
  where
    clash : (o : Option ℕ) → o ≡ None → o ≡ Some byte → ⊥
    clash o f g = absurd (cc (sym f ∙ g))

    same : (a c : ℕ) → Some a ≡ Some c → a ≡ c
    same a c f = cc f

    by : (test : Bool) → list_any (λ w. gives w b) plan.words ≡ test → IsGivenBy plan b byte
    by false f = absurd (clash (get plan.image b) (is.image_of_words b ∙ given_byte-none plan.words b f) e)
    by true f =
        let any = Any-from_list_any (λ w. gives w b) plan.words f in
        let it : gives (word_nr plan.words any.0) b ≡ true = subst (λ (w : WordValue). gives w b ≡ true) (sym (get_or_default plan.words any.0 no_word any.1 any.2 ∙ any.3)) any.4 in
        let value = image_at_word plan (word_nr plan.words any.0) b is (Contains-get_or plan.words any.0 no_word any.2) it in
        record { k = any.0; below = any.2; gives_it = it; is = same (half b (word_nr plan.words any.0).value) byte (sym value ∙ e) }

-- where all words of the plan stand, so does each byte of its image
record StandsAt (memory : List ℕ) (b byte : ℕ) : Type 0 where
  pub is : byte_of memory b ≡ byte
  pub below : b < top_of memory

byte_stands : (plan : PlanValue) (memory : List ℕ) (b byte : ℕ) → IsPlan plan → FirstStand plan.words (length plan.words) memory → get plan.image b ≡ Some byte → StandsAt memory b byte
byte_stands plan memory b byte is all e =
    let g = given_by plan b byte is e in record {
      is = stands_there memory (word_nr plan.words g.k) (all.stands g.k g.below) b g.gives_it ∙ g.is;
      below = gives_below memory (word_nr plan.words g.k) b (all.lies g.k g.below) g.gives_it;
    }

half_even : (b word : ℕ) → b % 2 ≡ 0 → half b word ≡ word % 256
half_even b word even = ap (λ (n : ℕ). if n == 0 then word % 256 else word / 256) even

half_odd : (b word : ℕ) → b % 2 ≡ 1 → half b word ≡ word / 256
half_odd b word odd = ap (λ (n : ℕ). if n == 0 then word % 256 else word / 256) odd

word_stands : (tape : PlanValue) (from window : ℕ) (words : List ℕ) (stub : PlanValue) (memory : List ℕ) → IsStubPlan tape from window words stub → place_of tape window % 2 ≡ 0 → FirstStand stub.words (length stub.words) memory →
    AreThere memory (place_of tape window) words
word_stands tape from window words stub memory s even all i less =
    let place : ℕ = place_of tape window in
    let a : ℕ = place + 2 * i in
    let low : StandsAt memory a (half a (slice_index words ((a - place) / 2))) = byte_stands stub memory a _ s.sound all (s.code a (record { from = omega arith; to = omega (arith, less) })) in
    let high : StandsAt memory (a + 1) (half (a + 1) (slice_index words ((a + 1 - place) / 2))) = byte_stands stub memory (a + 1) _ s.sound all (s.code (a + 1) (record { from = omega arith; to = omega (arith, less) })) in
    let n = numbers place i even in (
      lies_below memory a n.0 (let below = low.below in omega (arith, below)),
      same (word_at memory a) (slice_index words i)
          (sym (half_even a (word_at memory a) n.0) ∙ (low.is ∙ (half_even a (slice_index words ((a - place) / 2)) n.0 ∙ ap (λ j. slice_index words j % 256) n.1)))
          (ap (λ j. slice_index memory j / 256) (sym n.2) ∙ (sym (half_odd (a + 1) (slice_index memory ((a + 1) / 2)) n.3) ∙ (high.is ∙ (half_odd (a + 1) (slice_index words ((a + 1 - place) / 2)) n.3 ∙ ap (λ j. slice_index words j / 256) n.4)))),
    )
  where
    numbers : (p i : ℕ) → p % 2 ≡ 0 → ((p + 2 * i) % 2 ≡ 0) × ((p + 2 * i - p) / 2 ≡ i) × ((p + 2 * i + 1) / 2 ≡ (p + 2 * i) / 2) × ((p + 2 * i + 1) % 2 ≡ 1) × ((p + 2 * i + 1 - p) / 2 ≡ i)
    numbers p i even = (omega (arith, even), omega arith, omega (arith, even), omega (arith, even), omega arith)

    same : (a b : ℕ) → a % 256 ≡ b % 256 → a / 256 ≡ b / 256 → a ≡ b
    same a b low high = omega (arith, low, high)

-- ---- the stub is found

no_bytes : (chunks : List Chunk) → 0 < length chunks → 0 < (chunk_nr chunks 0).size → [] ≡ bytes_of chunks → ⊥
no_bytes [] some first e = absurd (omega (arith, some))
no_bytes (c ∷ chunks) some first e = by (c.address + c.size - c.address) (counts c.address c.size first) e
  where
    counts : (a n : ℕ) → 0 < n → 0 < a + n - a
    counts a n some = omega (arith, some)

    by : (n : ℕ) → 0 < n → [] ≡ places_from n c.address ++ bytes_of chunks → ⊥
    by zero some e = absurd (omega (arith, some))
    by (suc n) some e = absurd (cc e)

bytes_found : (stretches : List Stretch) (chunks : List Chunk) → 0 < length chunks → 0 < (chunk_nr chunks 0).size → places stretches ≡ bytes_of chunks → bytes_in (Some stretches) ≡ Some (bytes_of chunks)
bytes_found [] chunks some first are = absurd (no_bytes chunks some first are)
bytes_found (s ∷ stretches) chunks some first are = ap (λ list. Some list) are

pub planned_stubs : PlannedStubsAreStubs
planned_stubs tape from window chunks stretches stub p = record {
  plan = p.stub_is.sound;
  inside = p.behind.inside;
  behind = p.behind.behind;
  words = are;
  code = record {
    lies = λ memory all. ap (λ a. stub_program memory a) (ap (λ start. unwrap_or start 0) p.stub_is.start)
        ∙ (ap bytes_in ((are_found memory place stretches).1 (stands memory all)) ∙ bytes_found stretches chunks are.some (are.each 0 are.some).some p.stretches_are.places_are);
    above = λ k below. let at = first_word in (
      at.k,
      at.below,
      high (chunk_nr chunks k) (word_nr stub.words at.k).address (ends k below) (gives-address (word_nr stub.words at.k) place at.gives_it)
          (p.stub_is.sound.each at.k no_word at.below).even,
    );
  };
}
  where
    place : ℕ
    place = place_of tape window

    are : AreChunks tape from chunks
    are = p.chunks_are.are

    within : window < length tape.words
    within = let w = p.window_is.within in omega (arith, w)

    even : place_of tape window % 2 ≡ 0
    even = (p.chunks_are.are.sound.each window no_word within).even

    ends : (k : ℕ) → k < length chunks → (chunk_nr chunks k).address + (chunk_nr chunks k).size ≤ place_of tape window
    ends = chunk_ends tape from window chunks p.chunks_are.are p.chunks_are.all within

    low : AllBelow (place_of tape window) stretches
    low = stretches_below (place_of tape window) stretches p.stretches_are.some (subst (EachBelow (place_of tape window)) (sym p.stretches_are.places_are) (chunks_below (place_of tape window) chunks ends))

    first_byte : get stub.image (place_of tape window) ≡ Some (half (place_of tape window) (slice_index (stub_words (place_of tape window) stretches) ((place_of tape window - place_of tape window) / 2)))
    first_byte = p.stub_is.code (place_of tape window) (record { from = omega arith; to = omega arith })

    first_word : IsGivenBy stub (place_of tape window) (half (place_of tape window) (slice_index (stub_words (place_of tape window) stretches) ((place_of tape window - place_of tape window) / 2)))
    first_word = given_by stub (place_of tape window) _ p.stub_is.sound first_byte

    high : (c : Chunk) (a : ℕ) → c.address + c.size ≤ place_of tape window → a / 2 ≡ place_of tape window / 2 → a % 2 ≡ 0 → c.address + c.size ≤ a + 2
    high c a end same even_a = omega (arith, end, same, even_a)

    stands : (memory : List ℕ) → FirstStand stub.words (length stub.words) memory → StubStands memory (place_of tape window) stretches
    stands memory all =
        let first = byte_stands stub memory (place_of tape window) _ p.stub_is.sound all first_byte in record {
          words = word_stands tape from window (stub_words (place_of tape window) stretches) stub memory p.stub_is even all;
          fit = fit_below (place_of tape window) (stub_end (place_of tape window) stretches) (top_of memory) stretches (let below = first.below in omega (arith, below)) p.stretches_are.some low;
        }
