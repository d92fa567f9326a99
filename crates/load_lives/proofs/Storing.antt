-- Bytes of a tape's image behind its first words.
use Rattle.std.proofs.Common.{◌≡◌, ℕ, suc, ◌+◌, ◌*◌, ◌%◌, ◌<◌, ◌≤◌, ◌⊎◌, Bool, true, false, List, [], ◌∷◌, length, drop, Option, Some, None, inl, inr, refl, arith, ap, sym, subst, ◌∙◌}
use Rattle.std.proofs.lemmas.Bool.{and_parts, eqb-true}
use Rattle.std.proofs.lemmas.Bool.Decides.{nat_tests}
use Rattle.std.proofs.lemmas.List.{get_or-drop, length-drop}
use Rattle.std.proofs.lemmas.List.Elements.{Contains-get_or}
use Rattle.std.specs.Prelude.{◌==◌, nat_lt, IsSome}
use Rattle.std.specs.FinMap.{get}
use Rattle.tape_image.specs.Memory.{byte_of, half, top_of}
use Rattle.tape_image.specs.Plan.{PlanValue, IsPlan}
use Rattle.tape_image.specs.Word.{WordValue, gives}
use Rattle.tape_image.proofs.Given.{gives-address, image_at_word}
use Rattle.tape_image.proofs.Standing.{byte_of-with_word_cases}
use Rattle.odt_machine.specs.Machine.{is_word}
use Rattle.host_core.specs.Core.{no_word, word_nr}
use Rattle.line_world.specs.Safe.{FirstStand}
use Rattle.line_world.specs.Site.{Ground}
use Rattle.line_world.proofs.Keys.{Stores}
use Rattle.line_world.proofs.Taking.{stores_length}
use Rattle.exchange_core.specs.declared.chunk.Chunk.{Chunk}
use Rattle.exchange_core.specs.Chunk.{AreChunks, IsIn, chunk_nr, no_chunk, words_behind}
use Rattle.exchange_law.specs.Station.{Program}
use Rattle.exchange_law.specs.Line.{Link}
use Rattle.exchange_law.specs.Unsettled.{IsAmong, IsUnsettled, MayFill, Untouched}
use Rattle.odt_machine.specs.declared.mode.Mode.{Mode}
use Rattle.exchange_law.specs.Station.{Stub}
use Rattle.exchange_core.proofs.Chunks.{chunk_has, chunks_apart}
use Rattle.exchange_law.specs.Law.{pieces_of}
use Rattle.exchange_law.proofs.Holding.{in_of}
use Rattle.exchange_law.proofs.Texts.{each_weaker}
use Rattle.exchange_law.proofs.Words.{find, first_others, stands_there}
use Rattle.exchange_law.specs.Recovery.{IsLater}

-- ---- lists of bytes that may change, one within another

fill_weaker : (R S : ℕ → Type 0) → ((b : ℕ) → R b → S b) → (mode : Mode) (stub : Option Stub) → MayFill R mode stub → MayFill S mode stub
fill_weaker R S f mode None m = m
fill_weaker R S f mode (Some stub) m = (m.0, each_weaker R S f stub.left m.1)

untouched_weaker : (R S : ℕ → Type 0) → ((b : ℕ) → R b → S b) → (before now : List ℕ) → Untouched R before now → Untouched S before now
untouched_weaker R S f before now u = record { size = u.size; bytes = λ b none. u.bytes b (λ r. none (f b r)) }

pub unsettled_weaker : (program : Program) (R S : ℕ → Type 0) → ((b : ℕ) → R b → S b) → (x : Link) → IsUnsettled program R x → IsUnsettled program S x
unsettled_weaker program R S f x u = record {
  console = u.console;
  stub = fill_weaker R S f x.machine.odt.mode x.machine.stub u.stub;
  down = elim u.down [
    | inl for ↦ inl for
    | inr k ↦ inr (record { key = k.key; down = k.down; none = k.none; untouched = untouched_weaker R S f _ _ k.untouched; console = k.console; stub = fill_weaker R S f _ _ k.stub })
  ];
}

-- ---- a word lies in memory with both its bytes

pub lies_below : (memory : List ℕ) (a : ℕ) → is_word memory a ≡ true → (a % 2 ≡ 0) × (a < 2 * length memory)
lies_below memory a is =
    let parts = and_parts (a % 2 == 0) (nat_lt a (2 * length memory)) is in
    (eqb-true (a % 2) 0 parts.0, lower a (2 * length memory) parts.1)
  where
    lower : (a n : ℕ) → nat_lt a n ≡ true → a < n
    lower a n e = grind (arith, nat_tests)

pub gives_below : (memory : List ℕ) (w : WordValue) (b : ℕ) → is_word memory w.address ≡ true → gives w b ≡ true → b < top_of memory
gives_below memory w b is g = let low = lies_below memory w.address is in let same = gives-address w b g in omega (arith, low.0, low.1, same)

-- ---- what a host's key stores

none_or : (o : Option ℕ) → (IsSome o → ⊥) → o ≡ None
none_or None h = refl
none_or (Some v) h = absurd (h refl)

some_of : (o : Option ℕ) (v : ℕ) → o ≡ Some v → IsSome o
some_of None v e = absurd (cc e)
some_of (Some w) v e = refl

-- a word of a plan is merged in: each byte stays, or is the plan's
stored_bytes : (g : Ground) (memory : List ℕ) → IsPlan g.plan → Stores g memory → (b : ℕ) → (byte_of memory b ≡ byte_of g.machine.memory b) ⊎ (get g.plan.image b ≡ Some (byte_of memory b))
stored_bytes g memory is (inl same) b = inl (ap (λ m. byte_of m b) same)
stored_bytes g memory is (inr (i, below, lies, same)) b =
    let low = lies_below g.machine.memory (word_nr g.plan.words i).address lies in
    subst (λ m. (byte_of m b ≡ byte_of g.machine.memory b) ⊎ (get g.plan.image b ≡ Some (byte_of m b))) (sym same)
    (byte_of-with_word_cases g.plan g.machine.memory (word_nr g.plan.words i) b is (Contains-get_or g.plan.words i no_word below) (omega (arith, low.0, low.1)))

-- keys of a stub's plan store bytes behind the tape's first words
pub stub_stores : (tape : PlanValue) (from : ℕ) (g : Ground) (memory : List ℕ) → IsPlan g.plan → ((b : ℕ) → IsSome (get g.plan.image b) → IsSome (get tape.image b)) →
    ((i : ℕ) → i < from → (b : ℕ) → gives (word_nr tape.words i) b ≡ true → get g.plan.image b ≡ None) → Stores g memory → Untouched (IsLater tape from) g.machine.memory memory
stub_stores tape from g memory is inside behind stores = record {
  size = stores_length g memory stores;
  bytes = λ b none. elim (stored_bytes g memory is stores b) [
    | inl same ↦ same
    | inr some ↦ absurd (none (record {
      inside = inside b (some_of (get g.plan.image b) (byte_of memory b) some);
      later = λ i less g_i. clash (get g.plan.image b) (byte_of memory b) some (behind i less b g_i);
    }))
  ];
}
  where
    clash : (o : Option ℕ) (v : ℕ) → o ≡ Some v → o ≡ None → ⊥
    clash o v e f = absurd (cc (sym e ∙ f))

same_some : (o : Option ℕ) (a b : ℕ) → o ≡ Some a → o ≡ Some b → a ≡ b
same_some o a b e f = cc (sym e ∙ f)

-- where not to be the same leads nowhere, two numbers are the same
decided : (a b : ℕ) → ((a ≡ b → ⊥) → ⊥) → a ≡ b
decided a b h = by (a == b) refl
  where
    by : (test : Bool) → (a == b) ≡ test → a ≡ b
    by true e = eqb-true a b e
    by false e = absurd (h (λ same. differ a b same e))
      where
        differ : (a b : ℕ) → a ≡ b → (a == b) ≡ false → ⊥
        differ a b same e = absurd (grind (arith, nat_tests))

-- keys of the tape's own plan store bytes behind its first words, where these stand
pub tape_stores : (g : Ground) (first : ℕ) (memory : List ℕ) → IsPlan g.plan → first ≤ length g.plan.words → FirstStand g.plan.words first g.machine.memory → Stores g memory → Untouched (IsLater g.plan first) g.machine.memory memory
tape_stores g first memory is within stand stores = record {
  size = stores_length g memory stores;
  bytes = λ b none. elim (stored_bytes g memory is stores b) [
    | inl same ↦ same
    | inr some ↦ decided (byte_of memory b) (byte_of g.machine.memory b) (λ other. none (record {
      inside = some_of (get g.plan.image b) (byte_of memory b) some;
      later = λ i less g_i.
          let given = image_at_word g.plan (word_nr g.plan.words i) b is (Contains-get_or g.plan.words i no_word (omega (arith, less, within))) g_i in
          let there = stands_there g.machine.memory (word_nr g.plan.words i) (stand.stands i less) b g_i in
          other (same_some (get g.plan.image b) (byte_of memory b) (half b (word_nr g.plan.words i).value) some given ∙ sym there);
    }))
  ];
}

-- ---- the chunks that are left lie behind the words that are verified

in_some : (chunks : List Chunk) (b : ℕ) → IsAmong (pieces_of chunks) b → (i : ℕ) × (i < length chunks) × IsIn (chunk_nr chunks i) b
in_some [] b among = absurd among
in_some (chunk ∷ chunks) b (inl of) = (0, omega arith, in_of chunk b of)
in_some (chunk ∷ chunks) b (inr among) = let later = in_some chunks b among in (suc later.0, omega (arith, later.1), later.2)

below_or : (k n : ℕ) → (k < n) ⊎ (n ≤ k)
below_or k n = grind arith

pub chunk_later : (tape : PlanValue) (from : ℕ) (chunks : List Chunk) (done k : ℕ) → AreChunks tape from chunks → done ≤ k → k < length chunks → (b : ℕ) → IsIn (chunk_nr chunks k) b → IsLater tape (words_behind from chunks done) b
chunk_later tape from chunks done k are le below b inside = record {
  inside = (are.each k below).bytes b inside;
  later = λ i less g. elim (below_or i from) [
    | inl first ↦ first_others tape from chunks are k i below first b g inside
    | inr behind ↦
        let f = find from chunks i behind done less in
        chunks_apart tape from chunks are f.0 k (let low = f.1 in omega (arith, low, le)) below b (chunk_has tape from chunks are f.0 i (let low = f.1 in omega (arith, low, le, below)) f.2 f.3 b g) inside
  ];
}

pub left_later : (tape : PlanValue) (from : ℕ) (chunks : List Chunk) (done : ℕ) → AreChunks tape from chunks → (b : ℕ) → IsAmong (pieces_of (drop done chunks)) b → IsLater tape (words_behind from chunks done) b
left_later tape from chunks done are b among =
    let at = in_some (drop done chunks) b among in
    let long = length-drop done chunks in
    chunk_later tape from chunks done (done + at.0) are (omega arith) (let low = at.1 in omega (arith, low, long)) b (subst (λ chunk. IsIn chunk b) (get_or-drop done chunks at.0 no_chunk) at.2)

-- fewer words leave more bytes
pub fewer_later : (tape : PlanValue) (fewer more : ℕ) → fewer ≤ more → (b : ℕ) → IsLater tape more b → IsLater tape fewer b
fewer_later tape fewer more le b later = record { inside = later.inside; later = λ i less g. later.later i (omega (arith, less, le)) g }

pub fewer_stand : (words : List WordValue) (fewer more : ℕ) (memory : List ℕ) → fewer ≤ more → FirstStand words more memory → FirstStand words fewer memory
fewer_stand words fewer more memory le stand = record { lies = λ i less. stand.lies i (omega (arith, less, le)); stands = λ i less. stand.stands i (omega (arith, less, le)) }
