-- Chunks as they grow.
use Rattle.std.proofs.Common.{◌≡◌, ℕ, ◌+◌, ◌-◌, ◌/◌, ◌%◌, ◌<◌, ◌≤◌, true, List, length, get_or, inl, inr, refl, arith, ap, sym, subst, ◌∙◌}
use Rattle.std.specs.Prelude.{◌↔◌, IsSome}
use Rattle.std.specs.FinMap.{get}
use Rattle.std.proofs.lemmas.Bool.{cases_lt, cases_eq}
use Rattle.std.proofs.lemmas.List.Elements.{Contains-get_or}
use Rattle.tape_values.specs.Block.{top}
use Rattle.tape_image.specs.Plan.{PlanValue, IsPlan}
use Rattle.tape_image.specs.Word.{WordValue, IsWord, gives}
use Rattle.tape_image.proofs.Given.{image_at_word}
use Rattle.host_core.specs.Core.{no_word, word_nr}
use Rattle.exchange_core.specs.declared.chunk.Chunk.{Chunk}
use Rattle.exchange_core.specs.Chunk.{IsGiven, IsIn}
use Rattle.exchange_core.specs.Chunking.{IsInBlock, IsNextChunk, bytes_of, end_of}
use Rattle.exchange_core.specs.declared.stretch.Stretch.{Stretch}
use Rattle.exchange_core.proofs.Together.{read_from}
use Rattle.exchange_core.proofs.Bytes.{at_given, given_at, in_word}

-- a chunk of the words from number a up to number n
pub record IsPart (plan : PlanValue) (a n : ℕ) (chunk : Chunk) : Type 0 where
  pub some : 0 < chunk.size
  pub until : chunk.until ≡ n
  pub order : a < n
  pub first : chunk.address ≡ (bytes_of (word_nr plan.words a)).from
  pub bytes : (b : ℕ) → IsIn chunk b ↔ IsGiven plan.words a n b
  pub block : IsInBlock chunk

-- a byte that words of the plan give is the image's
given_image : (plan : PlanValue) (a n b : ℕ) → IsPlan plan → n ≤ length plan.words → IsGiven plan.words a n b → IsSome (get plan.image b)
given_image plan a n b is within (i, from, to, g) =
    let here = image_at_word plan (word_nr plan.words i) b is (Contains-get_or plan.words i no_word (omega (arith, to, within))) g in
    subst IsSome (sym here) refl

-- the word number n, at a place
one_word : (plan : PlanValue) (n : ℕ) → IsPlan plan → n < length plan.words → IsWord (word_nr plan.words n)
one_word plan n is below = is.each n no_word below

-- where one word is all
pub one_part : (plan : PlanValue) (a : ℕ) (chunk : Chunk) → IsPlan plan → a < length plan.words → chunk.address ≡ (bytes_of (word_nr plan.words a)).from →
    chunk.size ≡ (bytes_of (word_nr plan.words a)).to - (bytes_of (word_nr plan.words a)).from → chunk.until ≡ a + 1 → IsPart plan a (a + 1) chunk
one_part plan a chunk is below address size until =
    let w = word_nr plan.words a in
    let word = one_word plan a is below in
    let within = in_word w word in
    let some = within.some in
    let low = within.low in
    let high = within.high in
    let even = word.even in
    record {
      some = omega (arith, size, some);
      until = until;
      order = omega arith;
      first = address;
      bytes = λ b. (
        (λ in_chunk. (a, omega arith, omega arith, at_given w word b (record { from = (let f = in_chunk.from in omega (arith, f, address)); to = (let t = in_chunk.to in omega (arith, t, address, size, some)) }))),
        (λ given. here b (given.0) given.1 given.2 given.3),
      );
      block = omega (arith, address, size, some, low, high, even);
    }
  where
    here : (b i : ℕ) → a ≤ i → i < a + 1 → gives (word_nr plan.words i) b ≡ true → IsIn chunk b
    here b i from to g =
        let same : i ≡ a = omega (arith, from, to) in
        let at = given_at (word_nr plan.words a) (one_word plan a is below) b (subst (λ k. gives (word_nr plan.words k) b ≡ true) same g) in
        let f = at.from in let t = at.to in
        record { from = omega (arith, f, address); to = omega (arith, t, address, size) }

-- a word more, which follows and begins at no multiple of 64
pub part_grows : (plan : PlanValue) (a n : ℕ) (chunk grown : Chunk) → IsPlan plan → n < length plan.words → IsPart plan a n chunk → (bytes_of (word_nr plan.words n)).from ≡ end_of chunk → (end_of chunk % 64 ≡ 0 → ⊥) →
    grown.address ≡ chunk.address → grown.size ≡ chunk.size + ((bytes_of (word_nr plan.words n)).to - (bytes_of (word_nr plan.words n)).from) → grown.until ≡ n + 1 → IsPart plan a (n + 1) grown
part_grows plan a n chunk grown is below part follows inside address size until =
    let w = word_nr plan.words n in
    let word = one_word plan n is below in
    let within = in_word w word in
    let some = within.some in
    let low = within.low in
    let high = within.high in
    let even = word.even in
    let has = part.some in
    let block = part.block in
    let order = part.order in
    record {
      some = omega (arith, size, has);
      until = until;
      order = omega (arith, order);
      first = address ∙ part.first;
      bytes = λ b. ((λ in_grown. out b in_grown), (λ given. into b given.0 given.1 given.2 given.3));
      block = in_block grown.address (end_of chunk) (end_of grown) w.address (omega (arith, address, block)) (omega (arith, has)) inside (omega (arith, follows, low)) (omega (arith, size, address, follows, some, high)) (omega (arith, size, address, has, follows, some)) even;
    }
  where
    -- the new end lies before the same multiple of 64
    in_block : (a e f w : ℕ) → a / 64 ≡ (e - 1) / 64 → 0 < e → (e % 64 ≡ 0 → ⊥) → w ≤ e → f ≤ w + 2 → e < f → w % 2 ≡ 0 → a / 64 ≡ (f - 1) / 64
    in_block a e f w same some not_there low high more even = elim (cases_eq (e % 64) 0) [ inl there ↦ absurd (not_there there) | inr apart ↦ omega (arith, same, some, apart, low, high, more, even) ]

    out : (b : ℕ) → IsIn grown b → IsGiven plan.words a (n + 1) b
    out b in_grown = elim (cases_lt b (end_of chunk)) [
      | inl before ↦ (let given = (part.bytes b).0 (record { from = (let f = in_grown.from in omega (arith, f, address)); to = before }) in (given.0, given.1, (let t = given.2 in omega (arith, t)), given.3))
      | inr behind ↦
          (let word = one_word plan n is below in
          let some = (in_word (word_nr plan.words n) word).some in
          let order = part.order in
          (n, omega (arith, order), omega arith, at_given (word_nr plan.words n) word b (record { from = omega (arith, follows, behind); to = (let t = in_grown.to in omega (arith, t, address, size, follows, some)) })))
    ]

    into : (b i : ℕ) → a ≤ i → i < n + 1 → gives (word_nr plan.words i) b ≡ true → IsIn grown b
    into b i from to g = elim (cases_eq i n) [
      | inl last ↦
          (let word = one_word plan n is below in
          let some = (in_word (word_nr plan.words n) word).some in
          let at = given_at (word_nr plan.words n) word b (subst (λ k. gives (word_nr plan.words k) b ≡ true) last g) in
          record { from = (let f = at.from in omega (arith, f, follows, address)); to = (let t = at.to in omega (arith, t, address, size, follows, some)) })
      | inr earlier ↦
          (let there = (part.bytes b).1 (i, from, omega (arith, to, earlier), g) in
          record { from = (let f = there.from in omega (arith, f, address)); to = (let t = there.to in omega (arith, t, address, size)) })
    ]

-- and so a chunk it is
pub part_chunk : (plan : PlanValue) (a n to : ℕ) (chunk : Chunk) → IsPlan plan → n ≤ to → to ≤ length plan.words → IsPart plan a n chunk →
    (n < to → (bytes_of (word_nr plan.words n)).from ≡ end_of chunk → end_of chunk % 64 ≡ 0) → IsNextChunk plan a to chunk
part_chunk plan a n to chunk is le within part ends = record {
  sound = is;
  is = record {
    some = part.some;
    few = few chunk.address chunk.size part.some part.block;
    below = below;
    bytes = λ b in_chunk. given_image plan a n b is (omega (arith, le, within)) ((part.bytes b).0 in_chunk);
  };
  rising = (let until = part.until in let order = part.order in omega (arith, until, order));
  within = (let until = part.until in omega (arith, until, le));
  first = part.first;
  bytes = subst (λ m. (b : ℕ) → IsIn chunk b ↔ IsGiven plan.words a m b) (sym part.until) part.bytes;
  block = part.block;
  whole = subst (λ m. m < to → (bytes_of (word_nr plan.words m)).from ≡ end_of chunk → end_of chunk % 64 ≡ 0) (sym part.until) ends;
}
  where
    few : (a size : ℕ) → 0 < size → a / 64 ≡ (a + size - 1) / 64 → size ≤ 64
    few a size some same = omega (arith, some, same)

    -- its last byte is one of the image's
    below : chunk.address + chunk.size ≤ top
    below =
        let some = part.some in
        let last : IsIn chunk (end_of chunk - 1) = record { from = omega (arith, some); to = omega (arith, some) } in
        let given = (part.bytes (end_of chunk - 1)).0 last in
        let word = one_word plan given.0 is (let t = given.2 in omega (arith, t, le, within)) in
        let at = given_at (word_nr plan.words given.0) word (end_of chunk - 1) given.3 in
        let high = (in_word (word_nr plan.words given.0) word).high in
        let t = at.to in let even = word.even in let low = word.below in
        omega (arith, some, high, t, even, low)

-- the bytes of a word that was read
pub read_bytes : (words all : List WordValue) (k : ℕ) (w : WordValue) (bytes : Stretch) → words ≡ all → k < length all → w ≡ get_or words k w → bytes ≡ bytes_of w → bytes ≡ bytes_of (word_nr all k)
read_bytes words all k w bytes same below is made = made ∙ ap bytes_of (read_from words all k w same below is)
