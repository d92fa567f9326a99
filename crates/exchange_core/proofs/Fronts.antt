-- Chunks one after another, up to a word.
use Rattle.std.proofs.Common.{◌≡◌, ℕ, zero, suc, ◌+◌, ◌-◌, ◌%◌, ◌<◌, ◌≤◌, List, [], ◌∷◌, ◌++◌, length, get_or, inl, inr, refl, arith, ap, sym, subst, ◌∙◌, length-append}
use Rattle.std.proofs.lemmas.Bool.{cases_lt}
use Rattle.std.proofs.lemmas.List.{get_or_append_left, get_or-append_right}
use Rattle.tape_image.specs.Plan.{PlanValue}
use Rattle.host_core.specs.Core.{word_nr}
use Rattle.exchange_core.specs.declared.chunk.Chunk.{Chunk}
use Rattle.exchange_core.specs.Chunk.{chunk_nr, no_chunk, words_behind}
use Rattle.exchange_core.specs.Chunking.{AreChunksUpTo, IsNextChunk, bytes_of, end_of}

-- the chunks of the words from one number up to number n, each as it is made
pub record AreFront (plan : PlanValue) (from to n : ℕ) (chunks : List Chunk) : Type 0 where
  pub here : words_behind from chunks (length chunks) ≡ n
  pub order : from ≤ n
  pub within : n ≤ to
  pub each : (k : ℕ) → k < length chunks → IsNextChunk plan (words_behind from chunks k) to (chunk_nr chunks k)

pub no_chunks : (plan : PlanValue) (from to : ℕ) → from ≤ to → AreFront plan from to from []
no_chunks plan from to le = record { here = refl; order = omega arith; within = le; each = λ k below. absurd (omega (arith, below)) }

-- those before stay when one comes behind
earlier : (chunks : List Chunk) (chunk : Chunk) (k : ℕ) → k < length chunks → chunk_nr (chunks ++ chunk ∷ []) k ≡ chunk_nr chunks k
earlier chunks chunk k below = get_or_append_left chunks (chunk ∷ []) no_chunk k below

last : (chunks : List Chunk) (chunk : Chunk) → chunk_nr (chunks ++ chunk ∷ []) (length chunks) ≡ chunk
last chunks chunk = get_or-append_right chunks (chunk ∷ []) (length chunks) (length chunks) no_chunk refl (omega arith) ∙ (let none : length chunks - length chunks ≡ 0 = omega arith in ap (λ i. get_or (chunk ∷ []) i no_chunk) none)

behind : (from : ℕ) (chunks : List Chunk) (chunk : Chunk) (k : ℕ) → k ≤ length chunks → words_behind from (chunks ++ chunk ∷ []) k ≡ words_behind from chunks k
behind from chunks chunk zero le = refl
behind from chunks chunk (suc k) le = ap (λ c. c.until) (earlier chunks chunk k le)

pub front_grows : (plan : PlanValue) (from to n : ℕ) (chunks : List Chunk) (chunk : Chunk) → AreFront plan from to n chunks → IsNextChunk plan n to chunk → AreFront plan from to chunk.until (chunks ++ chunk ∷ [])
front_grows plan from to n chunks chunk front next = record {
  here = ap (words_behind from (chunks ++ chunk ∷ [])) count ∙ ap (λ c. c.until) (last chunks chunk);
  order = (let order = front.order in let rising = next.rising in omega (arith, order, rising));
  within = next.within;
  each = λ k below. elim (cases_lt k (length chunks)) [
    | inl before ↦ at (words_behind from (chunks ++ chunk ∷ []) k) (words_behind from chunks k) (chunk_nr (chunks ++ chunk ∷ []) k) (chunk_nr chunks k) (sym (behind from chunks chunk k (omega (arith, before)))) (sym (earlier chunks chunk k before)) (front.each k before)
    | inr over ↦
        (let here : length chunks ≡ k = omega (arith, over, below, count) in
        subst (λ m. IsNextChunk plan (words_behind from (chunks ++ chunk ∷ []) m) to (chunk_nr (chunks ++ chunk ∷ []) m)) here
        (at (words_behind from (chunks ++ chunk ∷ []) (length chunks)) n (chunk_nr (chunks ++ chunk ∷ []) (length chunks)) chunk (sym (behind from chunks chunk (length chunks) (omega arith) ∙ front.here)) (sym (last chunks chunk)) next))
  ];
}
  where
    count : length (chunks ++ chunk ∷ []) ≡ suc (length chunks)
    count = length-append chunks (chunk ∷ []) ∙ omega arith

    at : (a a' : ℕ) (c c' : Chunk) → a' ≡ a → c' ≡ c → IsNextChunk plan a' to c' → IsNextChunk plan a to c
    at a a' c c' same alike is = subst (λ m. IsNextChunk plan m to c) same (subst (λ x. IsNextChunk plan a' to x) alike is)

-- all of them
pub front_whole : (plan : PlanValue) (from to : ℕ) (chunks : List Chunk) → from < to → to ≤ length plan.words → AreFront plan from to to chunks → AreChunksUpTo plan from to chunks
front_whole plan from to chunks some all front = record {
  are = record {
    sound = (front.each 0 (by (length chunks) refl front.here)).sound;
    some = by (length chunks) refl front.here;
    each = λ k below. (front.each k below).is;
    rising = λ k below. (front.each k below).rising;
    within = λ k below. let within = (front.each k below).within in omega (arith, within, all);
    bytes = λ k b below. (front.each k below).bytes b;
  };
  all = front.here;
  cut = record {
    some = λ k below. let some = (front.each k below).is.some in omega (arith, some);
    block = λ k below. (front.each k below).block;
    seam = λ k below follows. seam k below follows;
  };
}
  where
    by : (n : ℕ) → length chunks ≡ n → words_behind from chunks (length chunks) ≡ to → 0 < length chunks
    by zero none here = absurd (let begin : words_behind from chunks (length chunks) ≡ from = ap (words_behind from chunks) none in omega (arith, begin, here, some))
    by (suc n) some here = omega (arith, some)

    seam : (k : ℕ) → k + 1 < length chunks → (chunk_nr chunks (k + 1)).address ≡ end_of (chunk_nr chunks k) → end_of (chunk_nr chunks k) % 64 ≡ 0
    seam k below follows =
        let one : k + 1 ≡ suc k = omega arith in
        let this = front.each k (omega (arith, below)) in
        let next = front.each (k + 1) below in
        let begin : words_behind from chunks (k + 1) ≡ (chunk_nr chunks k).until = ap (words_behind from chunks) one in
        let first : (chunk_nr chunks (k + 1)).address ≡ (bytes_of (word_nr plan.words (chunk_nr chunks k).until)).from = next.first ∙ ap (λ m. (bytes_of (word_nr plan.words m)).from) begin in
        let rising = next.rising in
        let within = next.within in
        this.whole (omega (arith, begin, rising, within)) (sym first ∙ follows)
