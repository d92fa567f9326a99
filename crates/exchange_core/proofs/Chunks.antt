-- What the chunks of a plan's words are for each other and for the words before them.
use Rattle.std.proofs.Common.{◌≡◌, ℕ, zero, suc, ◌+◌, ◌-◌, ◌/◌, ◌<◌, ◌≤◌, true, List, length, refl, arith, ap, subst}
use Rattle.tape_image.specs.Memory.{most_words}
use Rattle.tape_image.specs.Plan.{PlanValue, IsPlan}
use Rattle.tape_image.specs.Word.{gives}
use Rattle.tape_image.proofs.Given.{gives-address}
use Rattle.host_core.specs.Core.{no_word, word_nr}
use Rattle.exchange_core.specs.declared.chunk.Chunk.{Chunk}
use Rattle.exchange_core.specs.Chunk.{AreChunks, IsIn, chunk_nr, words_behind}

-- no two words of a plan give the same byte
pub words_apart : (plan : PlanValue) (i j b : ℕ) → IsPlan plan → i < j → j < length plan.words → gives (word_nr plan.words i) b ≡ true → gives (word_nr plan.words j) b ≡ true → ⊥
words_apart plan i j b is less within one other =
    let here : (word_nr plan.words i).address / 2 ≡ b / 2 = gives-address (word_nr plan.words i) b one in
    let there : (word_nr plan.words j).address / 2 ≡ b / 2 = gives-address (word_nr plan.words j) b other in
    let even = (is.each i no_word (omega (arith, less, within))).even in
    let even' = (is.each j no_word within).even in
    let rises = is.rising i j no_word less within in
    omega (arith, here, there, even, even', rises)

-- at least one word more is verified behind each chunk
pub behind_grows : (plan : PlanValue) (from : ℕ) (chunks : List Chunk) → AreChunks plan from chunks → (k : ℕ) → k ≤ length chunks → from + k ≤ words_behind from chunks k
behind_grows plan from chunks are zero le = omega arith
behind_grows plan from chunks are (suc k) le =
    let before = behind_grows plan from chunks are k (omega (arith, le)) in
    let more = are.rising k le in
    omega (arith, before, more)

-- what is verified behind a later chunk is no less
pub behind_rises : (plan : PlanValue) (from : ℕ) (chunks : List Chunk) → AreChunks plan from chunks → (d j : ℕ) → d + j ≤ length chunks → words_behind from chunks j ≤ words_behind from chunks (d + j)
behind_rises plan from chunks are zero j le =
    let none : j ≡ 0 + j = omega arith in subst (λ n. words_behind from chunks j ≤ words_behind from chunks n) none (omega arith)
behind_rises plan from chunks are (suc d) j le =
    let before = behind_rises plan from chunks are d j (omega (arith, le)) in
    let more = are.rising (d + j) (omega (arith, le)) in
    let one : suc (d + j) ≡ suc d + j = omega arith in
    let up : words_behind from chunks j ≤ words_behind from chunks (suc (d + j)) = omega (arith, before, more) in
    subst (λ n. words_behind from chunks j ≤ words_behind from chunks n) one up

-- there are no more chunks than words
pub chunks_few : (plan : PlanValue) (from : ℕ) (chunks : List Chunk) → AreChunks plan from chunks → length chunks ≤ most_words
chunks_few plan from chunks are = few (length chunks) refl
  where
    few : (n : ℕ) → length chunks ≡ n → length chunks ≤ most_words
    few zero none = omega (arith, none)
    few (suc n) some =
        let grown = behind_grows plan from chunks are (length chunks) (omega arith) in
        let last : words_behind from chunks (length chunks) ≡ (chunk_nr chunks n).until = ap (words_behind from chunks) some in
        let within = are.within n (omega (arith, some)) in
        let words = are.sound.few in
        omega (arith, grown, last, within, words)

-- a chunk has each byte of its words
pub chunk_has : (plan : PlanValue) (from : ℕ) (chunks : List Chunk) → AreChunks plan from chunks → (k i : ℕ) → k < length chunks → words_behind from chunks k ≤ i → i < (chunk_nr chunks k).until →
    (b : ℕ) → gives (word_nr plan.words i) b ≡ true → IsIn (chunk_nr chunks k) b
chunk_has plan from chunks are k i below at least b g = (are.bytes k b below).1 (i, at, least, g)

-- and none of an earlier word
pub chunk_others : (plan : PlanValue) (from : ℕ) (chunks : List Chunk) → AreChunks plan from chunks → (k i : ℕ) → k < length chunks → i < words_behind from chunks k →
    (b : ℕ) → gives (word_nr plan.words i) b ≡ true → IsIn (chunk_nr chunks k) b → ⊥
chunk_others plan from chunks are k i below earlier b g is =
    let given = (are.bytes k b below).0 is in
    let within = are.within k below in
    words_apart plan i given.0 b are.sound (omega (arith, earlier, given.1)) (omega (arith, given.2, within)) g given.3

-- no two chunks meet
pub chunks_apart : (plan : PlanValue) (from : ℕ) (chunks : List Chunk) → AreChunks plan from chunks → (j k : ℕ) → j < k → k < length chunks →
    (b : ℕ) → IsIn (chunk_nr chunks j) b → IsIn (chunk_nr chunks k) b → ⊥
chunks_apart plan from chunks are j k order below b one other =
    let given = (are.bytes j b (omega (arith, order, below))).0 one in
    let there : (k - suc j) + suc j ≡ k = omega (arith, order) in
    let behind : words_behind from chunks (suc j) ≤ words_behind from chunks k =
    subst (λ n. words_behind from chunks (suc j) ≤ words_behind from chunks n) there (behind_rises plan from chunks are (k - suc j) (suc j) (omega (arith, there, below))) in
    chunk_others plan from chunks are k given.0 below (omega (arith, given.2, behind)) b given.3 other
