-- The words that a core tested, one more.
use Rattle.std.proofs.Common.{◌≡◌, ℕ, ◌+◌, ◌<◌, ◌≤◌, List, [], ◌∷◌, ◌++◌, length, get_or, take, refl, arith, ap, ◌∙◌}
use Rattle.std.proofs.lemmas.List.{length-take-le, take_more}
use Rattle.memory_core.specs.declared.seen.Seen.{Seen}
use Rattle.memory_report.specs.declared.findings.Word.{Word}
use Rattle.machine_memory.specs.Words.{words_of}

abbrev word_at : ℕ → Seen → Word
word_at address seen = record { address = address; seen = seen }

pub none_read : (addresses : List ℕ) → words_of addresses [] ≡ []
none_read [] = refl
none_read (address ∷ addresses) = refl

pub one_read : (addresses : List ℕ) (seen : List Seen) (more : Seen) → length seen < length addresses →
    words_of addresses (seen ++ more ∷ []) ≡ words_of addresses seen ++ word_at (get_or addresses (length seen) 0) more ∷ []
one_read [] seen more low = absurd (omega (arith, low))
one_read (address ∷ addresses) [] more low = ap (λ t. word_at address more ∷ t) (none_read addresses)
one_read (address ∷ addresses) (one ∷ seen) more low = ap (λ t. word_at address one ∷ t) (one_read addresses seen more (omega (arith, low)))

pub next_read : (addresses : List ℕ) (seen : List Seen) (i : ℕ) (d : Seen) → i < length seen → length seen ≤ length addresses →
    words_of addresses (take (i + 1) seen) ≡ words_of addresses (take i seen) ++ word_at (get_or addresses i 0) (get_or seen i d) ∷ []
next_read addresses seen i d low few =
    let all : length (take i seen) ≡ i = length-take-le i seen (omega (arith, low)) in
    ap (words_of addresses) (take_more seen i d low)
    ∙ (one_read addresses (take i seen) (get_or seen i d) (omega (arith, all, low, few))
    ∙ ap (λ k. words_of addresses (take i seen) ++ word_at (get_or addresses k 0) (get_or seen i d) ∷ []) all)
