-- The differences between words and the numbers that were read.
use Rattle.std.proofs.Common.{◌≡◌, ℕ, zero, suc, ◌+◌, ◌<◌, ◌≤◌, true, false, cond, eqb, List, [], ◌∷◌, ◌++◌, length, get_or, take, refl, arith, ap, sym, ◌∙◌, append_assoc, length-append}
use Rattle.std.proofs.lemmas.Bool.{eqb-true}
use Rattle.std.proofs.lemmas.List.{append-nil}
use Rattle.tape_image.specs.Word.{WordValue, merged}
use Rattle.host_core.specs.Core.{word_nr}
use Rattle.machine_look.specs.declared.difference.Difference.{Difference}
use Rattle.machine_look.specs.Differences.{difference, differences}

-- ---- one more

none_yet : (words : List WordValue) → differences words [] ≡ []
none_yet [] = refl
none_yet (w ∷ words) = refl

one_more : (words : List WordValue) (numbers : List ℕ) (i : ℕ) (d : WordValue) → i < length numbers → length numbers ≤ length words
    → differences words (take (suc i) numbers) ≡ differences words (take i numbers) ++ difference (get_or words i d) (get_or numbers i 0)
one_more words [] i d low few = absurd (omega arith)
one_more [] (n ∷ numbers) i d low few = absurd (omega arith)
one_more (w ∷ words) (n ∷ numbers) zero d low few = ap (λ rest. difference w n ++ rest) (none_yet words) ∙ append-nil (difference w n)
one_more (w ∷ words) (n ∷ numbers) (suc i) d low few =
    ap (λ rest. difference w n ++ rest) (one_more words numbers i d (omega arith) (omega arith))
    ∙ sym (append_assoc (difference w n) (differences words (take i numbers)) (difference (get_or words i d) (get_or numbers i 0)))

pub next_difference : (words : List WordValue) (numbers : List ℕ) (i : ℕ) (d : WordValue) → i < length numbers → length numbers ≤ length words
    → differences words (take (i + 1) numbers) ≡ differences words (take i numbers) ++ difference (get_or words i d) (get_or numbers i 0)
next_difference words numbers i d low few = ap (λ k. differences words (take k numbers)) (next i) ∙ one_more words numbers i d low few
  where
    next : (n : ℕ) → n + 1 ≡ suc n
    next n = omega arith

pub none_at_first : (words : List WordValue) (numbers : List ℕ) → differences words (take 0 numbers) ≡ []
none_at_first words numbers = none_yet words

-- ---- none at all

unmerged : (w : WordValue) (n : ℕ) → length (difference w n) ≡ 0 → merged w n ≡ n
unmerged w n none =
    elim (eqb (merged w n) n) as (λ t. eqb (merged w n) n ≡ t → length (cond {A = List Difference} t [] (record { word = w; now = n } ∷ [])) ≡ 0 → merged w n ≡ n) [
      | true ↦ λ e none. eqb-true _ _ e
      | false ↦ λ e none. absurd (omega (arith, none))
    ] refl none

-- where nothing differs, laying a word over the number that was read there changes nothing
pub none_differ : (words : List WordValue) (numbers : List ℕ) → length numbers ≡ length words → length (differences words numbers) ≡ 0
    → (i : ℕ) → i < length words → merged (word_nr words i) (get_or numbers i 0) ≡ get_or numbers i 0
none_differ [] numbers same none i low = absurd (omega arith)
none_differ (w ∷ words) [] same none i low = absurd (omega arith)
none_differ (w ∷ words) (n ∷ numbers) same none zero low = unmerged w n (omega (arith, none, length-append (difference w n) (differences words numbers)))
none_differ (w ∷ words) (n ∷ numbers) same none (suc i) low =
    none_differ words numbers (omega arith) (omega (arith, none, length-append (difference w n) (differences words numbers))) i (omega arith)
