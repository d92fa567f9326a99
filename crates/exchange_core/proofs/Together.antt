-- Words that are together.
use Rattle.std.proofs.Common.{◌≡◌, ℕ, ◌+◌, ◌-◌, ◌<◌, ◌≤◌, ◌⊎◌, List, length, get_or, Option, Some, None, inl, inr, refl, arith, sym, subst, ◌∙◌}
use Rattle.std.proofs.lemmas.Bool.{cases_lt, cases_eq}
use Rattle.std.proofs.lemmas.List.{get_or_default}
use Rattle.std.specs.Prelude.{IfSome}
use Rattle.tape_image.specs.Word.{WordValue}
use Rattle.host_core.specs.Core.{no_word, word_nr}
use Rattle.exchange_core.specs.Window.{AreTogether, IsFirstTogether, IsNoLower, IsWindow}

-- fewer of them, from either side
pub fewer : (words : List WordValue) (i j m n : ℕ) → i ≤ j → m ≤ n → AreTogether words i n → AreTogether words j m
fewer words i j m n later sooner are = record {
  whole = λ k from to. are.whole k (omega (arith, later, from)) (omega (arith, sooner, to));
  next = λ k from to. are.next k (omega (arith, later, from)) (omega (arith, sooner, to));
}

-- none at all
pub none_together : (words : List WordValue) (n : ℕ) → AreTogether words n n
none_together words n = record { whole = λ k from to. absurd (omega (arith, from, to)); next = λ k from to. absurd (omega (arith, from, to)) }

-- one more
pub one_more : (words : List WordValue) (i n : ℕ) → i ≤ n → AreTogether words i n → (word_nr words n).mask ≡ 0o177777 →
    ((i ≡ n) ⊎ ((k : ℕ) → k + 1 ≡ n → (word_nr words n).address ≡ (word_nr words k).address + 2)) → AreTogether words i (n + 1)
one_more words i n le are whole follows = record {
  whole = λ k from to. elim (cases_eq k n) [ inl same ↦ subst (λ x. (word_nr words x).mask ≡ 0o177777) (sym same) whole | inr other ↦ are.whole k from (omega (arith, to, other)) ];
  next = λ k from to. elim (cases_eq (k + 1) n) [
    | inl same ↦ elim follows [
      | inl empty ↦ absurd (omega (arith, empty, same, from))
      | inr behind ↦ subst (λ x. (word_nr words x).address ≡ (word_nr words k).address + 2) (sym same) (behind k same)
    ]
    | inr other ↦ are.next k from (omega (arith, to, other))
  ];
}

-- ---- the first of them, step by step

pub first_not_whole : (words : List WordValue) (from first n : ℕ) → IsFirstTogether words from first n → ((word_nr words n).mask ≡ 0o177777 → ⊥) → IsFirstTogether words from (n + 1) (n + 1)
first_not_whole words from first n is part = record {
  behind = (let behind = is.behind in let within = is.within in omega (arith, behind, within));
  within = omega arith;
  together = none_together words (n + 1);
  lowest = λ i above below are. elim (cases_lt i (n + 1)) [ inl less ↦ absurd (part (are.whole n (omega (arith, less)) (omega arith))) | inr same ↦ same ];
}

pub first_goes_on : (words : List WordValue) (from first n : ℕ) → IsFirstTogether words from first n → (word_nr words n).mask ≡ 0o177777 →
    ((first ≡ n) ⊎ ((k : ℕ) → k + 1 ≡ n → (word_nr words n).address ≡ (word_nr words k).address + 2)) → IsFirstTogether words from first (n + 1)
first_goes_on words from first n is whole follows = record {
  behind = is.behind;
  within = (let within = is.within in omega (arith, within));
  together = one_more words first n is.within is.together whole follows;
  lowest = λ i above below are. elim (cases_lt i (n + 1)) [
    | inl less ↦ is.lowest i above (omega (arith, less)) (fewer words i i n (n + 1) (omega arith) (omega arith) are)
    | inr same ↦ (let within = is.within in omega (arith, within, same))
  ];
}

pub first_begins : (words : List WordValue) (from first n k : ℕ) → IsFirstTogether words from first n → (word_nr words n).mask ≡ 0o177777 → k + 1 ≡ n →
    ((word_nr words n).address ≡ (word_nr words k).address + 2 → ⊥) → IsFirstTogether words from n (n + 1)
first_begins words from first n k is whole before apart = record {
  behind = (let behind = is.behind in let within = is.within in omega (arith, behind, within));
  within = omega arith;
  together = one_more words n n (omega arith) (none_together words n) whole (inl refl);
  lowest = λ i above below are. elim (cases_lt i n) [
    | inl less ↦ absurd (apart (subst (λ x. (word_nr words x).address ≡ (word_nr words k).address + 2) before (are.next k (omega (arith, less, before)) (omega (arith, before)))))
    | inr same ↦ same
  ];
}

-- ---- the window

-- the highest window that ends at number n or before
pub record IsHighest (words : List WordValue) (from size n : ℕ) (window : Option ℕ) : Type 0 where
  pub is : IfSome window (IsWindow words from size)
  pub highest : (i : ℕ) → from < i → i + size ≤ n → AreTogether words i (i + size) → IsNoLower window i

pub no_window : (words : List WordValue) (from size n : ℕ) → 0 < size → n ≤ from + 1 → IsHighest words from size n None
no_window words from size n some le = record { is = tt; highest = λ i above below are. absurd (omega (arith, some, le, above, below)) }

pub window_found : (words : List WordValue) (from size first n : ℕ) → n ≤ length words → IsFirstTogether words from first n → size ≤ n - first → 0 < size → IsHighest words from size n (Some (n - size))
window_found words from size first n within is room some = record {
  is = record { behind = (let behind = is.behind in omega (arith, behind, room, some)); within = omega (arith, sum, within); together = fewer words first (n - size) (n - size + size) n (omega (arith, room, some)) (omega (arith, sum)) is.together };
  highest = λ i above below are. omega (arith, below);
}
  where
    sum : n - size + size ≡ n
    sum = omega (arith, room, some)

pub window_stays : (words : List WordValue) (from size first n : ℕ) (window : Option ℕ) → IsFirstTogether words from first (n + 1) → n + 1 - first < size → IsHighest words from size n window → IsHighest words from size (n + 1) window
window_stays words from size first n window first_is room is = record {
  is = is.is;
  highest = λ i above below are. elim (cases_lt (i + size) (n + 1)) [
    | inl less ↦ is.highest i above (omega (arith, less)) are
    | inr same ↦ absurd (let sum : i + size ≡ n + 1 = omega (arith, below, same) in let least = first_is.lowest i above (omega (arith, sum)) (subst (AreTogether words i) sum are) in omega (arith, least, sum, room))
  ];
}

-- with all words
pub highest_window : (words : List WordValue) (from size n : ℕ) (window : Option ℕ) (i : ℕ) → length words ≤ n → IsHighest words from size n window → IsWindow words from size i → IsNoLower window i
highest_window words from size n window i all is w = is.highest i w.behind (let within = w.within in omega (arith, within, all)) w.together

-- ---- words that were read

pub read_word : (words : List WordValue) (k : ℕ) (w : WordValue) → k < length words → w ≡ get_or words k w → w ≡ word_nr words k
read_word words k w below is = is ∙ get_or_default words k w no_word below

pub read_from : (words all : List WordValue) (k : ℕ) (w : WordValue) → words ≡ all → k < length all → w ≡ get_or words k w → w ≡ word_nr all k
read_from words all k w same below is = read_word all k w below (subst (λ (list : List WordValue). w ≡ get_or list k w) same is)
