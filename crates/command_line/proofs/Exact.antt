-- Answers that say which number a text is, and that it is none.
use Rattle.std.proofs.Common.{◌≡◌, ◌↔◌, ℕ, ◌%◌, ◌<◌, Option, Some, None, Result, Ok, Err, List, subst, sym}
use Rattle.tape_values.specs.Block.{top}
use Rattle.command_line.specs.Addresses.{IsEvenText, IsOctalText, IsWordText}
use Rattle.command_line.specs.Options.{IsSavedStart}

one_number : (x n : ℕ) → Some x ≡ Some n → x ≡ n
one_number x n is = cc is

one_value : {E : Type 0} (x n : ℕ) → ◌≡◌ {A = Result ℕ E} (Ok x) (Ok n) → x ≡ n
one_value {E} x n is = cc is

-- the number is passed on
pub passed : {E : Type 0} (x : ℕ) (P : ℕ → Type 0) → ((n : ℕ) → (Some x ≡ Some n) ↔ P n) → (n : ℕ) → (◌≡◌ {A = Result ℕ E} (Ok x) (Ok n)) ↔ P n
passed {E} x P said n = ((λ is. (said n).0 (cc is)), (λ p. cc ((said n).1 p)))

-- there is none, and an error says so
pub refused : {E : Type 0} (e : E) (P : ℕ → Type 0) → ((n : ℕ) → (None ≡ Some n) ↔ P n) → (n : ℕ) → (Err e ≡ Ok n) ↔ P n
refused {E} e P said n = ((λ is. absurd (cc is)), (λ p. absurd (cc ((said n).1 p))))

pub even_number : (text : List ℕ) (x : ℕ) → ((n : ℕ) → (Some x ≡ Some n) ↔ IsOctalText text n) → x % 2 ≡ 0 → (n : ℕ) → (Some x ≡ Some n) ↔ IsEvenText text n
even_number text x said even n = (
  (λ is. record { number_is = (said n).0 is; even = subst (λ (m : ℕ). m % 2 ≡ 0) (one_number x n is) even }),
  (λ given. (said n).1 given.number_is),
)

pub odd_number : (text : List ℕ) (x : ℕ) → ((n : ℕ) → (Some x ≡ Some n) ↔ IsOctalText text n) → (x % 2 ≡ 0 → ⊥) → (n : ℕ) → (None ≡ Some n) ↔ IsEvenText text n
odd_number text x said odd n = (
  (λ is. absurd (cc is)),
  (λ given. absurd (odd (subst (λ (m : ℕ). m % 2 ≡ 0) (sym (one_number x n ((said n).1 given.number_is))) given.even))),
)

pub no_number : (text : List ℕ) → ((n : ℕ) → (None ≡ Some n) ↔ IsOctalText text n) → (n : ℕ) → (None ≡ Some n) ↔ IsEvenText text n
no_number text said n = ((λ is. absurd (cc is)), (λ given. absurd (cc ((said n).1 given.number_is))))

pub low_number : {E : Type 0} (text : List ℕ) (x : ℕ) → ((n : ℕ) → (Some x ≡ Some n) ↔ IsEvenText text n) → x < top → (n : ℕ) → (◌≡◌ {A = Result ℕ E} (Ok x) (Ok n)) ↔ IsWordText text n
low_number {E} text x said low n = (
  (λ is. record { address_is = (said n).0 (cc is); below_top = subst (λ (m : ℕ). m < top) (one_value x n is) low }),
  (λ given. cc ((said n).1 given.address_is)),
)

-- what is said of the text that was given
pub given_start : {E : Type 0} (answer : Result ℕ E) (text : List ℕ) (given : Option (List ℕ)) → Some text ≡ given → ((n : ℕ) → (answer ≡ Ok n) ↔ IsOctalText text n) →
    (n : ℕ) → (answer ≡ Ok n) ↔ IsSavedStart given n
given_start {E} answer text given is said = subst (λ (g : Option (List ℕ)). (n : ℕ) → (answer ≡ Ok n) ↔ IsSavedStart g n) is said
