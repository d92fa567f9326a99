-- Lemmas on the octal digits of a word.
use Rattle.std.proofs.Common.{◌≡◌, ℕ, ◌+◌, ◌*◌, ◌/◌, ◌%◌, ◌<◌, ◌≤◌, List, [], ◌∷◌, length, lit<, take, arith, ap, sym, subst, ◌∙◌}
use Rattle.std.proofs.Math.Seq.{take-length}
use Rattle.std.specs.Prelude.{slice_index, fold, IsTrue, All}
use Rattle.std.proofs.lemmas.Bool.Decides.{nat_tests}
use Rattle.octal.specs.Octal.{is_digit, digit_value, octal_value, IsOct6, pushed, octal_text}

-- a digit's character is from 48 to 55
digit_range : (c : ℕ) → IsTrue (is_digit c) → (48 ≤ c) × (c ≤ 55)
digit_range c h = grind (arith, nat_tests)

-- a word is written by one text alone
pub octal_text-only : (w : ℕ) (text : List ℕ) → IsOct6 w text → text ≡ octal_text w
octal_text-only w (a ∷ b ∷ c ∷ d ∷ e ∷ f ∷ []) h =
    let ra : (48 ≤ a) × (a ≤ 55) = digit_range a (h.digits 0 0 (lit< tt)) in
    let rb : (48 ≤ b) × (b ≤ 55) = digit_range b (h.digits 1 0 (lit< tt)) in
    let rc : (48 ≤ c) × (c ≤ 55) = digit_range c (h.digits 2 0 (lit< tt)) in
    let rd : (48 ≤ d) × (d ≤ 55) = digit_range d (h.digits 3 0 (lit< tt)) in
    let re : (48 ≤ e) × (e ≤ 55) = digit_range e (h.digits 4 0 (lit< tt)) in
    let rf : (48 ≤ f) × (f ≤ 55) = digit_range f (h.digits 5 0 (lit< tt)) in
    let ea : a ≡ 48 + w / 32768 % 8 = omega arith in
    let eb : b ≡ 48 + w / 4096 % 8 = omega arith in
    let ec : c ≡ 48 + w / 512 % 8 = omega arith in
    let ed : d ≡ 48 + w / 64 % 8 = omega arith in
    let ee : e ≡ 48 + w / 8 % 8 = omega arith in
    let ef : f ≡ 48 + w % 8 = omega arith in
    cc
octal_text-only w _ h = absurd (omega arith)

-- one more digit, as long as the number stays below 65536
pub pushed-small : (v c : ℕ) → 8 * v + digit_value c < 65536 → pushed v c ≡ 8 * v + digit_value c
pushed-small v c h = omega arith

-- typing six digits, the first at most 1, gives the number that they stand for
pub pushed-octal_value : (text : List ℕ) → length text ≡ 6 → All (λ c. IsTrue (is_digit c)) text → slice_index text 0 ≤ 49 → fold pushed 0 text ≡ octal_value text
pushed-octal_value (a ∷ b ∷ c ∷ d ∷ e ∷ f ∷ []) six digits first =
    let ra : (48 ≤ a) × (a ≤ 55) = digit_range a (digits 0 0 (lit< tt)) in
    let rb : (48 ≤ b) × (b ≤ 55) = digit_range b (digits 1 0 (lit< tt)) in
    let rc : (48 ≤ c) × (c ≤ 55) = digit_range c (digits 2 0 (lit< tt)) in
    let rd : (48 ≤ d) × (d ≤ 55) = digit_range d (digits 3 0 (lit< tt)) in
    let re : (48 ≤ e) × (e ≤ 55) = digit_range e (digits 4 0 (lit< tt)) in
    let rf : (48 ≤ f) × (f ≤ 55) = digit_range f (digits 5 0 (lit< tt)) in
    omega arith
pushed-octal_value _ six digits first = absurd (omega arith)

-- what six typed digits make is the word that they are the text of
pub typed-is : (text : List ℕ) (n v : ℕ) → length text ≡ 6 → n ≡ 6 → v ≡ fold pushed 0 (take n text) → All (λ c. IsTrue (is_digit c)) (take n text) → slice_index text 0 ≤ 49 → IsOct6 v text
typed-is text n v six here value digits first =
    let whole : take n text ≡ text = ap (λ k. take k text) (here ∙ sym six) ∙ take-length text in
    let all : All (λ c. IsTrue (is_digit c)) text = subst (All (λ c. IsTrue (is_digit c))) whole digits in
    record { six = six; digits = all; first = first; value = sym (pushed-octal_value text six all first) ∙ (ap (fold pushed 0) (sym whole) ∙ sym value) }

-- a text is of one word alone
pub one_word : (v w : ℕ) (text : List ℕ) → IsOct6 v text → IsOct6 w text → v ≡ w
one_word v w text is also = sym is.value ∙ also.value
