-- What holds of each answer that a console can give holds of the one that it gives, whatever a host makes of it.
use Rattle.std.proofs.Common.{◌≡◌, ℕ, ◌+◌, ◌-◌, ◌*◌, ◌<◌, ◌≤◌, Bool, true, false, ◌==◌, nat_lt, ◌||◌, if◌then◌else◌, arith}
use Rattle.std.proofs.lemmas.Bool.Decides.{nat_tests}
use borrow.Author.Tests.{ltb-true, ltb-false, eqb-true}
use Rattle.octal.specs.Octal.{digit_of, is_digit}
use Rattle.host_core.specs.declared.answers.Reply.{Reply}
use Rattle.host_core.specs.declared.answers.Reply.TheVariants.{On, Over, Wrong}
use Rattle.host_core.specs.declared.answers.Echo.{Echo}
use Rattle.host_core.specs.declared.answers.Echo.TheVariants.{More, Whole, NoEcho}
use Rattle.host_core.specs.declared.answers.Reading.{Reading}
use Rattle.host_core.specs.declared.answers.Reading.TheVariants.{Digits, Number, NoMemory, NoReading}
use Rattle.host_core.specs.Answers.{refusal_reply, resynchronise_reply, return_reply, digit_echo, first_digit, reading_start, reading_rest}
use Rattle.host_core.specs.Console.{prompt, space}
use Rattle.host_core.proofs.Frame.{on_test}

-- what holds of both answers holds of the one that a test chooses
pub either : {A : Type 0} (P : A → Type 0) (test : Bool) (x y : A) → (test ≡ true → P x) → (test ≡ false → P y) → P (if test then x else y)
either P test x y is isnt = on_test (λ v. P (if v then x else y)) test is isnt

pub refusal_walk : (P : Reply → Type 0) (key place c : ℕ) → P Wrong → ((k : ℕ) → k ≤ 5 → P (On k)) → ((c == prompt) ≡ true → P Over) → P (refusal_reply key place c)
refusal_walk P key place c wrong on over =
    either P (place == 0) _ _ (λ _. either P (c == key) _ _ (λ _. on 1 (omega arith)) (λ _. either P (c == 63) _ _ (λ _. on 2 (omega arith)) (λ _. wrong)))
    (λ _. either P (place == 1) _ _ (λ _. either P (c == 63) _ _ (λ _. on 2 (omega arith)) (λ _. wrong))
    (λ _. either P (place == 2) _ _ (λ _. either P (c == 13) _ _ (λ _. on 3 (omega arith)) (λ _. wrong))
    (λ _. either P (place == 3) _ _ (λ _. either P (c == 13) _ _ (λ _. on 4 (omega arith)) (λ _. either P (c == 10) _ _ (λ _. on 5 (omega arith)) (λ _. wrong)))
    (λ _. either P (place == 4) _ _ (λ _. either P (c == 10) _ _ (λ _. on 5 (omega arith)) (λ _. wrong))
    (λ _. either P (c == 64) _ _ over (λ _. wrong))))))

pub resynchronise_walk : (P : Reply → Type 0) (place c : ℕ) → P Wrong → ((k : ℕ) → k ≤ 5 → P (On k)) → ((c == prompt) ≡ true → P Over) → P (resynchronise_reply place c)
resynchronise_walk P place c wrong on over = refusal_walk P 90 place c wrong on over

pub return_walk : (P : Reply → Type 0) (place c : ℕ) → P Wrong → ((k : ℕ) → k ≤ 3 → P (On k)) → ((c == prompt) ≡ true → P Over) → P (return_reply place c)
return_walk P place c wrong on over =
    either P (place == 0) _ _ (λ _. either P (c == 13) _ _ (λ _. on 1 (omega arith)) (λ _. wrong))
    (λ _. either P (place == 1) _ _ (λ _. either P (c == 13) _ _ (λ _. on 2 (omega arith)) (λ _. either P (c == 10) _ _ (λ _. on 3 (omega arith)) (λ _. wrong)))
    (λ _. either P (place == 2) _ _ (λ _. either P (c == 10) _ _ (λ _. on 3 (omega arith)) (λ _. wrong))
    (λ _. either P (c == 64) _ _ over (λ _. wrong))))

pub echo_walk : (P : Echo → Type 0) (number place c : ℕ) → P NoEcho → ((c == digit_of number place) ≡ true → place < 6 → P (More (digit_of number (place + 1)))) →
    ((c == digit_of number place) ≡ true → 6 ≤ place → P Whole) → P (digit_echo number place c)
echo_walk P number place c none more whole =
    either P (c == digit_of number place) _ _ (λ is. either P (nat_lt place 6) _ _ (λ less. more is (ltb-true _ _ less)) (λ all. whole is (ltb-false _ _ all))) (λ _. none)

first_is : (c : ℕ) → (c == 48 || c == 49) ≡ true → (48 ≤ c) × (c ≤ 49)
first_is c h = grind (arith, nat_tests)

first_walk : (P : Reading → Type 0) (c : ℕ) → P NoReading → (48 ≤ c → c ≤ 49 → P (Digits (c - 48) 1)) → P (first_digit c)
first_walk P c none on = either P (c == 48 || c == 49) _ _ (λ first. on (first_is c first).0 (first_is c first).1) (λ _. none)

pub start_walk : (P : Reading → Type 0) (c : ℕ) → P NoReading → P (Digits 0 0) → P NoMemory → (48 ≤ c → c ≤ 49 → P (Digits (c - 48) 1)) → P (reading_start c)
start_walk P c none blank absent on = either P (c == 32) _ _ (λ _. blank) (λ _. either P (c == 63) _ _ (λ _. absent) (λ _. first_walk P c none on))

pub rest_walk : (P : Reading → Type 0) (number count c : ℕ) → P NoReading → (count ≡ 0 → 48 ≤ c → c ≤ 49 → P (Digits (c - 48) 1)) →
    ((count == 0) ≡ false → count < 6 → is_digit c ≡ true → P (Digits (8 * number + (c - 48)) (count + 1))) →
    (6 ≤ count → (c == space) ≡ true → P (Number number)) → P (reading_rest number count c)
rest_walk P number count c none first on whole =
    either P (count == 0) _ _ (λ zero. first_walk P c none (first (eqb-true _ _ zero)))
    (λ some. either P (nat_lt count 6) _ _ (λ less. either P (is_digit c) _ _ (λ digit. on some (ltb-true _ _ less) digit) (λ _. none))
    (λ all. either P (c == 32) _ _ (λ blank. whole (ltb-false _ _ all) blank) (λ _. none)))
