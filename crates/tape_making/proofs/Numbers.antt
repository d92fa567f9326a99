-- Texts of numbers.
use Rattle.std.proofs.Common.{◌≡◌, ◌==◌, ◌↔◌, ◌-◌, ℕ, zero, suc, replicate, ◌+◌, ◌<◌, ◌≤◌, List, [], ◌∷◌, ◌++◌, length, map, take, get_or, arith, sym, refl, ◌∙◌, subst, Bor, Result, Ok, Err, MatchResult, true, false, Option, Some, None, cond, nat_lt}
use Rattle.std.specs.List.{AllZip}
use Rattle.std.specs.Prelude.{IsErrAnd, IfSome, IfNone}
use Rattle.octal.specs.Octal.{IsOct6}
use Rattle.std.proofs.lemmas.List.{take_all}
use Rattle.std.proofs.lemmas.Bool.Decides.{nat_tests}
use Rattle.tape_making.specs.declared.refusal.RowFault.{RowFault}
use Rattle.tape_making.specs.declared.refusal.RowFault.TheVariants.{Wrong, Memory}
use Rattle.tape_making.specs.Words.{IsNumber, AreNumbers, fields}
use Rattle.tape_making.specs.Reading.{IsNone}
use Rattle.tape_making.proofs.Zips.{zip_push, zip_at, zip_same, at_found, many_found, front_more}

-- a number has one value
pub one_number : (text : List ℕ) (n m : ℕ) → IsNumber text n → IsNumber text m → n ≡ m
one_number text n m is also = sym is.padded.value ∙ also.padded.value

pub same_numbers : (text : List ℕ) (ns ms : List ℕ) → AreNumbers text ns → AreNumbers text ms → ns ≡ ms
same_numbers text ns ms are also = zip_same IsNumber one_number (fields text) ns ms are also

pub numbers_more : (text : List ℕ) (found : List (Bor (List ℕ))) (i : ℕ) (d : Bor (List ℕ)) (old new : List ℕ) (n : ℕ) → map (λ f. f.now) found ≡ fields text → i < length found
    → AllZip IsNumber (take i (fields text)) old → IsNumber (get_or found i d).now n → new ≡ old ++ n ∷ [] → AllZip IsNumber (take (i + 1) (fields text)) new
numbers_more text found i d old new n is within are number all =
    subst (λ fs. AllZip IsNumber fs new) (sym (front_more found (fields text) i d is within))
    (subst (AllZip IsNumber (take i (fields text) ++ (get_or found i d).now ∷ [])) (sym all) (zip_push IsNumber (take i (fields text)) old (get_or found i d).now n are number))

pub no_numbers : (text : List ℕ) (found : List (Bor (List ℕ))) (i : ℕ) (d : Bor (List ℕ)) → map (λ f. f.now) found ≡ fields text → i < length found
    → ((n : ℕ) → IsNumber (get_or found i d).now n → ⊥) → (numbers : List ℕ) → AreNumbers text numbers → ⊥
no_numbers text found i d is within none numbers are =
    none (get_or numbers i 0) (subst (λ f. IsNumber f (get_or numbers i 0)) (at_found found (fields text) i d is within)
    (zip_at IsNumber (fields text) numbers i [] 0 are (omega (arith, many_found found (fields text) is))))

pub numbers_all : (text : List ℕ) (found : List (Bor (List ℕ))) (i : ℕ) (numbers : List ℕ) → map (λ f. f.now) found ≡ fields text → length found ≤ i
    → AllZip IsNumber (take i (fields text)) numbers → AreNumbers text numbers
numbers_all text found i numbers is all are = subst (λ fs. AllZip IsNumber fs numbers) (take_all i (fields text) (omega (arith, many_found found (fields text) is))) are

-- ---- one number

pub some_by : (n : ℕ) → false ≡ (n == 0) → 0 < n
some_by zero is = absurd (let h : false ≡ true = is in cc)
some_by (suc n) is = omega arith

pub number_found : (text digits : List ℕ) (r : Option ℕ) → ((word : ℕ) → (r ≡ Some word) ↔ IsOct6 word digits) → digits ≡ replicate (6 - length text) 48 ++ text → 0 < length text → length text ≤ 6
    → IfSome r (IsNumber text)
number_found text digits None exact is some few = tt
number_found text digits (Some n) exact is some few = record { some = some; few = few; padded = subst (IsOct6 n) is ((exact n).0 refl) }

pub number_none : (text digits : List ℕ) (r : Option ℕ) → ((word : ℕ) → (r ≡ Some word) ↔ IsOct6 word digits) → digits ≡ replicate (6 - length text) 48 ++ text
    → IfNone r ((n : ℕ) → IsNumber text n → ⊥)
number_none text digits None exact is = λ n number. let some : None ≡ Some n = (exact n).1 (subst (IsOct6 n) (sym is) number.padded) in absurd (cc)
number_none text digits (Some n) exact is = tt

-- ---- results

pub error_is : {A E : Type 0} (r : Result A E) (fault : E) (P : A → Type 0) (F : E → Type 0) → IsErrAnd r (λ e. e ≡ fault) → F fault → MatchResult r P F
error_is (Ok x) fault P F is holds = absurd is
error_is (Err e) fault P F is holds = subst F (sym is) holds

pub match_as : {A E : Type 0} (r : Result A E) (P Q : A → Type 0) (F G : E → Type 0) → ((x : A) → P x → Q x) → ((e : E) → F e → G e) → MatchResult r P F → MatchResult r Q G
match_as (Ok x) P Q F G ok err holds = ok x holds
match_as (Err e) P Q F G ok err holds = err e holds

-- where one thing has no numbers, what would give it some has none
pub none_from : (P Q : List ℕ → Type 0) → ((ns : List ℕ) → Q ns → (ms : List ℕ) × P ms) → (fault : RowFault) → IsNone P fault → IsNone Q fault
none_from P Q back (Wrong why) none = (none.0, λ ns holds. none.1 (back ns holds).0 (back ns holds).1)
none_from P Q back Memory none = tt

-- ---- places

-- what a test of numbers chose
pub found_at : (m n : ℕ) (end : ℕ) → cond (nat_lt m n) (Some m) None ≡ Some end → (m < n) × (m ≡ end)
found_at m n end is = elim (nat_lt m n) as (λ t. nat_lt m n ≡ t → cond t (Some m) None ≡ Some end → (m < n) × (m ≡ end))
    [ true ↦ (λ on e. (grind (arith, nat_tests), cc)) | false ↦ (λ off e. absurd (let h : None ≡ Some end = e in cc)) ] refl is

pub found_nowhere : (m n : ℕ) → cond (nat_lt m n) (Some m) None ≡ None → n ≤ m
found_nowhere m n is = elim (nat_lt m n) as (λ t. nat_lt m n ≡ t → cond t (Some m) None ≡ None → n ≤ m)
    [ true ↦ (λ on e. absurd (let h : Some m ≡ None = e in cc)) | false ↦ (λ off e. grind (arith, nat_tests)) ] refl is
