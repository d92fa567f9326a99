-- The waiting characters of a line, code by code.
use Rattle.std.proofs.Common.{◌≡◌, ℕ, ◌+◌, ◌*◌, ◌<◌, ◌≤◌, List, [], ◌∷◌, ◌++◌, length, arith, ap, sym, ◌∙◌, subst, append_assoc, append-nil, refl, codes, Bool, true, false, ◌==◌}
use Rattle.std.proofs.lemmas.Bool.{false≢true}
use Rattle.std.proofs.lemmas.Bool.Decides.{nat_tests}
use Rattle.std.specs.Char.{digit_value}
use Rattle.std.proofs.lemmas.List.{append_cancel_left}
use Rattle.loss_scripts.specs.Line.{BeginsWithCode, AreCodes, IsWait}

-- these characters have been read from a text, and the rest is left
pub record Gathers (text rest characters : List ℕ) : Type 0 where
  pub made : (more : List ℕ) → AreCodes rest more → AreCodes text (characters ++ more)
  pub only : (all : List ℕ) → AreCodes text all → (more : List ℕ) × (all ≡ characters ++ more) × AreCodes rest more

pub gathers_none : (text : List ℕ) → Gathers text text []
gathers_none text = record { made = λ more are. are; only = λ all are. (all, refl, are) }

-- a text begins with one code
one_code : (text : List ℕ) (c d : ℕ) (after rest : List ℕ) → BeginsWithCode text c after → BeginsWithCode text d rest → (c ≡ d) × (after ≡ rest)
one_code text c d after rest a b =
    let same : 32 ∷ a.high ∷ a.low ∷ after ≡ 32 ∷ b.high ∷ b.low ∷ rest = sym a.spelled ∙ b.spelled in
    let high : a.high ≡ b.high = cc in
    let low : a.low ≡ b.low = cc in
    (a.value ∙ ap (λ h. 16 * digit_value h + digit_value a.low) high ∙ ap (λ l. 16 * digit_value b.high + digit_value l) low ∙ sym b.value, cc)

-- where a code stands, more characters are left
onward : (text rest after characters all more : List ℕ) (c : ℕ) → BeginsWithCode rest c after → all ≡ characters ++ more → AreCodes rest more
    → (left : List ℕ) × (all ≡ (characters ++ c ∷ []) ++ left) × AreCodes after left
onward text rest after characters all [] c begins same are = absurd (let none : [] ≡ 32 ∷ begins.high ∷ begins.low ∷ after = sym are ∙ begins.spelled in cc)
onward text rest after characters all (d ∷ more) c begins same are =
    let one = one_code rest c d after are.0 begins are.1 in
    (more, same ∙ ap (λ x. characters ++ x ∷ more) (sym one.0) ∙ sym (append_assoc characters (c ∷ []) more), subst (λ r. AreCodes r more) (sym one.1) are.2)

pub gathers_more : (text rest after characters : List ℕ) (c : ℕ) → Gathers text rest characters → BeginsWithCode rest c after → Gathers text after (characters ++ c ∷ [])
gathers_more text rest after characters c so begins = record {
  made = λ more are. subst (AreCodes text) (sym (append_assoc characters (c ∷ []) more)) (so.made (c ∷ more) (after, begins, are));
  only = λ all are. let left = so.only all are in onward text rest after characters all left.0 c begins left.1 left.2;
}

gathers_all : (text characters : List ℕ) → Gathers text [] characters → AreCodes text characters
gathers_all text characters so = subst (AreCodes text) (append-nil characters) (so.made [] refl)

-- what no code begins has none left
stuck : (rest more : List ℕ) → ((c : ℕ) (after : List ℕ) → BeginsWithCode rest c after → ⊥) → AreCodes rest more → (more ≡ []) × (rest ≡ [])
stuck rest [] none are = (refl, are)
stuck rest (c ∷ more) none are = absurd (none c are.0 are.1)

gathers_stuck : (text rest characters all : List ℕ) → Gathers text rest characters → ((c : ℕ) (after : List ℕ) → BeginsWithCode rest c after → ⊥) → AreCodes text all → (all ≡ characters) × (rest ≡ [])
gathers_stuck text rest characters all so none are =
    let left = so.only all are in
    let end = stuck rest left.0 none left.2 in
    (left.1 ∙ ap (λ more. characters ++ more) end.0 ∙ append-nil characters, end.1)

-- the line of the characters that were read, and of no others
pub wait_made : (text body rest characters : List ℕ) → text ≡ codes "wait" ++ body → Gathers body rest characters → rest ≡ [] → 0 < length characters → length characters ≤ 32 → IsWait text characters
wait_made text body rest characters here so end some few = record {
  rest = body;
  spelled = here;
  codes = gathers_all body characters (subst (λ r. Gathers body r characters) end so);
  some = some;
  few = few;
}

codes_of : (text body all : List ℕ) → text ≡ codes "wait" ++ body → IsWait text all → AreCodes body all
codes_of text body all here is = subst (λ r. AreCodes r all) (append_cancel_left (codes "wait") is.rest body (sym is.spelled ∙ here)) is.codes

pub wait_only : (text body rest characters all : List ℕ) → text ≡ codes "wait" ++ body → Gathers body rest characters → ((c : ℕ) (after : List ℕ) → BeginsWithCode rest c after → ⊥) → IsWait text all
    → (length all ≡ length characters) × (length rest ≡ 0)
wait_only text body rest characters all here so none is =
    let end = gathers_stuck body rest characters all so none (codes_of text body all here is) in
    (ap length end.0, ap length end.1)

pub empty_by_test : (xs : List ℕ) (test : Bool) → test ≡ (length xs == 0) → test ≡ true → xs ≡ []
empty_by_test [] test is on = refl
empty_by_test (x ∷ xs) test is on = absurd (grind (arith, nat_tests))

pub some_by_test : (xs : List ℕ) (test : Bool) → test ≡ (length xs == 0) → test ≡ false → length xs ≡ 0 → ⊥
some_by_test [] test is off none = false≢true (sym off ∙ is)
some_by_test (x ∷ xs) test is off none = omega arith

pub some_if_not : (xs : List ℕ) (test : Bool) → test ≡ (length xs == 0) → test ≡ false → 0 < length xs
some_if_not [] test is off = absurd (some_by_test [] test is off refl)
some_if_not (x ∷ xs) test is off = omega arith

pub length_by_test : (xs : List ℕ) → true ≡ (length xs == 0) → length xs ≡ 0
length_by_test [] is = refl
length_by_test (x ∷ xs) is = absurd (grind (arith, nat_tests))

pub room_by_test : (xs : List ℕ) (test : Bool) → test ≡ (length xs == 32) → test ≡ false → length xs ≤ 32 → length xs < 32
room_by_test xs test is off few = grind (arith, nat_tests)
