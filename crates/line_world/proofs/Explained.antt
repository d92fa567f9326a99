-- Where the line has changed no character in an attempt, each that is heard is in the answer that is awaited.
use Rattle.std.proofs.Common.{◌≡◌, ℕ, zero, suc, ◌+◌, ◌-◌, ◌%◌, Bool, true, false, eqb, not, List, [], ◌∷◌, refl, arith, ap}
use Rattle.std.specs.Prelude.{if◌then◌else◌, ◌||◌}
use Rattle.std.proofs.lemmas.Bool.Decides.{nat_tests}
use Rattle.octal.specs.Octal.{digit_of, head, is_digit}
use Rattle.odt_machine.specs.declared.style.Style.{Style}
use Rattle.odt_machine.specs.Machine.{Machine, is_word}
use Rattle.host_core.specs.declared.phase.Phase.{Phase}
use Rattle.host_core.specs.declared.phase.Phase.TheVariants.{Settle, Sync, Address, Slash, Before, Value, Deposit, Return, Start, Go, Ended}
use Rattle.host_core.specs.Console.{resynchronise_of}
use Rattle.host_core.specs.Core.{Core}
use Rattle.host_core.specs.declared.heard.Heard.TheVariants.{Got}
use Rattle.host_core.specs.Foreign.{in_prompt, in_reading, in_refusal, may_come, is_foreign}
use Rattle.line_world.specs.Scene.{Toll}
use Rattle.line_world.specs.Site.{Site, site, held_number, last_digits, prompt_from, reading, refusal_from}
use Rattle.line_world.specs.World.{hears_foreign}
use Rattle.line_world.specs.Pending.{rest_of}
use Rattle.line_world.specs.Struck.{Attempt}
use Rattle.line_world.specs.Invariant.{IsKept}
use Rattle.line_world.proofs.Digits.{digit_is}
use Rattle.line_world.proofs.Frame.{scene, PhaseHolds}
use Rattle.line_world.proofs.Ways.{Each, each_part}

-- each character passes a test
abbrev All : (ℕ → Bool) → List ℕ → Type 0
All test list = Each (λ c. test c ≡ true) list

all_if : (test : ℕ → Bool) (b : Bool) (xs ys : List ℕ) → All test xs → All test ys → All test (if b then xs else ys)
all_if test true xs ys f g = f
all_if test false xs ys f g = g

same_self : (n : ℕ) → eqb n n ≡ true
same_self n = grind (arith, nat_tests)

or_left : (a b : Bool) → a ≡ true → (a || b) ≡ true
or_left true b e = refl
or_left false b e = absurd (cc)

or_right : (a b : Bool) → b ≡ true → (a || b) ≡ true
or_right true b e = refl
or_right false b e = e

-- what is in a part is in the whole
each_then : (P Q : ℕ → Type 0) (list : List ℕ) → ((c : ℕ) → P c → Q c) → Each P list → Each Q list
each_then P Q [] step h = tt
each_then P Q (c ∷ list) step h = (step c h.0, each_then P Q list step h.1)

prompt_in : (two : Bool) (i : ℕ) → All in_prompt (prompt_from two i)
prompt_in two i =
    all_if in_prompt (eqb i 0) _ _ (all_if in_prompt two _ _ (refl, (refl, (refl, (refl, tt)))) (refl, (refl, (refl, tt))))
    (all_if in_prompt (eqb i 1) _ _ (all_if in_prompt two _ _ (refl, (refl, (refl, tt))) (refl, (refl, tt)))
    (all_if in_prompt (eqb i 2) _ _ (refl, (refl, tt)) (refl, tt)))

refused_in : (two : Bool) (i : ℕ) → All in_refusal (prompt_from two i)
refused_in two i = each_then (λ c. in_prompt c ≡ true) (λ c. in_refusal c ≡ true) (prompt_from two i) (λ c h. or_right (eqb c 63) (in_prompt c) h) (prompt_in two i)

-- the answer to the key that resynchronises
sync_test : Bool → ℕ → Bool
sync_test careful c = eqb c (resynchronise_of careful) || in_refusal c

refusal_in : (careful : Bool) (s : Style) (k : ℕ) → All (λ c. eqb c (resynchronise_of careful) || in_refusal c) (refusal_from careful s k)
refusal_in careful s k =
    let test : ℕ → Bool = λ c. eqb c (resynchronise_of careful) || in_refusal c in
    let rest : (i : ℕ) → All test (prompt_from s.two_returns i) = λ i. each_then (λ c. in_refusal c ≡ true) (λ c. test c ≡ true) (prompt_from s.two_returns i) (λ c h. or_right (eqb c (resynchronise_of careful)) (in_refusal c) h) (refused_in s.two_returns i) in
    let question : All test (63 ∷ prompt_from s.two_returns 0) = (or_right (eqb 63 (resynchronise_of careful)) true refl, rest 0) in
    all_if test (eqb k 0) _ _ (all_if test s.echo_illegal _ _ (or_left _ _ (same_self (resynchronise_of careful)), question) question)
    (all_if test (eqb k 1) _ _ question (rest (k - 2)))

digit_in : (h : ℕ) → in_reading (48 + h % 8) ≡ true
digit_in h = or_right (eqb (48 + h % 8) 32) (is_digit (48 + h % 8)) (digit_is h)

digits_in : (w n : ℕ) → All in_reading (last_digits w n)
digits_in w zero = (refl, tt)
digits_in w (suc n) = (digit_in (head w (6 - n)), digits_in w n)

reading_in : (t : Site) → All (λ c. in_reading c || in_refusal c) (reading t)
reading_in t =
    let test : ℕ → Bool = λ c. in_reading c || in_refusal c in
    let digits : All test (last_digits (held_number t) 6) = each_then (λ c. in_reading c ≡ true) (λ c. test c ≡ true) (last_digits (held_number t) 6) (λ c h. or_left (in_reading c) (in_refusal c) h) (digits_in (held_number t) 6) in
    all_if test (is_word t.memory t.word.address) _ _ (all_if test t.style.space_before _ _ (refl, digits) digits)
    (refl, each_then (λ c. in_refusal c ≡ true) (λ c. test c ≡ true) (prompt_from t.style.two_returns 0) (λ c h. or_right (in_reading c) (in_refusal c) h) (refused_in t.style.two_returns 0))

slashed_in : (t : Site) → All (λ c. eqb c 47 || (in_reading c || in_refusal c)) (47 ∷ reading t)
slashed_in t =
    (refl, each_then (λ c. (in_reading c || in_refusal c) ≡ true) (λ c. (eqb c 47 || (in_reading c || in_refusal c)) ≡ true) (reading t) (λ c h. or_right (eqb c 47) (in_reading c || in_refusal c) h) (reading_in t))

-- the exact answer is such in every phase
rest_in : (phase : Phase) (t : Site) → All (may_come t.careful t.word.address t.start phase) (rest_of phase t)
rest_in Settle t = tt
rest_in (Sync k) t = refusal_in t.careful t.style k
rest_in (Address visit k) t = (same_self (digit_of t.word.address k), tt)
rest_in (Slash visit) t = slashed_in t
rest_in (Before visit) t = reading_in t
rest_in (Value visit v j) t = digits_in (held_number t) (6 - j)
rest_in (Deposit deposit x k) t = (same_self (digit_of x k), tt)
rest_in (Return why k) t = prompt_in t.style.two_returns k
rest_in (Start k) t = (same_self (digit_of t.start k), tt)
rest_in Go t = (refl, tt)
rest_in (Ended end) t = tt

attempt_explains : (hurt : Bool) (phase : Phase) (m : Machine) (core : Core) (c : ℕ) (u : List ℕ) (lost : Toll) → hurt ≡ false →
    Attempt hurt phase (site (scene m core [] (c ∷ u) lost)) m.mode [] (c ∷ u) core.spent lost.count → may_come core.careful (site (scene m core [] (c ∷ u) lost)).word.address (site (scene m core [] (c ∷ u) lost)).start phase c ≡ true
attempt_explains true phase m core c u lost unhurt h = absurd (cc)
attempt_explains false phase m core c u lost unhurt h =
    let t = site (scene m core [] (c ∷ u) lost) in
    (each_part (λ d. may_come t.careful t.word.address t.start phase d ≡ true) (c ∷ u) (rest_of phase t) h.rest.1 (rest_in phase t)).0

phase_explains : (phase : Phase) (m : Machine) (core : Core) (c : ℕ) (u : List ℕ) (lost : Toll) → lost.hurt ≡ false → PhaseHolds phase m core [] (c ∷ u) lost →
    may_come core.careful (site (scene m core [] (c ∷ u) lost)).word.address (site (scene m core [] (c ∷ u) lost)).start phase c ≡ true
phase_explains Settle m core c u lost unhurt h = refl
phase_explains (Ended end) m core c u lost unhurt h = refl
phase_explains phase m core c u lost unhurt h = attempt_explains lost.hurt phase m core c u lost unhurt h

-- a character that is heard there is not foreign
pub never_foreign : (m : Machine) (core : Core) (down : List ℕ) (c : ℕ) (u : List ℕ) (lost : Toll) → lost.hurt ≡ false → IsKept (scene m core down (c ∷ u) lost) → is_foreign core (Got c) ≡ false
never_foreign m core (d ∷ down) c u lost unhurt k = let none = k.one_way.1 in absurd (cc)
never_foreign m core [] c u lost unhurt k = ap not (phase_explains core.phase m core c u lost unhurt k.phase)

-- so is the next one of a queue
pub next_explained : (m : Machine) (core : Core) (down up : List ℕ) (lost : Toll) → lost.hurt ≡ false → IsKept (scene m core down up lost) → hears_foreign core up ≡ false
next_explained m core down [] lost unhurt k = refl
next_explained m core down (c ∷ u) lost unhurt k = never_foreign m core down c u lost unhurt k
