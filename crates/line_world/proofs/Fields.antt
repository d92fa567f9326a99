-- The invariant of a world's fields after each event.
use Rattle.std.proofs.Common.{◌≡◌, ℕ, suc, ◌+◌, ◌*◌, ◌≤◌, Bool, true, false, eqb, not, ◌&&◌, Some, subst, Ok, Err, Result, List, [], ◌∷◌, ◌++◌, length, refl, arith, ap, ltb, set, length-set, ◌∙◌, ◌<◌}
use Rattle.std.proofs.lemmas.Bool.Decides.{nat_tests}
use Rattle.std.specs.Prelude.{if◌then◌else◌, option_to_list, slice_get, IsOk, OnOk}
use Rattle.std.specs.List.{remove, refill}
use Rattle.odt_machine.specs.Machine.{Machine}
use Rattle.odt_machine.specs.KeyTable.{take_of, after_key}
use Rattle.host_core.specs.declared.heard.Heard.TheVariants.{Got, Quiet as Silence}
use Rattle.host_core.specs.Core.{Core}
use Rattle.line_world.specs.Scene.{Toll}
use Rattle.line_world.specs.declared.event.Event.TheVariants.{Quiet}
use Rattle.line_world.specs.World.{happens, renewing}
use Rattle.host_core.specs.PhaseTable.{move}
use Rattle.host_core.proofs.Turns.{kept}
use Rattle.host_core.specs.Bound.{largest_bound}
use Rattle.host_core.proofs.Lives.{within_largest}
use Rattle.line_world.specs.Invariant.{IsKept, spare, most_lost}
use Rattle.line_world.proofs.Frame.{scene}
use Rattle.line_world.proofs.Taking.{kept_take, key_takes}
use Rattle.line_world.proofs.Machines.{machine_taken}
use Rattle.line_world.proofs.Heard.{kept_hear}
use Rattle.line_world.proofs.Silence.{kept_silence}

pub from_ok : {T E P : Type 0} (r : Result T E) → IsOk r → OnOk r P → P
from_ok (Ok x) is h = h
from_ok (Err e) is h = absurd (cc)

-- an answer has room: nothing else is under way
pub answer_fits : (m : Machine) (core : Core) (down up : List ℕ) (lost : Toll) (key : ℕ) → IsKept (scene m core down up lost) → Some key ≡ slice_get down 0 → length up + length (take_of m key).answer ≤ 32
answer_fits m core [] up lost key k first = absurd (cc)
answer_fits m core (c ∷ down) (d ∷ up) lost key k first = let none = k.one_way.1 in absurd (cc)
answer_fits m core (c ∷ down) [] lost key k first = short m c key (cc) (key_takes m core c down [] lost k).short
  where
    short : (m : Machine) (c key : ℕ) → key ≡ c → length (take_of m c).answer ≤ 9 → 0 + length (take_of m key).answer ≤ 32
    short m c key same h = rw same (omega arith)

pub taken_fields : (m : Machine) (core : Core) (down up : List ℕ) (lost : Toll) (key : ℕ) (new : Machine) (left now : List ℕ) → IsKept (scene m core down up lost) → Some key ≡ slice_get down 0 → left ≡ remove down 0 →
    new ≡ after_key m key → now ≡ up ++ (take_of m key).answer → IsKept (scene new core left now lost)
taken_fields m core [] up lost key new left now k first rest machine queue = absurd (cc)
taken_fields m core (c ∷ down) up lost key new left now k first rest machine queue =
    let same : key ≡ c = cc in
    rw (machine, queue, rest, same) (kept_take m core c down up lost (machine_taken m core c down up lost k) k)

pub heard_fields : (m : Machine) (core : Core) (down up : List ℕ) (lost : Toll) (c : ℕ) (new : Core) (now left : List ℕ) (hurt : Bool) → IsKept (scene m core down up lost) → Some c ≡ slice_get up 0 → left ≡ remove up 0 →
    new ≡ (move core (Got c)).next → now ≡ option_to_list (move core (Got c)).key → hurt ≡ (if renewing (move core (Got c)).key (move core (Got c)).next.phase then false else lost.hurt) →
    IsKept (scene m new now left (record { count = lost.count; hurt = hurt }))
heard_fields m core down [] lost c new now left hurt k first rest host queue flag = absurd (cc)
heard_fields m core (d ∷ down) (u ∷ up) lost c new now left hurt k first rest host queue flag = let none = k.one_way.1 in absurd (cc)
heard_fields m core [] (u ∷ up) lost c new now left hurt k first rest host queue flag =
    let same : c ≡ u = cc in
    rw (flag, host, queue, rest, same) (kept_hear m core u [] up lost (kept core (Got u) k.host) k)

pub silent_fields : (m : Machine) (core : Core) (down up : List ℕ) (lost : Toll) (new : Core) (now : List ℕ) (hurt : Bool) → IsKept (scene m core down up lost) → down ≡ [] → up ≡ [] →
    new ≡ (move core Silence).next → now ≡ option_to_list (move core Silence).key → hurt ≡ (if renewing (move core Silence).key (move core Silence).next.phase then false else lost.hurt) →
    IsKept (scene m new now up (record { count = lost.count; hurt = hurt }))
silent_fields m core (d ∷ down) up lost new now hurt k none empty host queue flag = absurd (cc)
silent_fields m core [] (u ∷ up) lost new now hurt k none empty host queue flag = absurd (cc)
silent_fields m core [] [] lost new now hurt k none empty host queue flag = rw (flag, host, queue) (kept_silence m core lost (kept core Silence k.host) k)

-- the world behind a timeout, by its fields
pub silent_world : (m : Machine) (core : Core) (down up : List ℕ) (lost : Toll) (new : Core) (now : List ℕ) (hurt : Bool) → down ≡ [] → up ≡ [] →
    new ≡ (move core Silence).next → now ≡ option_to_list (move core Silence).key → hurt ≡ (if renewing (move core Silence).key (move core Silence).next.phase then false else lost.hurt) →
    scene m new now up (record { count = lost.count; hurt = hurt }) ≡ happens (scene m core down up lost) Quiet
silent_world m core (d ∷ down) up lost new now hurt none empty host queue flag = absurd (cc)
silent_world m core [] (u ∷ up) lost new now hurt none empty host queue flag = absurd (cc)
silent_world m core [] [] lost new now hurt none empty host queue flag = rw (flag, host, queue) refl

-- one character more can be counted
pub lost_fits : (m : Machine) (core : Core) (down up : List ℕ) (lost : Toll) → IsKept (scene m core down up lost) → lost.count + 1 < 18446744073709551616
lost_fits m core down up lost k = small core.careful lost.count (spare core.careful lost.hurt) (length up) (length down) core.sent k.characters (within_largest core k.host)
  where
    small : (careful : Bool) (lost spare up down sent : ℕ) → lost + spare + up + 9 * down ≤ most_lost careful sent → sent ≤ largest_bound careful → lost + 1 < 18446744073709551616
    small true lost spare up down sent paid few = omega (arith, paid, few)
    small false lost spare up down sent paid few = omega (arith, paid, few)

-- a list that is found empty is
pub nothing_there : (xs : List ℕ) (b : Bool) → b ≡ eqb (length xs) 0 → b ≡ true → xs ≡ []
nothing_there [] b is empty = refl
nothing_there (x ∷ xs) b is empty = absurd (filled (length xs) b is empty)
  where
    filled : (n : ℕ) (b : Bool) → b ≡ eqb (suc n) 0 → b ≡ true → ⊥
    filled n b is empty = grind (arith, nat_tests)

-- a list of the same length is written back whole
refill_same : (xs ws : List ℕ) → length ws ≡ length xs → refill (length xs) xs ws ≡ ws
refill_same [] [] e = refl
refill_same [] (w ∷ ws) e = absurd (cc)
refill_same (x ∷ xs) [] e = absurd (cc)
refill_same (x ∷ xs) (w ∷ ws) e = ap (λ l. w ∷ l) (refill_same xs ws (let same = e in omega arith))

-- one number of a queue is written
pub written : (xs ys : List ℕ) (k c : ℕ) → ys ≡ xs → refill (length xs) xs (set ys k c) ≡ set xs k c
written xs ys k c same = ap (λ l. refill (length xs) xs (set l k c)) same ∙ refill_same xs (set xs k c) (length-set xs k c)

pub under_of : (k len n : ℕ) → len ≡ n → k < len → k < n
under_of k len n is below = subst (λ m. k < m) is below

pub may_be : (careful : Bool) (k n : ℕ) (may : Bool) → careful ≡ true → k < n → may ≡ true → (careful && (ltb k n && may)) ≡ true
may_be careful k n may care below is = rw (care, is) (under_is k n below)
  where
    under_is : (k n : ℕ) → k < n → (true && (ltb k n && true)) ≡ true
    under_is k n below = grind (arith, nat_tests)

pub not_hurt : (hurt : Bool) → hurt ≡ false → not hurt ≡ true
not_hurt true e = absurd (cc)
not_hurt false e = refl
