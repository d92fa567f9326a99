-- What holds of a life over every list of heard things.
use Rattle.std.specs.Prelude.{option_to_list}
use Rattle.std.proofs.Common.{◌≡◌, ℕ, ◌+◌, ◌^◌, ◌<◌, ◌≤◌, Bool, true, false, List, [], ◌∷◌, length, refl, arith, ◌∙◌, subst, length-append}
use Rattle.host_core.specs.declared.heard.Heard.{Heard}
use Rattle.host_core.specs.Bound.{character_bound, largest_bound}
use Rattle.host_core.specs.Core.{Core}
use Rattle.tape_image.specs.Plan.{PlanValue}
use Rattle.host_core.specs.Host.{IsHost}
use Rattle.host_core.specs.Laws.{led, replay, KeepsBound, IsSilent}
use Rattle.host_core.specs.PhaseTable.{move}
use Rattle.host_core.proofs.Frame.{moved, silent}
use Rattle.host_core.proofs.Turns.{kept, within_bound}

pub led_kept : (core : Core) (heard : List Heard) → IsHost core → IsHost (led core heard)
led_kept core [] h = h
led_kept core (heard ∷ more) h = led_kept (move core heard).next more (kept core heard h)

pub led_plan : (core : Core) (heard : List Heard) → (led core heard).plan ≡ core.plan
led_plan core [] = refl
led_plan core (heard ∷ more) = led_plan (move core heard).next more ∙ (moved core heard).plan

pub led_patience : (core : Core) (heard : List Heard) → (led core heard).patience ≡ core.patience
led_patience core [] = refl
led_patience core (heard ∷ more) = led_patience (move core heard).next more ∙ (moved core heard).patience

pub led_care : (core : Core) (heard : List Heard) → (led core heard).careful ≡ core.careful
led_care core [] = refl
led_care core (heard ∷ more) = led_care (move core heard).next more ∙ (moved core heard).care

led_sent : (core : Core) (heard : List Heard) → (led core heard).sent ≡ core.sent + length (replay core heard)
led_sent core [] = omega arith
led_sent core (heard ∷ more) =
    omega (arith, led_sent (move core heard).next more, (moved core heard).sent, length-append (option_to_list (move core heard).key) (replay (move core heard).next more))

pub keeps_bound : (core : Core) → IsHost core → KeepsBound core
keeps_bound core h heard =
    within (led core heard) (length (replay core heard)) (led_sent core heard) (led_care core heard) (led_plan core heard) (led_patience core heard) (within_bound (led core heard) (led_kept core heard h))
  where
    within : (now : Core) (more : ℕ) → now.sent ≡ core.sent + more → now.careful ≡ core.careful → now.plan ≡ core.plan → now.patience ≡ core.patience →
        now.sent ≤ character_bound now.careful (length now.plan.words) now.patience → core.sent + more ≤ character_bound core.careful (length core.plan.words) core.patience
    within now more is care plan patience le =
        subst (λ (c : Bool). core.sent + more ≤ character_bound c (length core.plan.words) core.patience) care
        (subst (λ (p : PlanValue). core.sent + more ≤ character_bound now.careful (length p.words) core.patience) plan
        (subst (λ (n : ℕ). core.sent + more ≤ character_bound now.careful (length now.plan.words) n) patience
        (subst (λ (n : ℕ). n ≤ character_bound now.careful (length now.plan.words) now.patience) is le)))

pub within_largest : (core : Core) → IsHost core → core.sent ≤ largest_bound core.careful
within_largest core h = largest core.careful core.sent (length core.plan.words) core.patience (within_bound core h) h.image.few h.long
  where
    largest : (careful : Bool) (sent n patience : ℕ) → sent ≤ character_bound careful n patience → n ≤ 28672 → patience < 2 ^ 32 → sent ≤ largest_bound careful
    largest true sent n patience paid few long = omega (arith, paid, few, long)
    largest false sent n patience paid few long = omega (arith, paid, few, long)

pub is_silent : (core : Core) → IsHost core → core.going ≡ true → IsSilent core
is_silent core h e [] = refl
is_silent core h e (heard ∷ more) =
    rw (silent core heard h e).key (is_silent (move core heard).next (kept core heard h) ((moved core heard).going e) more)
