-- On a line that loses nothing the next event is possible, and what is left to happen falls.
use Rattle.std.proofs.Common.{◌≡◌, ℕ, ◌+◌, ◌-◌, ◌*◌, ◌<◌, ◌≤◌, true, ltb, Some, None, Option, List, [], ◌∷◌, length, refl, arith, ap, subst, length-append}
use Rattle.std.specs.Prelude.{if◌then◌else◌, option_to_list, is_some}
use Rattle.odt_machine.specs.Machine.{Machine}
use Rattle.odt_machine.specs.KeyTable.{take_of}
use Rattle.host_core.specs.declared.heard.Heard.{Heard}
use Rattle.host_core.specs.declared.heard.Heard.TheVariants.{Got, Quiet as Silence}
use Rattle.host_core.specs.declared.phase.Phase.{Phase}
use Rattle.host_core.specs.declared.phase.Phase.TheVariants.{Settle, Sync, Address, Slash, Before, Value, Deposit, Return, Start, Go, Ended}
use Rattle.host_core.specs.declared.phase.End.TheVariants.{GaveUp}
use Rattle.host_core.specs.declared.turn.Turn.TheVariants.{Timeout}
use Rattle.host_core.specs.Bound.{character_bound}
use Rattle.host_core.specs.Core.{Core, ended}
use Rattle.host_core.specs.PhaseTable.{move, taken, waits, sends, listens}
use Rattle.host_core.proofs.Turns.{kept, within_bound}
use Rattle.host_core.proofs.Frame.{moved, on_move}
use Rattle.line_world.specs.declared.event.Event.{Event}
use Rattle.host_core.specs.Console.{resynchronise_of}
use Rattle.line_world.specs.Scene.{Scene, Toll, toll_of}
use Rattle.line_world.specs.World.{occurs, happens, first_of, first_event, work_left}
use Rattle.line_world.proofs.Stepped.{stepped}
use Rattle.line_world.specs.Invariant.{IsKept}
use Rattle.line_world.proofs.Frame.{scene}
use Rattle.line_world.proofs.Taking.{key_takes}

-- ---- possible

first_possible : (m : Machine) (core : Core) (down up : List ℕ) (lost : Toll) → is_some (occurs (scene m core down up lost) (first_of down up)) ≡ true
first_possible m core (c ∷ down) up lost = refl
first_possible m core [] (c ∷ up) lost = refl
first_possible m core [] [] lost = refl

pub next_possible : (w : Scene) (event : Event) → event ≡ first_event w → is_some (occurs w event) ≡ true
next_possible w event is = rw is (first_possible w.machine w.core w.down w.up (toll_of w))

-- ---- the measure

-- a phase that is no end counts one
abbrev open_phase : Phase → ℕ
open_phase phase = if is_some (ended phase) then 0 else 1

open_one : (phase : Phase) → open_phase phase ≤ 1
open_one (Ended end) = omega arith
open_one Settle = omega arith
open_one (Sync k) = omega arith
open_one (Address visit k) = omega arith
open_one (Slash visit) = omega arith
open_one (Before visit) = omega arith
open_one (Value visit v j) = omega arith
open_one (Deposit deposit v k) = omega arith
open_one (Return why k) = omega arith
open_one (Start k) = omega arith
open_one Go = omega arith

open_is : (phase : Phase) → ended phase ≡ None → open_phase phase ≡ 1
open_is phase e = ap (λ o. if is_some o then 0 else 1) e

-- a timeout that sends nothing ends the life
timeout_ends : (core : Core) → (taken core Timeout).key ≡ None → open_phase (taken core Timeout).next.phase ≡ 0
timeout_ends core = on_move (λ m. m.key ≡ None → open_phase m.next.phase ≡ 0) (ltb core.spent core.patience) (sends (record core { spent = core.spent + 1 }) (resynchronise_of core.careful) (Sync 0)) (listens core (Ended GaveUp)) (λ _ e. absurd (cc)) (λ _ e. refl)

silence_ends : (core : Core) (phase : Phase) → ended phase ≡ None → (taken core (waits core.careful phase)).key ≡ None → open_phase (taken core (waits core.careful phase)).next.phase ≡ 0
silence_ends core Settle e none = absurd (cc)
silence_ends core Go e none = refl
silence_ends core (Ended end) e none = refl
silence_ends core (Sync k) e none = timeout_ends core none
silence_ends core (Address visit k) e none = timeout_ends core none
silence_ends core (Slash visit) e none = timeout_ends core none
silence_ends core (Before visit) e none = timeout_ends core none
silence_ends core (Value visit v j) e none = timeout_ends core none
silence_ends core (Deposit deposit v k) e none = timeout_ends core none
silence_ends core (Return why k) e none = timeout_ends core none
silence_ends core (Start k) e none = timeout_ends core none

-- what the host sends costs more than it adds
key_falls : (bound sent after heard gone still : ℕ) (key : Option ℕ) → after ≡ sent + length (option_to_list key) → after ≤ bound → still ≤ 1 → (key ≡ None → gone + still < heard + 1) → gone ≤ heard →
    12 * (bound - after) + 11 * length (option_to_list key) + gone + still < 12 * (bound - sent) + 0 + heard + 1
key_falls bound sent after heard gone still None is low one falls less = let strict = falls refl in omega arith
key_falls bound sent after heard gone still (Some c) is low one falls less = omega arith

-- the bound stays
same_bound : (core : Core) (heard : Heard) → character_bound (move core heard).next.careful (length (move core heard).next.plan.words) (move core heard).next.patience ≡ character_bound core.careful (length core.plan.words) core.patience
same_bound core heard = let care = (moved core heard).care in let plan = (moved core heard).plan in let patience = (moved core heard).patience in rw (care, plan, patience) refl

step_falls : (m : Machine) (core : Core) (heard : Heard) (old up : List ℕ) (lost : Toll) → IsKept (scene m core [] old lost) → ended core.phase ≡ None → length up ≤ length old →
    ((move core heard).key ≡ None → length up + open_phase (move core heard).next.phase < length old + 1) →
    work_left (stepped (scene m core [] old lost) up (move core heard)) < work_left (scene m core [] old lost)
step_falls m core heard old up lost k live less falls =
    let bound = character_bound core.careful (length core.plan.words) core.patience in
    let next = move core heard in
    let same = same_bound core heard in
    let low : next.next.sent ≤ bound = subst (λ n. next.next.sent ≤ n) same (within_bound next.next (kept core heard k.host)) in
    let falling = key_falls bound core.sent next.next.sent (length old) (length up) (open_phase next.next.phase) next.key (moved core heard).sent low (open_one next.next.phase) falls less in
    let still = open_is core.phase live in
    rw (same, still) falling

event_falls : (m : Machine) (core : Core) (down up : List ℕ) (lost : Toll) → IsKept (scene m core down up lost) → ended core.phase ≡ None → work_left (happens (scene m core down up lost) (first_of down up)) < work_left (scene m core down up lost)
event_falls m core (c ∷ down) up lost k live =
    let short = (key_takes m core c down up lost k).short in
    omega (arith, length-append up (take_of m c).answer)
event_falls m core [] (c ∷ up) lost k live = step_falls m core (Got c) (c ∷ up) up lost k live (omega arith) (λ none. let one = open_one (move core (Got c)).next.phase in omega arith)
event_falls m core [] [] lost k live = step_falls m core Silence [] [] lost k live (omega arith) (λ none. let closed = silence_ends core core.phase live none in omega arith)

pub work_falls : (w : Scene) (event : Event) → IsKept w → event ≡ first_event w → ended w.core.phase ≡ None → work_left (happens w event) < work_left w
work_falls w event k is live = rw is (event_falls w.machine w.core w.down w.up (toll_of w) k live)
