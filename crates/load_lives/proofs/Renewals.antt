-- Between two lives: what the machine, the line and a progress have to be, so that a life can begin there.
use Rattle.std.proofs.Common.{◌≡◌, ℕ, ◌^◌, ◌<◌, ◌≤◌, Bool, true, false, List, [], length, inl, inr, arith, sym, subst, unwrap_or}
use Rattle.std.specs.Prelude.{if◌then◌else◌, IsSome}
use Rattle.tape_image.specs.Plan.{PlanValue, IsPlan}
use Rattle.odt_machine.specs.Machine.{Machine, IsMachine}
use Rattle.host_core.specs.declared.progress.Progress.{Progress}
use Rattle.host_core.specs.Core.{Core, begun_by, word_nr}
use Rattle.host_core.specs.Host.{IsHost}
use Rattle.host_core.proofs.Turns.{begun_by_kept}
use Rattle.line_world.specs.Wire.{Wire, forgiven}
use Rattle.line_world.specs.Scene.{over}
use Rattle.line_world.specs.Safe.{OnlyImage, IsSafe}
use Rattle.line_world.specs.Site.{Site, IsThere}
use Rattle.line_world.specs.Invariant.{IsKept, OneWay, RunsAt, RunsWith}
use Rattle.line_world.proofs.NewLives.{life_kept}
use Rattle.honest_line.specs.Moves.{MovesOn}
use Rattle.honest_line.proofs.Passings.{later}
use Rattle.honest_line.proofs.Wires.{later_carries, moves_carried, none_moves}
use Rattle.looking_law.proofs.Splits.{nothing_lost}
use Rattle.load_lives.specs.Lives.{Reopens}

-- the place of the plan's word numbered i
abbrev pub place : PlanValue → Machine → ℕ → Site
place plan m i = record { style = m.style; memory = m.memory; word = word_nr plan.words i; start = unwrap_or plan.start 0; careful = false }

-- how many words stand for sure: all of them under the mark
abbrev pub standing : PlanValue → Progress → ℕ
standing plan progress = if progress.going then length plan.words else progress.verified

-- a line is in order for a progress: the words stand, of an earlier memory only bytes of the image have changed, and a program runs only under the mark
pub record Holds (plan : PlanValue) (before : List ℕ) (progress : Progress) (x : Wire) : Type 0 where
  pub machine : IsMachine x.machine
  pub one_way : OneWay x.down x.up
  pub few : length x.up ≤ 32
  pub words : (i : ℕ) → i < standing plan progress → IsThere (place plan x.machine i)
  pub running : RunsWith progress.going x.machine.mode
  pub at_start : RunsAt (unwrap_or plan.start 0) x.machine.mode
  pub bytes : OnlyImage before plan.image x.machine.memory

-- and whatever it does by itself it goes on so: of a key that is under way nothing else need be known, since the next host listens until it is taken or lost
abbrev pub Rests : PlanValue → List ℕ → Progress → Wire → Type 0
Rests plan before progress left = (x : Wire) → MovesOn left x → Holds plan before progress x

-- ---- what does not matter

-- how much was lost
pub other_losses : (plan : PlanValue) (before : List ℕ) (progress : Progress) (x : Wire) (lost : ℕ) → Holds plan before progress x → Holds plan before progress (record x { lost = lost })
other_losses plan before progress x lost h =
    record { machine = h.machine; one_way = h.one_way; few = h.few; words = h.words; running = h.running; at_start = h.at_start; bytes = h.bytes }

pub later_rests : (plan : PlanValue) (before : List ℕ) (progress : Progress) (k : ℕ) (y : Wire) → Rests plan before progress (later k y) → Rests plan before progress y
later_rests plan before progress k y rests x moves = other_losses plan before progress (later k x) x.lost (rests (later k x) (moves_carried (later k) (later_carries k) y x moves))

-- fewer words, and the same mark
pub fewer_stand : (g h : Bool) (n v w i : ℕ) → g ≡ h → v ≤ w → i < (if g then n else v) → i < (if h then n else w)
fewer_stand true true n v w i e le below = below
fewer_stand true false n v w i e le below = absurd (cc)
fewer_stand false true n v w i e le below = absurd (cc)
fewer_stand false false n v w i e le below = omega (arith, le, below)

pub fewer_hold : (plan : PlanValue) (before : List ℕ) (recorded progress : Progress) (x : Wire) → progress.verified ≤ recorded.verified → progress.going ≡ recorded.going → Holds plan before recorded x → Holds plan before progress x
fewer_hold plan before recorded progress x fewer mark h = record {
  machine = h.machine;
  one_way = h.one_way;
  few = h.few;
  words = λ i below. h.words i (fewer_stand progress.going recorded.going (length plan.words) progress.verified recorded.verified i mark fewer below);
  running = subst (λ g. RunsWith g x.machine.mode) (sym mark) h.running;
  at_start = h.at_start;
  bytes = h.bytes;
}

-- ---- where a life begins

-- a world leaves its line so, for every progress that has the host's mark and words that stand
pub holds_of : (plan : PlanValue) (before : List ℕ) (core : Core) (x : Wire) (progress : Progress) → core.plan ≡ plan → progress.going ≡ core.going → IsKept (over core x) →
    ((i : ℕ) → i < standing plan progress → IsThere (place plan x.machine i)) → IsSafe before core x.machine.memory → Holds plan before progress x
holds_of plan before core x progress same mark k words safe = record {
  machine = k.machine;
  one_way = k.one_way;
  few = k.few;
  words = words;
  running = subst (λ g. RunsWith g x.machine.mode) (sym mark) k.running;
  at_start = subst (λ (p : PlanValue). RunsAt (unwrap_or p.start 0) x.machine.mode) same k.at_start;
  bytes = subst (λ (p : PlanValue). OnlyImage before p.image x.machine.memory) same safe.bytes;
}

-- a life that begins with a progress on a line with no key under way keeps the invariant, plain or careful
pub renewed : (careful : Bool) (plan : PlanValue) (before : List ℕ) (progress : Progress) (patience : ℕ) (x : Wire) → IsPlan plan → progress.verified ≤ length plan.words → (progress.going ≡ true → IsSome plan.start) →
    patience < 2 ^ 32 → Holds plan before progress x → x.down ≡ [] → IsKept (over (begun_by careful plan progress.verified progress.going patience) (forgiven x))
renewed careful plan before progress patience x fits within start long h none =
    subst (λ down. IsKept (over (begun_by careful plan progress.verified progress.going patience) (record x { down = down; lost = 0 }))) (sym none)
    (life_kept x.machine careful plan progress.verified progress.going patience [] x.up h.machine host tt h.few h.words h.running h.at_start tt)
  where
    host : IsHost (begun_by careful plan progress.verified progress.going patience)
    host = begun_by_kept careful plan progress.verified progress.going patience fits within long start

-- the line that a life finds
pub found_so : (plan : PlanValue) (before : List ℕ) (progress : Progress) (left found : Wire) → Reopens left found → Rests plan before progress left → Holds plan before progress found
found_so plan before progress left found (inl same) rests = subst (Holds plan before progress) (sym same) (other_losses plan before progress left 0 (rests left (none_moves left)))
found_so plan before progress left found (inr (waiting, few, new)) rests =
    let h = rests left (none_moves left) in
    subst (Holds plan before progress) (sym new) (record { machine = h.machine; one_way = tt; few = few; words = h.words; running = h.running; at_start = h.at_start; bytes = h.bytes })

pub found_same : (plan : PlanValue) (before : List ℕ) (progress : Progress) (left found : Wire) → found ≡ forgiven left → Rests plan before progress left → Rests plan before progress found
found_same plan before progress left found same rests =
    subst (Rests plan before progress) (sym same) (later_rests plan before progress left.lost (forgiven left) (subst (λ n. Rests plan before progress (record left { lost = n })) (nothing_lost left.lost) rests))
