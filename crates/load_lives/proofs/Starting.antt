-- Over any lives a program runs only where `G` was among the keys.
use Rattle.std.proofs.Common.{ℕ, List, [], ◌∷◌, inl, inr, subst}
use Rattle.std.specs.Prelude.{◌⊎◌, Contains}
use Rattle.std.proofs.lemmas.List.Elements.{Contains-append_left, Contains-append_right, Contains-append_cases}
use Rattle.tape_image.specs.Plan.{PlanValue}
use Rattle.host_core.specs.Console.{go}
use Rattle.line_world.specs.Wire.{Wire, sent}
use Rattle.host_devices.specs.Dialogue.{keys_of}
use Rattle.honest_line.specs.Honest.{resting}
use Rattle.honest_line.proofs.Going.{MayRun, passes_back}
use Rattle.load_lives.specs.Lives.{WireAndRecord, Life, Reopens, AreLives, typed}

behind_keys : (left : Wire) (keys : List ℕ) → MayRun (sent left keys) → MayRun left ⊎ Contains keys go
behind_keys left keys (inl runs) = inl (inl runs)
behind_keys left keys (inr has) = elim (Contains-append_cases left.down keys go has) [ inl before ↦ inl (inr before) | inr now ↦ inr now ]

at_rest : (left : Wire) (waiting keys : List ℕ) → MayRun (sent (resting left.machine waiting 0) keys) → MayRun left ⊎ Contains keys go
at_rest left waiting keys (inl runs) = inl (inl runs)
at_rest left waiting keys (inr has) = inr has

-- what may run on the line that a life found, with the life's keys, was left so, or `G` is one of the keys
pub reopened_run : (left found : Wire) (keys : List ℕ) → Reopens left found → MayRun (sent found keys) → MayRun left ⊎ Contains keys go
reopened_run left found keys (inl same) may = behind_keys left keys (subst (λ (x : Wire). MayRun (sent x keys)) same may)
reopened_run left found keys (inr (waiting, few, new)) may = at_rest left waiting keys (subst (λ (x : Wire). MayRun (sent x keys)) new may)

pub typed_run : (plan : PlanValue) (lives : List Life) (old new : WireAndRecord) → (MayRun old.wire → ⊥) → AreLives plan old lives new → MayRun new.wire → Contains (typed lives) go
typed_run plan [] old new still same may = absurd (still (subst (λ (s : WireAndRecord). MayRun s.wire) same may))
typed_run plan (life ∷ earlier) old new still (between, lived, l) may =
    elim (reopened_run between.wire l.line.found (keys_of life.items) l.line.reopens (passes_back life.items l.line.found new.wire l.line.passes may)) [
      | inl before ↦ Contains-append_left (typed earlier) (keys_of life.items) go (typed_run plan earlier old between still lived before)
      | inr now ↦ Contains-append_right (typed earlier) (keys_of life.items) go now
    ]
