-- A line that loses nothing comes to an end.
use Rattle.std.proofs.Common.{◌≡◌, ℕ, zero, suc, ◌<◌, [], ◌∷◌, Some, None, IsSome, arith, refl, sym, subst}
use Rattle.host_core.specs.declared.phase.End.{End}
use Rattle.host_core.specs.Core.{ended}
use Rattle.line_world.specs.Scene.{Scene}
use Rattle.line_world.specs.World.{happens, first_event, work_left}
use Rattle.line_world.specs.Invariant.{IsKept}
use Rattle.line_world.specs.Runs.{RunsTo}
use Rattle.line_world.proofs.Events.{kept_event}
use Rattle.line_world.proofs.Work.{work_falls}

-- the events of such a line from one world on, and the end that they come to
pub record ComesToEnd (w : Scene) : Type 0 where
  pub last : Scene
  pub end : End
  pub run : RunsTo w last end

ends_here : (w : Scene) (end : End) → ended w.core.phase ≡ Some end → ComesToEnd w
ends_here w end is = record { last = w; end = end; run = record { events = []; clean = subst (λ o. IsSome o) (sym is) refl; world = refl; end_is = is } }

goes_on : (w : Scene) → ended w.core.phase ≡ None → ComesToEnd (happens w (first_event w)) → ComesToEnd w
goes_on w on rest = record {
  last = rest.last;
  end = rest.end;
  run = record { events = first_event w ∷ rest.run.events; clean = (on, refl, rest.run.clean); world = rest.run.world; end_is = rest.run.end_is };
}

fewer : (left before n : ℕ) → left < before → before < suc n → left < n
fewer left before n falls few = omega arith

none_left : (left : ℕ) → left < 0 → ⊥
none_left left few = omega arith

one_more : (left : ℕ) → left < suc left
one_more left = omega arith

-- so many events at most are left
within : (n : ℕ) (w : Scene) → IsKept w → work_left w < n → ComesToEnd w
within zero w kept few = absurd (none_left (work_left w) few)
within (suc n) w kept few =
    elim (ended w.core.phase) as (λ o. ended w.core.phase ≡ o → ComesToEnd w) [
      | None ↦ (λ on. goes_on w on (within n (happens w (first_event w)) (kept_event w (first_event w) kept) (fewer (work_left (happens w (first_event w))) (work_left w) n (work_falls w (first_event w) kept refl on) few)))
      | Some end ↦ (λ is. ends_here w end is)
    ]
    refl

pub comes_to_end : (w : Scene) → IsKept w → ComesToEnd w
comes_to_end w kept = within (suc (work_left w)) w kept (one_more (work_left w))
