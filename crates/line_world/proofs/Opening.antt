-- The invariant holds at every opening.
use Rattle.std.proofs.Common.{◌≡◌, ℕ, ◌<◌, ◌≤◌, Bool, false, List, [], length, unwrap_or}
use Rattle.tape_image.specs.Plan.{PlanValue}
use Rattle.odt_machine.specs.declared.mode.Mode.{Mode}
use Rattle.odt_machine.specs.declared.mode.Mode.TheVariants.{Prompt, Number, Opened, Typing, Running}
use Rattle.odt_machine.specs.Machine.{Machine, IsMachine}
use Rattle.odt_machine.specs.Laws.{is_running}
use Rattle.host_core.specs.Core.{begun, begun_by}
use Rattle.host_core.specs.Host.{IsHost}
use Rattle.line_world.specs.Site.{site_of, IsThere}
use Rattle.line_world.specs.Invariant.{IsKept, RunsWith, RunsAt}
use Rattle.line_world.specs.Opening.{opened}
use Rattle.line_world.proofs.NewLives.{life_kept}

at_rest : (going : Bool) (start : ℕ) (mode : Mode) → is_running mode ≡ false → RunsWith going mode × RunsAt start mode
at_rest going start Prompt h = (tt, tt)
at_rest going start (Number v n) h = (tt, tt)
at_rest going start (Opened a) h = (tt, tt)
at_rest going start (Typing a v n) h = (tt, tt)
at_rest going start (Running p) h = absurd (cc)

-- a life that begins with words verified and no mark is kept where these words stand, and no program runs
pub opening_by_kept : (m : Machine) (careful : Bool) (plan : PlanValue) (verified patience : ℕ) (waiting : List ℕ) → IsMachine m → IsHost (begun_by careful plan verified false patience) → length waiting ≤ 32 → is_running m.mode ≡ false →
    ((i : ℕ) → i < verified → IsThere (site_of (opened m (begun_by careful plan verified false patience) waiting) i)) → IsKept (opened m (begun_by careful plan verified false patience) waiting)
opening_by_kept m careful plan verified patience waiting machine host few stopped words =
    let rest = at_rest false (unwrap_or plan.start 0) m.mode stopped in
    life_kept m careful plan verified false patience [] waiting machine host tt few words rest.0 rest.1 tt

-- the same of a plain host
pub opening_kept : (m : Machine) (plan : PlanValue) (verified patience : ℕ) (waiting : List ℕ) → IsMachine m → IsHost (begun plan verified false patience) → length waiting ≤ 32 → is_running m.mode ≡ false →
    ((i : ℕ) → i < verified → IsThere (site_of (opened m (begun plan verified false patience) waiting) i)) → IsKept (opened m (begun plan verified false patience) waiting)
opening_kept m plan verified patience waiting machine host few stopped words = opening_by_kept m false plan verified patience waiting machine host few stopped words
