-- Over an honest line no character is heard that no loss explains.
use Rattle.std.proofs.Common.{◌≡◌, ℕ, ◌+◌, Bool, true, false, List, [], ◌∷◌, length, refl, ap, subst}
use Rattle.std.specs.Prelude.{if◌then◌else◌, option_to_list}
use Rattle.odt_machine.specs.Machine.{Machine}
use Rattle.host_core.specs.declared.heard.Heard.{Heard}
use Rattle.host_core.specs.declared.heard.Heard.TheVariants.{Got, Quiet as Silence}
use Rattle.host_core.specs.Core.{Core}
use Rattle.host_core.specs.Foreign.{is_foreign, foreign_count}
use Rattle.host_core.specs.PhaseTable.{move}
use Rattle.line_world.specs.Scene.{Scene, over}
use Rattle.line_world.specs.Wire.{Wire, sent}
use Rattle.line_world.specs.World.{after, loading}
use Rattle.line_world.specs.Invariant.{IsKept}
use Rattle.line_world.proofs.Events.{kept_events}
use Rattle.line_world.proofs.Explained.{never_foreign}
use Rattle.host_devices.specs.Dialogue.{dialogue}
use Rattle.honest_line.specs.Honest.{resting}
use Rattle.honest_line.specs.Moves.{Moves, Passes, Gives}
use Rattle.honest_line.specs.Trust.{NothingForeignIsHeard}
use Rattle.honest_line.proofs.Leading.{gives_lead, moves_lead}
use Rattle.honest_line.proofs.Passings.{passing_said}
use Rattle.honest_line.proofs.Runs.{Leads}
use Rattle.honest_line.proofs.Trusted.{begin_kept}

kept_led : (w next : Scene) (keys : List ℕ) → IsKept w → Leads w keys next → IsKept next
kept_led w next keys k run = subst IsKept run.world (kept_events w run.events k)

given_explained : (core : Core) (what : Heard) (x y : Wire) → IsKept (over core x) → Gives x what y → is_foreign core what ≡ false
given_explained core Silence x y k gives = refl
given_explained core (Got c) x y k (rest, is, now) =
    never_foreign x.machine core x.down c rest (record { count = x.lost; hurt = false }) refl (subst (λ (up : List ℕ). IsKept (over core (record x { up = up }))) is k)

none_foreign : (things : List Heard) (core : Core) (x y : Wire) → IsKept (over core x) → Passes x (dialogue core things) y → foreign_count core things ≡ 0
none_foreign [] core x y k passes = refl
none_foreign (what ∷ things) core x y k (z, v, before, gives, passes) =
    let key = (move core what).key in
    let next = (move core what).next in
    let here : IsKept (over core z) = kept_led (over core x) (over core z) [] k (moves_lead loading core x z before) in
    let there : IsKept (over next (sent v (option_to_list key))) = kept_led (over core z) (over next (sent v (option_to_list key))) (option_to_list key) here (gives_lead loading core what z v gives) in
    let rest : foreign_count next things ≡ 0 = none_foreign things next (sent v (option_to_list key)) y there (passing_said Moves key (dialogue next things) v y passes) in
    both (is_foreign core what) (foreign_count next things) (given_explained core what z v here gives) rest
  where
    both : (foreign : Bool) (more : ℕ) → foreign ≡ false → more ≡ 0 → (if foreign then 1 else 0) + more ≡ 0
    both foreign more e f = rw (e, f) refl

pub nothing_foreign : NothingForeignIsHeard
nothing_foreign core things machine now lost host may honest =
    none_foreign things core (resting machine honest.waiting 0) honest.end (begin_kept core machine honest.waiting host may honest.few) honest.passes
