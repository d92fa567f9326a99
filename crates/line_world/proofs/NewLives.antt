-- A life that begins keeps the invariant, at an opening and at a restart, with any words that stand.
use Rattle.std.proofs.Common.{ℕ, ◌+◌, ◌*◌, ◌<◌, ◌≤◌, Bool, true, false, eqb, min, List, [], ◌∷◌, length, unwrap_or, arith}
use Rattle.std.specs.Prelude.{if◌then◌else◌, ◌&&◌}
use Rattle.std.specs.Option.{is_none}
use Rattle.tape_image.specs.Plan.{PlanValue}
use Rattle.odt_machine.specs.Machine.{Machine, IsMachine}
use Rattle.host_core.specs.declared.phase.Phase.TheVariants.{Settle, Ended}
use Rattle.host_core.specs.declared.phase.End.TheVariants.{Loaded, MaybeStarted}
use Rattle.host_core.specs.Core.{Core, begun_by, restarted}
use Rattle.host_core.specs.Host.{IsHost}
use Rattle.host_core.proofs.Turns.{restart_kept}
use Rattle.line_world.specs.Site.{Site, IsThere, site, site_of, Ground, ground}
use Rattle.line_world.specs.Scene.{Toll}
use Rattle.line_world.proofs.Stepped.{none_yet}
use Rattle.line_world.specs.Lawful.{Lawful}
use Rattle.line_world.specs.Invariant.{IsKept, InPhase, OneWay, RunsWith, RunsAt, spare, most_lost, standing}
use Rattle.line_world.proofs.Frame.{scene}
use Rattle.line_world.proofs.Keys.{lawful}

-- the first phase of a life asks of a key under way that it is lawful, and nothing else
first : (going done : Bool) (g : Ground) (t : Site) (down up : List ℕ) (patience : ℕ) → Lawful g down → InPhase (if going then Ended MaybeStarted else (if done then Ended Loaded else Settle)) g t down up patience 0 none_yet
first true done g t down up patience h = (h, tt)
first false true g t down up patience h = (h, tt)
first false false g t down up patience h = h

-- what is under way at the beginning of a life
queued : (careful : Bool) (down up : List ℕ) → OneWay down up → length up ≤ 32 → 0 + spare careful false + length up + 9 * length down ≤ most_lost careful 0
queued true [] up one few = omega arith
queued false [] up one few = omega arith
queued true (c ∷ []) [] one few = omega arith
queued false (c ∷ []) [] one few = omega arith
queued careful (c ∷ d ∷ down) up one few = let none = one.0 in absurd (cc)
queued careful (c ∷ []) (u ∷ up) one few = let none = one.1 in absurd (cc)

pub life_kept : (m : Machine) (careful : Bool) (plan : PlanValue) (verified : ℕ) (going : Bool) (patience : ℕ) (down up : List ℕ) → IsMachine m → IsHost (begun_by careful plan verified going patience) → OneWay down up → length up ≤ 32 →
    ((i : ℕ) → i < standing (begun_by careful plan verified going patience) → IsThere (site_of (scene m (begun_by careful plan verified going patience) down up none_yet) i)) →
    RunsWith going m.mode → RunsAt (unwrap_or plan.start 0) m.mode → Lawful (record { machine = m; plan = plan; going = going; careful = careful }) down → IsKept (scene m (begun_by careful plan verified going patience) down up none_yet)
life_kept m careful plan verified going patience down up machine host one few words running at_start key = record {
  machine = machine;
  host = host;
  one_way = one;
  few = few;
  words = words;
  running = running;
  at_start = at_start;
  cared = λ e. absurd (cc);
  spent = omega arith;
  characters = queued careful down up one few;
  phase = first going (eqb verified (length plan.words) && is_none plan.start) (record { machine = m; plan = plan; going = going; careful = careful }) (site (scene m (begun_by careful plan verified going patience) down up none_yet)) down up patience key;
}

-- words that stood before a restart stand after it
fewer : (going : Bool) (n verified kept : ℕ) (P : ℕ → Type 0) → ((i : ℕ) → i < (if going then n else verified) → P i) → (i : ℕ) → i < (if going then n else min kept verified) → P i
fewer true n verified kept P words i below = words i below
fewer false n verified kept P words i below = words i (omega arith)

-- a key of the old life is lawful in the new one
pub kept_restart : (m : Machine) (core : Core) (down up : List ℕ) (lost : Toll) (kept : ℕ) → IsKept (scene m core down up lost) → IsKept (scene m (restarted core kept) down up none_yet)
kept_restart m core down up lost kept k =
    life_kept m core.careful core.plan (min kept core.verified) core.going core.patience down up k.machine (restart_kept core kept k.host) k.one_way k.few
    (fewer core.going (length core.plan.words) core.verified kept (λ i. IsThere (site_of (scene m core down up lost) i)) k.words) k.running k.at_start (old_key down up k)
  where
    old_key : (down up : List ℕ) → IsKept (scene m core down up lost) → Lawful (ground (scene m core down up lost)) down
    old_key [] up k = tt
    old_key (c ∷ down) up k = lawful m core c down up lost k
