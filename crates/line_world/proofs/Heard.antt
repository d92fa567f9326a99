-- Hear keeps the invariant.
use Rattle.std.proofs.Common.{◌≡◌, ℕ, ◌<◌, Bool, true, false, List, [], ◌∷◌, inl, inr, arith, refl}
use Rattle.odt_machine.specs.Machine.{Machine, IsMachine}
use Rattle.host_core.specs.declared.phase.Phase.{Phase}
use Rattle.host_core.specs.declared.phase.Phase.TheVariants.{Settle, Sync, Address, Slash, Before, Value, Deposit, Return, Start, Go, Ended}
use Rattle.host_core.specs.declared.heard.Heard.TheVariants.{Got}
use Rattle.host_core.specs.Core.{Core, word_under_way, start_of}
use Rattle.host_core.specs.Host.{IsHost, PhaseFits, basis_of}
use Rattle.host_core.specs.PhaseTable.{move, hears}
use Rattle.line_world.specs.Scene.{Toll}
use Rattle.line_world.proofs.Stepped.{stepped}
use Rattle.line_world.specs.Site.{site, held_number}
use Rattle.line_world.specs.Struck.{Attempt}
use Rattle.line_world.specs.Invariant.{IsKept}
use Rattle.line_world.proofs.Rows.{IsSite}
use Rattle.line_world.proofs.Frame.{scene, TurnFits, PhaseHolds, kept_turn}
use Rattle.line_world.proofs.Sites.{plan_site}
use Rattle.line_world.proofs.Hearing.{IsAnswered, hears_fits}
use Rattle.line_world.proofs.Hurt.{hears_goes}

attempt_hears : (hurt : Bool) (phase : Phase) (m : Machine) (core : Core) (c : ℕ) (u : List ℕ) (n : ℕ) → (hurt ≡ true → core.careful ≡ true) → IsMachine m → IsSite (site (scene m core [] (c ∷ u) (record { count = n; hurt = hurt }))) → PhaseFits phase (basis_of core) →
    held_number (site (scene m core [] (c ∷ u) (record { count = n; hurt = hurt }))) < 65536 → IsAnswered phase → Attempt hurt phase (site (scene m core [] (c ∷ u) (record { count = n; hurt = hurt }))) m.mode [] (c ∷ u) core.spent n →
    TurnFits m core u (record { count = n; hurt = hurt }) (hears core.careful (word_under_way core) (start_of core) phase c)
attempt_hears false phase m core c u n cared machine numbers fits wide answered h = hears_fits m core c u n false (λ e. absurd (cc)) phase numbers fits wide h answered
attempt_hears true phase m core c u n cared machine numbers fits wide answered (due, inl h) = hears_fits m core c u n true (λ e. due) phase numbers fits wide h answered
attempt_hears true phase m core c u n cared machine numbers fits wide answered (due, inr h) = hears_goes m core c u n due machine (cared refl) phase numbers fits h.facts answered h.way.1

phase_hears : (phase : Phase) (m : Machine) (core : Core) (c : ℕ) (u : List ℕ) (lost : Toll) → (lost.hurt ≡ true → core.careful ≡ true) → IsMachine m → IsSite (site (scene m core [] (c ∷ u) lost)) → PhaseFits phase (basis_of core) →
    held_number (site (scene m core [] (c ∷ u) lost)) < 65536 → PhaseHolds phase m core [] (c ∷ u) lost → TurnFits m core u lost (hears core.careful (word_under_way core) (start_of core) phase c)
phase_hears Settle m core c u lost cared machine numbers fits wide h = tt
phase_hears (Ended end) m core c u lost cared machine numbers fits wide h = h
phase_hears (Sync k) m core c u lost cared machine numbers fits wide h = attempt_hears lost.hurt (Sync k) m core c u lost.count cared machine numbers fits wide tt h
phase_hears (Address visit k) m core c u lost cared machine numbers fits wide h = attempt_hears lost.hurt (Address visit k) m core c u lost.count cared machine numbers fits wide tt h
phase_hears (Slash visit) m core c u lost cared machine numbers fits wide h = attempt_hears lost.hurt (Slash visit) m core c u lost.count cared machine numbers fits wide tt h
phase_hears (Before visit) m core c u lost cared machine numbers fits wide h = attempt_hears lost.hurt (Before visit) m core c u lost.count cared machine numbers fits wide tt h
phase_hears (Value visit v j) m core c u lost cared machine numbers fits wide h = attempt_hears lost.hurt (Value visit v j) m core c u lost.count cared machine numbers fits wide tt h
phase_hears (Deposit end x k) m core c u lost cared machine numbers fits wide h = attempt_hears lost.hurt (Deposit end x k) m core c u lost.count cared machine numbers fits wide tt h
phase_hears (Return why k) m core c u lost cared machine numbers fits wide h = attempt_hears lost.hurt (Return why k) m core c u lost.count cared machine numbers fits wide tt h
phase_hears (Start k) m core c u lost cared machine numbers fits wide h = attempt_hears lost.hurt (Start k) m core c u lost.count cared machine numbers fits wide tt h
phase_hears Go m core c u lost cared machine numbers fits wide h = attempt_hears lost.hurt Go m core c u lost.count cared machine numbers fits wide tt h

pub kept_hear : (m : Machine) (core : Core) (c : ℕ) (down u : List ℕ) (lost : Toll) → IsHost (move core (Got c)).next → IsKept (scene m core down (c ∷ u) lost) → IsKept (stepped (scene m core down (c ∷ u) lost) u (move core (Got c)))
kept_hear m core c (d ∷ down) u lost host k = let none = k.one_way.1 in absurd (cc)
kept_hear m core c [] u lost host k =
    kept_turn m core (c ∷ u) u lost (hears core.careful (word_under_way core) (start_of core) core.phase c) k (omega arith) host
    (phase_hears core.phase m core c u lost k.cared k.machine (plan_site m core [] (c ∷ u) lost core.verified k.host.image) k.host.fits (k.machine.wide _) k.phase)
