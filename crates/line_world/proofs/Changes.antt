-- A changed character keeps the invariant.
use Rattle.std.proofs.Common.{◌≡◌, ◌≢◌, ℕ, zero, suc, ◌+◌, ◌*◌, ◌<◌, ◌≤◌, Bool, true, false, eqb, ltb, not, ◌&&◌, set, List, [], ◌∷◌, length, inr, refl, arith, sym, ◌∙◌, length-set}
use Rattle.std.specs.Prelude.{slice_index}
use Rattle.std.proofs.lemmas.Bool.Decides.{nat_tests}
use Rattle.odt_machine.specs.declared.mode.Mode.{Mode}
use Rattle.odt_machine.specs.Machine.{Machine}
use Rattle.host_core.specs.declared.phase.Reason.TheVariants.{Store, Reopen, Missing, Close}
use Rattle.host_core.specs.declared.phase.Phase.{Phase}
use Rattle.host_core.specs.declared.phase.Phase.TheVariants.{Settle, Sync, Address, Slash, Before, Value, Deposit, Return, Start, Go, Ended}
use Rattle.host_core.specs.Core.{Core}
use Rattle.host_core.specs.Host.{Basis, PhaseFits, basis_of}
use Rattle.line_world.specs.Scene.{Toll}
use Rattle.line_world.proofs.Stepped.{changed_one}
use Rattle.line_world.specs.Wire.{is_harmless, may_change}
use Rattle.line_world.specs.Site.{Site, Ground}
use Rattle.line_world.specs.Pending.{Fits, Facts}
use Rattle.line_world.specs.Struck.{Attempt, Missed, Sound}
use Rattle.line_world.specs.Invariant.{IsKept, InPhase, spare, most_lost}
use Rattle.line_world.proofs.Frame.{scene}
use Rattle.line_world.proofs.Losses.{end_later}
use Rattle.line_world.proofs.Keys.{harmless_lawful}
use Rattle.line_world.proofs.Changed.{changed_fine}

both : (a b : Bool) → (a && b) ≡ true → (a ≡ true) × (b ≡ true)
both true b e = (refl, e)
both false b e = absurd (cc)

denied : (a : Bool) → not a ≡ true → a ≡ false
denied true e = absurd (cc)
denied false e = refl

under : (k n : ℕ) → ltb k n ≡ true → k < n
under k n e = grind (arith, nat_tests)

apart : (a b : ℕ) → eqb a b ≡ false → a ≢ b
apart a b e same = grind (arith, nat_tests)

-- what was known stays known
sound_of : (phase : Phase) (t : Site) (up : List ℕ) → Facts false phase t up → Sound phase t
sound_of Settle t up h = tt
sound_of (Sync k) t up h = tt
sound_of (Address visit k) t up h = h
sound_of (Slash visit) t up h = h
sound_of (Before visit) t up h = h
sound_of (Value visit v j) t up h = h.0
sound_of (Deposit last x k) t up h = (h.0, h.1, h.2)
sound_of (Return (Store last x) k) t up h = (h.0, h.1)
sound_of (Return (Reopen r) k) t up h = tt
sound_of (Return (Missing a) k) t up h = tt
sound_of (Return Close k) t up h = tt
sound_of (Start k) t up h = tt
sound_of Go t up h = tt
sound_of (Ended end) t up h = tt

-- the phase waits for another key than the changed one
missed_of : (phase : Phase) (t : Site) (mode : Mode) (key c : ℕ) → Fits phase t mode key → c ≢ key → Missed phase t c
missed_of Settle t mode key c h other = absurd h
missed_of (Sync k) t mode key c h other = h.0
missed_of (Address visit k) t mode key c h other = λ e. other (e ∙ sym h.0)
missed_of (Slash visit) t mode key c h other = tt
missed_of (Before visit) t mode key c h other = absurd h
missed_of (Value visit v j) t mode key c h other = absurd h
missed_of (Deposit last x k) t mode key c h other = λ e. other (e ∙ sym h.0)
missed_of (Return (Store last x) k) t mode key c h other = h.0
missed_of (Return (Reopen r) k) t mode key c h other = h.0
missed_of (Return (Missing a) k) t mode key c h other = absurd h
missed_of (Return Close k) t mode key c h other = h.0
missed_of (Start k) t mode key c h other = λ e. other (e ∙ sym h.0)
missed_of Go t mode key c h other = tt
missed_of (Ended end) t mode key c h other = absurd h

-- the one change that an attempt has room for
changed_paid : (careful hurt : Bool) (lost now up down most : ℕ) → careful ≡ true → hurt ≡ false → now ≡ up → lost + spare careful hurt + up + 9 * down ≤ most → lost + 1 + spare careful true + now + 9 * down ≤ most
changed_paid true false lost now up down most care unhurt same before = omega (arith, same, before)
changed_paid true true lost now up down most care unhurt same before = absurd (cc)
changed_paid false hurt lost now up down most care unhurt same before = absurd (cc)

-- ---- an answer character

attempt_change_up : (hurt : Bool) (phase : Phase) (b : Basis) (t : Site) (mode : Mode) (u : ℕ) (up : List ℕ) (spent lost k c : ℕ) → t.careful ≡ true → hurt ≡ false → k < length (u ∷ up) → PhaseFits phase b → spent ≤ lost →
    Attempt hurt phase t mode [] (u ∷ up) spent lost → Attempt true phase t mode [] (set (u ∷ up) k c) spent (lost + 1)
attempt_change_up true phase b t mode u up spent lost k c care unhurt below fits paid h = absurd (cc)
attempt_change_up false phase b t mode u up spent lost k c care unhurt below fits paid h =
    (omega arith, inr (record { way = changed_fine phase b t mode k c (u ∷ up) care fits below h.rest.0 h.rest.1 h.facts; facts = sound_of phase t (u ∷ up) h.facts }))

phase_change_up : (phase : Phase) (b : Basis) (g : Ground) (t : Site) (u : ℕ) (up : List ℕ) (patience spent : ℕ) (lost : Toll) (k c : ℕ) → t.careful ≡ true → lost.hurt ≡ false → k < length (u ∷ up) → PhaseFits phase b → spent ≤ lost.count →
    InPhase phase g t [] (u ∷ up) patience spent lost → InPhase phase g t [] (set (u ∷ up) k c) patience spent (changed_one lost)
phase_change_up Settle b g t u up patience spent lost k c care unhurt below fits paid h = tt
phase_change_up (Ended end) b g t u up patience spent lost k c care unhurt below fits paid h = (tt, end_later end g.machine.memory patience spent lost.count h.1)
phase_change_up phase b g t u up patience spent lost k c care unhurt below fits paid h = attempt_change_up lost.hurt phase b t g.machine.mode u up spent lost.count k c care unhurt below fits paid h

pub kept_change_up : (m : Machine) (core : Core) (down up : List ℕ) (lost : Toll) (k c : ℕ) → (core.careful && (ltb k (length up) && not lost.hurt)) ≡ true → IsKept (scene m core down up lost) → IsKept (scene m core down (set up k c) (changed_one lost))
kept_change_up m core down [] lost k c e h = absurd (let below = under k 0 (both (ltb k 0) _ (both core.careful _ e).1).0 in omega arith)
kept_change_up m core (d ∷ down) (u ∷ up) lost k c e h = let none = h.one_way.1 in absurd (cc)
kept_change_up m core [] (u ∷ up) lost k c e h =
    let care : core.careful ≡ true = (both core.careful _ e).0 in
    let tests = both (ltb k (length (u ∷ up))) (not lost.hurt) (both core.careful _ e).1 in
    let below : k < length (u ∷ up) = under k (length (u ∷ up)) tests.0 in
    let unhurt : lost.hurt ≡ false = denied lost.hurt tests.1 in
    record {
      machine = h.machine;
      host = h.host;
      one_way = tt;
      few = let few = h.few in omega (arith, length-set (u ∷ up) k c);
      words = h.words;
      running = h.running;
      at_start = h.at_start;
      cared = λ _. care;
      spent = let paid = h.spent in omega arith;
      characters = changed_paid core.careful lost.hurt lost.count (length (set (u ∷ up) k c)) (length (u ∷ up)) 0 (most_lost core.careful core.sent) care unhurt (length-set (u ∷ up) k c) h.characters;
      phase = phase_change_up core.phase (basis_of core) _ _ u up core.patience core.spent lost k c care unhurt below h.host.fits h.spent h.phase;
    }

-- ---- a key

attempt_change_down : (hurt : Bool) (phase : Phase) (t : Site) (mode : Mode) (key spent lost c : ℕ) → hurt ≡ false → is_harmless c ≡ true → c ≢ key → spent ≤ lost →
    Attempt hurt phase t mode (key ∷ []) [] spent lost → Attempt true phase t mode (c ∷ []) [] spent (lost + 1)
attempt_change_down true phase t mode key spent lost c unhurt harmless other paid h = absurd (cc)
attempt_change_down false phase t mode key spent lost c unhurt harmless other paid h =
    (omega arith, inr (record { way = (harmless, missed_of phase t mode key c h.key other); facts = sound_of phase t [] h.facts }))

phase_change_down : (phase : Phase) (g : Ground) (t : Site) (key patience spent : ℕ) (lost : Toll) (c : ℕ) → g.careful ≡ true → lost.hurt ≡ false → is_harmless c ≡ true → c ≢ key → spent ≤ lost.count →
    InPhase phase g t (key ∷ []) [] patience spent lost → InPhase phase g t (c ∷ []) [] patience spent (changed_one lost)
phase_change_down Settle g t key patience spent lost c care unhurt harmless other paid h = harmless_lawful g.careful g c care harmless
phase_change_down (Ended end) g t key patience spent lost c care unhurt harmless other paid h = (harmless_lawful g.careful g c care harmless, end_later end g.machine.memory patience spent lost.count h.1)
phase_change_down phase g t key patience spent lost c care unhurt harmless other paid h = attempt_change_down lost.hurt phase t g.machine.mode key spent lost.count c unhurt harmless other paid h

pub kept_change_down : (m : Machine) (core : Core) (down up : List ℕ) (lost : Toll) (k c : ℕ) → (core.careful && (ltb k (length down) && may_change lost.hurt (slice_index down k) c)) ≡ true → IsKept (scene m core down up lost) → IsKept (scene m core (set down k c) up (changed_one lost))
kept_change_down m core [] up lost k c e h = absurd (let below = under k 0 (both (ltb k 0) _ (both core.careful _ e).1).0 in omega arith)
kept_change_down m core (x ∷ y ∷ down) up lost k c e h = let none = h.one_way.0 in absurd (cc)
kept_change_down m core (x ∷ []) (u ∷ up) lost k c e h = let none = h.one_way.1 in absurd (cc)
kept_change_down m core (x ∷ []) [] lost (suc k) c e h = absurd (let below = under (suc k) 1 (both (ltb (suc k) 1) _ (both core.careful _ e).1).0 in omega arith)
kept_change_down m core (x ∷ []) [] lost zero c e h =
    let may : may_change lost.hurt x c ≡ true = (both (ltb 0 (length (x ∷ []))) (may_change lost.hurt x c) (both core.careful _ e).1).1 in
    let care : core.careful ≡ true = (both core.careful _ e).0 in
    let split = both (not lost.hurt) (is_harmless c && not (eqb c x)) may in
    let unhurt : lost.hurt ≡ false = denied lost.hurt split.0 in
    let tests = both (is_harmless c) (not (eqb c x)) split.1 in
    let harmless : is_harmless c ≡ true = tests.0 in
    let other : c ≢ x = apart c x (denied (eqb c x) tests.1) in
    record {
      machine = h.machine;
      host = h.host;
      one_way = (refl, refl);
      few = h.few;
      words = h.words;
      running = h.running;
      at_start = h.at_start;
      cared = λ _. care;
      spent = let paid = h.spent in omega arith;
      characters = changed_paid core.careful lost.hurt lost.count 0 0 1 (most_lost core.careful core.sent) care unhurt refl h.characters;
      phase = phase_change_down core.phase _ _ x core.patience core.spent lost c care unhurt harmless other h.spent h.phase;
    }
