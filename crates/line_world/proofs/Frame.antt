-- What a turn of the host leaves alone.
use Rattle.std.proofs.Common.{◌≡◌, ℕ, ◌+◌, ◌<◌, ◌≤◌, ◌⊎◌, Bool, true, false, cond, List, [], ◌∷◌, length, Option, Some, None, inl, inr, refl, arith, ap, sym, subst, ltb, unwrap_or, ◌*◌, ◌∙◌}
use Rattle.std.proofs.lemmas.Bool.Decides.{nat_tests}
use Rattle.std.specs.Prelude.{if◌then◌else◌}
use Rattle.octal.specs.Octal.{digit_of}
use Rattle.odt_machine.specs.declared.mode.Mode.{Mode}
use Rattle.odt_machine.specs.declared.mode.Mode.TheVariants.{Prompt, Number, Opened, Typing, Running}
use Rattle.odt_machine.specs.Machine.{Machine}
use Rattle.host_core.specs.declared.phase.Visit.TheVariants.{Look}
use Rattle.host_core.specs.declared.phase.Reason.TheVariants.{Close}
use Rattle.host_core.specs.declared.phase.End.TheVariants.{Loaded, GaveUp}
use Rattle.host_core.specs.declared.phase.Phase.{Phase}
use Rattle.host_core.specs.declared.phase.Phase.TheVariants.{Settle, Sync, Address, Return, Start, Go, Ended}
use Rattle.host_core.specs.declared.turn.Turn.{Turn}
use Rattle.host_core.specs.declared.turn.Turn.TheVariants.{Listen, Key, Verified, Revisit, Next, Mark, Stop, Stray, Timeout}
use Rattle.host_core.specs.Core.{Core, begins_attempt, word_under_way, start_of}
use Rattle.host_core.specs.Console.{resynchronise_of}
use Rattle.host_core.specs.Host.{IsHost}
use Rattle.host_core.specs.PhaseTable.{taken, after_words, sends, listens}
use Rattle.line_world.specs.Scene.{Scene}
use Rattle.line_world.specs.Scene.{Toll}
use Rattle.line_world.proofs.Stepped.{none_yet}
use Rattle.line_world.proofs.Stepped.{stepped, renewed}
use Rattle.line_world.specs.Site.{Site, site, site_of, IsThere, number_mode, ground}
use Rattle.line_world.specs.Pending.{IsStopped, IsOpened, Live, Fits, Facts, Known}
use Rattle.line_world.specs.Struck.{Attempt}
use Rattle.line_world.specs.Invariant.{IsKept, InPhase, EndIsPaid, RunsWith, RunsAt, standing, spare, most_lost}

-- a world by its parts
abbrev pub scene : Machine → Core → List ℕ → List ℕ → Toll → Scene
scene m core down up lost = record { machine = m; core = core; down = down; up = up; lost = lost.count; changed = lost.hurt }

-- the world in a phase, with a host that is otherwise `core`
abbrev pub PhaseHolds : Phase → Machine → Core → List ℕ → List ℕ → Toll → Type 0
PhaseHolds phase m core down up lost =
    InPhase phase (ground (scene m core down up lost)) (site (scene m core down up lost)) down up core.patience core.spent lost

-- what must hold of the world, where nothing is down and `up` is left, so that a turn of the host keeps the invariant
abbrev pub TurnFits : Machine → Core → List ℕ → Toll → Turn → Type 0
TurnFits m core up lost (Listen phase) = PhaseHolds phase m core [] up lost
TurnFits m core up lost (Key key phase) = (up ≡ []) × PhaseHolds phase m core (key ∷ []) [] (renewed phase lost)
TurnFits m core up lost Verified = (up ≡ []) × IsThere (site (scene m core [] [] lost)) × IsOpened m.mode
TurnFits m core up lost (Revisit visit) = (up ≡ []) × Known lost.hurt visit (site (scene m core [] [] lost)) × (lost.hurt ≡ true → core.spent < lost.count) × (m.mode ≡ Prompt)
TurnFits m core up lost Next = (up ≡ []) × (lost.hurt ≡ true → core.spent < lost.count) × (m.mode ≡ Prompt)
TurnFits m core up lost Mark = (up ≡ []) × (core.verified ≡ length core.plan.words) × (lost.hurt ≡ true → core.spent < lost.count) × (m.mode ≡ number_mode (start_of core) 6)
TurnFits m core up lost (Stop end) = EndIsPaid end m.memory core.patience core.spent lost.count
TurnFits m core up lost Stray = core.spent < lost.count
TurnFits m core up lost Timeout = (up ≡ []) × (core.spent < lost.count) × IsStopped m.mode

-- an attempt goes on without a change, or behind one
pub attempt_of : (hurt : Bool) (phase : Phase) (t : Site) (mode : Mode) (down up : List ℕ) (spent lost : ℕ) → (hurt ≡ true → spent < lost) → Live hurt phase t mode down up spent lost → Attempt hurt phase t mode down up spent lost
attempt_of false phase t mode down up spent lost paid h = h
attempt_of true phase t mode down up spent lost paid h = (paid refl, inl h)

-- a key goes down and nothing else is under way
pub key_sent : (hurt : Bool) (phase : Phase) (t : Site) (mode : Mode) (key spent lost : ℕ) → (hurt ≡ true → spent < lost) → Fits phase t mode key → Facts hurt phase t [] → Attempt hurt phase t mode (key ∷ []) [] spent lost
key_sent hurt phase t mode key spent lost paid fits facts = attempt_of hurt phase t mode (key ∷ []) [] spent lost paid (record { key = fits; rest = tt; paid = tt; facts = facts })

-- one key more pays for what it may make
paid_more : (careful hurt : Bool) (sent lost : ℕ) (a b : Bool) → lost + spare careful a ≤ most_lost careful sent → lost + spare careful b + 0 + 9 * 1 ≤ most_lost careful (sent + 1)
paid_more true hurt sent lost a true paid = omega (arith, paid)
paid_more true hurt sent lost a false paid = omega (arith, paid)
paid_more false hurt sent lost a b paid = omega (arith, paid)

-- the words that stand for sure are the same or more, and stand
abbrev WordsStand : Machine → Core → Type 0
WordsStand m core = (i : ℕ) → i < standing core → IsThere (site_of (scene m core [] [] none_yet) i)

shorter_paid : (lost up old most : ℕ) → up ≤ old → lost + old + 9 * 0 ≤ most → lost + up + 9 * 0 ≤ most
shorter_paid lost up old most shorter paid = omega (arith, shorter, paid)

-- the host goes on in a phase, and nothing is sent
kept_listen : (m : Machine) (core next : Core) (old up : List ℕ) (lost : Toll) → IsKept (scene m core [] old lost) → length up ≤ length old →
    IsHost next → WordsStand m next → RunsWith next.going m.mode → RunsAt (start_of next) m.mode → next.spent ≤ lost.count → next.sent ≡ core.sent → next.careful ≡ core.careful → PhaseHolds next.phase m next [] up lost → IsKept (scene m next [] up lost)
kept_listen m core next old up lost k shorter host words running at_start spent sent care phase = record {
  machine = k.machine;
  host = host;
  one_way = tt;
  few = let few = k.few in omega arith;
  words = words;
  running = running;
  at_start = at_start;
  cared = λ e. care ∙ k.cared e;
  spent = spent;
  characters = rw (care, sent) (shorter_paid (lost.count + spare core.careful lost.hurt) (length up) (length old) (most_lost core.careful core.sent) shorter k.characters);
  phase = phase;
}

-- the host sends a key, and nothing else is under way
kept_send : (m : Machine) (core next : Core) (key : ℕ) (old : List ℕ) (lost : Toll) → IsKept (scene m core [] old lost) →
    IsHost next → WordsStand m next → RunsWith next.going m.mode → RunsAt (start_of next) m.mode → next.spent ≤ lost.count → next.sent ≡ core.sent + 1 → next.careful ≡ core.careful → PhaseHolds next.phase m next (key ∷ []) [] (renewed next.phase lost) → IsKept (scene m next (key ∷ []) [] (renewed next.phase lost))
kept_send m core next key old lost k host words running at_start spent sent care phase = record {
  machine = k.machine;
  host = host;
  one_way = (refl, refl);
  few = omega arith;
  words = words;
  running = running;
  at_start = at_start;
  cared = λ e. care ∙ k.cared (still_hurt (begins_attempt next.phase) lost.hurt e);
  spent = spent;
  characters = rw (care, sent) (paid_more core.careful lost.hurt core.sent lost.count lost.hurt (renewed next.phase lost).hurt (none_paid (lost.count + spare core.careful lost.hurt) (length old) (most_lost core.careful core.sent) k.characters));
  phase = phase;
}
  where
    still_hurt : (begins hurt : Bool) → (if begins then false else hurt) ≡ true → hurt ≡ true
    still_hurt true hurt e = absurd (cc)
    still_hurt false hurt e = e

    none_paid : (lost old most : ℕ) → lost + old + 9 * 0 ≤ most → lost ≤ most
    none_paid lost old most paid = omega (arith, paid)

below_or : (i n : ℕ) → i < n + 1 → (i < n) ⊎ (i ≡ n)
below_or i n h = grind arith

-- one word more stands
words_more : (m : Machine) (core : Core) → WordsStand m core → IsThere (site (scene m core [] [] none_yet)) → WordsStand m (record core { verified = core.verified + 1; sent = core.sent + 1; phase = Return Close 0 })
words_more m core words there = more core.going (length core.plan.words) core.verified (λ i. IsThere (site_of (scene m core [] [] none_yet) i)) words there
  where
    more : (going : Bool) (n verified : ℕ) (P : ℕ → Type 0) → ((i : ℕ) → i < (if going then n else verified) → P i) → P verified → (i : ℕ) → i < (if going then n else verified + 1) → P i
    more true n verified P words there i below = words i below
    more false n verified P words there i below = elim (below_or i verified below) [ inl less ↦ words i less | inr same ↦ subst P (sym same) there ]

-- between words: the next word's address, or the start's, or the end
kept_next : (m : Machine) (core : Core) (old up : List ℕ) (lost : Toll) (test : Bool) (start : Option ℕ) → IsKept (scene m core [] old lost) → length up ≤ length old → core.plan.start ≡ start →
    IsHost (cond test (sends core (digit_of (word_under_way core).address 1) (Address Look 1)) (after_words core start)).next → up ≡ [] → (lost.hurt ≡ true → core.spent < lost.count) → m.mode ≡ Prompt →
    IsKept (stepped (scene m core [] old lost) up (cond test (sends core (digit_of (word_under_way core).address 1) (Address Look 1)) (after_words core start)))
kept_next m core old up lost true start k shorter is host none due prompt =
    rw none (kept_send m core (record core { sent = core.sent + 1; phase = Address Look 1 }) (digit_of (word_under_way core).address 1) old lost k host k.words k.running k.at_start k.spent refl refl
    (key_sent lost.hurt (Address Look 1) (site (scene m core [] [] lost)) m.mode _ core.spent lost.count due (refl, prompt) tt))
kept_next m core old up lost false (Some s) k shorter is host none due prompt =
    let at_start : start_of core ≡ s = ap (λ o. unwrap_or o 0) is in
    rw none (kept_send m core (record core { sent = core.sent + 1; phase = Start 1 }) (digit_of s 1) old lost k host k.words k.running k.at_start k.spent refl refl
    (key_sent lost.hurt (Start 1) (site (scene m core [] [] lost)) m.mode _ core.spent lost.count due (ap (λ x. digit_of x 1) (sym at_start), prompt) tt))
kept_next m core old up lost false None k shorter is host none due prompt =
    kept_listen m core (record core { phase = Ended Loaded }) old up lost k shorter host k.words k.running k.at_start k.spent refl refl (tt, tt)

runs_marked : (mode : Mode) → RunsWith true mode
runs_marked Prompt = tt
runs_marked (Number v n) = tt
runs_marked (Opened a) = tt
runs_marked (Typing a v n) = tt
runs_marked (Running p) = refl

-- with all words verified, all words stand
words_all : (m : Machine) (core : Core) → WordsStand m core → core.verified ≡ length core.plan.words → WordsStand m (record core { going = true; sent = core.sent + 1; phase = Go })
words_all m core words all = every core.going (length core.plan.words) core.verified (λ i. IsThere (site_of (scene m core [] [] none_yet) i)) words all
  where
    every : (going : Bool) (n verified : ℕ) (P : ℕ → Type 0) → ((i : ℕ) → i < (if going then n else verified) → P i) → verified ≡ n → (i : ℕ) → i < n → P i
    every true n verified P words all i below = words i below
    every false n verified P words all i below = words i (omega arith)

-- a mishap is paid by a loss
kept_stray : (m : Machine) (core : Core) (old up : List ℕ) (lost : Toll) (test : Bool) → IsKept (scene m core [] old lost) → length up ≤ length old → ltb core.spent core.patience ≡ test →
    IsHost (cond test (listens (record core { spent = core.spent + 1 }) Settle) (listens core (Ended GaveUp))).next → core.spent < lost.count →
    IsKept (stepped (scene m core [] old lost) up (cond test (listens (record core { spent = core.spent + 1 }) Settle) (listens core (Ended GaveUp))))
kept_stray m core old up lost true k shorter is host paid =
    kept_listen m core (record core { spent = core.spent + 1; phase = Settle }) old up lost k shorter host k.words k.running k.at_start (omega arith) refl refl tt
kept_stray m core old up lost false k shorter is host paid =
    kept_listen m core (record core { phase = Ended GaveUp }) old up lost k shorter host k.words k.running k.at_start k.spent refl refl (tt, over core.spent core.patience lost.count is paid)
  where
    over : (spent patience lost : ℕ) → ltb spent patience ≡ false → spent < lost → patience < lost
    over spent patience lost is paid = grind (arith, nat_tests)

kept_timeout : (m : Machine) (core : Core) (old up : List ℕ) (lost : Toll) (test : Bool) → IsKept (scene m core [] old lost) → length up ≤ length old → ltb core.spent core.patience ≡ test →
    IsHost (cond test (sends (record core { spent = core.spent + 1 }) (resynchronise_of core.careful) (Sync 0)) (listens core (Ended GaveUp))).next → up ≡ [] → core.spent < lost.count → IsStopped m.mode →
    IsKept (stepped (scene m core [] old lost) up (cond test (sends (record core { spent = core.spent + 1 }) (resynchronise_of core.careful) (Sync 0)) (listens core (Ended GaveUp))))
kept_timeout m core old up lost true k shorter is host none paid stopped =
    rw none (kept_send m core (record core { spent = core.spent + 1; sent = core.sent + 1; phase = Sync 0 }) (resynchronise_of core.careful) old lost k host k.words k.running k.at_start (omega arith) refl refl
    record { key = (refl, refl, stopped); rest = tt; paid = tt; facts = tt })
kept_timeout m core old up lost false k shorter is host none paid stopped =
    kept_listen m core (record core { phase = Ended GaveUp }) old up lost k shorter host k.words k.running k.at_start k.spent refl refl (tt, over core.spent core.patience lost.count is paid)
  where
    over : (spent patience lost : ℕ) → ltb spent patience ≡ false → spent < lost → patience < lost
    over spent patience lost is paid = grind (arith, nat_tests)

pub kept_turn : (m : Machine) (core : Core) (old up : List ℕ) (lost : Toll) (turn : Turn) → IsKept (scene m core [] old lost) → length up ≤ length old →
    IsHost (taken core turn).next → TurnFits m core up lost turn → IsKept (stepped (scene m core [] old lost) up (taken core turn))
kept_turn m core old up lost (Listen phase) k shorter host fits = kept_listen m core (record core { phase = phase }) old up lost k shorter host k.words k.running k.at_start k.spent refl refl fits
kept_turn m core old up lost (Key key phase) k shorter host fits =
    rw fits.0 (kept_send m core (record core { sent = core.sent + 1; phase = phase }) key old lost k host k.words k.running k.at_start k.spent refl refl fits.1)
kept_turn m core old up lost Verified k shorter host fits =
    rw fits.0 (kept_send m core (record core { verified = core.verified + 1; sent = core.sent + 1; phase = Return Close 0 }) 13 old lost k host (words_more m core k.words fits.1) k.running k.at_start k.spent refl refl
    record { key = (refl, refl, fits.2); rest = tt; paid = tt; facts = tt })
kept_turn m core old up lost (Revisit visit) k shorter host fits =
    rw fits.0 (kept_send m core (record core { sent = core.sent + 1; phase = Address visit 1 }) (digit_of (word_under_way core).address 1) old lost k host k.words k.running k.at_start k.spent refl refl
    (key_sent lost.hurt (Address visit 1) (site (scene m core [] [] lost)) m.mode _ core.spent lost.count fits.2 (refl, fits.3) fits.1))
kept_turn m core old up lost Next k shorter host fits = kept_next m core old up lost (ltb core.verified (length core.plan.words)) core.plan.start k shorter refl host fits.0 fits.1 fits.2
kept_turn m core old up lost Mark k shorter host fits =
    rw fits.0 (kept_send m core (record core { going = true; sent = core.sent + 1; phase = Go }) 71 old lost k host (words_all m core k.words fits.1) (runs_marked m.mode) (subst (λ mode. RunsAt (start_of core) mode) (sym fits.3) tt) k.spent refl refl
    (key_sent lost.hurt Go (site (scene m core [] [] lost)) m.mode _ core.spent lost.count fits.2 (refl, fits.3) tt))
kept_turn m core old up lost (Stop end) k shorter host fits =
    kept_listen m core (record core { phase = Ended end }) old up lost k shorter host k.words k.running k.at_start k.spent refl refl (tt, fits)
kept_turn m core old up lost Stray k shorter host fits = kept_stray m core old up lost (ltb core.spent core.patience) k shorter refl host fits
kept_turn m core old up lost Timeout k shorter host fits = kept_timeout m core old up lost (ltb core.spent core.patience) k shorter refl host fits.0 fits.1 fits.2
