-- Take keeps the invariant.
use Rattle.std.proofs.Common.{◌≡◌, ℕ, ◌+◌, ◌*◌, ◌<◌, ◌≤◌, Bool, true, false, List, [], ◌∷◌, length, inl, inr, refl, arith, ap, sym, subst, ◌∙◌, length-set}
use Rattle.std.specs.Prelude.{if◌then◌else◌}
use Rattle.odt_machine.specs.declared.mode.Mode.{Mode}
use Rattle.odt_machine.specs.Machine.{Machine, IsMachine, stored}
use Rattle.odt_machine.specs.KeyTable.{Taken, take_of, after_key}
use Rattle.host_core.specs.declared.phase.Reason.TheVariants.{Store}
use Rattle.host_core.specs.declared.phase.Try.{Try}
use Rattle.host_core.specs.declared.phase.Try.TheVariants.{Only, First, Second}
use Rattle.host_core.specs.declared.phase.End.{End}
use Rattle.host_core.specs.declared.phase.End.TheVariants.{Loaded, Started, Uncertain, MaybeStarted, GaveUp, NoWord, WontHold}
use Rattle.host_core.specs.declared.phase.Phase.{Phase}
use Rattle.host_core.specs.declared.phase.Phase.TheVariants.{Settle, Value, Return, Ended}
use Rattle.host_core.specs.Core.{Core, start_of}
use Rattle.host_core.specs.Host.{PhaseFits, basis_of}
use Rattle.line_world.proofs.Stepped.{answered}
use Rattle.line_world.specs.Site.{Site, site, wanted, Lies, IsThere, prompt_from, Ground, ground}
use Rattle.line_world.specs.Scene.{Toll}
use Rattle.line_world.specs.Pending.{Live, RestFits, Facts, StoodWhere, after_of, rest_of}
use Rattle.line_world.specs.Struck.{Attempt, Struck}
use Rattle.line_world.specs.Invariant.{IsKept, EndIsPaid, RunsWith, RunsAt, spare, most_lost}
use Rattle.line_world.proofs.Parts.{part_same}
use Rattle.line_world.proofs.Rows.{IsSite, taken_in, row_live}
use Rattle.line_world.proofs.Frame.{scene, PhaseHolds}
use Rattle.line_world.proofs.Losses.{stands_made}
use Rattle.line_world.proofs.Keys.{Stores, Takes, lawful, takes_lawful, takes_harmless, typing_lies}
use Rattle.line_world.proofs.Sites.{plan_site, start_even}
use Rattle.line_world.proofs.Stores.{with_memory, stands_after, stored_held, stored_stands}
use Rattle.line_world.proofs.Missing.{missed_fine}

-- the exact answer is the exact answer
rest_whole : (new : Mode) (rest : List ℕ) → RestFits new rest new rest
rest_whole new [] = tt
rest_whole new (c ∷ rest) = (refl, part_same (c ∷ rest))

-- the phase after its key was taken
live_whole : (old : Bool) (phase : Phase) (t : Site) (spent lost : ℕ) → Facts old phase t (rest_of phase t) → Live old phase t (after_of phase t) [] (rest_of phase t) spent lost
live_whole old phase t spent lost facts = record { key = tt; rest = rest_whole (after_of phase t) (rest_of phase t); paid = inl refl; facts = facts }

stood_made : (old : Bool) (deposit : Try) (up : List ℕ) (t : Site) → IsThere t → StoodWhere old deposit up t
stood_made true Only up t there = stands_made up t there
stood_made true First up t there = tt
stood_made true (Second before) up t there = stands_made up t there
stood_made false deposit up t there = stands_made up t there

end_stays : (end : End) (memory other : List ℕ) (patience spent lost : ℕ) → length other ≡ length memory → EndIsPaid end memory patience spent lost → EndIsPaid end other patience spent lost
end_stays Loaded memory other patience spent lost same h = tt
end_stays Started memory other patience spent lost same h = tt
end_stays Uncertain memory other patience spent lost same h = h
end_stays MaybeStarted memory other patience spent lost same h = tt
end_stays GaveUp memory other patience spent lost same h = h
end_stays (NoWord a) memory other patience spent lost same h = omega arith
end_stays (WontHold a) memory other patience spent lost same h = h

pub stores_length : (g : Ground) (memory : List ℕ) → Stores g memory → length memory ≡ length g.machine.memory
stores_length g memory (inl same) = ap length same
stores_length g memory (inr (i, below, lies, same)) = ap length same ∙ length-set g.machine.memory _ _

-- the machine after a key, as the key table says it
abbrev machine_with : Machine → Taken → Machine
machine_with m t = record m { mode = t.mode; memory = t.memory }

-- the live phase after Take
live_taken : (old : Bool) (phase : Phase) (m : Machine) (core : Core) (c : ℕ) (lost : Toll) (spent n : ℕ) → IsMachine m → IsSite (site (scene m core (c ∷ []) [] lost)) → PhaseFits phase (basis_of core) →
    Live old phase (site (scene m core (c ∷ []) [] lost)) m.mode (c ∷ []) [] spent n →
    Live old phase (site (scene (machine_with m (take_of m c)) core [] [] lost)) (take_of m c).mode [] (take_of m c).answer spent n
live_taken old (Return (Store deposit x) k) m core c lost spent n machine numbers fits h =
    let t = site (scene m core (c ∷ []) [] lost) in
    let row : take_of m c ≡ taken_in (Return (Store deposit x) k) t = row_live (Return (Store deposit x) k) core t m.mode c numbers fits h.key in
    let lies : Lies t = typing_lies m _ _ 6 machine h.key.2 in
    let later = with_memory t (stored m.memory t.word.address (wanted t)) in
    let there : IsThere later = stored_stands t lies in
    subst (λ (y : Taken). Live old (Return (Store deposit x) k) (site (scene (machine_with m y) core [] [] lost)) y.mode [] y.answer spent n) (sym row)
    (live_whole old (Return (Store deposit x) k) later spent n (h.facts.0, h.facts.1 ∙ sym (there.1 ∙ stored_held t lies), stood_made old deposit (prompt_from m.style.two_returns k) later there))
live_taken old (Value visit v j) m core c lost spent n machine numbers fits h = absurd h.key
live_taken old phase m core c lost spent n machine numbers fits h =
    let t = site (scene m core (c ∷ []) [] lost) in
    let row : take_of m c ≡ taken_in phase t = row_live phase core t m.mode c numbers fits h.key in
    subst (λ (y : Taken). Live old phase (site (scene (machine_with m y) core [] [] lost)) y.mode [] y.answer spent n) (sym row)
    (live_whole old phase t spent n h.facts)

-- the struck phase after Take
struck_taken : (phase : Phase) (m : Machine) (core : Core) (c : ℕ) (lost : Toll) → RunsWith core.going m.mode → RunsAt (start_of core) m.mode → Struck phase (site (scene m core (c ∷ []) [] lost)) m.mode (c ∷ []) [] →
    Struck phase (site (scene (machine_with m (take_of m c)) core [] [] lost)) (take_of m c).mode [] (take_of m c).answer
struck_taken phase m core c lost runs at h =
    let t = site (scene m core (c ∷ []) [] lost) in
    let made = takes_harmless (ground (scene m core (c ∷ []) [] lost)) c runs at h.way.0 in
    subst (λ memory. Struck phase (with_memory t memory) (take_of m c).mode [] (take_of m c).answer) (sym made.memory)
    (record { way = missed_fine t (take_of m c).mode phase c (take_of m c).answer h.way.0 h.way.1 made.answer; facts = h.facts })

attempt_taken : (hurt : Bool) (phase : Phase) (m : Machine) (core : Core) (c : ℕ) (lost : Toll) (spent n : ℕ) → IsMachine m → IsSite (site (scene m core (c ∷ []) [] lost)) → PhaseFits phase (basis_of core) → RunsWith core.going m.mode → RunsAt (start_of core) m.mode →
    Attempt hurt phase (site (scene m core (c ∷ []) [] lost)) m.mode (c ∷ []) [] spent n →
    Attempt hurt phase (site (scene (machine_with m (take_of m c)) core [] [] lost)) (take_of m c).mode [] (take_of m c).answer spent n
attempt_taken false phase m core c lost spent n machine numbers fits runs at h = live_taken false phase m core c lost spent n machine numbers fits h
attempt_taken true phase m core c lost spent n machine numbers fits runs at (due, inl h) = (due, inl (live_taken true phase m core c lost spent n machine numbers fits h))
attempt_taken true phase m core c lost spent n machine numbers fits runs at (due, inr h) = (due, inr (struck_taken phase m core c lost runs at h))

-- the phase after Take
phase_taken : (phase : Phase) (m : Machine) (core : Core) (c : ℕ) (lost : Toll) → IsMachine m → IsSite (site (scene m core (c ∷ []) [] lost)) → PhaseFits phase (basis_of core) → RunsWith core.going m.mode → RunsAt (start_of core) m.mode →
    length (take_of m c).memory ≡ length m.memory → PhaseHolds phase m core (c ∷ []) [] lost →
    PhaseHolds phase (machine_with m (take_of m c)) core [] (take_of m c).answer lost
phase_taken Settle m core c lost machine numbers fits runs at size h = tt
phase_taken (Ended end) m core c lost machine numbers fits runs at size h = (tt, end_stays end m.memory (take_of m c).memory core.patience core.spent lost.count size h.1)
phase_taken phase m core c lost machine numbers fits runs at size h = attempt_taken lost.hurt phase m core c lost core.spent lost.count machine numbers fits runs at h

standing_below : (going : Bool) (verified n i : ℕ) → verified ≤ n → i < (if going then n else verified) → i < n
standing_below true verified n i within below = below
standing_below false verified n i within below = omega arith

-- what the key under way makes of the machine
pub key_takes : (m : Machine) (core : Core) (c : ℕ) (down up : List ℕ) (lost : Toll) → IsKept (scene m core (c ∷ down) up lost) → Takes (ground (scene m core (c ∷ down) up lost)) (take_of m c)
key_takes m core c down up lost k = takes_lawful (ground (scene m core (c ∷ down) up lost)) c k.running k.at_start (start_even core.plan k.host.image) (lawful m core c down up lost k)

taken_paid : (lost answer most : ℕ) → answer ≤ 9 → lost + 0 + 9 * 1 ≤ most → lost + answer + 9 * 0 ≤ most
taken_paid lost answer most short before = omega (arith, short, before)

kept_taken : (m : Machine) (core : Core) (c : ℕ) (lost : Toll) → IsMachine (after_key m c) → IsKept (scene m core (c ∷ []) [] lost) → IsKept (answered (scene m core (c ∷ []) [] lost) [] (take_of m c))
kept_taken m core c lost machine k =
    let g = ground (scene m core (c ∷ []) [] lost) in
    let takes : Takes g (take_of m c) = key_takes m core c [] [] lost k in
    record {
      machine = machine;
      host = k.host;
      one_way = tt;
      few = let short = takes.short in omega arith;
      words = λ i below. stands_after g (take_of m c).memory i k.host.image takes.memory (standing_below core.going core.verified (length core.plan.words) i k.host.within below) (k.words i below);
      running = takes.running;
      at_start = takes.at_start;
      cared = k.cared;
      spent = k.spent;
      characters = taken_paid (lost.count + spare core.careful lost.hurt) (length (take_of m c).answer) (most_lost core.careful core.sent) takes.short k.characters;
      phase = phase_taken core.phase m core c lost k.machine (plan_site m core (c ∷ []) [] lost core.verified k.host.image) k.host.fits k.running k.at_start (stores_length g (take_of m c).memory takes.memory) k.phase;
    }

pub kept_take : (m : Machine) (core : Core) (c : ℕ) (down up : List ℕ) (lost : Toll) → IsMachine (after_key m c) → IsKept (scene m core (c ∷ down) up lost) → IsKept (answered (scene m core (c ∷ down) up lost) down (take_of m c))
kept_take m core c [] [] lost machine k = kept_taken m core c lost machine k
kept_take m core c (d ∷ down) up lost machine k = let none = k.one_way.0 in absurd (cc)
kept_take m core c [] (u ∷ up) lost machine k = let none = k.one_way.1 in absurd (cc)
