-- A lost character keeps the invariant.
use Rattle.std.proofs.Common.{◌≡◌, ℕ, zero, suc, ◌+◌, ◌*◌, ◌<◌, ◌≤◌, Bool, true, false, List, [], ◌∷◌, length, inl, inr, arith, ap}
use Rattle.std.specs.List.{remove}
use Rattle.std.proofs.lemmas.List.Edits.{length-remove}
use Rattle.odt_machine.specs.declared.mode.Mode.{Mode}
use Rattle.odt_machine.specs.Machine.{Machine}
use Rattle.host_core.specs.declared.phase.Reason.TheVariants.{Store, Reopen, Missing, Close}
use Rattle.host_core.specs.declared.phase.Try.{Try}
use Rattle.host_core.specs.declared.phase.Try.TheVariants.{Only, First, Second}
use Rattle.host_core.specs.declared.phase.End.{End}
use Rattle.host_core.specs.declared.phase.End.TheVariants.{Loaded, Started, Uncertain, MaybeStarted, GaveUp, NoWord, WontHold}
use Rattle.host_core.specs.declared.phase.Phase.{Phase}
use Rattle.host_core.specs.declared.phase.Phase.TheVariants.{Settle, Sync, Address, Slash, Before, Value, Deposit, Return, Start, Go, Ended}
use Rattle.host_core.specs.Core.{Core}
use Rattle.line_world.specs.Site.{Site, IsThere, Ground}
use Rattle.line_world.specs.Scene.{Toll}
use Rattle.line_world.proofs.Stepped.{lost_one}
use Rattle.line_world.specs.Pending.{Live, IsRemnant, RestFits, Facts, StandsWhere, StoodWhere, after_of, rest_of}
use Rattle.line_world.specs.Struck.{Attempt}
use Rattle.line_world.proofs.Ways.{fine_remove}
use Rattle.line_world.specs.Invariant.{IsKept, InPhase, EndIsPaid, spare, most_lost}
use Rattle.line_world.proofs.Parts.{part_remove, part_length}
use Rattle.line_world.proofs.Frame.{scene}

-- an end stays paid for
pub end_later : (end : End) (memory : List ℕ) (patience spent lost : ℕ) → EndIsPaid end memory patience spent lost → EndIsPaid end memory patience spent (lost + 1)
end_later Loaded memory patience spent lost h = tt
end_later Started memory patience spent lost h = tt
end_later Uncertain memory patience spent lost h = omega arith
end_later MaybeStarted memory patience spent lost h = tt
end_later GaveUp memory patience spent lost h = omega arith
end_later (NoWord a) memory patience spent lost h = h
end_later (WontHold a) memory patience spent lost h = h

-- the lost key was the only thing under way
live_lose_down : (old : Bool) (phase : Phase) (t : Site) (mode : Mode) (c spent lost : ℕ) → spent ≤ lost → Live old phase t mode (c ∷ []) [] spent lost → Live old phase t mode [] [] spent (lost + 1)
live_lose_down old phase t mode c spent lost paid h = record { key = tt; rest = tt; paid = inr (omega arith); facts = h.facts }

attempt_lose_down : (hurt : Bool) (phase : Phase) (t : Site) (mode : Mode) (c spent lost : ℕ) → spent ≤ lost → Attempt hurt phase t mode (c ∷ []) [] spent lost → Attempt hurt phase t mode [] [] spent (lost + 1)
attempt_lose_down false phase t mode c spent lost paid h = live_lose_down false phase t mode c spent lost paid h
attempt_lose_down true phase t mode c spent lost paid (due, inl h) = (omega arith, inl (live_lose_down true phase t mode c spent lost paid h))
attempt_lose_down true phase t mode c spent lost paid (due, inr h) = (omega arith, inr (record { way = tt; facts = h.facts }))

phase_lose_down : (phase : Phase) (g : Ground) (t : Site) (c patience spent : ℕ) (lost : Toll) → spent ≤ lost.count → InPhase phase g t (c ∷ []) [] patience spent lost → InPhase phase g t [] [] patience spent (lost_one lost)
phase_lose_down Settle g t c patience spent lost paid h = tt
phase_lose_down (Ended end) g t c patience spent lost paid h = (tt, end_later end g.machine.memory patience spent lost.count h.1)
phase_lose_down phase g t c patience spent lost paid h = attempt_lose_down lost.hurt phase t g.machine.mode c spent lost.count paid h

key_paid : (lost spare most : ℕ) → lost + spare + 0 + 9 * 1 ≤ most → lost + 1 + spare + 0 + 9 * 0 ≤ most
key_paid lost spare most before = omega (arith, before)

pub kept_lose_down : (m : Machine) (core : Core) (down up : List ℕ) (lost : Toll) (k : ℕ) → k < length down → IsKept (scene m core down up lost) → IsKept (scene m core (remove down k) up (lost_one lost))
kept_lose_down m core [] up lost k below h = absurd (omega arith)
kept_lose_down m core (c ∷ d ∷ down) up lost k below h = let none = h.one_way.0 in absurd (cc)
kept_lose_down m core (c ∷ []) (u ∷ up) lost k below h = let none = h.one_way.1 in absurd (cc)
kept_lose_down m core (c ∷ []) [] lost (suc k) below h = absurd (omega arith)
kept_lose_down m core (c ∷ []) [] lost zero below h = record {
  machine = h.machine;
  host = h.host;
  one_way = tt;
  few = h.few;
  words = h.words;
  running = h.running;
  at_start = h.at_start;
  cared = h.cared;
  spent = let paid = h.spent in omega arith;
  characters = key_paid lost.count (spare core.careful lost.hurt) (most_lost core.careful core.sent) h.characters;
  phase = phase_lose_down core.phase _ _ c core.patience core.spent lost h.spent h.phase;
}

-- characters of the exact answer are left, or none
pub rest_made : (new : Mode) (rest : List ℕ) (mode : Mode) (up : List ℕ) → mode ≡ new → IsRemnant up rest → RestFits new rest mode up
rest_made new rest mode [] is part = tt
rest_made new rest mode (c ∷ up) is part = (is, part)

pub stands_made : (up : List ℕ) (t : Site) → IsThere t → StandsWhere up t
stands_made [] t there = tt
stands_made (c ∷ up) t there = there

pub stood_shorter : (old : Bool) (deposit : Try) (c : ℕ) (up less : List ℕ) (t : Site) → StoodWhere old deposit (c ∷ up) t → StoodWhere old deposit less t
stood_shorter true Only c up less t h = stands_made less t h
stood_shorter true First c up less t h = tt
stood_shorter true (Second before) c up less t h = stands_made less t h
stood_shorter false deposit c up less t h = stands_made less t h

-- what is known of memory stays known where the answer is no longer whole
facts_shorter : (old : Bool) (phase : Phase) (t : Site) (c : ℕ) (up less : List ℕ) → length less < length (rest_of phase t) → Facts old phase t (c ∷ up) → Facts old phase t less
facts_shorter old (Value visit v j) t c up less short h = (h.0, h.1, λ e. absurd (omega (arith, ap length e)))
facts_shorter old (Return (Store deposit x) k) t c up less short h = (h.0, h.1, stood_shorter old deposit c up less t h.2)
facts_shorter old (Return (Reopen r) k) t c up less short h = h
facts_shorter old Settle t c up less short h = h
facts_shorter old (Sync k) t c up less short h = h
facts_shorter old (Address visit k) t c up less short h = h
facts_shorter old (Slash visit) t c up less short h = h
facts_shorter old (Before visit) t c up less short h = h
facts_shorter old (Deposit deposit x k) t c up less short h = h
facts_shorter old (Return (Missing a) k) t c up less short h = h
facts_shorter old (Return Close k) t c up less short h = h
facts_shorter old (Start k) t c up less short h = h
facts_shorter old Go t c up less short h = h
facts_shorter old (Ended end) t c up less short h = h

live_lose_up : (old : Bool) (phase : Phase) (t : Site) (mode : Mode) (c : ℕ) (up : List ℕ) (spent lost k : ℕ) → k < length (c ∷ up) → spent ≤ lost → Live old phase t mode [] (c ∷ up) spent lost → Live old phase t mode [] (remove (c ∷ up) k) spent (lost + 1)
live_lose_up old phase t mode c up spent lost k below paid h =
    let short : length (remove (c ∷ up) k) < length (rest_of phase t) = omega (arith, length-remove (c ∷ up) k below, part_length (c ∷ up) (rest_of phase t) h.rest.1) in
    record {
      key = tt;
      rest = rest_made (after_of phase t) (rest_of phase t) mode (remove (c ∷ up) k) h.rest.0 (part_remove (c ∷ up) (rest_of phase t) k below h.rest.1);
      paid = inr (omega arith);
      facts = facts_shorter old phase t c up (remove (c ∷ up) k) short h.facts;
    }

attempt_lose_up : (hurt : Bool) (phase : Phase) (t : Site) (mode : Mode) (c : ℕ) (up : List ℕ) (spent lost k : ℕ) → k < length (c ∷ up) → spent ≤ lost → Attempt hurt phase t mode [] (c ∷ up) spent lost → Attempt hurt phase t mode [] (remove (c ∷ up) k) spent (lost + 1)
attempt_lose_up false phase t mode c up spent lost k below paid h = live_lose_up false phase t mode c up spent lost k below paid h
attempt_lose_up true phase t mode c up spent lost k below paid (due, inl h) = (omega arith, inl (live_lose_up true phase t mode c up spent lost k below paid h))
attempt_lose_up true phase t mode c up spent lost k below paid (due, inr h) = (omega arith, inr (record { way = fine_remove t mode phase (c ∷ up) k below h.way; facts = h.facts }))

phase_lose_up : (phase : Phase) (g : Ground) (t : Site) (c : ℕ) (up : List ℕ) (patience spent : ℕ) (lost : Toll) (k : ℕ) → k < length (c ∷ up) → spent ≤ lost.count → InPhase phase g t [] (c ∷ up) patience spent lost → InPhase phase g t [] (remove (c ∷ up) k) patience spent (lost_one lost)
phase_lose_up Settle g t c up patience spent lost k below paid h = h
phase_lose_up (Ended end) g t c up patience spent lost k below paid h = (tt, end_later end g.machine.memory patience spent lost.count h.1)
phase_lose_up phase g t c up patience spent lost k below paid h = attempt_lose_up lost.hurt phase t g.machine.mode c up spent lost.count k below paid h

answer_paid : (lost spare less up most : ℕ) → less + 1 ≡ up → lost + spare + up + 9 * 0 ≤ most → lost + 1 + spare + less + 9 * 0 ≤ most
answer_paid lost spare less up most fewer before = omega (arith, fewer, before)

pub kept_lose_up : (m : Machine) (core : Core) (down up : List ℕ) (lost : Toll) (k : ℕ) → k < length up → IsKept (scene m core down up lost) → IsKept (scene m core down (remove up k) (lost_one lost))
kept_lose_up m core down [] lost k below h = absurd (omega arith)
kept_lose_up m core (d ∷ down) (c ∷ up) lost k below h = let none = h.one_way.1 in absurd (cc)
kept_lose_up m core [] (c ∷ up) lost k below h = record {
  machine = h.machine;
  host = h.host;
  one_way = tt;
  few = let few = h.few in omega (arith, length-remove (c ∷ up) k below);
  words = h.words;
  running = h.running;
  at_start = h.at_start;
  cared = h.cared;
  spent = let paid = h.spent in omega arith;
  characters = answer_paid lost.count (spare core.careful lost.hurt) (length (remove (c ∷ up) k)) (length (c ∷ up)) (most_lost core.careful core.sent) (length-remove (c ∷ up) k below) h.characters;
  phase = phase_lose_up core.phase _ _ c up core.patience core.spent lost k below h.spent h.phase;
}
