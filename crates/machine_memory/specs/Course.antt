-- A test of memory between two hosts: what was found so far, and what comes next (this project's own).
use Rattle.std.specs.Prelude.{ℕ, ◌+◌, ◌*◌, ◌/◌, Bool, true, false, ◌==◌, nat_le, if◌then◌else◌, List, [], ◌∷◌, ◌++◌, All, Option, Some, None, ⊤}
use Rattle.reading_core.specs.Addresses.{IsAddress, IsRange}
use Rattle.engine.specs.declared.stop.Cut.TheVariants.{TurnsOver}
use Rattle.engine.specs.declared.stop.Stop.{Stop}
use Rattle.engine.specs.declared.stop.Stop.TheVariants as stop
use Rattle.memory_core.specs.declared.phase.End.{End}
use Rattle.memory_core.specs.declared.phase.End.TheVariants as core
use Rattle.memory_core.specs.declared.stage.Borrowed.{Borrowed}
use Rattle.memory_core.specs.Tester.{Tester, borrowed}
use Rattle.memory_report.specs.declared.test_end.TestEnd.{TestEnd}
use Rattle.memory_report.specs.declared.test_end.TestEnd.TheVariants.{Tested, NotTrusted, NoWord, GaveUp, CutOff}
use Rattle.memory_report.specs.declared.findings.Word.{Word}
use Rattle.memory_report.specs.Bus.{BusFound}
use Rattle.probe_report.specs.declared.findings.TrialFindings.{TrialFindings}
use Rattle.probe_report.specs.declared.findings.Findings.{Findings}
use Rattle.probe_report.specs.declared.findings.Sighting.{Sighting}
use Rattle.probe_report.specs.declared.findings.Sighting.TheVariants as look
use Rattle.probe_report.specs.declared.findings.TrialEnd.{TrialEnd}
use Rattle.probe_report.specs.declared.findings.TrialEnd.TheVariants as trial
use Rattle.probe_report.specs.declared.judging.Verdict.{Verdict}
use Rattle.probe_report.specs.declared.judging.Verdict.TheVariants.{Forgets, Stores, Unknown}
use Rattle.probe_report.specs.Judging.{verdict_of}
use Rattle.machine_probe.specs.Follow.{number_in}
use Rattle.machine_memory.specs.declared.course.Place.{Place}
use Rattle.machine_memory.specs.declared.course.Place.TheVariants.{Trying, Testing, Marking, Looking, PuttingBack, LookingAgain, Over}
use Rattle.machine_memory.specs.Words.{words_of}

-- the words that were tested, the addresses at which nothing answered, what was found of the bus, the word that may hold another number than before, and what comes next
pub record Standing : Type 0 where
  pub words : List Word
  pub gaps : List ℕ
  pub bus : BusFound
  pub borrowed : Option Borrowed
  pub place : Place

abbrev pub standing_of : List Word → List ℕ → BusFound → Option Borrowed → Place → Standing
standing_of words gaps bus borrowed place = record { words = words; gaps = gaps; bus = bus; borrowed = borrowed; place = place }

abbrev pub untested_bus : BusFound
untested_bus = record { at = None; touches = false; looked_at = 0; marked = []; returned = [] }

-- at first the console is tried
abbrev pub begun : ℕ → Standing
begun from = standing_of [] [] untested_bus None (Trying from)

abbrev pub over : Standing → TestEnd → Option Borrowed → Standing
over s end borrowed = record s { borrowed = borrowed; place = Over end }

-- nothing answers at this address
abbrev pub with_gap : Standing → ℕ → Place → Standing
with_gap s gap place = record s { gaps = s.gaps ++ gap ∷ []; place = place }

-- the first word of the next bank, if it may be tested
abbrev pub next_bank : ℕ → ℕ → Option ℕ
next_bank address to =
    if nat_le 0o160000 address then None
    else if nat_le ((address / 0o20000 + 1) * 0o20000) to then Some ((address / 0o20000 + 1) * 0o20000)
    else None

-- ---- behind a trial of the console

-- the word at which it stored digits, unless the old number was put back
abbrev pub borrowed_behind : ℕ → ℕ → Option Bool → Option Borrowed
borrowed_behind address old (Some true) = None
borrowed_behind address old put_back = Some (record { address = address; old = old })

abbrev pub unknown_end : TrialEnd → TestEnd
unknown_end (trial.CutOff cut) = CutOff cut
unknown_end end = GaveUp

-- where two looks read two numbers, nothing is to be trusted
abbrev pub sighting_end : ℕ → Sighting → TestEnd
sighting_end old (look.CutOff cut) = CutOff cut
sighting_end old (look.Number now) = if now == old then GaveUp else NotTrusted
sighting_end old second = GaveUp

-- what kept it from being known whether the console forgets
abbrev pub unknown_behind : ℕ → Option TrialFindings → Option Sighting → TestEnd
unknown_behind old (Some trial) None = unknown_end trial.end
unknown_behind old trial (Some second) = sighting_end old second
unknown_behind old None None = GaveUp

abbrev pub try_next : ℕ → Option ℕ → Place
try_next address (Some next) = Trying next
try_next address None = Over (NoWord address)

-- where it is not known whether it forgets, by the first look
abbrev pub by_first : ℕ → Standing → Findings → Sighting → Standing
-- a digit may have been typed
by_first to s f (look.Number old) = over s (unknown_behind old f.trial f.second) (Some (record { address = f.address; old = old }))
-- nothing answers: it is tried at the next bank
by_first to s f look.NoWord = with_gap s f.address (try_next f.address (next_bank f.address to))
by_first to s f look.GaveUp = over s GaveUp None
by_first to s f (look.CutOff cut) = over s (CutOff cut) None

abbrev pub by_verdict : ℕ → Standing → Findings → Verdict → Standing
-- it forgets: the words are tested from here on
by_verdict to s f Forgets = record s { place = Testing f.address }
-- it stored the digits
by_verdict to s f Stores = over s NotTrusted (borrowed_behind f.address (number_in f.first) f.put_back)
by_verdict to s f Unknown = by_first to s f f.first

abbrev pub behind_trial : ℕ → Standing → Findings → Standing
behind_trial to s f = by_verdict to s f (verdict_of f)

-- ---- behind a test of words

abbrev pub test_next : Option ℕ → Place
test_next (Some next) = Testing next
test_next None = Over Tested

abbrev pub by_stop : ℕ → Standing → Stop End → Option Borrowed → Standing
by_stop to s (stop.Ended core.Complete) borrowed = over s Tested borrowed
-- nothing answers between two words: the test goes on at the next bank
by_stop to s (stop.Ended (core.NoWord gap)) None = with_gap s gap (test_next (next_bank gap to))
by_stop to s (stop.Ended (core.NoWord address)) (Some word) = over s (NoWord address) (Some word)
by_stop to s (stop.Ended core.GaveUp) borrowed = over s GaveUp borrowed
by_stop to s (stop.KeepFailed fault) borrowed = over s (CutOff TurnsOver) borrowed
by_stop to s (stop.CutOff cut) borrowed = over s (CutOff cut) borrowed

abbrev pub behind_test : ℕ → Standing → Tester → Stop End → Standing
behind_test to s t stopped = by_stop to (record s { words = s.words ++ words_of t.addresses t.seen }) stopped (borrowed t)

-- ---- what comes next lies within what was asked for

abbrev pub IsWithin : ℕ → Place → Type 0
IsWithin to (Trying address) = IsRange address to
IsWithin to (Testing address) = IsRange address to
IsWithin to (Marking word place) = IsAddress word.address
IsWithin to (Looking word first) = IsAddress word.address × IsAddress first
IsWithin to (PuttingBack word) = IsAddress word.address
IsWithin to (LookingAgain word first) = IsAddress first
IsWithin to (Over end) = ⊤

-- the words that were tested have addresses
abbrev pub AreWords : List Word → Type 0
AreWords words = All (λ (word : Word). IsAddress word.address) words
