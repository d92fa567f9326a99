-- Hosts that store nothing, as the one engine leads them.
use Rattle.std.specs.Prelude.{ℕ, [], Option, Some, None, Result, Ok, Err, option_to_list, ⊤}
use Rattle.engine.specs.Ways.{Ways as LeadWays}
use Rattle.engine.specs.declared.stop.Cut.{Cut}
use Rattle.engine.specs.declared.stop.Stop.{Stop}
use Rattle.engine.specs.declared.stop.Stop.TheVariants.{Ended, KeepFailed, CutOff}
use Rattle.reading_core.specs.declared.phase.End.{End as ReadingEnd}
use Rattle.reading_core.specs.declared.turn.Turn.{Turn}
use Rattle.reading_core.specs.declared.turn.Turn.TheVariants.{Read}
use Rattle.reading_core.specs.Reader.{Reader, ended as reader_ended}
use Rattle.reading_core.specs.ReadingTable.{ask, turn_of}
use Rattle.trial_core.specs.declared.phase.End.{End as TrialEnd}
use Rattle.trial_core.specs.declared.trial.Trial.{Trial}
use Rattle.trial_core.specs.Trial.{ended as trial_ended}
use Rattle.trial_core.specs.TrialTable.{ask as trial_ask}
use Rattle.looking_engine.specs.declared.reading.Reading.{Reading}
use Rattle.looking_engine.specs.declared.trying.Trying.{Trying}

abbrev pub reading : Reader → Reading
reading r = record { core = r }

abbrev pub a_trial : Trial → Trying
a_trial t = record { trial = t }

-- the number that a turn of the table reads, if it does
abbrev pub number_of : Turn → Option ℕ
number_of (Read value) = Some value
number_of other = None

-- a reader gives each number that it reads to be kept
abbrev pub reads : LeadWays Reading ReadingEnd ℕ
reads = record {
  step = λ r heard. reading (ask r.core heard).next;
  keys = λ r heard. option_to_list (ask r.core heard).key;
  news = λ r heard. option_to_list (number_of (turn_of r.core heard));
  ended = λ r. reader_ended r.core.phase;
}

-- a trial gives nothing
abbrev pub tries : LeadWays Trying TrialEnd ⊤
tries = record {
  step = λ t heard. a_trial (trial_ask t.trial heard).next;
  keys = λ t heard. option_to_list (trial_ask t.trial heard).key;
  news = λ t heard. [];
  ended = λ t. trial_ended t.trial.phase;
}

-- the engine's stop, as one of a host that stores nothing; None where what it gave could not be kept
abbrev pub stop_of : {End : Type 0} → Stop End → Option (Result End Cut)
stop_of (Ended end) = Some (Ok end)
stop_of (KeepFailed fault) = None
stop_of (CutOff cut) = Some (Err cut)
