-- What the looks and the stubs of a load leave to its host.
use Rattle.std.specs.Prelude.{◌+◌, ◌^◌, ◌≤◌, ◌==◌, ◌&&◌, not, ℕ, Bool, false, Option, Some, None, is_none}
use Rattle.host_core.specs.Core.{Core, begun_by}
use Rattle.load_engine.specs.Driving.{LoadStop as Stop}
use Rattle.engine.specs.declared.stop.Stop.TheVariants.{Ended, KeepFailed, CutOff}
use Rattle.host_core.specs.declared.phase.End.TheVariants.{NoWord}
use Rattle.stub_engine.specs.Parts.{StubsStop}
use Rattle.stub_engine.specs.declared.stop.StubsEnd.TheVariants.{NotStarted}
use Rattle.machine_load.specs.declared.looks.Looks.{Looks}
use Rattle.machine_load.specs.declared.stubs.Stubs.{Stubs}

-- the host behind the stubs of a life, where it brings some in: it begins behind the words that they verified, with a patience of its own
abbrev pub host_behind : Core → Option Stubs → Core
host_behind first None = first
host_behind first (Some stubs) = begun_by first.careful first.plan stubs.tally.verified false first.patience

-- why a load stops with its stubs: a device failed, turns were over, or the machine lacks a word that one was to be typed into, which is the tape's, too;
-- for another reason its host goes on behind them
abbrev pub hindrance_of : StubsStop → Option Stop
hindrance_of (Ended (NotStarted (NoWord address))) = Some (Ended (NoWord address))
hindrance_of (Ended end) = None
hindrance_of (KeepFailed fault) = Some (KeepFailed fault)
hindrance_of (CutOff cut) = Some (CutOff cut)

abbrev pub hindrance : Option Stubs → Option Stop
hindrance None = None
hindrance (Some stubs) = hindrance_of stubs.stop

-- whether words are looked at again behind stubs: where the last of them verified nothing, and they do not hinder the host
abbrev pub looks_again : Option Stubs → Bool
looks_again None = false
looks_again (Some stubs) = is_none (hindrance_of stubs.stop) && not (stubs.tally.in_vain == 0)

-- a host with the characters and the mishaps of the stubs, too
abbrev pub with_stubs : Core → Option Stubs → Core
with_stubs core None = core
with_stubs core (Some stubs) = record core { sent = core.sent + stubs.tally.sent; spent = core.spent + stubs.tally.spent }

-- the characters and the mishaps of looks, where there were some
abbrev pub sent_by : Option Looks → ℕ
sent_by None = 0
sent_by (Some looks) = looks.sent

abbrev pub spent_by : Option Looks → ℕ
spent_by None = 0
spent_by (Some looks) = looks.spent

-- and with those of the looks, the first ones and those behind the stubs
abbrev pub counting : Core → Option Looks → Option Stubs → Option Looks → Core
counting core looks stubs again = record core {
  sent = (with_stubs core stubs).sent + sent_by looks + sent_by again;
  spent = (with_stubs core stubs).spent + spent_by looks + spent_by again;
}

-- so few characters and mishaps that a sum has room for them
pub record AreFew (stubs : Stubs) : Type 0 where
  pub sent : stubs.tally.sent ≤ 2 ^ 60
  pub spent : stubs.tally.spent ≤ 2 ^ 60
