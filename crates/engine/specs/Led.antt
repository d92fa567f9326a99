-- What the engine makes of a host, a line and a keeper.
use Rattle.std.specs.Prelude.{ℕ, IfSome}
use Rattle.host_devices.specs.Devices.{LineTold}
use Rattle.host_devices.specs.Failures.{CountsFault, IsLastFault}
use Rattle.engine.specs.Keeping.{IsKeptBy, KeeperCalls, keeping}
use Rattle.engine.specs.Session.{Session, SessionTold, Turns, session_told}
use Rattle.engine.specs.Stopping.{TellsEnd, keep_fault, line_fault}
use Rattle.engine.specs.Ways.{Ways}

-- what a line tells, and a keeper, at a moment
pub record Scene (K : Type 0) : Type 0 where
  pub line : LineTold
  pub keeper : K

abbrev pub scene : {K : Type 0} → LineTold → K → Scene K
scene line keeper = record { line = line; keeper = keeper }

abbrev pub told_by : {K News : Type 0} → KeeperCalls K News → Scene K → SessionTold News
told_by calls s = session_told s.line.said (calls.told s.keeper)

-- the engine led a host, in at most so many turns
pub record IsLed {Host End News K : Type 0} {ways : Ways Host End News}
    (calls : KeeperCalls K News) (most : ℕ) (turns : Turns ways) (before after : Scene K) : Type 0 where
  -- what was heard, said and kept, in its order
  pub session : Session most turns (told_by calls before) (told_by calls after)
  -- an end, and which device failed
  pub end : IfSome turns.stop (λ stop. TellsEnd stop (ways.ended turns.new))
  pub counted : CountsFault (line_fault turns.stop) before.line.failures after.line.failures
  pub named : IsLastFault (line_fault turns.stop) after.line.fault
  pub keeper : IsKeptBy calls (keeping session.given (keep_fault turns.stop)) before.keeper after.keeper
