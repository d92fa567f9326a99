-- A look at a machine: a reading that begins with nothing read, over a line that was reached for it.
use Rattle.std.specs.Prelude.{◌≡◌, ℕ, ◌≤◌, List, [], ◌∷◌, length, Option, Some, None, IfSome}
use Rattle.odt_machine.specs.Machine.{Machine}
use Rattle.host_devices.specs.Told.{Gains}
use Rattle.host_devices.specs.Failures.{CountsFault, IsLastFault}
use Rattle.host_devices.specs.Devices.{LineTold}
use Rattle.looking_engine.specs.Stopping.{LookStop, TellsEnd, line_fault}
use Rattle.looking_engine.specs.Honest.{IsHonest}
use Rattle.looking_engine.specs.Belief.{IsBelievableBy}
use Rattle.looking_engine.specs.Inquired.{Inquired, inquiry}
use Rattle.host_devices.specs.Turns.{most_turns}
use Rattle.tape_values.specs.Told.{IsAsTold}
use Rattle.host_devices.specs.declared.item.Item.{Item}
use Rattle.console_lines.specs.Dialling.{Call, LineRequest, asked_once}
use Rattle.reading_core.specs.Bound.{life_bound}
use Rattle.reading_core.specs.Invariant.{IsReader}
use Rattle.reading_core.specs.Reader.{Reader, ended}
use Rattle.reading_core.specs.declared.phase.End.{End}
use Rattle.looking_law.specs.Belief.{MayLook}
use Rattle.request_values.specs.Change.{Change}

-- a line was given back that had been reached: all that it tells is that this was said on it, and the fault by which a look stopped, if by any
pub record IsGivenBack (stop : Option LookStop) (said : List Item) (lines : Change (Option (List LineTold))) : Type 0 where
  pub last : LineTold
  pub all : IsAsTold last.said said
  pub counted : CountsFault (line_fault stop) 0 last.failures
  pub named : IsLastFault (line_fault stop) last.fault
  pub given : Gains lines.before lines.after (last ∷ [])

-- the line of a look, which there is only where there is something to look at
abbrev pub IsLineOf : Option End → Option LookStop → List Item → Change (Option (List LineTold)) → Type 0
IsLineOf (Some end) stop said lines = lines.after ≡ lines.before
IsLineOf None stop said lines = IsGivenBack stop said lines

-- an engine that had the most turns led the one reader to the other, and stopped so (None: what was read could not be put away); what was said
-- meanwhile, each key right behind the heard thing that makes the reader send it, is all that was said on the line
pub record IsLookOf (reader : Change Reader) (stop : Option LookStop) (lines : Change (Option (List LineTold))) : Type 0 where
  pub said : List Item
  pub inquired : Inquired most_turns (inquiry reader.before reader.after stop) (Some []) (Some said)
  pub line_is : IsLineOf (ended reader.before.phase) stop said lines
  pub end : IfSome stop (λ stop. TellsEnd stop (ended reader.after.phase))
  -- where what was said is honest, memory is what it was and what was read is what it holds
  pub believed : IsBelievableBy stop reader.before reader.after said
  pub addresses : reader.after.addresses ≡ reader.before.addresses
  pub patience : reader.after.patience ≡ reader.before.patience
  pub bound : reader.after.sent ≤ life_bound reader.before.manner.care (length reader.after.addresses) reader.after.patience
  pub kept : IsReader reader.after

-- so it is of one of which all that was read was put away
abbrev pub IsLook : Change Reader → LookStop → Change (Option (List LineTold)) → Type 0
IsLook reader stop lines = IsLookOf reader (Some stop) lines

-- what holds of memory wherever a look was over an honest line of a machine that runs no program
abbrev pub OverHonestLine : {reader : Change Reader} {stop : Option LookStop} {lines : Change (Option (List LineTold))} → IsLookOf reader stop lines
    → (Machine → Machine → Type 0) → Type 0
OverHonestLine {reader} look holds =
    (machine now : Machine) (lost : ℕ) → MayLook reader.before machine → IsHonest machine look.said lost now → holds machine now

-- the console was asked for once, where there is something to look at, and else nothing was asked
abbrev pub AsksOnce : Option End → Call → Option (List LineRequest) → Option (List LineRequest) → Type 0
AsksOnce (Some end) call asked asked' = asked' ≡ asked
AsksOnce None call asked asked' = Gains asked asked' (asked_once call)
