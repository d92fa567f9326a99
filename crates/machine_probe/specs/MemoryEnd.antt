-- What a search for the end of memory says, and what of it may be believed.
use Rattle.std.specs.Prelude.{◌≡◌, ℕ, ◌<◌, List, Option, Some, None, Ok, ⊤}
use Rattle.tape_image.specs.Memory.{top_of}
use Rattle.odt_machine.specs.Machine.{Machine}
use Rattle.host_devices.specs.declared.item.Item.{Item}
use Rattle.host_devices.specs.Devices.{LineTold}
use Rattle.host_devices.specs.Failures.{CountsFault, IsLastFault}
use Rattle.host_devices.specs.Told.{Gains}
use Rattle.reading_core.specs.declared.phase.End.TheVariants.{GaveUp}
use Rattle.looking_engine.specs.Stopping.{LookStop, line_fault}
use Rattle.machine_probe.specs.declared.memory_end.Limits.{Limits}
use Rattle.machine_probe.specs.declared.search.Search.{Search}
use Rattle.machine_probe.specs.declared.search.Search.TheVariants.{Ends, Stopped}
use Rattle.machine_probe.specs.Passes.{Searches, ahead, three_passes}
use Rattle.looking_law.specs.Belief.{IsReadyMachine}
use Rattle.looking_law.specs.Rows.{AreHonest, in_a_row}

-- the stop that ended the search, if one did
abbrev pub stop_of : Search → Option LookStop
stop_of (Ends top) = None
stop_of (Stopped stop) = Some stop

-- what is answered is so: memory ends there; and the host gave up after more losses than its patience
abbrev pub IsTrueEnd : Search → List ℕ → (patience lost : ℕ) → Type 0
IsTrueEnd (Ends top) memory patience lost = top_of memory ≡ top
IsTrueEnd (Stopped (Ok GaveUp)) memory patience lost = patience < lost
IsTrueEnd (Stopped stop) memory patience lost = ⊤

-- over every machine that runs no program, and honest lines in a row: memory is what it was, what is answered is so, and no character came that no
-- loss explains
abbrev pub IsFound : ℕ → Search → ℕ → List (List Item) → Type 0
IsFound patience search changed parts =
    (machine machine' : Machine) (lost : ℕ) → IsReadyMachine machine → AreHonest machine parts lost machine' →
    (machine'.memory ≡ machine.memory) × IsTrueEnd search machine.memory patience lost × (changed ≡ 0)

-- a search came to this, and so many characters that no loss explains, with what the line told before and tells after
pub record FindsEnd (limits : Limits) (search : Search) (changed : ℕ) (before after : LineTold) : Type 0 where
  -- what was said in each pass
  pub parts : List (List Item)
  pub passes : Searches three_passes (ahead limits 0) search changed parts
  pub on_line : Gains before.said after.said (in_a_row parts)
  pub believed : IsFound limits.patience search changed parts
  pub counted : CountsFault (line_fault (stop_of search)) before.failures after.failures
  pub named : IsLastFault (line_fault (stop_of search)) after.fault
