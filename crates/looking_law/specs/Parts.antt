-- What several hosts said on one line, part by part.
use Rattle.std.specs.Prelude.{ℕ, All, List, [], ◌∷◌, ◌++◌}
use Rattle.odt_machine.specs.Machine.{Machine}
use Rattle.host_devices.specs.declared.item.Item.{Item}
use Rattle.honest_line.specs.Honest.{IsHonest}
use Rattle.looking_law.specs.Belief.{IsReadyMachine}
use Rattle.looking_law.specs.Rows.{AreHonest, in_a_row}
use Rattle.looking_law.specs.Runs.{MayBeSuchAHost, Run, dialogue_of}
use Rattle.looking_law.specs.Splitting.{BeginsByListening, EndsTidily}
use Rattle.looking_law.specs.Trying.{IsToldOf}

-- a host that said this began by listening, and whatever machine it met, it ended tidily there and left it ready for the next
pub record LeavesReady (said : List Item) : Type 0 where
  pub begins : BeginsByListening said
  pub tidy : (machine : Machine) → IsReadyMachine machine → EndsTidily machine said
  pub ready : (machine now : Machine) (lost : ℕ) → IsReadyMachine machine → IsHonest machine said lost now → IsReadyMachine now

-- a look and a trial leave the machine ready
abbrev pub RunsLeaveReady : Type 0
RunsLeaveReady = (run : Run) (told : List Item) → MayBeSuchAHost run → IsToldOf (dialogue_of run) told → LeavesReady told

-- one honest line on which such hosts ran, and then any host that began by listening, is an honest line for each of them
abbrev pub OneLineIsARow : Type 0
OneLineIsARow =
    (machine now : Machine) (parts : List (List Item)) (last : List Item) (lost : ℕ) →
    IsReadyMachine machine → All LeavesReady parts → BeginsByListening last →
    IsHonest machine (in_a_row (parts ++ last ∷ [])) lost now → AreHonest machine (parts ++ last ∷ []) lost now
