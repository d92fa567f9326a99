-- What looks at samples say of a machine.
use Rattle.std.specs.Prelude.{◌≡◌, ℕ, true, All, List, Option}
use Rattle.tape_image.specs.Word.{WordValue}
use Rattle.odt_machine.specs.Machine.{Machine, is_word}
use Rattle.host_devices.specs.declared.item.Item.{Item}
use Rattle.engine.specs.Session.{HasGained}
use Rattle.looking_law.specs.Belief.{IsReadyMachine}
use Rattle.looking_engine.specs.Honest.{IsHonest}
use Rattle.sample_looks.specs.declared.finding.Finding.{Finding}
use Rattle.sample_looks.specs.declared.finding.Finding.TheVariants.{AllStand}
use Rattle.sample_looks.specs.Finding.{IsSoIn}

-- memory is what it was, and what was found is so in it; where all stand it has a word at each address that was looked at, those beyond the samples, too
pub record IsSeen (samples : List WordValue) (addresses : List ℕ) (finding : Finding) (before now : Machine) : Type 0 where
  pub memory : now.memory ≡ before.memory
  pub so : IsSoIn now.memory samples finding
  pub lie : finding ≡ AllStand → All (λ a. is_word now.memory a ≡ true) addresses

-- so it is of every machine that runs no program, where the list that was said is honest
abbrev pub IsSoOver : List WordValue → List ℕ → Finding → Option (List Item) → Option (List Item) → Type 0
IsSoOver samples addresses finding line line' =
    (said : List Item) → HasGained line line' said →
    (machine now : Machine) (lost : ℕ) → IsReadyMachine machine → IsHonest machine said lost now →
    IsSeen samples addresses finding machine now
