-- What a trial types changes nothing.
use Rattle.std.specs.Prelude.{◌≡◌, ℕ, ◌⊎◌, false, All, List, [], ◌∷◌, ◌++◌}
use Rattle.odt_machine.specs.Machine.{Machine, IsMachine}
use Rattle.odt_machine.specs.Laws.{is_running}
use Rattle.host_core.specs.declared.heard.Heard.{Heard}
use Rattle.host_devices.specs.declared.item.Item.{Item}
use Rattle.host_devices.specs.declared.item.Item.TheVariants.{Heard as Came}
use Rattle.host_devices.specs.Dialogue.{LacksKey, said, keys_of}
use Rattle.honest_line.specs.Honest.{IsHonest}
use Rattle.trial_core.specs.declared.trial.Trial.{Trial}
use Rattle.trial_core.specs.Trial.{IsTrial}
use Rattle.trial_core.specs.TrialTable.{IsTrying, ask}

-- nothing was stored and nothing was started
pub record IsLeftAlone (machine machine' : Machine) : Type 0 where
  pub memory : machine'.memory ≡ machine.memory
  pub stopped : is_running machine.mode ≡ false → is_running machine'.mode ≡ false
  pub console : IsMachine machine → IsMachine machine'

-- digits, `/`, `Z` and `a` alone store nothing and start nothing: whatever the console is in the middle of, whatever answers
-- wait, whatever is lost
abbrev pub TryingKeysStoreNothing : Type 0
TryingKeysStoreNothing =
    (machine machine' : Machine) (items : List Item) (lost : ℕ) → All IsTrying (keys_of items) →
    IsHonest machine items lost machine' → IsLeftAlone machine machine'

-- each heard thing, and right after it the key that it makes the trial send
abbrev pub trial_dialogue : Trial → List Heard → List Item
trial_dialogue t [] = []
trial_dialogue t (heard ∷ more) = Came heard ∷ (said (ask t heard).key ++ trial_dialogue (ask t heard).next more)

-- what was said of a dialogue on a line: all of it, or, where the line failed, all but its last key
abbrev pub IsToldOf : (all told : List Item) → Type 0
IsToldOf all told = (told ≡ all) ⊎ LacksKey all told

-- whatever a trial hears, its keys are digits, `/`, `Z` and `a`
abbrev pub TrialsOnlyTry : Type 0
TrialsOnlyTry =
    (t : Trial) (things : List Heard) (told : List Item) → IsTrial t → IsToldOf (trial_dialogue t things) told → All IsTrying (keys_of told)
