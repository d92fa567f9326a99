-- Putting an old number back into a word.
use Rattle.std.specs.Prelude.{◌≡◌, ℕ, Bool, true, false, List, [], ◌∷◌, Some, None}
use Rattle.tape_image.specs.Word.{whole_word}
use Rattle.tape_image.specs.Plan.{PlanValue}
use Rattle.odt_machine.specs.Machine.{Machine, is_word, word_at}
use Rattle.host_core.specs.declared.phase.End.TheVariants.{Loaded}
use Rattle.host_core.specs.Core.{Core, begun, ended}
use Rattle.host_core.specs.Host.{IsHost}
use Rattle.host_devices.specs.declared.item.Item.{Item}
use Rattle.host_devices.specs.declared.item.Kept.{Kept}
use Rattle.honest_line.specs.Honest.{IsHonest}
use Rattle.looking_law.specs.Belief.{IsReadyMachine}
use Rattle.load_engine.specs.Driving.{LoadSession, LoadStop as Stop, driving}
use Rattle.engine.specs.declared.stop.Stop.TheVariants.{Ended}
use Rattle.engine.specs.Session.{session_told}
use Rattle.engine.specs.Stopping.{TellsEnd}
use Rattle.machine_probe.specs.declared.probe_options.ProbeOptions.{ProbeOptions}
use Rattle.machine_probe.specs.declared.putting_back.Deposit.{Deposit}
use Rattle.machine_probe.specs.Turns.{turns_of}

-- a plan that has this word alone, and starts nothing
pub record IsPlanOfWord (address old : ℕ) (plan : PlanValue) : Type 0 where
  pub words : plan.words ≡ whole_word address old ∷ []
  pub no_start : plan.start ≡ None

-- a host at the beginning of a load of this number into the word, and a keeper that keeps nothing yet
pub record IsDeposit (options : ProbeOptions) (old : ℕ) (deposit : Deposit) : Type 0 where
  pub plan : IsPlanOfWord options.address old deposit.core.plan
  pub begun_is : deposit.core ≡ begun deposit.core.plan 0 false options.patience
  pub host : IsHost deposit.core
  pub empty : deposit.keeper.kept ≡ []

-- the load came to its end
abbrev pub is_loaded : Stop → Bool
is_loaded (Ended Loaded) = true
is_loaded stop = false

-- over every machine that runs no program, and an honest line, the word holds the old number now
abbrev pub HoldsAgain : ℕ → ℕ → List Item → Type 0
HoldsAgain address old said =
    (machine now : Machine) (lost : ℕ) → IsReadyMachine machine → IsHonest machine said lost now →
    (is_word now.memory address ≡ true) × (word_at now.memory address ≡ old)

-- a host loaded this number into the word, with what was said in the one part of that; and whether it came to its end
pub record PutsBack (options : ProbeOptions) (old : ℕ) (is_back : Bool) (parts : List (List Item)) : Type 0 where
  pub said : List Item
  pub part : parts ≡ said ∷ []
  pub plan : PlanValue
  pub plan_is : IsPlanOfWord options.address old plan
  pub last : Core
  pub stop : Stop
  pub kept : List Kept
  pub session : LoadSession (turns_of options.patience) (driving (begun plan 0 false options.patience) last (Some stop))
      (session_told (Some []) (Some [])) (session_told (Some said) (Some kept))
  pub end : TellsEnd stop (ended last.phase)
  pub is_back_is : is_back ≡ is_loaded stop
  pub again : is_back ≡ true → HoldsAgain options.address old said
