-- A look at words that a record has.
use Rattle.std.specs.Prelude.{◌≡◌, ℕ, ◌+◌, ◌^◌, ◌<◌, ◌⊎◌, false, All, List, [], length}
use Rattle.tape_image.specs.Plan.{PlanValue}
use Rattle.host_core.specs.declared.heard.Heard.{Heard}
use Rattle.host_core.specs.declared.progress.Progress.{Progress}
use Rattle.host_core.specs.Core.{word_nr}
use Rattle.host_devices.specs.declared.item.Item.{Item}
use Rattle.reading_core.specs.Addresses.{AreAddresses}
use Rattle.reading_core.specs.Reader.{Manner, begun_in, once}
use Rattle.looking_law.specs.Belief.{dialogue}
use Rattle.looking_law.specs.Trying.{IsToldOf}

-- the address of one of the plan's words that a record says to be verified
abbrev pub IsOfRecord : PlanValue → Progress → ℕ → Type 0
IsOfRecord plan recorded a = (i : ℕ) × (i < recorded.verified) × (a ≡ (word_nr plan.words i).address)

-- that of the plan's last word, which is its highest
abbrev pub IsHighest : PlanValue → ℕ → Type 0
IsHighest plan a = (i : ℕ) × (i + 1 ≡ length plan.words) × (a ≡ (word_nr plan.words i).address)

-- what was said by a host that looked, in a manner, at some of the words that a record says to be verified, without a mark, and perhaps at the plan's
-- highest: all of it, or all but its last key
pub record HasLookedAs (manner : Manner) (plan : PlanValue) (recorded : Progress) (looks : List Item) : Type 0 where
  pub unmarked : recorded.going ≡ false
  pub addresses : List ℕ
  pub asked : AreAddresses addresses
  pub of_plan : All (λ a. IsOfRecord plan recorded a ⊎ IsHighest plan a) addresses
  pub patience : ℕ
  pub patient : patience < 2 ^ 32
  pub heard : List Heard
  pub told : IsToldOf (dialogue (begun_in manner addresses [] patience) heard) looks

-- the same of one that looked at each word once
abbrev pub HasLooked : PlanValue → Progress → List Item → Type 0
HasLooked plan recorded looks = HasLookedAs once plan recorded looks
