-- All that a step sends, or gives to keep, up to where a device failed.
use Rattle.std.specs.Prelude.{◌≡◌, ℕ, List, ◌∷◌, ◌++◌, Option, Some}
use Rattle.host_devices.specs.declared.fault.KeepFault.{KeepFault}
use Rattle.host_devices.specs.declared.item.Item.{Item}
use Rattle.host_devices.specs.Failures.{one_more}
use Rattle.host_devices.specs.Told.{Gains, SaysNothing}
use Rattle.engine.specs.Keeping.{KeeperCalls, KeepsEach}
use Rattle.engine.specs.Ways.{said_all}

-- a front of the list, and there is more
pub record IsFront {A : Type 0} (all front : List A) : Type 0 where
  pub next : A
  pub rest : List A
  pub is : all ≡ front ++ next ∷ rest

-- a front of these characters was said, and not the one behind
abbrev pub GainsFront : Option (List Item) → Option (List Item) → List ℕ → Type 0
GainsFront line line' keys = (front : List ℕ) × IsFront keys front × Gains line line' (said_all front)

-- all these things were kept
pub record Keeps {K News : Type 0} (calls : KeeperCalls K News) (old : K) (items : List News) (new : K) : Type 0 where
  pub told : Gains (calls.told old) (calls.told new) items
  pub each : KeepsEach calls.keeps old items new
  pub counted : calls.failures new ≡ calls.failures old

-- a front of these things was kept, and then the next was not
pub record KeepsFront {K News : Type 0} (calls : KeeperCalls K News) (fault : KeepFault) (old : K) (items : List News) (new : K) : Type 0 where
  pub front : List News
  pub item : News
  pub rest : List News
  pub items_are : items ≡ front ++ item ∷ rest
  pub next : K
  pub kept : Keeps calls old front next
  pub nothing : SaysNothing (calls.told next) (calls.told new)
  pub failing : calls.fails next item new
  pub counted : calls.failures new ≡ one_more (calls.failures next)
  pub named : calls.fault new ≡ Some fault
