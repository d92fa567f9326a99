-- What an engine gives a keeper to keep, and what each of the keeper's calls makes of it.
use Rattle.std.specs.Prelude.{◌≡◌, ℕ, List, [], ◌∷◌, ◌++◌, Option, Some, None}
use Rattle.host_devices.specs.declared.fault.KeepFault.{KeepFault}
use Rattle.host_devices.specs.declared.item.Kept.{Kept}
use Rattle.host_devices.specs.declared.keep.Keep.{Ghosts as KeepProgress}
use Rattle.host_devices.specs.Failures.{CountsFault, IsLastFault}
use Rattle.engine.specs.declared.keep.Keep.{Ghosts as Keep}

-- what keepers of a type tell, and what their calls make of them
pub record KeeperCalls (K News : Type 0) : Type 1 where
  pub told : K → Option (List News)
  pub failures : K → ℕ
  pub fault : K → Option KeepFault
  pub keeps : K → News → K → Type 0
  pub fails : K → News → K → Type 0

abbrev pub calls_of : {K News : Type 0} → Keep K News → KeeperCalls K News
calls_of tell = record { told = tell.told; failures = tell.fault_count; fault = tell.last_fault; keeps = tell.keeps; fails = tell.fails }

-- those of a keeper of a load's progress
abbrev pub progress_calls : {K : Type 0} → KeepProgress K → KeeperCalls K Kept
progress_calls tell = record { told = tell.told; failures = tell.fault_count; fault = tell.last_fault; keeps = tell.keeps; fails = tell.fails }

-- things that were given to a keeper, one after another, and the fault with which it failed at the last of them, where it did
pub record Keeping (News : Type 0) : Type 0 where
  pub items : List News
  pub fault : Option KeepFault

abbrev pub keeping : {News : Type 0} → List News → Option KeepFault → Keeping News
keeping items fault = record { items = items; fault = fault }

-- all of it is so, but where there was a fault only a front
abbrev pub AllOrFront : Option KeepFault → (all front : Type 0) → Type 0
AllOrFront None all front = all
AllOrFront (Some fault) all front = front

-- all but the last
abbrev pub LacksLast : {A : Type 0} → List A → List A → Type 0
LacksLast {A} all most = (last : A) × (all ≡ most ++ last ∷ [])

-- these things were kept, one after another, and nothing else was asked of the keeper
abbrev pub KeepsEach : {K News : Type 0} → (K → News → K → Type 0) → K → List News → K → Type 0
KeepsEach {K} {News} keeps old [] new = new ≡ old
KeepsEach {K} {News} keeps old (item ∷ items) new = (next : K) × keeps old item next × KeepsEach keeps next items new

-- all but the last of these things were kept, and then the last was not
pub record KeepsAllButLast {K News : Type 0} (calls : KeeperCalls K News) (old : K) (items : List News) (new : K) : Type 0 where
  pub kept : List News
  pub last : News
  pub items_are : items ≡ kept ++ last ∷ []
  pub next : K
  pub each : KeepsEach calls.keeps old kept next
  pub failing : calls.fails next last new

-- the keeper once it was given these things: each was kept, or all but the last, at which it failed
abbrev pub KeptBy : {K News : Type 0} → KeeperCalls K News → Keeping News → K → K → Type 0
KeptBy {K} {News} calls given keeper keeper' =
    AllOrFront given.fault (KeepsEach calls.keeps keeper given.items keeper') (KeepsAllButLast calls keeper given.items keeper')

-- what became of a keeper by its own calls
pub record IsKeptBy {K News : Type 0} (calls : KeeperCalls K News) (given : Keeping News) (keeper keeper' : K) : Type 0 where
  pub counted : CountsFault given.fault (calls.failures keeper) (calls.failures keeper')
  pub named : IsLastFault given.fault (calls.fault keeper')
  pub kept_by : KeptBy calls given keeper keeper'
