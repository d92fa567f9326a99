-- What an engine gives a keeper to keep, and what it makes of it.
use Rattle.std.specs.Prelude.{ℕ, ◌+◌, ◌-◌, ◌<◌, List, length, map, take, drop, Option}
use Rattle.tape_image.specs.Word.{WordValue}
use Rattle.host_devices.specs.declared.item.Kept.{Kept}
use Rattle.host_devices.specs.declared.item.Kept.TheVariants.{Word}
use Rattle.engine.specs.Keeping.{AllOrFront, KeeperCalls, Keeping, KeepsAllButLast, KeepsEach}
use Rattle.host_devices.specs.Failures.{CountsFault, IsLastFault}
use Rattle.host_devices.specs.Told.{Gains}

-- a list's words from one number to another, as what is to be kept
abbrev pub words_kept : List WordValue → ℕ → ℕ → List Kept
words_kept words from to = map Word (take (to - from) (drop from words))

-- what a keeper tells has gained a front of these things, but not all
abbrev pub GainsFront : Option (List Kept) → Option (List Kept) → List Kept → Type 0
GainsFront told told' items = (k : ℕ) × (k < length items) × Gains told told' (take k items)

-- what a keeper tells behind what was given to it: all of that, or a front where it failed
abbrev pub IsToldBy : Keeping Kept → Option (List Kept) → Option (List Kept) → Type 0
IsToldBy given told told' = AllOrFront given.fault (Gains told told' given.items) (GainsFront told told' given.items)

-- the first of these things were kept, and then one was not
abbrev pub KeepsFront : {K : Type 0} → KeeperCalls K Kept → List Kept → K → K → Type 0
KeepsFront {K} calls items old new = (k : ℕ) × (k < length items) × KeepsAllButLast calls old (take (k + 1) items) new

-- what became of a keeper by its own calls: each of these things was kept, or a front where it failed
pub record IsKeptBy {K : Type 0} (calls : KeeperCalls K Kept) (given : Keeping Kept) (keeper keeper' : K) : Type 0 where
  pub counted : CountsFault given.fault (calls.failures keeper) (calls.failures keeper')
  pub named : IsLastFault given.fault (calls.fault keeper')
  pub each : AllOrFront given.fault (KeepsEach calls.keeps keeper given.items keeper') (KeepsFront calls given.items keeper keeper')
