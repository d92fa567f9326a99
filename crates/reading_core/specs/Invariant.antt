-- What holds of every reading host, whatever it has heard.
use Rattle.std.specs.Prelude.{◌≡◌, ℕ, ◌^◌, ◌<◌, ◌≤◌, true, All, List, length, Option, Some, None, ⊤}
use Rattle.host_core.specs.Host.{IsPlace, value_room}
use Rattle.reading_core.specs.declared.care.Care.{Care}
use Rattle.reading_core.specs.declared.phase.Phase.{Phase}
use Rattle.reading_core.specs.declared.phase.Phase.TheVariants.{Settle, Sync, Address, Slash, Before, Value, Close, Refused, Ended}
use Rattle.reading_core.specs.declared.phase.End.{End}
use Rattle.reading_core.specs.declared.phase.End.TheVariants.{Complete, GaveUp, NoWord}
use Rattle.reading_core.specs.Addresses.{AreAddresses}
use Rattle.reading_core.specs.Reader.{Reader, address_nr, looks_twice}
use Rattle.reading_core.specs.Bound.{used}

-- what phases and ends of the reading host alone are judged by
pub record Basis : Type 0 where
  pub addresses : List ℕ
  pub values : List ℕ
  pub patience : ℕ
  pub spent : ℕ

-- the part of a reader that they are judged by
abbrev pub basis_of : Reader → Basis
basis_of r = record { addresses = r.addresses; values = r.values; patience = r.patience; spent = r.spent }

-- a word is under way
abbrev pub HasWord : Basis → Type 0
HasWord b = length b.values < length b.addresses

-- what an end says
abbrev pub EndFits : End → Basis → Type 0
EndFits Complete b = length b.values ≡ length b.addresses
EndFits GaveUp b = b.spent ≡ b.patience
EndFits (NoWord address) b = HasWord b × (address ≡ address_nr b.addresses (length b.values))

-- what a phase says
abbrev pub PhaseFits : Phase → Basis → Type 0
PhaseFits Settle b = ⊤
PhaseFits (Sync place) b = place ≤ 5
PhaseFits (Address place) b = HasWord b × IsPlace place
PhaseFits Slash b = HasWord b
PhaseFits Before b = HasWord b
PhaseFits (Value value place) b = HasWord b × (place ≤ 6) × (value < value_room place)
PhaseFits (Close place) b = place ≤ 3
PhaseFits (Refused place) b = HasWord b × (place ≤ 3)
PhaseFits (Ended end) b = EndFits end b

-- an earlier look is remembered only where words are looked at twice
abbrev pub EarlierFits : Option ℕ → Care → Type 0
EarlierFits None care = ⊤
EarlierFits (Some number) care = looks_twice care ≡ true

-- every reader is so: its addresses are ones, no more numbers are read than it has addresses and each fits a word, no
-- count passes its limit, the phase fits, and what was sent is accounted for
pub record IsReader (r : Reader) : Type 0 where
  pub asked : AreAddresses r.addresses
  pub within : length r.values ≤ length r.addresses
  pub numbers : All (λ v. v < 65536) r.values
  pub patient : r.spent ≤ r.patience
  pub long : r.patience < 2 ^ 32
  pub again : EarlierFits r.earlier r.manner.care
  pub fits : PhaseFits r.phase (basis_of r)
  pub paid : r.sent ≤ used r
