-- What holds of every testing host, whatever it has heard.
use Rattle.std.specs.Prelude.{◌≡◌, ℕ, ◌^◌, ◌<◌, ◌≤◌, List, length, ⊤}
use Rattle.memory_core.specs.declared.phase.Visit.{Visit}
use Rattle.memory_core.specs.declared.phase.Visit.TheVariants.{Look, Check}
use Rattle.host_core.specs.Host.{IsPlace, value_room}
use Rattle.reading_core.specs.Addresses.{AreAddresses}
use Rattle.memory_core.specs.declared.phase.Phase.{Phase}
use Rattle.memory_core.specs.declared.phase.Phase.TheVariants.{Settle, Sync, Address, Slash, Before, Value, Deposit, Return, Close, Ended}
use Rattle.memory_core.specs.declared.phase.End.{End}
use Rattle.memory_core.specs.declared.phase.End.TheVariants.{Complete, GaveUp, NoWord}
use Rattle.memory_core.specs.declared.seen.Seen.{Seen}
use Rattle.memory_core.specs.declared.stage.Stage.{Stage}
use Rattle.memory_core.specs.declared.stage.Stage.TheVariants.{Unseen, Once, Turned, Returned}
use Rattle.memory_core.specs.Bound.{used}
use Rattle.memory_core.specs.Stage.{IsTouched, AreNumbers}
use Rattle.memory_core.specs.Tester.{Tester, address_nr}

-- what phases, stages and ends of the testing host alone are judged by: all of a tester but its phase and the characters sent
pub record Basis : Type 0 where
  pub addresses : List ℕ
  pub seen : List Seen
  pub patience : ℕ
  pub spent : ℕ
  pub stage : Stage

-- a tester without its phase and the characters that it has sent
abbrev pub basis_of : Tester → Basis
basis_of t = record { addresses = t.addresses; seen = t.seen; patience = t.patience; spent = t.spent; stage = t.stage }

-- a word is under way
abbrev pub HasWord : Basis → Type 0
HasWord b = length b.seen < length b.addresses

-- what an end says
abbrev pub EndFits : End → Basis → Type 0
EndFits Complete b = (length b.seen ≡ length b.addresses) × (b.stage ≡ Unseen)
EndFits GaveUp b = b.spent ≡ b.patience
EndFits (NoWord address) b = HasWord b × (address ≡ address_nr b.addresses (length b.seen))

-- a word is checked only behind a deposit
abbrev pub VisitFits : Visit → Stage → Type 0
VisitFits Look stage = ⊤
VisitFits Check stage = IsTouched stage

-- what a phase says
abbrev pub PhaseFits : Phase → Basis → Type 0
PhaseFits Settle b = ⊤
PhaseFits (Sync place) b = place ≤ 5
PhaseFits (Address visit place) b = HasWord b × IsPlace place × VisitFits visit b.stage
PhaseFits (Slash visit) b = HasWord b × VisitFits visit b.stage
PhaseFits (Before visit) b = HasWord b × VisitFits visit b.stage
PhaseFits (Value visit value place) b = HasWord b × (place ≤ 6) × (value < value_room place) × VisitFits visit b.stage
PhaseFits (Deposit place) b = HasWord b × IsPlace place × IsTouched b.stage
PhaseFits (Return place) b = HasWord b × (place ≤ 3) × IsTouched b.stage
PhaseFits (Close place) b = place ≤ 3
PhaseFits (Ended end) b = EndFits end b

-- a word of which something is known is under way
abbrev pub StageFits : Stage → Basis → Type 0
StageFits Unseen b = ⊤
StageFits (Once first) b = HasWord b
StageFits (Turned old) b = HasWord b
StageFits (Returned old turned) b = HasWord b

-- every tester is so: its addresses are ones, no more words are tested than it has addresses, no count passes its limit, the
-- phase and the stage fit, and what was sent is accounted for
pub record IsTester (t : Tester) : Type 0 where
  pub asked : AreAddresses t.addresses
  pub within : length t.seen ≤ length t.addresses
  pub patient : t.spent ≤ t.patience
  pub long : t.patience < 2 ^ 32
  pub stage : StageFits t.stage (basis_of t)
  pub numbers : AreNumbers t.stage
  pub fits : PhaseFits t.phase (basis_of t)
  pub paid : t.sent ≤ used t
