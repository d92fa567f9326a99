-- What holds of every core, whatever it has heard: the part of the loading protocol that the host
-- keeps by itself.
use Rattle.std.specs.Prelude.{◌≡◌, ℕ, ◌^◌, ◌<◌, ◌≤◌, Bool, true, false, ◌==◌, if◌then◌else◌, length, Option, None, IsSome, ⊤}
use Rattle.tape_image.specs.Plan.{PlanValue, IsPlan}
use Rattle.host_core.specs.declared.phase.Phase.{Phase}
use Rattle.host_core.specs.declared.phase.Phase.TheVariants.{Settle, Sync, Address, Slash, Before, Value, Deposit, Return, Start, Go, Ended}
use Rattle.host_core.specs.declared.phase.Try.{Try}
use Rattle.host_core.specs.declared.phase.Try.TheVariants.{Only, First, Second}
use Rattle.host_core.specs.declared.phase.Visit.{Visit}
use Rattle.host_core.specs.declared.phase.Visit.TheVariants.{Look, Again, Check}
use Rattle.host_core.specs.declared.phase.Reason.TheVariants.{Store, Reopen, Missing, Close}
use Rattle.host_core.specs.declared.phase.End.{End}
use Rattle.host_core.specs.declared.phase.End.TheVariants.{Loaded, Started, Uncertain, MaybeStarted, GaveUp, NoWord, WontHold}
use Rattle.host_core.specs.Core.{Core, word_nr}
use Rattle.host_core.specs.Bound.{used}

-- a number's digits have the places 1 to 6
pub record IsPlace (place : ℕ) : Type 0 where
  pub from : 1 ≤ place
  pub to : place ≤ 6

-- how many numbers the first digits of a word's octal text can make: the first digit is 0 or 1
abbrev pub value_room : ℕ → ℕ
value_room place =
    if place == 0 then 1 else if place == 1 then 2 else if place == 2 then 16 else if place == 3 then 128
    else if place == 4 then 1024 else if place == 5 then 8192 else 65536

-- of the host alone: what its phases and ends are judged by, which is all of a core but the phase and the characters sent
pub record Basis : Type 0 where
  pub careful : Bool
  pub plan : PlanValue
  pub verified : ℕ
  pub going : Bool
  pub patience : ℕ
  pub spent : ℕ

-- a core without its phase and the characters that it has sent
abbrev pub basis_of : Core → Basis
basis_of core = record {
  careful = core.careful;
  plan = core.plan;
  verified = core.verified;
  going = core.going;
  patience = core.patience;
  spent = core.spent;
}

-- a word is under way
abbrev pub HasWord : Basis → Type 0
HasWord b = b.verified < length b.plan.words

-- this is the address of the word under way
abbrev pub IsItsAddress : ℕ → Basis → Type 0
IsItsAddress address b = HasWord b × (address ≡ (word_nr b.plan.words b.verified).address)

-- every word is verified and there is a start
pub record IsReady (plan : PlanValue) (verified : ℕ) : Type 0 where
  pub all : verified ≡ length plan.words
  pub has_start : IsSome plan.start

-- what an end says
abbrev pub EndFits : End → Basis → Type 0
EndFits Loaded b = (b.verified ≡ length b.plan.words) × (b.plan.start ≡ None)
EndFits Started b = b.going ≡ true
EndFits Uncertain b = b.going ≡ true
EndFits MaybeStarted b = b.going ≡ true
EndFits GaveUp b = b.spent ≡ b.patience
EndFits (NoWord address) b = IsItsAddress address b
EndFits (WontHold address) b = IsItsAddress address b

-- a plain host deposits once, a careful one at most twice
abbrev pub TryFits : Try → Bool → Type 0
TryFits Only careful = careful ≡ false
TryFits First careful = careful ≡ true
TryFits (Second before) careful = careful ≡ true

-- what was deposited is a word, and only a careful host looks again
abbrev pub VisitFits : Visit → Bool → Type 0
VisitFits Look careful = ⊤
VisitFits (Again first) careful = careful ≡ true
VisitFits (Check deposit value) careful = TryFits deposit careful × (value < 65536)

-- what a phase says
abbrev pub PhaseFits : Phase → Basis → Type 0
PhaseFits Settle b = ⊤
PhaseFits (Sync place) b = place ≤ 5
PhaseFits (Address visit place) b = HasWord b × IsPlace place × VisitFits visit b.careful
PhaseFits (Slash visit) b = HasWord b × VisitFits visit b.careful
PhaseFits (Before visit) b = HasWord b × VisitFits visit b.careful
PhaseFits (Value visit value place) b = HasWord b × (place ≤ 6) × (value < value_room place) × VisitFits visit b.careful
PhaseFits (Deposit deposit value place) b = HasWord b × IsPlace place × (value < 65536) × TryFits deposit b.careful
PhaseFits (Return (Store deposit value) place) b = HasWord b × (place ≤ 3) × (value < 65536) × TryFits deposit b.careful
PhaseFits (Return (Reopen first) place) b = HasWord b × (place ≤ 3) × (b.careful ≡ true)
PhaseFits (Return (Missing address) place) b = IsItsAddress address b × (place ≤ 3) × (b.careful ≡ true)
PhaseFits (Return Close place) b = place ≤ 3
PhaseFits (Start place) b = IsReady b.plan b.verified × IsPlace place
PhaseFits Go b = IsReady b.plan b.verified × (b.going ≡ true)
PhaseFits (Ended end) b = EndFits end b

-- once the mark is set nothing is left but the echo of `G`, or the life is over
abbrev pub IsPastMark : Phase → Type 0
IsPastMark Go = ⊤
IsPastMark (Ended end) = ⊤
IsPastMark _ = ⊥

-- the mark is set only over a start
abbrev pub MarkFits : Bool → Option ℕ → Phase → Type 0
MarkFits false start phase = ⊤
MarkFits true start phase = IsSome start × IsPastMark phase

-- every core is so: the plan is one, no count passes its limit, the phase and the mark fit, and what was sent is accounted for
pub record IsHost (core : Core) : Type 0 where
  pub image : IsPlan core.plan
  pub within : core.verified ≤ length core.plan.words
  pub patient : core.spent ≤ core.patience
  pub long : core.patience < 2 ^ 32
  pub fits : PhaseFits core.phase (basis_of core)
  pub mark : MarkFits core.going core.plan.start core.phase
  pub paid : core.sent ≤ used core
