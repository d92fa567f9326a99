-- Looks in front of a load, on its line: lives in a row, of which each may look first.
use Rattle.std.specs.Prelude.{◌≡◌, ℕ, ◌+◌, ◌^◌, ◌<◌, ◌≤◌, ◌⊎◌, false, All, List, [], ◌∷◌, ◌++◌, length, None, Ok, option_to_list, ⊤, Option, Some}
use Rattle.tape_image.specs.Plan.{PlanValue, IsPlan}
use Rattle.tape_image.specs.Word.{WordValue}
use Rattle.odt_machine.specs.Machine.{Machine}
use Rattle.host_core.specs.declared.progress.Progress.{Progress}
use Rattle.host_core.specs.Core.{begun}
use Rattle.host_devices.specs.declared.item.Item.{Item}
use Rattle.host_devices.specs.Dialogue.{dialogue, keys_of, said}
use Rattle.honest_line.specs.Honest.{IsHonest}
use Rattle.honest_line.specs.Trust.{IsTrusted, MayBegin}
use Rattle.load_record.specs.Reading.{Says}
use Rattle.load_lives.specs.Lives.{AreTrusted, GoesOnFrom, IsLeft, Life, MayOpen, PassesOver, WireAndRecord, first_core, last_core}
use Rattle.load_lives.specs.Stops.{WentOut}
use Rattle.reading_core.specs.Addresses.{AreAddresses, addresses_of}
use Rattle.reading_core.specs.Reader.{Manner, Reader, begun_in}
use Rattle.looking_law.specs.Belief.{dialogue as looks_of}
use Rattle.looking_law.specs.RecordLook.{HasLookedAs, IsHighest}
use Rattle.looking_law.specs.Splitting.{BeginsByListening}
use Rattle.looking_engine.specs.Stopping.{LookStop}
use Rattle.looking_engine.specs.Inquired.{Inquired, inquiry}
use Rattle.sample_looks.specs.Samples.{AreSamples}

-- a life, of a plain host or a careful one, and what was said before it on its line, where it looked
pub record LookingLife : Type 0 where
  pub looks : List Item
  pub life : Life

-- it is one as every life, but that what passed over the line began with the looks
pub record IsLookingLife (plan : PlanValue) (old : WireAndRecord) (l : LookingLife) (new : WireAndRecord) : Type 0 where
  pub patient : l.life.patience < 2 ^ 32
  pub goes_on : GoesOnFrom plan old.text l.life.progress
  pub looked : (l.looks ≡ []) ⊎ ((manner : Manner) × HasLookedAs manner plan goes_on.recorded l.looks)
  pub stopped : dialogue (first_core plan l.life) l.life.heard ≡ l.life.items ++ said l.life.unsent
  pub line : PassesOver old.wire (l.looks ++ l.life.items) new.wire
  pub left : IsLeft plan l.life.progress (last_core plan l.life) l.life.items old.text new.text

-- such lives one after another, the latest first: each finds what the one before it left
abbrev pub AreLookingLives : PlanValue → WireAndRecord → List LookingLife → WireAndRecord → Type 0
AreLookingLives plan old [] new = new ≡ old
AreLookingLives plan old (l ∷ earlier) new = (between : WireAndRecord) × AreLookingLives plan old earlier between × IsLookingLife plan between l new

-- the keys that all of them sent, the looks' too, in their order
abbrev pub typed : List LookingLife → List ℕ
typed [] = []
typed (l ∷ earlier) = typed earlier ++ keys_of (l.looks ++ l.life.items)

-- what the latest, where there was one, may be trusted with, by losses that came behind its looks
abbrev pub IsLatestTrusted : PlanValue → List ℕ → List LookingLife → WireAndRecord → Type 0
IsLatestTrusted plan before [] now = ⊤
IsLatestTrusted plan before (l ∷ earlier) now =
    (lost : ℕ) × (lost ≤ now.wire.lost)
    × IsTrusted before (last_core plan l.life) now.wire.machine.memory (typed (l ∷ earlier)) (length (option_to_list l.life.unsent) + lost)

-- lives in a row may be trusted, also where each looks first: `G`, if it was sent, was the last key of all, behind every look
abbrev pub LooksMayComeFirst : Type 0
LooksMayComeFirst =
    (plan : PlanValue) (old new : WireAndRecord) (lives : List LookingLife) → IsPlan plan → MayOpen plan old → AreLookingLives plan old lives new →
    AreTrusted plan old.wire.machine.memory (typed lives) new × IsLatestTrusted plan old.wire.machine.memory lives new

-- the life of a load that came to no more than its looks
abbrev pub idle : Progress → Life
idle progress = record { careful = false; patience = 0; progress = progress; heard = []; items = []; unsent = None }

-- looks with nothing behind them are such a life, which leaves the record alone
abbrev pub LooksMayStandAlone : Type 0
LooksMayStandAlone =
    (plan : PlanValue) (recorded : Progress) (manner : Manner) (looks : List Item) (old new : WireAndRecord) →
    Says plan old.text (Ok recorded) → HasLookedAs manner plan recorded looks → PassesOver old.wire looks new.wire → new.text ≡ old.text →
    IsLookingLife plan old (record { looks = looks; life = idle recorded }) new

-- looks, and then a load on their line: its plan, what its record says, how it looked, the machine before and behind both, what was said of each, and how
-- many characters were lost
pub record LoadBehindLooks : Type 0 where
  pub plan : PlanValue
  pub recorded : Progress
  pub manner : Manner
  pub before : Machine
  pub behind : Machine
  pub looks : List Item
  pub items : List Item
  pub lost : ℕ

-- the load might have begun without the looks; it begins by listening, and the line is honest
pub record MightBegin (load : LoadBehindLooks) : Type 0 where
  pub begins : MayBegin (begun load.plan load.recorded.verified false 0) load.before
  pub looked : HasLookedAs load.manner load.plan load.recorded load.looks
  pub listens : BeginsByListening load.items
  pub honest : IsHonest load.before (load.looks ++ load.items) load.lost load.behind

-- behind the looks it may begin, too: at a machine whose memory is what it was, and with what is honest from there
pub record MayFollow (load : LoadBehindLooks) : Type 0 where
  pub between : Machine
  pub lost_before : ℕ
  pub lost_after : ℕ
  pub begins : MayBegin (begun load.plan load.recorded.verified false 0) between
  pub memory : between.memory ≡ load.before.memory
  pub after : IsHonest between load.items lost_after load.behind
  pub losses : lost_before + lost_after ≡ load.lost

-- so it is of every load that might have begun without them
abbrev pub LoadsMayFollow : Type 0
LoadsMayFollow = (load : LoadBehindLooks) → MightBegin load → MayFollow load

-- looks at a record's samples before a load: its plan, what the record says, the samples, the addresses beyond them, how it looks, how many mishaps the
-- looks survive, and what went out of them
pub record SampleLooks : Type 0 where
  pub plan : PlanValue
  pub recorded : Progress
  pub samples : List WordValue
  pub beyond : List ℕ
  pub manner : Manner
  pub patience : ℕ
  pub items : List Item

abbrev pub looked_at : SampleLooks → List ℕ
looked_at looks = addresses_of looks.samples ++ looks.beyond

-- the host that looks, at its beginning
abbrev pub looker_at : SampleLooks → Reader
looker_at looks = begun_in looks.manner (looked_at looks) [] looks.patience

-- the record has no mark, and these are samples of its words, beyond which only the plan's highest word is looked at
pub record AreOfARecord (looks : SampleLooks) : Type 0 where
  pub unmarked : looks.recorded.going ≡ false
  pub samples : AreSamples looks.plan.words looks.recorded.verified looks.samples
  pub beyond : All (IsHighest looks.plan) looks.beyond
  pub asked : AreAddresses (looked_at looks)
  pub patient : looks.patience < 2 ^ 32

-- they came about as `look_at_samples` promises, and this went out, also where the call that failed sent its key after all
pub record WereMade (looks : SampleLooks) : Type 0 where
  pub turns : ℕ
  pub stop : LookStop
  pub last : Reader
  pub line : Option (List Item)
  pub line' : Option (List Item)
  pub inquired : Inquired turns (inquiry (looker_at looks) last (Some stop)) line line'
  pub out : WentOut (looks_of (looker_at looks) inquired.heard) inquired.said looks.items

-- what they said is such a look
abbrev pub SamplesAreOfTheRecord : Type 0
SamplesAreOfTheRecord = (looks : SampleLooks) → AreOfARecord looks → WereMade looks → HasLookedAs looks.manner looks.plan looks.recorded looks.items
