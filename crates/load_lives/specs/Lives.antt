-- Lives of the host one after another, on one machine and with one record, and what may be trusted after them.
use Rattle.std.specs.Prelude.{◌≡◌, ℕ, ◌+◌, ◌^◌, ◌<◌, ◌≤◌, ◌⊎◌, Bool, true, false, List, [], ◌∷◌, ◌++◌, length, Option, Contains, Ok, option_to_list, ⊤}
use Rattle.tape_image.specs.Plan.{PlanValue, IsPlan}
use Rattle.host_core.specs.declared.heard.Heard.{Heard}
use Rattle.host_core.specs.declared.progress.Progress.{Progress}
use Rattle.host_core.specs.Console.{go}
use Rattle.host_core.specs.Core.{Core, begun, begun_by}
use Rattle.host_core.specs.Laws.{led}
use Rattle.line_world.specs.Wire.{Wire, forgiven, most_waiting}
use Rattle.line_world.specs.Safe.{IsSafe}
use Rattle.line_world.specs.Promises.{EndsAtGo}
use Rattle.host_devices.specs.declared.item.Item.{Item}
use Rattle.host_devices.specs.Dialogue.{said, dialogue, keys_of}
use Rattle.honest_line.specs.Moves.{Passes}
use Rattle.honest_line.specs.Honest.{resting}
use Rattle.honest_line.specs.Starts.{RunsByGo}
use Rattle.honest_line.specs.Trust.{MayBegin, IsTrusted}
use Rattle.load_record.specs.declared.version.Version.TheVariants.{Second}
use Rattle.load_record.specs.Reading.{Says}
use Rattle.load_record.specs.RecordText.{record_text}

-- what a life finds and what it leaves: the machine, with what is under way on its line, and the text of the record
pub record WireAndRecord : Type 0 where
  pub wire : Wire
  pub text : List ℕ

-- a life of the host: whether it is careful, how many mishaps it survives, the progress that it began with, what it heard, what was said on the
-- line, and the key that it was about to send, where it was stopped right before that
pub record Life : Type 0 where
  pub careful : Bool
  pub patience : ℕ
  pub progress : Progress
  pub heard : List Heard
  pub items : List Item
  pub unsent : Option ℕ

-- the core that the life began with
abbrev pub first_core : PlanValue → Life → Core
first_core plan life = begun_by life.careful plan life.progress.verified life.progress.going life.patience

-- the core that it became
abbrev pub last_core : PlanValue → Life → Core
last_core plan life = led (first_core plan life) life.heard

-- a life may go on with a progress where the text says it, or says more words and the same about the mark
pub record GoesOnFrom (plan : PlanValue) (text : List ℕ) (progress : Progress) : Type 0 where
  pub recorded : Progress
  pub says : Says plan text (Ok recorded)
  pub fewer : progress.verified ≤ recorded.verified
  pub same_mark : progress.going ≡ recorded.going

-- a life finds the line as it was left, perhaps with a key under way; or a new one to the same machine, with no key under way
-- and at most 32 characters waiting. Its losses are counted from there
abbrev pub Reopens : Wire → Wire → Type 0
Reopens left found =
    (found ≡ forgiven left) ⊎ ((waiting : List ℕ) × (length waiting ≤ most_waiting) × (found ≡ resting left.machine waiting 0))

-- the record that a life leaves, which began with a progress, became a core and said these items: the text that it found, or a
-- new one of all that it has verified, cut at any byte. Where `G` was sent it is the whole new one, with the mark; and where the
-- mark stood before, the text is left alone
pub record IsLeft (plan : PlanValue) (progress : Progress) (core : Core) (items : List Item) (old new : List ℕ) : Type 0 where
  pub cut : (new ≡ old) ⊎ ((missing : List ℕ) × (new ++ missing ≡ record_text Second plan core.verified core.going))
  pub whole : Contains (keys_of items) go → new ≡ record_text Second plan core.verified true
  pub alone : progress.going ≡ true → new ≡ old

-- what was said passed over the line that a life found, from how it was left to how the life leaves it
pub record PassesOver (left : Wire) (items : List Item) (left' : Wire) : Type 0 where
  pub found : Wire
  pub reopens : Reopens left found
  pub passes : Passes found items left'

-- one life, from what it finds to what it leaves
pub record IsLife (plan : PlanValue) (old : WireAndRecord) (life : Life) (new : WireAndRecord) : Type 0 where
  pub patient : life.patience < 2 ^ 32
  pub goes_on : GoesOnFrom plan old.text life.progress
  -- it says what its core decides, and may be stopped at any moment
  pub stopped : dialogue (first_core plan life) life.heard ≡ life.items ++ said life.unsent
  -- the line delivers and loses as a line may
  pub line : PassesOver old.wire life.items new.wire
  pub left : IsLeft plan life.progress (last_core plan life) life.items old.text new.text

-- lives one after another, the latest first, plain and careful ones in any order: each finds what the one before it left
abbrev pub AreLives : PlanValue → WireAndRecord → List Life → WireAndRecord → Type 0
AreLives plan old [] new = new ≡ old
AreLives plan old (life ∷ earlier) new = (between : WireAndRecord) × AreLives plan old earlier between × IsLife plan between life new

-- the keys that all these lives sent, in their order
abbrev pub typed : List Life → List ℕ
typed [] = []
typed (life ∷ earlier) = typed earlier ++ keys_of life.items

-- the first life may begin here: few characters wait and no key is under way, the machine runs no program, and what the record
-- says, which has no mark, is true of memory
pub record MayOpen (plan : PlanValue) (old : WireAndRecord) : Type 0 where
  pub few : length old.wire.up ≤ most_waiting
  pub none_down : old.wire.down ≡ []
  pub progress : Progress
  pub says : Says plan old.text (Ok progress)
  pub no_mark : progress.going ≡ false
  pub begins : MayBegin (begun plan progress.verified false 0) old.wire.machine

-- what the latest life, where there was one, may be trusted with: memory is safe against the one before the first life, and an end
-- and each mishap have their losses
abbrev pub IsLatestTrusted : PlanValue → List ℕ → List Life → WireAndRecord → Type 0
IsLatestTrusted plan before [] now = ⊤
IsLatestTrusted plan before (life ∷ earlier) now =
    IsTrusted before (last_core plan life) now.wire.machine.memory (typed (life ∷ earlier)) (length (option_to_list life.unsent) + now.wire.lost)

-- what came of lives that sent these keys, in their order: the record that is left says a progress, which is true of memory; memory is safe against the
-- one before the first life; `G`, if it was sent, was the last key of all, and then the record has the mark; and no program runs but by it
pub record AreTrusted (plan : PlanValue) (before keys : List ℕ) (now : WireAndRecord) : Type 0 where
  pub progress : Progress
  pub says : Says plan now.text (Ok progress)
  pub safe : IsSafe before (begun plan progress.verified progress.going 0) now.wire.machine.memory
  pub last : EndsAtGo keys
  pub marked : Contains keys go → progress.going ≡ true
  pub by_go : RunsByGo now.wire.machine keys

-- lives may be trusted, however many they are and wherever each was stopped
abbrev pub LivesAreTrusted : Type 0
LivesAreTrusted =
    (plan : PlanValue) (old new : WireAndRecord) (lives : List Life) → IsPlan plan → MayOpen plan old → AreLives plan old lives new →
    AreTrusted plan old.wire.machine.memory (typed lives) new × IsLatestTrusted plan old.wire.machine.memory lives new
