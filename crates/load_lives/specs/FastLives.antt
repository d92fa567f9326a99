-- Loads one after another, at one station and with one record, and what may be trusted after them. With no stub a load is an ordinary one.
use Rattle.std.specs.Prelude.{◌≡◌, ℕ, ◌+◌, ◌^◌, ◌<◌, ◌⊎◌, true, false, List, [], ◌∷◌, ◌++◌, length, Contains, Ok, Option, None, option_to_list, ⊤}
use Rattle.tape_image.specs.Plan.{PlanValue, IsPlan}
use Rattle.odt_machine.specs.Laws.{is_running}
use Rattle.odt_machine.specs.Machine.{IsMachine}
use Rattle.host_core.specs.declared.heard.Heard.{Heard}
use Rattle.host_core.specs.declared.progress.Progress.{Progress}
use Rattle.host_core.specs.Console.{go}
use Rattle.host_core.specs.Core.{Core, begun}
use Rattle.host_core.specs.Laws.{led}
use Rattle.line_world.specs.Promises.{EndsAtGo}
use Rattle.line_world.specs.Safe.{FirstStand, IsLoaded}
use Rattle.host_devices.specs.declared.item.Item.{Item}
use Rattle.host_devices.specs.Dialogue.{dialogue, keys_of, said}
use Rattle.honest_line.specs.Starts.{RunsByGo}
use Rattle.load_record.specs.declared.version.Version.TheVariants.{Second}
use Rattle.load_record.specs.Reading.{Says}
use Rattle.load_record.specs.RecordText.{record_text}
use Rattle.load_lives.specs.Lives.{GoesOnFrom, IsLeft}
use Rattle.exchange_law.specs.Law.{said_all}
use Rattle.exchange_law.specs.Line.{Link, Passes}
use Rattle.exchange_law.specs.Station.{Program}
use Rattle.exchange_law.specs.Unsettled.{IsUnsettled}
use Rattle.exchange_law.specs.Recovery.{IsLater, IsPaid}
use Rattle.exchange_law.specs.Start.{program as stub_program}
use Rattle.load_lives.specs.Between.{KeepsOutside}
use Rattle.load_lives.specs.StubParts.{ArePlain, AreStubParts, StubPart, stubs_said, verified_by}

-- what a life finds and what it leaves: the station, with what is under way on its line, and the text of the record
pub record LinkAndRecord : Type 0 where
  pub link : Link
  pub text : List ℕ

-- a life: the progress that it began with, its stubs, how many mishaps the host behind them survives, what that one heard, what was said on the line with
-- the stubs and behind them, and what it was about to send where it was stopped
pub record FastLife : Type 0 where
  pub progress : Progress
  pub stubs : List StubPart
  pub patience : ℕ
  pub heard : List Heard
  pub front : List Item
  pub rest : List Item
  pub unsent : List ℕ

-- the host behind the stubs at its beginning, and what it became
abbrev pub first_core : PlanValue → FastLife → Core
first_core tape life = begun tape (verified_by tape life.progress.verified life.stubs) life.progress.going life.patience

abbrev pub last_core : PlanValue → FastLife → Core
last_core tape life = led (first_core tape life) life.heard

-- it stops with the stubs, before any character, and then nothing came behind them
pub record StopsWithStubs (tape : PlanValue) (life : FastLife) : Type 0 where
  pub front : stubs_said tape life.progress.verified life.stubs ≡ life.front ++ said_all life.unsent
  pub unheard : life.heard ≡ []
  pub unsaid : life.rest ≡ []

-- or behind them, at an end or before a key
pub record StopsBehindStubs (tape : PlanValue) (life : FastLife) : Type 0 where
  pub front : stubs_said tape life.progress.verified life.stubs ≡ life.front
  pub key : Option ℕ
  pub rest : dialogue (first_core tape life) life.heard ≡ life.rest ++ said key
  pub last : life.unsent ≡ option_to_list key

-- a life finds the line as it was left, or a new one to the same station, with no key under way. Its losses are counted from there
abbrev pub ReopensAt : Link → Link → Type 0
ReopensAt left found =
    (found ≡ record left { lost = 0 }) ⊎ ((waiting : List ℕ) × (found ≡ record { machine = left.machine; down = []; up = waiting; lost = 0 }))

-- what was said passed over the line that a life found, from how it was left to how the life leaves it
pub record PassesAt (program : Program) (left : Link) (items : List Item) (left' : Link) : Type 0 where
  pub found : Link
  pub reopens : ReopensAt left found
  pub passes : Passes program found items left'

-- where a life begins with fewer words than the record says, as with `--recheck`, the record was written anew before the first key was sent: else a stub
-- would lie on words that the record holds
abbrev pub Renews : PlanValue → FastLife → Progress → List ℕ → List ℕ → Type 0
Renews tape life recorded old new =
    (life.progress.verified ≡ recorded.verified)
    ⊎ (((keys_of (life.front ++ life.rest) ≡ []) × (new ≡ old))
    ⊎ ((missing : List ℕ) × (new ++ missing ≡ record_text Second tape (last_core tape life).verified (last_core tape life).going)))

-- one life, from what it finds to what it leaves
pub record IsFastLife (program : Program) (tape : PlanValue) (old : LinkAndRecord) (life : FastLife) (new : LinkAndRecord) : Type 0 where
  pub patient : life.patience < 2 ^ 32
  pub goes_on : GoesOnFrom tape old.text life.progress
  -- where the program may have been started it brings in no stub
  pub alone : life.progress.going ≡ true → life.stubs ≡ []
  pub stubs : AreStubParts program tape life.progress.verified life.stubs
  pub plain : ArePlain life.stubs
  -- it says what its parts decide, and may be stopped at any moment
  pub stops : StopsWithStubs tape life ⊎ StopsBehindStubs tape life
  -- the line delivers and loses as a line may
  pub line : PassesAt program old.link (life.front ++ life.rest) new.link
  pub left : IsLeft tape life.progress (last_core tape life) life.rest old.text new.text
  pub renews : life.progress.going ≡ false → Renews tape life goes_on.recorded old.text new.text

-- lives one after another, the latest first: each finds what the one before it left
abbrev pub AreFastLives : Program → PlanValue → LinkAndRecord → List FastLife → LinkAndRecord → Type 0
AreFastLives program tape old [] new = new ≡ old
AreFastLives program tape old (life ∷ earlier) new =
    (between : LinkAndRecord) × AreFastLives program tape old earlier between × IsFastLife program tape between life new

-- the keys that all these lives sent behind their stubs, in their order: the program's `G` is one of them, a stub's is not
abbrev pub typed : List FastLife → List ℕ
typed [] = []
typed (life ∷ earlier) = typed earlier ++ keys_of life.rest

-- the first life may begin here: ODT listens, no program runs and no key is under way, and what the record says, which has no mark, is true of memory
pub record MayOpenAt (tape : PlanValue) (old : LinkAndRecord) : Type 0 where
  pub console : IsMachine old.link.machine.odt
  pub stopped : is_running old.link.machine.odt.mode ≡ false
  pub no_stub : old.link.machine.stub ≡ None
  pub none_down : old.link.down ≡ []
  pub progress : Progress
  pub says : Says tape old.text (Ok progress)
  pub no_mark : progress.going ≡ false
  pub stand : FirstStand tape.words progress.verified old.link.machine.odt.memory

-- of the latest life, where there was one: its host's mishaps, and its end, have their losses, but for one mishap, the halt of a stub that it found running
abbrev pub IsLatestPaid : PlanValue → List FastLife → Link → Type 0
IsLatestPaid tape [] now = ⊤
IsLatestPaid tape (life ∷ earlier) now = IsPaid (last_core tape life) now.machine.odt.memory (length life.unsent + now.lost + 1)

-- what came of lives that sent these keys behind their stubs; `before` is memory before the first
pub record AreFastTrusted (program : Program) (tape : PlanValue) (before keys : List ℕ) (now : LinkAndRecord) : Type 0 where
  -- the record that is left says a progress, which is true of memory
  pub progress : Progress
  pub says : Says tape now.text (Ok progress)
  pub stand : FirstStand tape.words progress.verified now.link.machine.odt.memory
  -- outside the image memory is what it was
  pub kept : KeepsOutside before tape.image now.link.machine.odt.memory
  -- the program's `G`, if it was sent, was the last key of all, and then the record has the mark
  pub last : EndsAtGo keys
  pub marked : Contains keys go → progress.going ≡ true
  -- with the mark memory is the earlier one with the whole image laid over it
  pub loaded : progress.going ≡ true → IsLoaded before tape now.link.machine.odt.memory
  -- without it only bytes of words that do not count as verified may still change, by a stub
  pub unsettled : progress.going ≡ false → IsUnsettled program (IsLater tape progress.verified) now.link
  -- no program runs but a stub, or by that `G`
  pub by_go : now.link.machine.stub ≡ None → RunsByGo now.link.machine.odt keys

-- lives may be trusted, however many they are and wherever each was stopped, with stubs or without: which stub stands at an address is read out of memory
abbrev pub FastLivesAreTrusted : Type 0
FastLivesAreTrusted =
    (tape : PlanValue) (old new : LinkAndRecord) (lives : List FastLife) → IsPlan tape → MayOpenAt tape old → AreFastLives stub_program tape old lives new →
    AreFastTrusted stub_program tape old.link.machine.odt.memory (typed lives) new × IsLatestPaid tape lives new.link
