-- Looks in front of loads that may bring in stubs: lives in a row at a station, of which each may look first.
use Rattle.std.specs.Prelude.{◌≡◌, ℕ, ◌+◌, ◌^◌, ◌<◌, ◌≤◌, ◌⊎◌, true, false, List, [], ◌∷◌, ◌++◌, length, ⊤}
use Rattle.tape_image.specs.Plan.{PlanValue, IsPlan}
use Rattle.host_devices.specs.declared.item.Item.{Item}
use Rattle.host_devices.specs.Dialogue.{keys_of}
use Rattle.load_lives.specs.Lives.{GoesOnFrom, IsLeft}
use Rattle.looking_law.specs.RecordLook.{HasLooked}
use Rattle.exchange_law.specs.Line.{Link}
use Rattle.exchange_law.specs.Station.{Program}
use Rattle.exchange_law.specs.Recovery.{IsPaid}
use Rattle.exchange_law.specs.Start.{program as stub_program}
use Rattle.load_lives.specs.FastLives.{AreFastTrusted, FastLife, LinkAndRecord, MayOpenAt, PassesAt, Renews, StopsBehindStubs, StopsWithStubs, last_core}
use Rattle.load_lives.specs.StubParts.{ArePlain, AreStubParts}

-- a life, and what was said before it on its line, where it looked
pub record FastLookingLife : Type 0 where
  pub looks : List Item
  pub life : FastLife

-- it is one as every life, but that what passed over the line began with the looks
pub record IsFastLookingLife (program : Program) (tape : PlanValue) (old : LinkAndRecord) (l : FastLookingLife) (new : LinkAndRecord) : Type 0 where
  pub patient : l.life.patience < 2 ^ 32
  pub goes_on : GoesOnFrom tape old.text l.life.progress
  pub looked : (l.looks ≡ []) ⊎ HasLooked tape goes_on.recorded l.looks
  pub alone : l.life.progress.going ≡ true → l.life.stubs ≡ []
  pub stubs : AreStubParts program tape l.life.progress.verified l.life.stubs
  pub plain : ArePlain l.life.stubs
  pub stops : StopsWithStubs tape l.life ⊎ StopsBehindStubs tape l.life
  pub line : PassesAt program old.link (l.looks ++ (l.life.front ++ l.life.rest)) new.link
  pub left : IsLeft tape l.life.progress (last_core tape l.life) l.life.rest old.text new.text
  pub renews : l.life.progress.going ≡ false → Renews tape l.life goes_on.recorded old.text new.text

-- such lives one after another, the latest first: each finds what the one before it left
abbrev pub AreFastLookingLives : Program → PlanValue → LinkAndRecord → List FastLookingLife → LinkAndRecord → Type 0
AreFastLookingLives program tape old [] new = new ≡ old
AreFastLookingLives program tape old (l ∷ earlier) new =
    (between : LinkAndRecord) × AreFastLookingLives program tape old earlier between × IsFastLookingLife program tape between l new

-- the keys that all these lives sent while they looked and behind their stubs, in their order
abbrev pub typed : List FastLookingLife → List ℕ
typed [] = []
typed (l ∷ earlier) = typed earlier ++ (keys_of l.looks ++ keys_of l.life.rest)

-- of the latest, where there was one: its host's mishaps, and its end, have their losses, which came behind its looks, as of lives that do not look
abbrev pub IsLatestPaid : PlanValue → List FastLookingLife → Link → Type 0
IsLatestPaid tape [] now = ⊤
IsLatestPaid tape (l ∷ earlier) now =
    (lost : ℕ) × (lost ≤ now.lost) × IsPaid (last_core tape l.life) now.machine.odt.memory (length l.life.unsent + lost + 1)

-- lives in a row may be trusted, with stubs or without, also where each looks first, and a stub may still be at work then: the program's `G`, if it was
-- sent, was the last of these keys, behind every look
abbrev pub FastLivesMayLookFirst : Type 0
FastLivesMayLookFirst =
    (tape : PlanValue) (old new : LinkAndRecord) (lives : List FastLookingLife) →
    IsPlan tape → MayOpenAt tape old → AreFastLookingLives stub_program tape old lives new →
    AreFastTrusted stub_program tape old.link.machine.odt.memory (typed lives) new × IsLatestPaid tape lives new.link
