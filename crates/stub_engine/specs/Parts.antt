-- The stubs' parts of a load, as an engine does them one after another.
use Rattle.std.specs.Prelude.{◌≡◌, ℕ, ◌+◌, ◌<◌, ◌≤◌, ◌⊎◌, ◌==◌, true, false, if◌then◌else◌, List, [], ◌∷◌, ◌++◌, length, Option, Some, None, ⊤}
use Rattle.tape_image.specs.Plan.{PlanValue}
use Rattle.host_core.specs.declared.phase.End.{End}
use Rattle.host_core.specs.declared.phase.End.TheVariants.{Started}
use Rattle.host_core.specs.Core.{Core, begun_by, ended}
use Rattle.host_core.specs.Laws.{led}
use Rattle.host_devices.specs.declared.item.Item.{Item}
use Rattle.host_devices.specs.Told.{Gains}
use Rattle.load_engine.specs.Driving.{LoadStop}
use Rattle.engine.specs.Stopping.{keep_fault, line_fault}
use Rattle.engine.specs.declared.stop.Stop.{Stop}
use Rattle.engine.specs.declared.stop.Stop.TheVariants.{Ended, KeepFailed, CutOff}
use Rattle.exchange_core.specs.Chunk.{words_behind}
use Rattle.exchange_core.specs.Exchange.{begun as exchange_begun, led as exchange_led}
use Rattle.exchange_law.specs.Law.{said_all}
use Rattle.exchange_law.specs.Start.{program as stub_program}
use Rattle.load_lives.specs.StubParts.{AreStubParts, StubPart, bringer, starts, stubs_said, verified_after, verified_by}
use Rattle.stub_engine.specs.declared.stop.StubsEnd.{StubsEnd}
use Rattle.stub_engine.specs.declared.stop.StubsEnd.TheVariants.{NotStarted}
use Rattle.stub_engine.specs.declared.tally.Tally.{Tally}
use Rattle.stub_engine.specs.declared.typist.Typist.{Typist}
use Rattle.stub_engine.specs.Exchanging.{ExchangeStop}
use Rattle.stub_engine.specs.Planning.{least_gain}
use Rattle.stub_engine.specs.Tallies.{duplex_behind}

-- why no more are brought in
abbrev pub StubsStop : Type 0
StubsStop = Stop StubsEnd

-- so many stubs in a row that verify nothing are enough
abbrev pub most_in_vain : ℕ
most_in_vain = 3

-- the host that types a stub, at its beginning
abbrev pub typist_of : PlanValue → Typist → Core
typist_of stub typist = begun_by typist.careful stub 0 false typist.patience

-- it is the one that brings in this part's stub
abbrev pub IsTypedBy : Typist → StubPart → Type 0
IsTypedBy typist part = (part.careful ≡ typist.careful) × (part.patience ≡ typist.patience)

-- how many stubs in a row verified nothing, behind one more
abbrev pub in_vain_after : PlanValue → ℕ → ℕ → StubPart → ℕ
in_vain_after tape v n part = if verified_after tape v part == v then n + 1 else 0

abbrev pub in_vain_by : PlanValue → ℕ → ℕ → List StubPart → ℕ
in_vain_by tape v n [] = n
in_vain_by tape v n (part ∷ more) = in_vain_by tape (verified_after tape v part) (in_vain_after tape v n part) more

-- a stub is brought in only by this typist, where fewer than three in a row before it verified nothing, and where it may gain 256 words; and
-- where the one before it verified nothing the exchange with it goes one way at a time
pub record IsWorth (typist : Typist) (v n : ℕ) (part : StubPart) : Type 0 where
  pub typed : IsTypedBy typist part
  pub few : n < most_in_vain
  pub duplex : part.duplex ≡ duplex_behind n
  pub words : v + least_gain ≤ words_behind v part.chunks (length part.chunks)

abbrev pub AreWorth : Typist → PlanValue → ℕ → ℕ → List StubPart → Type 0
AreWorth typist tape v n [] = ⊤
AreWorth typist tape v n (part ∷ more) = IsWorth typist v n part × AreWorth typist tape (verified_after tape v part) (in_vain_after tape v n part) more

-- each of these stubs was seen to start
abbrev pub AllStart : List StubPart → Type 0
AllStart [] = ⊤
AllStart (part ∷ more) = (starts part ≡ true) × AllStart more

-- none follows one that was not seen to start
abbrev pub AreFollowed : List StubPart → Type 0
AreFollowed [] = ⊤
AreFollowed (part ∷ more) = ((more ≡ []) ⊎ (starts part ≡ true)) × AreFollowed more

-- the host that brought in the last one came to this end
pub record EndsWith (parts : List StubPart) (end : End) : Type 0 where
  pub before : List StubPart
  pub last : StubPart
  pub parts_are : parts ≡ before ++ last ∷ []
  pub end_is : ended (led (bringer last) last.brought).phase ≡ Some end

-- a stop that names an end names that one
abbrev pub TellsEnd : Option StubsStop → List StubPart → Type 0
TellsEnd (Some (Ended (NotStarted end))) parts = EndsWith parts end
TellsEnd _ parts = ⊤

-- the characters that were sent in a part
abbrev pub sent_in : PlanValue → ℕ → StubPart → ℕ
sent_in tape v part =
    (led (bringer part) part.brought).sent
    + (if starts part then (exchange_led tape.image part.chunks (exchange_begun v part.duplex) part.exchanged).sent else 0)

-- in all of them
abbrev pub sent_by : PlanValue → ℕ → List StubPart → ℕ
sent_by tape v [] = 0
sent_by tape v (part ∷ more) = sent_in tape v part + sent_by tape (verified_after tape v part) more

-- the mishaps of the hosts that brought in the stubs
abbrev pub spent_by : List StubPart → ℕ
spent_by [] = 0
spent_by (part ∷ more) = (led (bringer part) part.brought).spent + spent_by more

-- why no stub is brought in behind a host that stopped so, which was to bring one in: where it saw the stub start the exchange follows
abbrev pub why_ended : End → Option StubsStop
why_ended Started = None
why_ended end = Some (Ended (NotStarted end))

abbrev pub why_unstarted : LoadStop → Option StubsStop
why_unstarted (Ended end) = why_ended end
why_unstarted (KeepFailed fault) = Some (KeepFailed fault)
why_unstarted (CutOff cut) = Some (CutOff cut)

-- why no stub is brought in behind an exchange that stopped so: where it ended another may follow
abbrev pub why_left : ExchangeStop → Option StubsStop
why_left (Ended end) = None
why_left (KeepFailed fault) = Some (KeepFailed fault)
why_left (CutOff cut) = Some (CutOff cut)

-- stubs that are brought in one after another: for this plan, by this typist, from one tally to another, and how that stopped (None: another
-- may follow)
pub record Bringing : Type 0 where
  pub plan : PlanValue
  pub typist : Typist
  pub old : Tally
  pub new : Tally
  pub stop : Option StubsStop

abbrev pub bringing : PlanValue → Typist → Tally × Tally → Option StubsStop → Bringing
bringing plan typist tallies stop = record { plan = plan; typist = typist; old = tallies.0; new = tallies.1; stop = stop }

-- these are stubs' parts of a load, with what the line told before and tells after
pub record AreBroughtIn (stubs : Bringing) (line line' : Option (List Item)) : Type 0 where
  pub parts : List StubPart
  pub are_parts : AreStubParts stub_program stubs.plan stubs.old.verified parts
  pub worth : AreWorth stubs.typist stubs.plan stubs.old.verified stubs.old.in_vain parts
  -- none behind one that did not start
  pub followed : AreFollowed parts
  pub all_start : stubs.stop ≡ None → AllStart parts
  pub ends : TellsEnd stubs.stop parts
  -- what they say was said on the line, and all of it where no device failed
  pub said : List Item
  pub unsent : List ℕ
  pub items : stubs_said stubs.plan stubs.old.verified parts ≡ said ++ said_all unsent
  pub all_sent : line_fault stubs.stop ≡ None → keep_fault stubs.stop ≡ None → unsent ≡ []
  pub on_line : Gains line line' said
  -- how far they came
  pub verified : stubs.new.verified ≡ verified_by stubs.plan stubs.old.verified parts
  pub sent : stubs.new.sent ≡ stubs.old.sent + sent_by stubs.plan stubs.old.verified parts
  pub spent : stubs.new.spent ≡ stubs.old.spent + spent_by parts
  pub in_vain : stubs.new.in_vain ≡ in_vain_by stubs.plan stubs.old.verified stubs.old.in_vain parts
