-- A whole load that brings in stubs.
use Rattle.std.proofs.Common.{◌≡◌, ℕ, ◌+◌, ◌≤◌, Bool, true, false, List, [], ◌∷◌, ◌++◌, length, refl, sym, subst}
use Rattle.std.specs.Prelude.{if◌then◌else◌}
use Rattle.tape_image.specs.Plan.{PlanValue, IsPlan}
use Rattle.host_core.specs.declared.phase.End.TheVariants.{Loaded, Started, Uncertain, MaybeStarted, GaveUp, NoWord, WontHold}
use Rattle.host_core.specs.declared.phase.Phase.{Phase}
use Rattle.host_core.specs.declared.phase.Phase.TheVariants.{Settle, Sync, Address, Slash, Before, Value, Deposit, Return, Start, Go, Ended}
use Rattle.host_core.specs.Laws.{led}
use Rattle.host_devices.specs.Dialogue.{dialogue, keys_of}
use Rattle.exchange_core.specs.Exchange.{begun as exchange_begun, led as exchange_led}
use Rattle.exchange_law.specs.Law.{MayExchange, dialogue as exchange_dialogue}
use Rattle.exchange_law.specs.Line.{Link, Passes}
use Rattle.exchange_law.specs.Station.{Program}
use Rattle.exchange_law.proofs.Links.{passes_split, passes_unsent}
use Rattle.exchange_law.proofs.Passing.{losses_aside}
use Rattle.exchange_law.specs.Recovery.{IsLater}
use Rattle.exchange_law.specs.Start.{program as stub_program}
use Rattle.load_lives.specs.Between.{Between}
use Rattle.load_lives.specs.FastLoads.{FastLoad, FastLoadsAreTrusted, IsFastLoad, IsLoadedOn, rest_core}
use Rattle.load_lives.specs.StubParts.{ArePlain, AreStubParts, IsStubFor, StubPart, bringer, exchange_said, is_started, starts, stubs_said, verified_after, verified_by}
use Rattle.load_lives.proofs.Calm.{between_passes}
use Rattle.load_lives.proofs.Going.{IsBrought, exchange_went, load_went, stub_brought}
use Rattle.load_lives.proofs.Growing.{part_within, parts_within}

-- ---- one stub

was_started : (phase : Phase) → is_started phase ≡ true → phase ≡ Ended Started
was_started (Ended Started) e = refl
was_started (Ended Loaded) e = absurd (cc)
was_started (Ended Uncertain) e = absurd (cc)
was_started (Ended MaybeStarted) e = absurd (cc)
was_started (Ended GaveUp) e = absurd (cc)
was_started (Ended (NoWord a)) e = absurd (cc)
was_started (Ended (WontHold a)) e = absurd (cc)
was_started Settle e = absurd (cc)
was_started (Sync place) e = absurd (cc)
was_started (Address visit place) e = absurd (cc)
was_started (Slash visit) e = absurd (cc)
was_started (Before visit) e = absurd (cc)
was_started (Value visit value place) e = absurd (cc)
was_started (Deposit deposit value place) e = absurd (cc)
was_started (Return why place) e = absurd (cc)
was_started (Start place) e = absurd (cc)
was_started Go e = absurd (cc)

-- the exchange, where the stub was seen to start
exchange_or : (program : Program) (tape : PlanValue) (v : ℕ) (before : List ℕ) (part : StubPart) (x y : Link) → IsPlan tape → v ≤ length tape.words → IsStubFor program tape v part.stub part.chunks → (test : Bool) → starts part ≡ test →
    IsBrought program tape v before part.chunks (led (bringer part) part.brought) x →
    Passes program x (if test then exchange_dialogue tape.image part.chunks (exchange_begun v part.duplex) part.exchanged else []) y →
    Between program tape (if test then (exchange_led tape.image part.chunks (exchange_begun v part.duplex) part.exchanged).verified else v) before y
exchange_or program tape v before part x y is within for true e b passes =
    let may : MayExchange part.chunks x = b.starts (was_started (led (bringer part) part.brought).phase e) in
    exchange_went program tape v before part.duplex part.chunks part.exchanged x y for.words may b.between passes
exchange_or program tape v before part x y is within for false e b passes = between_passes program tape v before [] x y is within refl b.between passes

-- ---- all of them

stubs_went : (program : Program) (tape : PlanValue) (stubs : List StubPart) (v : ℕ) (before : List ℕ) (x y : Link) → IsPlan tape → v ≤ length tape.words → AreStubParts program tape v stubs → ArePlain stubs → Between program tape v before x →
    Passes program x (stubs_said tape v stubs) y → Between program tape (verified_by tape v stubs) before y
stubs_went program tape [] v before x y is within parts plain b passes = between_passes program tape v before [] x y is within refl b passes
stubs_went program tape (part ∷ more) v before x y is within parts plain b passes =
    let one = passes_split program (dialogue (bringer part) part.brought) (exchange_said tape v part ++ stubs_said tape (verified_after tape v part) more) x y passes in
    let two = passes_split program (exchange_said tape v part) (stubs_said tape (verified_after tape v part) more) one.0 y one.2 in
    let brought : IsBrought program tape v before part.chunks (led (bringer part) part.brought) one.0 = stub_brought program tape part v before part.brought x one.0 parts.0 parts.1 plain.0 b one.1 in
    stubs_went program tape more (verified_after tape v part) before two.0 y is (part_within program tape v part within parts.0) parts.2 plain.1
    (exchange_or program tape v before part one.0 two.0 is within parts.0 (starts part) refl brought two.1) two.2

-- ---- wherever it stops

pub any_load : (program : Program) (tape : PlanValue) (before : List ℕ) (x y : Link) (load : FastLoad) → IsFastLoad program tape before x load y →
    IsLoadedOn program tape before (led (rest_core tape load) load.heard) (keys_of (dialogue (rest_core tape load) load.heard)) (length load.unsent + y.lost) y
any_load program tape before x y load is =
    let lost : ℕ = length load.unsent + y.lost in
    let end : Link = record y { lost = lost } in
    let whole : Passes program x (stubs_said tape load.verified load.stubs ++ dialogue (rest_core tape load) load.heard) end =
    subst (λ list. Passes program x list end) (sym is.stopped) (passes_unsent program load.unsent load.items x y is.passes) in
    let parts = passes_split program (stubs_said tape load.verified load.stubs) (dialogue (rest_core tape load) load.heard) x end whole in
    let b : Between program tape (verified_by tape load.verified load.stubs) before parts.0 = stubs_went program tape load.stubs load.verified before x parts.0 is.plan is.within is.stubs is.plain is.begins parts.1 in
    let t = load_went program tape (verified_by tape load.verified load.stubs) load.patience before load.heard parts.0 end is.plan (parts_within program tape load.verified load.stubs is.within is.stubs) is.patient b parts.2 in record {
      stand = t.stand;
      kept = t.kept;
      last = t.last;
      marked = t.marked;
      typed = t.typed;
      loaded = t.loaded;
      in_order = λ set. let o = t.in_order set in record { lost = o.lost; kept = o.kept; just = record { stub = o.just.stub; quiet = o.just.quiet }; from_start = o.from_start };
      next = λ unset fewer le. let n = t.next unset fewer le in record { stand = n.stand; kept = n.kept; line = losses_aside program (IsLater tape fewer) y lost n.line };
      paid = t.paid;
    }

pub fast_loads_are_trusted : FastLoadsAreTrusted
fast_loads_are_trusted tape before x y load is = any_load stub_program tape before x y load is
