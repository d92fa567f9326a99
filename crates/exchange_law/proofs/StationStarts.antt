-- From ODT's `G` on.
use Rattle.std.proofs.Common.{◌≡◌, ℕ, suc, ◌+◌, ◌-◌, ◌<◌, ◌≤◌, false, List, ◌∷◌, ◌++◌, length, Option, arith, ap, sym, subst, ◌∙◌, append-nil}
use Rattle.odt_machine.specs.Machine.{Machine as OdtMachine, IsWide, largest_words}
use Rattle.processor.specs.Machine.{Machine}
use Rattle.exchange_core.specs.declared.stretch.Stretch.{Stretch}
use Rattle.exchange_core.specs.Stretch.{places, places_from}
use Rattle.exchange_law.specs.Station.{after_odt, begins, fresh}
use Rattle.exchange_law.specs.Line.{Link as Line, Passes}
use Rattle.stub.specs.Place.{StubStands}
use Rattle.stub.specs.Filling.{begun}
use Rattle.stub.specs.Law.{IsStarted, waiting}
use Rattle.stub.specs.Seen.{opened, held}
use Rattle.stub.proofs.Decoding.{are_found}
use Rattle.exchange_law.specs.StubStation.{station, goodbye, as_line, items_of}
use Rattle.exchange_law.specs.Start.{program, bytes_in, StubStart, StartsStub, IsStartedBy, left_by, line_of, StartedStubsAreStations}
use Rattle.exchange_law.proofs.Lines.{are_stations, begin_fresh}

-- it is where the stub's law begins
pub started : (start : StubStart) (m : Machine) → StartsStub start → IsStartedBy (left_by start) start.place m → IsStarted start.place (start.stretch ∷ start.stretches) m
started start m starts by = record {
  size = subst (λ memory. length memory ≤ largest_words) (sym by.memory) starts.console.size;
  wide = subst IsWide (sym by.memory) starts.console.wide;
  stands = subst (λ memory. StubStands memory start.place (start.stretch ∷ start.stretches)) (sym by.memory) ((are_found (left_by start).memory start.place (start.stretch ∷ start.stretches)).0 starts.found);
  pc = by.pc;
  running = by.running;
  fetched = by.fetched;
  gone = by.gone;
}

-- the first byte, and those behind it
abbrev behind_first : Stretch → List Stretch → List ℕ
behind_first stretch stretches = places_from (stretch.to - (stretch.from + 1)) (stretch.from + 1) ++ places stretches

some_bytes : (stretch : Stretch) (stretches : List Stretch) → stretch.from < stretch.to → places (stretch ∷ stretches) ≡ stretch.from ∷ behind_first stretch stretches
some_bytes stretch stretches rising = ap (λ n. places_from n stretch.from ++ places stretches) (one_less stretch.from stretch.to rising)
  where
    one_less : (a b : ℕ) → a < b → b - a ≡ suc (b - (a + 1))
    one_less a b less = omega (arith, less)

-- the station that ODT leaves is that of a stub that has just begun
pub left_so : (start : StubStart) → StartsStub start → start.stretch.from < start.stretch.to →
    after_odt program start.odt start.key ≡ station (left_by start) (begun (left_by start).memory (start.stretch ∷ start.stretches))
left_so start starts rising =
    let now : OdtMachine = left_by start in
    ap (λ b. record { odt = now; stub = begins program b now.memory now.mode }) starts.still
    ∙ (ap (λ mode. record { odt = now; stub = begins program false now.memory mode }) starts.goes
    ∙ (ap (λ (stub : Option (List Stretch)). record { odt = now; stub = fresh (bytes_in stub) }) starts.found
    ∙ sym (begin_fresh now now.memory (start.stretch ∷ start.stretches) start.stretch.from (behind_first start.stretch start.stretches) (some_bytes start.stretch start.stretches rising))))

pub started_are_stations : StartedStubsAreStations
started_are_stations start run starts by may =
    let x = run.before in
    let all : List Stretch = start.stretch ∷ start.stretches in
    let is : IsStarted start.place all x.machine = started start x.machine starts by in
    let now : OdtMachine = left_by start in
    let rising : start.stretch.from < start.stretch.to = is.stands.fit.0.rising in
    let some = some_bytes start.stretch start.stretches rising in
    let passed = are_stations program start.place all now run is may in
    let same : as_line now run.farewell (opened all x) ≡ line_of (after_odt program start.odt start.key) x =
    ap (λ up. record { machine = station now (begun x.machine.memory all); down = held x.machine.console ++ x.down; up = up; lost = x.lost })
    (ap (λ those. (x.up ++ waiting x.machine.console) ++ goodbye those run.farewell) some ∙ append-nil (x.up ++ waiting x.machine.console))
    ∙ ap (λ s. line_of s x) (ap (λ memory. station now (begun memory all)) by.memory ∙ sym (left_so start starts rising)) in
    record { link = passed.link; passes = subst (λ (l : Line). Passes program l (items_of run.what) (as_line now run.farewell passed.link)) same passed.passes; shows = passed.shows }
