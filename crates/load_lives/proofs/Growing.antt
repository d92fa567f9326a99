-- No word is lost on the way, and what holds between two lives.
use Rattle.std.proofs.Common.{◌≡◌, ℕ, ◌≤◌, Bool, true, false, List, [], ◌∷◌, length, inl, inr, refl, arith, ap, sym, subst, ◌∙◌}
use Rattle.std.specs.Prelude.{if◌then◌else◌}
use Rattle.tape_image.specs.Image.{Image}
use Rattle.tape_image.specs.Plan.{PlanValue}
use Rattle.host_core.specs.declared.heard.Heard.{Heard}
use Rattle.exchange_core.specs.declared.chunk.Chunk.{Chunk}
use Rattle.exchange_core.specs.declared.duplex.Duplex.{Duplex}
use Rattle.exchange_core.specs.declared.exchange.Exchange.{Exchange}
use Rattle.exchange_core.specs.Chunk.{AreChunks, words_behind}
use Rattle.exchange_core.specs.Exchange.{IsExchange, advance, begun as exchange_begun, led as exchange_led}
use Rattle.exchange_core.proofs.Chunks.{behind_grows}
use Rattle.exchange_core.proofs.Steps.{AreSmall, are_small, step_kept}
use Rattle.exchange_law.specs.Station.{Program}
use Rattle.exchange_law.specs.Line.{Link}
use Rattle.exchange_law.specs.Unsettled.{IsUnsettled}
use Rattle.exchange_law.proofs.Passing.{led_from, losses_aside}
use Rattle.exchange_law.proofs.Words.{words_within}
use Rattle.exchange_law.specs.Recovery.{IsLater}
use Rattle.line_world.specs.Safe.{FirstStand}
use Rattle.load_lives.specs.Between.{Between, KeepsOutside}
use Rattle.load_lives.specs.FastLives.{ReopensAt}
use Rattle.load_lives.specs.StubParts.{AreStubParts, IsStubFor, StubPart, starts, verified_after, verified_by}
use Rattle.load_lives.proofs.Storing.{fewer_later, fewer_stand, unsettled_weaker}

-- ---- words

exchange_kept : (image : Image) (chunks : List Chunk) (things : List Heard) (e : Exchange) → AreSmall chunks → IsExchange chunks e → IsExchange chunks (exchange_led image chunks e things)
exchange_kept image chunks [] e small k = k
exchange_kept image chunks (what ∷ things) e small k = exchange_kept image chunks things (advance image chunks e what).next small (step_kept image chunks e what small k)

-- an exchange of a tape's words verifies some of these
record Verifies (tape : PlanValue) (from verified : ℕ) : Type 0 where
  pub more : from ≤ verified
  pub within : verified ≤ length tape.words

exchange_verifies : (tape : PlanValue) (from : ℕ) (duplex : Duplex) (chunks : List Chunk) (things : List Heard) → AreChunks tape from chunks → Verifies tape from (exchange_led tape.image chunks (exchange_begun from duplex) things).verified
exchange_verifies tape from duplex chunks things are =
    let e : Exchange = exchange_led tape.image chunks (exchange_begun from duplex) things in
    let k : IsExchange chunks e = exchange_kept tape.image chunks things (exchange_begun from duplex) (are_small tape from chunks are) (record { within = omega arith; words = refl; fits = refl; paid = omega arith }) in
    let words : e.verified ≡ words_behind from chunks e.done = k.words ∙ ap (λ n. words_behind n chunks e.done) (led_from tape.image chunks things (exchange_begun from duplex)) in
    let low = behind_grows tape from chunks are e.done k.within in
    let high = words_within tape from chunks are e.done k.within in record { more = omega (arith, words, low); within = omega (arith, words, high) }

part_verifies : (program : Program) (tape : PlanValue) (v : ℕ) (part : StubPart) → v ≤ length tape.words → IsStubFor program tape v part.stub part.chunks → Verifies tape v (verified_after tape v part)
part_verifies program tape v part within for = by (starts part)
  where
    by : (test : Bool) → Verifies tape v (if test then (exchange_led tape.image part.chunks (exchange_begun v part.duplex) part.exchanged).verified else v)
    by true = exchange_verifies tape v part.duplex part.chunks part.exchanged for.words
    by false = record { more = omega arith; within = within }

pub part_within : (program : Program) (tape : PlanValue) (v : ℕ) (part : StubPart) → v ≤ length tape.words → IsStubFor program tape v part.stub part.chunks → verified_after tape v part ≤ length tape.words
part_within program tape v part within for = (part_verifies program tape v part within for).within

parts_verify : (program : Program) (tape : PlanValue) (v : ℕ) (stubs : List StubPart) → v ≤ length tape.words → AreStubParts program tape v stubs → Verifies tape v (verified_by tape v stubs)
parts_verify program tape v [] within parts = record { more = omega arith; within = within }
parts_verify program tape v (part ∷ more) within parts =
    let one = part_verifies program tape v part within parts.0 in
    let rest = parts_verify program tape (verified_after tape v part) more one.within parts.2 in record { more = (let a = one.more in let b = rest.more in omega (arith, a, b)); within = rest.within }

pub parts_within : (program : Program) (tape : PlanValue) (v : ℕ) (stubs : List StubPart) → v ≤ length tape.words → AreStubParts program tape v stubs → verified_by tape v stubs ≤ length tape.words
parts_within program tape v stubs within parts = (parts_verify program tape v stubs within parts).within

pub parts_grow : (program : Program) (tape : PlanValue) (v : ℕ) (stubs : List StubPart) → v ≤ length tape.words → AreStubParts program tape v stubs → v ≤ verified_by tape v stubs
parts_grow program tape v stubs within parts = (parts_verify program tape v stubs within parts).more

-- ---- between two lives

pub between_fewer : (program : Program) (tape : PlanValue) (fewer more : ℕ) (before : List ℕ) (x : Link) → fewer ≤ more → Between program tape more before x → Between program tape fewer before x
between_fewer program tape fewer more before x le b = record {
  stand = fewer_stand tape.words fewer more x.machine.odt.memory le b.stand;
  kept = b.kept;
  line = unsettled_weaker program (IsLater tape more) (IsLater tape fewer) (fewer_later tape fewer more le) x b.line;
}

pub unsettled_reopened : (program : Program) (R : ℕ → Type 0) (left found : Link) → ReopensAt left found → IsUnsettled program R left → IsUnsettled program R found
unsettled_reopened program R left found (inl same) u = subst (IsUnsettled program R) (sym same) (losses_aside program R (record left { lost = 0 }) left.lost u)
unsettled_reopened program R left found (inr (waiting, new)) u = subst (IsUnsettled program R) (sym new) (record { console = u.console; stub = u.stub; down = inl tt })

pub station_reopened : (left found : Link) → ReopensAt left found → found.machine ≡ left.machine
station_reopened left found (inl same) = ap (λ (x : Link). x.machine) same
station_reopened left found (inr (waiting, new)) = ap (λ (x : Link). x.machine) new

pub between_reopened : (program : Program) (tape : PlanValue) (v : ℕ) (before : List ℕ) (left found : Link) → ReopensAt left found → Between program tape v before left → Between program tape v before found
between_reopened program tape v before left found reopens b =
    let same = station_reopened left found reopens in record {
      stand = subst (λ s. FirstStand tape.words v s.odt.memory) (sym same) b.stand;
      kept = subst (λ s. KeepsOutside before tape.image s.odt.memory) (sym same) b.kept;
      line = unsettled_reopened program (IsLater tape v) left found reopens b.line;
    }
