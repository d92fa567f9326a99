-- The three kinds of hosts at a line on which a stub may be at work, each from what holds before it to what holds behind it.
use Rattle.std.proofs.Common.{◌≡◌, ℕ, ◌+◌, ◌-◌, ◌*◌, ◌/◌, ◌%◌, ◌^◌, ◌<◌, ◌≤◌, Bool, true, false, List, length, Option, Some, None, unwrap_or, inl, inr, refl, arith, ap, sym, subst, ◌∙◌}
use Rattle.std.proofs.lemmas.List.{get_or_default}
use Rattle.std.specs.Prelude.{◌==◌, ◌&&◌, nat_lt, IsSome, slice_index}
use Rattle.std.specs.FinMap.{get}
use Rattle.tape_image.specs.Image.{Image}
use Rattle.tape_image.specs.Memory.{byte_of, top_of}
use Rattle.tape_image.specs.Plan.{PlanValue, IsPlan}
use Rattle.tape_image.specs.Word.{WordValue, Stands, gives}
use Rattle.tape_image.proofs.Standing.{IsOverlay-standing}
use Rattle.odt_machine.specs.declared.mode.Mode.TheVariants.{Running}
use Rattle.odt_machine.specs.Laws.{is_running}
use Rattle.odt_machine.specs.Machine.{is_word}
use Rattle.host_core.specs.declared.heard.Heard.{Heard}
use Rattle.host_core.specs.declared.phase.End.TheVariants.{Started}
use Rattle.host_core.specs.declared.phase.Phase.TheVariants.{Ended}
use Rattle.host_core.specs.Core.{begun, begun_by, Core, no_word, start_of, word_nr}
use Rattle.host_core.specs.Host.{IsHost}
use Rattle.host_core.specs.Laws.{led}
use Rattle.host_core.proofs.Lives.{led_kept, led_plan}
use Rattle.host_core.proofs.Turns.{begun_kept}
use Rattle.line_world.specs.Safe.{FirstStand, IsLoaded}
use Rattle.line_world.specs.Site.{ground}
use Rattle.line_world.proofs.Frame.{scene}
use Rattle.host_devices.specs.Dialogue.{dialogue, keys_of}
use Rattle.exchange_core.specs.declared.chunk.Chunk.{Chunk}
use Rattle.exchange_core.specs.declared.duplex.Duplex.{Duplex}
use Rattle.exchange_core.specs.declared.exchange.Exchange.{Exchange}
use Rattle.exchange_core.specs.Chunk.{AreChunks, chunk_nr, words_behind}
use Rattle.exchange_core.specs.Exchange.{begun as exchange_begun, led as exchange_led}
use Rattle.exchange_law.specs.Station.{Program, fresh}
use Rattle.exchange_law.specs.Line.{Link, Passes}
use Rattle.exchange_law.specs.Unsettled.{IsUnsettled, MayFill, Untouched}
use Rattle.exchange_law.specs.Law.{IsExchanged, MayExchange, bytes_of, dialogue as exchange_dialogue}
use Rattle.exchange_law.proofs.Passing.{led_from, whole_exchange, within_all}
use Rattle.exchange_law.proofs.Words.{begins_within, still_stands}
use Rattle.exchange_law.specs.Recovery.{HasStarted, IsLater, IsTrustedBehind}
use Rattle.exchange_law.proofs.Recovering.{has_cause, hosts_recover}
use Rattle.load_lives.specs.Between.{Between, KeepsOutside}
use Rattle.load_lives.specs.FastLoads.{IsLoadedOn}
use Rattle.load_lives.specs.StubParts.{IsStubFor, StubPart, bringer}
use Rattle.load_lives.proofs.Leaving.{StartsWithin, in_order_unsettled}
use Rattle.load_lives.proofs.Storing.{chunk_later, fewer_stand, gives_below, left_later, lies_below, stub_stores, tape_stores, unsettled_weaker}

none_or : (o : Option ℕ) → (IsSome o → ⊥) → o ≡ None
none_or None h = refl
none_or (Some v) h = absurd (h refl)

none_some : (o : Option ℕ) → o ≡ None → IsSome o → ⊥
none_some None e h = absurd (cc h)
none_some (Some v) e h = absurd (cc e)

-- outside an image, and once more
pub kept_then : (image : Image) (a b c : List ℕ) → KeepsOutside a image b → ((k : ℕ) → k < top_of b → get image k ≡ None → byte_of c k ≡ byte_of b k) → length c ≡ length b → KeepsOutside a image c
kept_then image a b c one two size = record { size = size ∙ one.size; bytes = λ k low none. two k (let same = one.size in omega (arith, low, same)) none ∙ one.bytes k low none }

-- ---- a host that brings in a stub

-- it leaves the line so, wherever it stopped, and where it saw the stub start, an exchange may begin
pub record IsBrought (program : Program) (tape : PlanValue) (from : ℕ) (before : List ℕ) (chunks : List Chunk) (core : Core) (y : Link) : Type 0 where
  pub between : Between program tape from before y
  pub starts : core.phase ≡ Ended Started → MayExchange chunks y

stub_host : (stub : PlanValue) (patience : ℕ) → IsPlan stub → patience < 2 ^ 32 → IsHost (begun stub 0 false patience)
stub_host stub patience is long = begun_kept stub 0 false patience is (omega arith) long (λ set. absurd (cc set))

-- what its start brings to run may only fill the chunks
stub_starts : (program : Program) (tape stub : PlanValue) (from : ℕ) (chunks : List Chunk) (core : Core) → IsStubFor program tape from stub chunks → core.plan ≡ stub → StartsWithin program (IsLater tape from) core
stub_starts program tape stub from chunks core for plan memory set all =
    let lies : program memory (start_of core) ≡ Some (bytes_of chunks) =
    ap (λ (p : PlanValue). program memory (unwrap_or p.start 0)) plan ∙ for.code.lies memory (subst (λ (p : PlanValue). FirstStand p.words (length p.words) memory) plan all) in
    subst (MayFill (IsLater tape from) (Running (start_of core))) (sym (ap fresh lies))
    (refl, within_all (IsLater tape from) chunks (λ i below b inside. chunk_later tape from chunks 0 i for.words (omega arith) below b inside))

brought : (program : Program) (tape stub : PlanValue) (from : ℕ) (before : List ℕ) (chunks : List Chunk) (core : Core) (keys : List ℕ) (x y : Link) → IsPlan tape → from ≤ length tape.words → IsStubFor program tape from stub chunks → core.plan ≡ stub → IsHost core →
    Between program tape from before x → IsTrustedBehind (record { program = program; tape = tape; verified = from; found = x }) core keys y → IsBrought program tape from before chunks core y
brought program tape stub from before chunks core keys x y is within for plan host b t = record {
  between = record {
    stand = record {
      lies = λ i less. lies i less;
      stands = λ i less. still_stands x.machine.odt.memory y.machine.odt.memory (word_nr tape.words i) (is.each i no_word (omega (arith, less, within))).even
          (λ k g. t.safe.outside k (gives_below x.machine.odt.memory (word_nr tape.words i) k (b.stand.lies i less) g) (λ later. later.later i less g) (subst (λ (p : PlanValue). get p.image k ≡ None) (sym plan) (for.behind i less k g)))
          (b.stand.stands i less);
    };
    kept = kept_then tape.image before x.machine.odt.memory y.machine.odt.memory b.kept
        (λ k low none. t.safe.outside k low (λ later. none_some (get tape.image k) none later.inside)
        (subst (λ (p : PlanValue). get p.image k ≡ None) (sym plan) (none_or (get stub.image k) (λ some. none_some (get tape.image k) none (for.inside k some))))) t.safe.size;
    line = elim t.leaves [
      | inl u ↦ u.0
      | inr o ↦ in_order_unsettled program (IsLater tape from) core y o (stub_starts program tape stub from chunks core for plan)
          (λ lost down up memory k stores. stub_stores tape from (ground (scene y.machine.odt core down up lost)) memory k.host.image (λ j some. for.inside j (subst (λ (p : PlanValue). IsSome (get p.image j)) plan some))
          (λ i less j g. subst (λ (p : PlanValue). get p.image j ≡ None) (sym plan) (for.behind i less j g)) stores)
    ];
  };
  starts = λ e. let s : HasStarted program core y = t.started e in record {
    none_down = s.none_down;
    silent = s.silent;
    console = s.console;
    runs = ap is_running s.runs;
    stub = s.stub ∙ ap fresh (ap (λ (p : PlanValue). program y.machine.odt.memory (unwrap_or p.start 0)) plan ∙ for.code.lies y.machine.odt.memory (all s));
    room = λ k below. room s k below (for.code.above k below);
  };
}
  where
    lies : (i : ℕ) → i < from → is_word y.machine.odt.memory (word_nr tape.words i).address ≡ true
    lies i less = subst (λ n. ((word_nr tape.words i).address % 2 == 0 && nat_lt (word_nr tape.words i).address (2 * n)) ≡ true) (sym t.safe.size) (b.stand.lies i less)

    all : HasStarted program core y → FirstStand stub.words (length stub.words) y.machine.odt.memory
    all s = subst (λ (p : PlanValue). FirstStand p.words (length p.words) y.machine.odt.memory) plan s.all

    room : HasStarted program core y → (k : ℕ) → k < length chunks → (i : ℕ) × (i < length stub.words) × ((chunk_nr chunks k).address + (chunk_nr chunks k).size ≤ (word_nr stub.words i).address + 2) →
        (chunk_nr chunks k).address + (chunk_nr chunks k).size ≤ top_of y.machine.odt.memory
    room s k below (i, less, le) = let low = lies_below y.machine.odt.memory (word_nr stub.words i).address ((all s).lies i less) in omega (arith, le, low.0, low.1)

none_stand : (plan : PlanValue) (memory : List ℕ) → FirstStand plan.words 0 memory
none_stand plan memory = record { lies = λ i less. absurd (omega (arith, less)); stands = λ i less. absurd (omega (arith, less)) }

-- the host that brings a stub in is an ordinary one
pub stub_brought : (program : Program) (tape : PlanValue) (part : StubPart) (from : ℕ) (before : List ℕ) (things : List Heard) (x y : Link) → IsStubFor program tape from part.stub part.chunks → part.patience < 2 ^ 32 → part.careful ≡ false → Between program tape from before x →
    Passes program x (dialogue (bringer part) things) y → IsBrought program tape from before part.chunks (led (bringer part) things) y
stub_brought program tape part from before things x y for long plain between =
    subst (λ care. Passes program x (dialogue (begun_by care part.stub 0 false part.patience) things) y → IsBrought program tape from before part.chunks (led (begun_by care part.stub 0 false part.patience) things) y) (sym plain)
    (λ passes.
    let host = stub_host part.stub part.patience for.plan long in
    let t = hosts_recover (record { program = program; tape = tape; verified = from; found = x }) core things y
    (record { host = host; at_first = refl; stand = none_stand part.stub x.machine.odt.memory; beside = λ i less b g later. absurd (omega (arith, less)); line = between.line }) passes in
    brought program tape part.stub from before part.chunks (led core things) _ x y for.words.sound (begins_within tape from part.chunks for.words) for (led_plan core things) (led_kept core things host) between t)
  where
    core : Core
    core = begun part.stub 0 false part.patience

-- ---- an exchange

pub exchange_went : (program : Program) (tape : PlanValue) (from : ℕ) (before : List ℕ) (duplex : Duplex) (chunks : List Chunk) (things : List Heard) (x y : Link) → AreChunks tape from chunks → MayExchange chunks x → Between program tape from before x →
    Passes program x (exchange_dialogue tape.image chunks (exchange_begun from duplex) things) y → Between program tape (exchange_led tape.image chunks (exchange_begun from duplex) things).verified before y
exchange_went program tape from before duplex chunks things x y are may between passes =
    let e : Exchange = exchange_led tape.image chunks (exchange_begun from duplex) things in
    let t : IsExchanged program tape chunks x.machine.odt.memory e y = whole_exchange program tape from duplex chunks things x y are may passes in
    let origin : e.from ≡ from = led_from tape.image chunks things (exchange_begun from duplex) in
    let words : e.verified ≡ words_behind from chunks e.done = t.is.words ∙ ap (λ n. words_behind n chunks e.done) origin in record {
      stand = t.words (subst (λ n. FirstStand tape.words n x.machine.odt.memory) (sym origin) between.stand);
      kept = kept_then tape.image before x.machine.odt.memory y.machine.odt.memory between.kept
          (λ b low none. t.holds.others b (λ k below inside. none_some (get tape.image b) none ((are.each k below).bytes b inside))) t.holds.size;
      line = subst (λ n. IsUnsettled program (IsLater tape n) y) (sym words) (unsettled_weaker program _ (IsLater tape (words_behind from chunks e.done)) (left_later tape from chunks e.done are) y t.left);
    }

-- ---- an ordinary host

not_both : (b : Bool) → b ≡ true → b ≡ false → ⊥
not_both b e f = cc

-- where every word stands the whole image is laid over the earlier memory
pub loaded_by : (tape : PlanValue) (before now : List ℕ) → IsPlan tape → KeepsOutside before tape.image now → FirstStand tape.words (length tape.words) now → IsLoaded before tape now
loaded_by tape before now is kept all = record {
  lies = all.lies;
  overlay = IsOverlay-standing tape before now is kept.size
      (λ k d below. subst (λ (w : WordValue). Stands w (slice_index now (w.address / 2))) (get_or_default tape.words k no_word d below) (all.stands k below)) kept.bytes;
}

loaded_on : (program : Program) (tape : PlanValue) (from : ℕ) (before : List ℕ) (core : Core) (keys : List ℕ) (x y : Link) → IsPlan tape → core.plan ≡ tape → IsHost core → Between program tape from before x →
    IsTrustedBehind (record { program = program; tape = tape; verified = from; found = x }) core keys y → IsLoadedOn program tape before core keys y.lost y
loaded_on program tape from before core keys x y is plan host b t = record {
  stand = stand;
  kept = kept;
  last = t.last;
  marked = t.marked;
  typed = t.typed;
  loaded = λ set. loaded_by tape before y.machine.odt.memory is kept (subst (λ (p : PlanValue). FirstStand p.words (length p.words) y.machine.odt.memory) plan (t.safe.going set));
  in_order = λ set. elim t.leaves [ inl u ↦ absurd (not_both core.going set u.1) | inr o ↦ o ];
  next = λ unset fewer le. record {
    stand = fewer_stand tape.words fewer core.verified y.machine.odt.memory le stand;
    kept = kept;
    line = elim t.leaves [
      | inl u ↦ unsettled_weaker program (IsLater tape from) (IsLater tape fewer)
          (λ k later. record { inside = later.inside; later = λ i less g. u.2 i (omega (arith, less, le)) k (subst (λ (p : PlanValue). gives (word_nr p.words i) k ≡ true) (sym plan) g) later }) y u.0
      | inr o ↦ in_order_unsettled program (IsLater tape fewer) core y o (λ memory set all. absurd (not_both core.going set unset))
          (λ lost down up memory k stores. subst (λ (p : PlanValue). Untouched (IsLater p fewer) y.machine.odt.memory memory) plan
          (tape_stores (ground (scene y.machine.odt core down up lost)) fewer memory k.host.image (let w = host.within in omega (arith, le, w)) (fewer_stand core.plan.words fewer core.verified y.machine.odt.memory le t.safe.verified) stores))
    ];
  };
  paid = record {
    spent = let le = t.paid.spent in omega (arith, le);
    cause = has_cause core.phase y.machine.odt.memory core.patience core.spent (y.lost + 1 - x.lost) (y.lost + 1) (omega arith) t.paid.cause;
  };
}
  where
    stand : FirstStand tape.words core.verified y.machine.odt.memory
    stand = subst (λ (p : PlanValue). FirstStand p.words core.verified y.machine.odt.memory) plan t.safe.verified

    kept : KeepsOutside before tape.image y.machine.odt.memory
    kept = kept_then tape.image before x.machine.odt.memory y.machine.odt.memory b.kept
        (λ k low none. t.safe.outside k low (λ later. none_some (get tape.image k) none later.inside) (subst (λ (p : PlanValue). get p.image k ≡ None) (sym plan) none)) t.safe.size

pub load_went : (program : Program) (tape : PlanValue) (from patience : ℕ) (before : List ℕ) (things : List Heard) (x y : Link) → IsPlan tape → from ≤ length tape.words → patience < 2 ^ 32 → Between program tape from before x →
    Passes program x (dialogue (begun tape from false patience) things) y →
    IsLoadedOn program tape before (led (begun tape from false patience) things) (keys_of (dialogue (begun tape from false patience) things)) y.lost y
load_went program tape from patience before things x y is within long between passes =
    let core : Core = begun tape from false patience in
    let host : IsHost core = begun_kept tape from false patience is within long (λ set. absurd (cc set)) in
    let t = hosts_recover (record { program = program; tape = tape; verified = from; found = x }) core things y
    (record { host = host; at_first = refl; stand = between.stand; beside = λ i less b g later. later.later i less g; line = between.line }) passes in
    loaded_on program tape from before (led core things) (keys_of (dialogue core things)) x y is (led_plan core things) (led_kept core things host) between t
