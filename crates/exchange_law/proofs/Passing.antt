-- A whole exchange over a line, and what it leaves.
use Rattle.std.proofs.Common.{◌≡◌, ℕ, zero, suc, ◌+◌, ◌-◌, ◌*◌, ◌<◌, ◌≤◌, true, false, List, [], ◌∷◌, length, drop, Some, inl, inr, refl, arith, ap, sym, subst, ◌∙◌}
use Rattle.tape_image.specs.Image.{Image}
use Rattle.tape_image.specs.Plan.{PlanValue}
use Rattle.odt_machine.specs.declared.mode.Mode.{Mode}
use Rattle.odt_machine.specs.declared.mode.Mode.TheVariants.{Prompt, Number, Opened, Typing, Running}
use Rattle.odt_machine.specs.Laws.{is_running}
use Rattle.odt_machine.specs.Machine.{ModeFits}
use Rattle.host_core.specs.declared.heard.Heard.{Heard}
use Rattle.line_world.specs.Safe.{FirstStand}
use Rattle.exchange_core.specs.declared.chunk.Chunk.{Chunk}
use Rattle.exchange_core.specs.declared.duplex.Duplex.{Duplex}
use Rattle.exchange_core.specs.declared.exchange.Exchange.{Exchange}
use Rattle.exchange_core.specs.declared.phase.Phase.{Phase}
use Rattle.exchange_core.specs.declared.phase.Phase.TheVariants.{Settle, Answer, Leave, Ended}
use Rattle.exchange_core.specs.declared.phase.End.TheVariants.{Complete, Broken}
use Rattle.exchange_core.specs.Chunk.{AreChunks, IsIn, chunk_nr, sent_at, words_behind}
use Rattle.exchange_core.specs.Stretch.{places_from}
use Rattle.exchange_core.specs.Exchange.{IsExchange, PhaseFits, advance, begun, led}
use Rattle.exchange_core.proofs.Chunks.{chunks_apart}
use Rattle.exchange_core.proofs.Keys.{sent_within}
use Rattle.exchange_core.proofs.Steps.{AreSmall, are_small, step_from, step_kept}
use Rattle.exchange_law.specs.Station.{Each, Program, Station}
use Rattle.line_world.specs.Wire.{sent}
use Rattle.exchange_law.specs.Line.{Link, Moves, Passes}
use Rattle.exchange_law.specs.Unsettled.{IsAmong, IsForStub, IsUnsettled, MayFill}
use Rattle.exchange_law.specs.Law.{ExchangesAreTrue, IsBack, IsExchanged, MayExchange, bytes_of, dialogue, pieces_of}
use Rattle.exchange_law.proofs.Links.{passes_unsent, passing_keys}
use Rattle.exchange_law.proofs.Holding.{AreApart}
use Rattle.exchange_law.proofs.Texts.{IsNibble, each_append, each_weaker, told_small}
use Rattle.exchange_law.proofs.Standing.{IsParted, IsZ, Kept, Stood, amid_parted, first_parted, left_at, left_first, left_next}
use Rattle.exchange_law.proofs.Moving.{moves_kept}
use Rattle.exchange_law.proofs.Hearing.{Known, heard_kept}
use Rattle.exchange_law.proofs.Words.{words_stand}

-- ---- the dialogue

-- what holds of an exchange at the end of a line
record Held (image : Image) (chunks : List Chunk) (before : List ℕ) (e : Exchange) (x : Link) : Type 0 where
  pub is : IsExchange chunks e
  pub kept : Kept e.duplex image chunks before e.done e.phase x

held : (program : Program) (image : Image) (chunks : List Chunk) (before : List ℕ) (things : List Heard) (e : Exchange) (x y : Link) → AreSmall chunks → AreApart chunks → Known image chunks → Held image chunks before e x →
    Passes program x (dialogue image chunks e things) y → Held image chunks before (led image chunks e things) y
held program image chunks before [] e x y small apart known h moves =
    record { is = h.is; kept = moves_kept program e.duplex image chunks before e.done e.phase x y apart h.is.fits h.kept moves }
held program image chunks before (what ∷ things) e x y small apart known h (z, v, moved, gives, passes) =
    let next : Exchange = (advance image chunks e what).next in
    let keys : List ℕ = (advance image chunks e what).keys in
    held program image chunks before things next (sent v keys) y small apart known
    (record {
      is = step_kept image chunks e what small h.is;
      kept = heard_kept image chunks before e what z v known h.is (moves_kept program e.duplex image chunks before e.done e.phase x z apart h.is.fits h.kept moved) gives;
    })
    (passing_keys (Moves program) keys (dialogue image chunks next things) v y passes)

-- ---- the beginning

drop_none : (chunks : List Chunk) → chunks ≡ drop 0 chunks
drop_none chunks = refl

starts : (left : List ℕ) (s : Station) → is_running s.odt.mode ≡ true → s.stub ≡ Some (record { left = left; half = false }) → (a : ℕ) (more : List ℕ) → left ≡ a ∷ more → Stood left false s
starts [] s runs is a more some = absurd (cc)
starts (first ∷ left) s runs is a more some = record { runs = runs; is = is }

-- the first byte of all, and the others
abbrev first_more : List Chunk → List ℕ
first_more chunks = left_at chunks 0 1

first_is : {image : Image} (chunks : List Chunk) → 0 < length chunks → Known image chunks → bytes_of chunks ≡ (chunk_nr chunks 0).address ∷ first_more chunks
first_is {image} chunks some known =
    ap bytes_of (drop_none chunks) ∙ (left_first chunks 0 some ∙ (left_next chunks 0 0 (let here = (known.each 0 some).some in omega (arith, here)) ∙ ap (λ a. a ∷ first_more chunks) (none (chunk_nr chunks 0).address)))
  where
    none : (a : ℕ) → a + 0 ≡ a
    none a = omega arith

begins : (image : Image) (chunks : List Chunk) (from : ℕ) (duplex : Duplex) (x : Link) → 0 < length chunks → Known image chunks → MayExchange chunks x → Held image chunks x.machine.odt.memory (begun from duplex) x
begins image chunks from duplex x some known may = record {
  is = record { within = omega arith; words = refl; fits = refl; paid = omega arith };
  kept = record {
    holds = record { size = refl; stand = λ k less b inside. absurd (omega (arith, less)); others = λ b none. refl };
    wide = may.console.wide;
    stands = (may.none_down, may.silent, subst (λ list. Stood (bytes_of list) false x.machine) (drop_none chunks) (starts (bytes_of chunks) x.machine may.runs may.stub (chunk_nr chunks 0).address (first_more chunks) (first_is chunks some known)));
  };
}

-- ---- the end

-- where the stub stands behind the exchange
parted : (duplex : Duplex) (image : Image) (chunks : List Chunk) (before : List ℕ) (done : ℕ) (phase : Phase) (x : Link) → PhaseFits chunks done phase → Kept duplex image chunks before done phase x → IsParted chunks done x.machine
parted duplex image chunks before done Settle x fits k = first_parted chunks done x.machine k.stands.2
parted duplex image chunks before done (Answer place) x fits k = amid_parted chunks done (sent_at duplex (chunk_nr chunks done) place) x fits.0 (sent_within duplex (chunk_nr chunks done) place) k.stands.0
parted duplex image chunks before done Leave x fits k = amid_parted chunks done (2 * (chunk_nr chunks done).size) x fits (omega arith) k.stands
parted duplex image chunks before done (Ended Complete) x fits k = inl k.stands.1
parted duplex image chunks before done (Ended Broken) x fits k = k.stands.1

none_under_way : (P : ℕ → Type 0) (xs : List ℕ) → xs ≡ [] → Each P xs
none_under_way P xs none = subst (Each P) (sym none) tt

under_way : (duplex : Duplex) (image : Image) (chunks : List Chunk) (before : List ℕ) (done : ℕ) (phase : Phase) (x : Link) → Kept duplex image chunks before done phase x → Each IsForStub x.down
under_way duplex image chunks before done Settle x k = none_under_way IsForStub x.down k.stands.0
under_way duplex image chunks before done (Answer place) x k = each_weaker IsNibble IsForStub (λ c is. inl is) x.down k.stands.0.keys
under_way duplex image chunks before done Leave x k = each_weaker IsNibble IsForStub (λ c is. inl is) x.down k.stands.keys
under_way duplex image chunks before done (Ended Complete) x k = none_under_way IsForStub x.down k.stands.0
under_way duplex image chunks before done (Ended Broken) x k = each_weaker IsZ IsForStub (λ c is. inr (inl is)) x.down k.stands.0

runs_fit : (memory : List ℕ) (mode : Mode) → is_running mode ≡ true → ModeFits memory mode
runs_fit memory Prompt e = absurd (cc)
runs_fit memory (Number v n) e = absurd (cc)
runs_fit memory (Opened a) e = absurd (cc)
runs_fit memory (Typing a v n) e = absurd (cc)
runs_fit memory (Running p) e = tt

mode_fits : (chunks : List Chunk) (done : ℕ) (s : Station) → IsParted chunks done s → ModeFits s.odt.memory s.odt.mode
mode_fits chunks done s (inl at) = subst (ModeFits s.odt.memory) (sym at.prompt) tt
mode_fits chunks done s (inr (left, half, each, at)) = runs_fit s.odt.memory s.odt.mode at.runs

within_bytes : (R : ℕ → Type 0) (n a from to : ℕ) → from ≤ a → a + n ≤ to → ((b : ℕ) → from ≤ b → b < to → R b) → Each R (places_from n a)
within_bytes R zero a from to low high each = tt
within_bytes R (suc n) a from to low high each = (each a low (omega (arith, high)), within_bytes R n (a + 1) from to (omega (arith, low)) (omega (arith, high)) each)

-- the bytes of chunks are such where all of each are
pub within_all : (R : ℕ → Type 0) (chunks : List Chunk) → ((i : ℕ) → i < length chunks → (b : ℕ) → IsIn (chunk_nr chunks i) b → R b) → Each R (bytes_of chunks)
within_all R [] each = tt
within_all R (chunk ∷ chunks) each =
    each_append R (places_from (chunk.address + chunk.size - chunk.address) chunk.address) (bytes_of chunks)
    (within_bytes R (chunk.address + chunk.size - chunk.address) chunk.address chunk.address (chunk.address + chunk.size) (omega arith) (whole chunk.address chunk.size) (λ b low high. each 0 (omega arith) b (record { from = low; to = high })))
    (within_all R chunks (λ i less b inside. each (suc i) (omega (arith, less)) b inside))
  where
    whole : (a n : ℕ) → a + (a + n - a) ≤ a + n
    whole a n = omega arith

may_fill : (chunks : List Chunk) (done : ℕ) (s : Station) → IsParted chunks done s → MayFill (IsAmong (pieces_of (drop done chunks))) s.odt.mode s.stub
may_fill chunks done s (inl at) = subst (MayFill (IsAmong (pieces_of (drop done chunks))) s.odt.mode) (sym at.none) (ap is_running at.prompt)
may_fill chunks done s (inr (left, half, each, at)) = subst (MayFill (IsAmong (pieces_of (drop done chunks))) s.odt.mode) (sym at.is) (at.runs, each)

back : (duplex : Duplex) (image : Image) (chunks : List Chunk) (before : List ℕ) (done : ℕ) (phase : Phase) (x : Link) → Kept duplex image chunks before done phase x → phase ≡ Ended Complete → IsBack x
back duplex image chunks before done Settle x k e = absurd (cc)
back duplex image chunks before done (Answer place) x k e = absurd (cc)
back duplex image chunks before done Leave x k e = absurd (cc)
back duplex image chunks before done (Ended Complete) x k e = record { no_stub = k.stands.1.none; prompt = k.stands.1.prompt; none_down = k.stands.0 }
back duplex image chunks before done (Ended Broken) x k e = absurd (cc)

pub led_from : (image : Image) (chunks : List Chunk) (things : List Heard) (e : Exchange) → (led image chunks e things).from ≡ e.from
led_from image chunks [] e = refl
led_from image chunks (what ∷ things) e = led_from image chunks things (advance image chunks e what).next ∙ step_from image chunks e what

-- ---- a whole dialogue

pub whole_exchange : (program : Program) (plan : PlanValue) (from : ℕ) (duplex : Duplex) (chunks : List Chunk) (things : List Heard) (x y : Link) → AreChunks plan from chunks → MayExchange chunks x →
    Passes program x (dialogue plan.image chunks (begun from duplex) things) y → IsExchanged program plan chunks x.machine.odt.memory (led plan.image chunks (begun from duplex) things) y
whole_exchange program plan from duplex chunks things x y are may passes =
    let e : Exchange = led plan.image chunks (begun from duplex) things in
    let known : Known plan.image chunks = record { each = are.each; small = told_small plan are.sound } in
    let h : Held plan.image chunks x.machine.odt.memory e y =
    held program plan.image chunks x.machine.odt.memory things (begun from duplex) x y (are_small plan from chunks are) (chunks_apart plan from chunks are) known (begins plan.image chunks from duplex x are.some known may) passes in
    let stands : IsParted chunks e.done y.machine = parted e.duplex plan.image chunks x.machine.odt.memory e.done e.phase y h.is.fits h.kept in
    let origin : e.from ≡ from = led_from plan.image chunks things (begun from duplex) in record {
      is = h.is;
      holds = h.kept.holds;
      words = λ first. subst (λ n. FirstStand plan.words n y.machine.odt.memory) (sym h.is.words)
          (subst (λ n. FirstStand plan.words (words_behind n chunks e.done) y.machine.odt.memory) (sym origin)
          (words_stand plan chunks x.machine.odt.memory y.machine.odt.memory e.done from are.sound are h.is.within h.kept.holds may.room (subst (λ n. FirstStand plan.words n x.machine.odt.memory) origin first)));
      back = back e.duplex plan.image chunks x.machine.odt.memory e.done e.phase y h.kept;
      left = record {
        console = record {
          size = subst (λ n. n ≤ 28672) (sym h.kept.holds.size) may.console.size;
          wide = h.kept.wide;
          mode = mode_fits chunks e.done y.machine stands;
        };
        stub = may_fill chunks e.done y.machine stands;
        down = inl (under_way e.duplex plan.image chunks x.machine.odt.memory e.done e.phase y h.kept);
      };
    }

-- ---- the law

-- what is said of a line does not depend on how many characters it lost
pub losses_aside : (program : Program) (R : ℕ → Type 0) (y : Link) (n : ℕ) → IsUnsettled program R (record y { lost = n }) → IsUnsettled program R y
losses_aside program R y n u = record {
  console = u.console;
  stub = u.stub;
  down = elim u.down [
    | inl for ↦ inl for
    | inr k ↦ inr (record { key = k.key; down = k.down; none = k.none; untouched = k.untouched; console = k.console; stub = k.stub })
  ];
}

pub exchanges_are_true : ExchangesAreTrue
exchanges_are_true program x y o is =
    let lost : ℕ = length o.unsent + y.lost in
    let t = whole_exchange program o.plan o.from o.duplex o.chunks o.heard x (record y { lost = lost }) is.chunks is.begins
    (subst (λ list. Passes program x list (record y { lost = lost })) (sym is.stopped) (passes_unsent program o.unsent o.items x y is.passes)) in record {
      is = t.is;
      holds = t.holds;
      words = t.words;
      back = λ e. let b = t.back e in record { no_stub = b.no_stub; prompt = b.prompt; none_down = b.none_down };
      left = losses_aside program _ y lost t.left;
    }
