-- A host that only looks, at a line on which a stub was at work: first it waits, then a machine answers. It changes nothing.
use Rattle.std.proofs.Common.{◌≡◌, ℕ, ◌+◌, ◌^◌, ◌<◌, Bool, true, false, nat_lt, if◌then◌else◌, List, [], ◌∷◌, length, Option, None, inl, inr, refl, arith, ap, sym, subst, ◌∙◌}
use Rattle.std.specs.Prelude.{◌⊎◌, option_to_list}
use Rattle.odt_machine.specs.KeyTable.{after_key}
use Rattle.odt_machine.specs.Laws.{is_running}
use Rattle.odt_machine.specs.Machine.{Machine}
use Rattle.host_core.specs.declared.heard.Heard.{Heard}
use Rattle.host_core.specs.declared.heard.Heard.TheVariants.{Got, Quiet as Silence}
use Rattle.host_core.specs.declared.phase.Phase.TheVariants.{Sync as LoadSync}
use Rattle.host_core.specs.Core.{begun as load_begun, word_nr}
use Rattle.host_core.specs.Host.{IsHost}
use Rattle.host_core.specs.PhaseTable.{Move}
use Rattle.host_core.proofs.Turns.{begun_kept}
use Rattle.line_world.specs.declared.event.Event.TheVariants.{Take}
use Rattle.line_world.specs.Invariant.{IsKept}
use Rattle.line_world.specs.Scene.{over as load_over}
use Rattle.line_world.specs.Wire.{Wire, sent}
use Rattle.host_devices.specs.declared.item.Item.{Item}
use Rattle.tape_image.specs.Plan.{IsPlan}
use Rattle.tape_image.specs.Word.{WordValue}
use Rattle.reading_core.specs.declared.phase.Phase.{Phase}
use Rattle.reading_core.specs.declared.phase.Phase.TheVariants.{Settle, Sync, Address, Slash, Before, Value, Close, Refused, Ended}
use Rattle.reading_core.specs.declared.turn.Turn.{Turn}
use Rattle.reading_core.specs.declared.turn.Turn.TheVariants.{Listen, Key, Read, Again, Next, Stop, Stray, Timeout}
use Rattle.reading_core.specs.Addresses.{AreAddresses}
use Rattle.reading_core.specs.Laws.{led}
use Rattle.reading_core.specs.Reader.{Reader, begun, looks_twice, once}
use Rattle.reading_core.specs.ReadingTable.{ReaderStep, Target, ask, counted, taken, target_of, turn_of, values_after}
use Rattle.reading_core.proofs.Lives.{asked}
use Rattle.looking_law.specs.Belief.{dialogue}
use Rattle.line_world.specs.Scene.{over}
use Rattle.looking_law.specs.Trying.{IsToldOf}
use Rattle.looking_law.proofs.Believed.{run_mirrored, stopped_with}
use Rattle.looking_law.specs.Inquiry.{reading}
use Rattle.looking_law.proofs.Events.{dialogue_leads}
use Rattle.honest_line.proofs.Leading.{gives_lead}
use Rattle.reading_core.specs.Foreign.{phase_for}
use Rattle.looking_law.proofs.Loading.{HearsRight, IsRight, begun_for, core_for, counted_move_is, next_for_turn}
use Rattle.looking_law.proofs.Mirrors.{IsMirrored, mirrored_event, once_kept}
use Rattle.looking_law.proofs.Saying.{is_plan, plan_for, words_for}
use Rattle.line_world.specs.Wire.{sent as sent_on}
use Rattle.honest_line.specs.Moves.{Gives}
use Rattle.exchange_law.specs.Line.{Link, Moves, MovesTimes, Passes}
use Rattle.exchange_law.specs.Station.{Each, Program, Stub, begins}
use Rattle.exchange_law.specs.Unsettled.{IsForStub, IsLastKey, IsUnsettled, MayFill, Untouched}
use Rattle.honest_line.proofs.Passings.{later, passing_said}
use Rattle.exchange_law.proofs.Links.{passes_unsent}
use Rattle.exchange_law.proofs.Passing.{losses_aside}
use Rattle.exchange_law.specs.Mirror.{IsJustAMachine, wire_at}
use Rattle.exchange_law.proofs.Mirrors.{gives_just, gives_mirrored, none_begun, times_mirrored}
use Rattle.exchange_law.proofs.Recovering.{Next', Settled, Waiting, Waits, heard_waiting, waiting_at_first, waiting_times}
use Rattle.exchange_law.proofs.Resettling.{untouched_same}

-- ---- while it waits it does what a loading host does

not_reading : (phase : Phase) (patience paid spent used : ℕ) (x : Link) (c : ℕ) (target : Target) (word : WordValue) → Waits false (phase_for phase) patience paid spent used x → IsRight target phase c word
not_reading (Value value place) patience paid spent used x c target word w = absurd w
not_reading Settle patience paid spent used x c target word w = tt
not_reading (Sync place) patience paid spent used x c target word w = tt
not_reading (Address place) patience paid spent used x c target word w = tt
not_reading Slash patience paid spent used x c target word w = tt
not_reading Before patience paid spent used x c target word w = absurd w
not_reading (Close place) patience paid spent used x c target word w = tt
not_reading (Refused place) patience paid spent used x c target word w = absurd w
not_reading (Ended end) patience paid spent used x c target word w = tt

hears_right : (memory : List ℕ) (r : Reader) (what : Heard) (x : Link) (paid : ℕ) → Waits false (phase_for r.phase) r.patience paid r.spent r.sent x → HearsRight memory r what
hears_right memory r (Got c) x paid w = not_reading r.phase r.patience paid r.spent r.sent x c (target_of r) (word_nr (words_for memory r.addresses) (length r.values)) w
hears_right memory r Silence x paid w = tt

-- what comes next
abbrev Goes : Program → (ℕ → Type 0) → List ℕ → ℕ → ReaderStep → Link → Type 0
Goes program R before paid a v =
    Waiting program R before paid (core_for before a.next) (sent_on v (option_to_list a.key)) ⊎ Settled program R before paid (core_for before a.next) (sent_on v (option_to_list a.key))

-- it is no number to be read once more
goes_by : (program : Program) (R : ℕ → Type 0) (before : List ℕ) (paid : ℕ) (r : Reader) (v : Link) (turn : Turn) → Next' program R before paid (next_for_turn before r turn) v → Goes program R before paid (taken r turn) v
goes_by program R before paid r v (Again value) (inl w) = absurd w.stands
goes_by program R before paid r v (Again value) (inr s) = absurd (cc s.sync)
goes_by program R before paid r v (Listen phase) next = next
goes_by program R before paid r v (Key key phase) next = next
goes_by program R before paid r v (Read value) next = next
goes_by program R before paid r v Next next = next
goes_by program R before paid r v (Stop end) next = next
goes_by program R before paid r v Stray next = next
goes_by program R before paid r v Timeout next = next

heard_look : (program : Program) (R : ℕ → Type 0) (before : List ℕ) (paid : ℕ) (r : Reader) (what : Heard) (x v : Link) → Waiting program R before paid (core_for before r) x → Gives x what v → Goes program R before paid (ask r what) v
heard_look program R before paid r what x v w gives =
    goes_by program R before paid (counted r what) v (turn_of r what) (subst (λ (m : Move). Next' program R before paid m v) (counted_move_is before r what (hears_right before r what x paid w.stands)) (heard_waiting program R before paid (core_for before r) what x v w gives))

-- nothing is read meanwhile
none_read : (r : Reader) (turn : Turn) (patience paid spent used : ℕ) (x : Link) → Waits false (phase_for (taken r turn).next.phase) patience paid spent used x ⊎ (phase_for (taken r turn).next.phase ≡ LoadSync 0) → values_after r.values turn ≡ r.values
none_read r (Read value) patience paid spent used x (inl w) = absurd w
none_read r (Again value) patience paid spent used x h = refl
none_read r (Read value) patience paid spent used x (inr is) = absurd (cc is)
none_read r (Listen phase) patience paid spent used x h = refl
none_read r (Key key phase) patience paid spent used x h = refl
none_read r Next patience paid spent used x h = refl
none_read r (Stop end) patience paid spent used x h = refl
none_read r Stray patience paid spent used x h = refl
none_read r Timeout patience paid spent used x h = refl

still_none : (r : Reader) (what : Heard) (patience paid spent used : ℕ) (x : Link) → r.values ≡ [] → Waits false (phase_for (ask r what).next.phase) patience paid spent used x ⊎ (phase_for (ask r what).next.phase ≡ LoadSync 0) → (ask r what).next.values ≡ []
still_none r what patience paid spent used x none h = (asked r what).values ∙ (none_read (counted r what) (turn_of r what) patience paid spent used x h ∙ none)

-- nothing was read by a host that looks at each word once
record IsIdle (r : Reader) : Type 0 where
  pub plain : r.manner ≡ once
  pub first : r.earlier ≡ None
  pub none : r.values ≡ []

first_if : (test : Bool) (a b : ReaderStep) → a.next.earlier ≡ None → b.next.earlier ≡ None → (if test then a else b).next.earlier ≡ None
first_if true a b one other = one
first_if false a b one other = other

first_still : (r : Reader) (turn : Turn) (patience paid spent used : ℕ) (x : Link) → Waits false (phase_for (taken r turn).next.phase) patience paid spent used x ⊎ (phase_for (taken r turn).next.phase ≡ LoadSync 0) → r.earlier ≡ None → (taken r turn).next.earlier ≡ None
first_still r (Again value) patience paid spent used x (inl w) first = absurd w
first_still r (Again value) patience paid spent used x (inr is) first = absurd (cc is)
first_still r (Read value) patience paid spent used x h first = refl
first_still r (Listen phase) patience paid spent used x h first = first
first_still r (Key key phase) patience paid spent used x h first = first
first_still r Next patience paid spent used x h first = first_if (nat_lt (length r.values) (length r.addresses)) _ _ first first
first_still r (Stop end) patience paid spent used x h first = first
first_still r Stray patience paid spent used x h first = first_if (nat_lt r.spent r.patience) _ _ refl first
first_still r Timeout patience paid spent used x h first = first_if (nat_lt r.spent r.patience) _ _ refl first

still_idle : (r : Reader) (what : Heard) (patience paid spent used : ℕ) (x : Link) → IsIdle r → Waits false (phase_for (ask r what).next.phase) patience paid spent used x ⊎ (phase_for (ask r what).next.phase ≡ LoadSync 0) → IsIdle (ask r what).next
still_idle r what patience paid spent used x idle h = record {
  plain = (asked r what).manner ∙ idle.plain;
  first = first_still (counted r what) (turn_of r what) patience paid spent used x h idle.first;
  none = still_none r what patience paid spent used x idle.none h;
}

-- ---- then a machine answers

-- where the host stands at its line
record AtMachine (program : Program) (memory : List ℕ) (r : Reader) (x : Link) : Type 0 where
  pub lost : ℕ
  pub mirror : IsMirrored memory (over r (wire_at x lost))
  pub once : looks_twice r.manner.care ≡ false
  pub just : IsJustAMachine program x

sync_is : (phase : Phase) → phase_for phase ≡ LoadSync 0 → phase ≡ Sync 0
sync_is (Sync place) is = ap Sync (same is)
  where
    same : LoadSync place ≡ LoadSync 0 → place ≡ 0
    same e = cc e
sync_is Settle is = absurd (cc is)
sync_is (Address place) is = absurd (cc is)
sync_is Slash is = absurd (cc is)
sync_is Before is = absurd (cc is)
sync_is (Value value place) is = absurd (cc is)
sync_is (Close place) is = absurd (cc is)
sync_is (Refused place) is = absurd (cc is)
sync_is (Ended end) is = absurd (cc is)

-- a host that has read nothing and waits for the answer to `Z`
abbrev syncing : List ℕ → (patience spent foreign sent : ℕ) → Reader
syncing addresses patience spent foreign sent =
    record { addresses = addresses; manner = once; values = []; patience = patience; spent = spent; foreign = foreign; sent = sent; earlier = None; phase = Sync 0 }

same_reader : (r : Reader) → r.manner ≡ once → r.earlier ≡ None → r.values ≡ [] → r.phase ≡ Sync 0 → r ≡ syncing r.addresses r.patience r.spent r.foreign r.sent
same_reader r plain first none is =
    ap (λ manner. record r { manner = manner }) plain
    ∙ (ap (λ earlier. record r { manner = once; earlier = earlier }) first
    ∙ (ap (λ values. record r { manner = once; earlier = None; values = values }) none ∙ ap (λ phase. record r { manner = once; earlier = None; values = []; phase = phase }) is))

-- what memory is, the mirror's plan may say: nothing of it is under way
answered : (before addresses : List ℕ) (patience spent foreign count : ℕ) (w : Wire) → AreAddresses addresses → IsKept (load_over (core_for before (syncing addresses patience spent foreign count)) w) →
    IsMirrored w.machine.memory (over (syncing addresses patience spent foreign count) w)
answered before addresses patience spent foreign count w are k = record {
  same = refl;
  calm = refl;
  books = record {
    sent = count;
    lost = w.lost;
    less = omega arith;
    exact = λ plain. (refl, refl);
    kept = record {
      machine = k.machine;
      host = record {
        image = is_plan w.machine.memory addresses k.machine.wide are;
        within = omega arith;
        patient = k.host.patient;
        long = k.host.long;
        fits = k.host.fits;
        mark = k.host.mark;
        paid = k.host.paid;
      };
      one_way = k.one_way;
      few = k.few;
      words = λ i below. absurd (omega (arith, below));
      running = k.running;
      at_start = k.at_start;
      cared = λ e. absurd (cc e);
      spent = k.spent;
      characters = k.characters;
      phase = record { key = k.phase.key; rest = k.phase.rest; paid = k.phase.paid; facts = k.phase.facts };
    };
  };
  holds = λ i low. absurd (omega (arith, low));
  earlier = tt;
  refused = tt;
}

at_machine : (program : Program) (R : ℕ → Type 0) (before : List ℕ) (paid : ℕ) (r : Reader) (x : Link) → AreAddresses r.addresses → IsIdle r → Settled program R before paid (core_for before r) x → AtMachine program x.machine.odt.memory r x
at_machine program R before paid r x are idle s =
    let is : r ≡ syncing r.addresses r.patience r.spent r.foreign r.sent = same_reader r idle.plain idle.first idle.none (sync_is r.phase s.sync) in record {
      lost = r.spent;
      mirror = subst (λ one. IsMirrored x.machine.odt.memory (over one (wire_at x r.spent))) (sym is)
          (answered before r.addresses r.patience r.spent r.foreign r.sent (wire_at x r.spent) are (subst (λ one. IsKept (load_over (core_for before one) (wire_at x r.spent))) is s.kept));
      once = ap (λ manner. looks_twice manner.care) idle.plain;
      just = s.just;
    }

-- ---- what passes over the machine's line

still_there : (program : Program) (memory : List ℕ) (r : Reader) (n : ℕ) (x y : Link) → AtMachine program memory r x → MovesTimes program n x y → AtMachine program memory r y
still_there program memory r n x y a moves =
    let m = times_mirrored program (core_for memory r) n x y a.lost (once_kept memory (over r (wire_at x a.lost)) a.mirror a.once) a.just moves in record {
      lost = m.0;
      mirror = run_mirrored memory (over r (wire_at x a.lost)) (over r (wire_at y m.0)) [] a.mirror (dialogue_leads [] r (wire_at x a.lost) (wire_at y m.0) m.1);
      once = a.once;
      just = m.2;
    }

not_both : (b : Bool) → b ≡ true → b ≡ false → ⊥
not_both b e f = cc

heard_there : (program : Program) (memory : List ℕ) (r : Reader) (what : Heard) (x v : Link) → AtMachine program memory r x → Gives x what v → AtMachine program memory (ask r what).next (sent_on v (option_to_list (ask r what).key))
heard_there program memory r what x v a gives =
    let keys : List ℕ = option_to_list (ask r what).key in
    let next : IsMirrored memory (over (ask r what).next (sent (wire_at v a.lost) keys)) =
    run_mirrored memory (over r (wire_at x a.lost)) (over (ask r what).next (sent (wire_at v a.lost) keys)) keys a.mirror (gives_lead reading r what (wire_at x a.lost) (wire_at v a.lost) (gives_mirrored what x v a.lost gives)) in record {
      lost = a.lost;
      mirror = next;
      once = ap (λ manner. looks_twice manner.care) (asked r what).manner ∙ a.once;
      just = record { stub = (gives_just program what x v gives a.just).stub; quiet = λ runs. absurd (not_both (is_running v.machine.odt.mode) runs (stopped_with v.machine.odt.mode next.books.kept.running)) };
    }

all_there : (program : Program) (memory : List ℕ) (things : List Heard) (r : Reader) (x y : Link) → AtMachine program memory r x → Passes program x (dialogue r things) y → AtMachine program memory (led r things) y
all_there program memory [] r x y a moves = still_there program memory r moves.0 x y a moves.1
all_there program memory (what ∷ things) r x y a (z, v, moved, gives, passes) =
    let key : Option ℕ = (ask r what).key in
    let next : Reader = (ask r what).next in
    all_there program memory things next (sent_on v (option_to_list key)) y (heard_there program memory r what z v (still_there program memory r moved.0 x z a moved.1) gives)
    (passing_said (Moves program) key (dialogue next things) v y passes)

-- ---- what it leaves

key_left : (program : Program) (R : ℕ → Type 0) (memory : List ℕ) (r : Reader) (m : Machine) (stub : Option Stub) (c : ℕ) (rest up : List ℕ) (lost own : ℕ) → IsMirrored memory (over r (record { machine = m; down = c ∷ rest; up = up; lost = lost })) → stub ≡ None →
    IsLastKey program R (record { machine = record { odt = m; stub = stub }; down = c ∷ rest; up = up; lost = own })
key_left program R memory r m stub c rest up lost own k none =
    let one : rest ≡ [] = k.books.kept.one_way.0 in
    let stopped : is_running m.mode ≡ false = stopped_with m.mode k.books.kept.running in
    let after = mirrored_event memory (over r (record { machine = m; down = c ∷ rest; up = up; lost = lost })) Take k in
    let same : (after_key m c).memory ≡ m.memory = after.same ∙ sym k.same in
    let rests : is_running (after_key m c).mode ≡ false = stopped_with (after_key m c).mode after.books.kept.running in record {
      key = c;
      down = ap (λ list. c ∷ list) one;
      none = none;
      untouched = subst (Untouched R m.memory) (sym same) (untouched_same R m.memory);
      console = after.books.kept.machine;
      stub = subst (λ test. MayFill R (after_key m c).mode (begins program test (after_key m c).memory (after_key m c).mode)) (sym stopped)
          (subst (MayFill R (after_key m c).mode) (sym (none_begun program (after_key m c).memory (after_key m c).mode rests)) rests);
    }

down_left : (program : Program) (R : ℕ → Type 0) (memory : List ℕ) (r : Reader) (m : Machine) (stub : Option Stub) (down up : List ℕ) (lost own : ℕ) → IsMirrored memory (over r (record { machine = m; down = down; up = up; lost = lost })) → stub ≡ None →
    Each IsForStub down ⊎ IsLastKey program R (record { machine = record { odt = m; stub = stub }; down = down; up = up; lost = own })
down_left program R memory r m stub [] up lost own k none = inl tt
down_left program R memory r m stub (c ∷ rest) up lost own k none = inr (key_left program R memory r m stub c rest up lost own k none)

machine_left : (program : Program) (R : ℕ → Type 0) (memory : List ℕ) (r : Reader) (y : Link) → AtMachine program memory r y → IsUnsettled program R y
machine_left program R memory r y a =
    let stopped : is_running y.machine.odt.mode ≡ false = stopped_with y.machine.odt.mode a.mirror.books.kept.running in
    let none : y.machine.stub ≡ None = a.just.stub ∙ none_begun program y.machine.odt.memory y.machine.odt.mode stopped in record {
      console = a.mirror.books.kept.machine;
      stub = subst (MayFill R y.machine.odt.mode) (sym none) stopped;
      down = down_left program R memory r y.machine.odt y.machine.stub y.down y.up a.lost y.lost a.mirror none;
    }

-- ---- all of it

-- what looks leave: a line on which only such bytes may still change, of which a stub may have changed some
pub record IsLeft (program : Program) (R : ℕ → Type 0) (before : List ℕ) (y : Link) : Type 0 where
  pub line : IsUnsettled program R y
  pub untouched : Untouched R before y.machine.odt.memory

came : (program : Program) (R : ℕ → Type 0) (before : List ℕ) (paid : ℕ) (things : List Heard) (r : Reader) (x y : Link) → AreAddresses r.addresses → IsIdle r → Waiting program R before paid (core_for before r) x → Passes program x (dialogue r things) y → IsLeft program R before y
came program R before paid [] r x y are idle w moves =
    let there : Waiting program R before paid (core_for before r) y = waiting_times program R before paid (core_for before r) moves.0 x y w moves.1 in record { line = there.settling.line; untouched = there.settling.untouched }
came program R before paid (what ∷ things) r x y are idle w (z, v, moved, gives, passes) =
    let there : Waiting program R before paid (core_for before r) z = waiting_times program R before paid (core_for before r) moved.0 x z w moved.1 in
    let key : Option ℕ = (ask r what).key in
    let next : Reader = (ask r what).next in
    let here : Link = sent_on v (option_to_list key) in
    let rest : Passes program here (dialogue next things) y = passing_said (Moves program) key (dialogue next things) v y passes in
    let asks : AreAddresses next.addresses = subst AreAddresses (sym (asked r what).addresses) are in
    elim (heard_look program R before paid r what z v there gives) [
      | inl waits ↦ came program R before paid things next here y asks (still_idle r what next.patience paid next.spent next.sent here idle (inl waits.stands)) waits rest
      | inr settled ↦
          let a : AtMachine program here.machine.odt.memory next here = at_machine program R before paid next here asks (still_idle r what next.patience paid next.spent next.sent here idle (inr settled.sync)) settled in
          let end : AtMachine program here.machine.odt.memory (led next things) y = all_there program here.machine.odt.memory things next here y a rest in record {
            line = machine_left program R here.machine.odt.memory (led next things) y end;
            untouched = subst (Untouched R before) (sym end.mirror.same) settled.untouched;
          }
    ]

-- a host that begins to look there leaves it so, also where its last key was not sent
pub looks_leave : (program : Program) (R : ℕ → Type 0) (addresses : List ℕ) (patience : ℕ) (things : List Heard) (looks : List Item) (x y : Link) → AreAddresses addresses → patience < 2 ^ 32 → IsToldOf (dialogue (begun addresses [] patience) things) looks → IsUnsettled program R x → Passes program x looks y →
    IsLeft program R x.machine.odt.memory y
looks_leave program R addresses patience things looks x y are long told line passes =
    let memory : List ℕ = x.machine.odt.memory in
    let plan : IsPlan (plan_for memory addresses) = is_plan memory addresses line.console.wide are in
    let host : IsHost (load_begun (plan_for memory addresses) 0 false patience) = begun_kept (plan_for memory addresses) 0 false patience plan (omega arith) long (λ set. absurd (cc set)) in
    let waits : Waiting program R memory x.lost (core_for memory (begun addresses [] patience)) x =
    subst (λ core. Waiting program R memory x.lost core x) (begun_for memory once addresses [] patience)
    (waiting_at_first program R false (plan_for memory addresses) 0 patience x host (record { others = λ i below. absurd (omega (arith, below)); first = record { lies = λ i below. absurd (omega (arith, below)); stands = λ i below. absurd (omega (arith, below)) } }) line) in
    by waits told
  where
    idle_first : IsIdle (begun addresses [] patience)
    idle_first = record { plain = refl; first = refl; none = refl }

    by : Waiting program R x.machine.odt.memory x.lost (core_for x.machine.odt.memory (begun addresses [] patience)) x → IsToldOf (dialogue (begun addresses [] patience) things) looks → IsLeft program R x.machine.odt.memory y
    by waits (inl whole) = came program R x.machine.odt.memory x.lost things (begun addresses [] patience) x y are idle_first waits (subst (λ items. Passes program x items y) whole passes)
    by waits (inr (key, lacks)) =
        let l : IsLeft program R x.machine.odt.memory (later 1 y) =
        came program R x.machine.odt.memory x.lost things (begun addresses [] patience) x (later 1 y) are idle_first waits (subst (λ items. Passes program x items (later 1 y)) (sym lacks) (passes_unsent program (key ∷ []) looks x y passes)) in
        record { line = losses_aside program R y (1 + y.lost) l.line; untouched = l.untouched }
