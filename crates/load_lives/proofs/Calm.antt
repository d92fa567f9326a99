-- Where nothing is sent, what is known of a line goes on to hold.
use Rattle.std.proofs.Common.{◌≡◌, ℕ, zero, suc, ◌≤◌, ◌⊎◌, Bool, true, false, List, [], ◌∷◌, length, Option, Some, None, inl, inr, refl, arith, ap, sym, subst, ◌∙◌}
use Rattle.std.specs.Prelude.{Contains, IsSome}
use Rattle.std.specs.FinMap.{get}
use Rattle.tape_image.specs.Plan.{PlanValue, IsPlan}
use Rattle.tape_image.specs.Word.{gives}
use Rattle.odt_machine.specs.KeyTable.{take_of}
use Rattle.odt_machine.specs.Laws.{is_running}
use Rattle.odt_machine.specs.Machine.{Machine}
use Rattle.host_core.specs.declared.heard.Heard.{Heard}
use Rattle.host_core.specs.declared.heard.Heard.TheVariants.{Got, Quiet}
use Rattle.host_core.specs.Console.{go}
use Rattle.host_core.specs.Core.{Core, no_word, word_nr}
use Rattle.line_world.specs.Invariant.{IsKept}
use Rattle.line_world.specs.Safe.{FirstStand}
use Rattle.line_world.specs.Scene.{Toll, over, toll_of}
use Rattle.line_world.specs.Site.{ground}
use Rattle.line_world.proofs.Frame.{scene}
use Rattle.line_world.proofs.Taking.{key_takes}
use Rattle.host_devices.specs.declared.item.Item.{Item}
use Rattle.host_devices.specs.declared.item.Item.TheVariants.{Heard as Came, Sent}
use Rattle.host_devices.specs.Dialogue.{keys_of}
use Rattle.honest_line.specs.Moves.{Gives}
use Rattle.exchange_law.specs.Mirror.{wire_at}
use Rattle.exchange_law.specs.Line.{Link, Moves, MovesTimes, Passes}
use Rattle.exchange_law.specs.Station.{Meets, Program, Station, Stub, after_odt, begins}
use Rattle.exchange_law.specs.Unsettled.{IsUnsettled, Untouched}
use Rattle.exchange_law.proofs.Words.{lies_same, still_stands}
use Rattle.exchange_law.specs.Recovery.{IsInOrder, IsLater}
use Rattle.exchange_law.proofs.Mirrors.{no_first, none_begun, none_removed}
use Rattle.exchange_law.proofs.Recovering.{heard_line}
use Rattle.exchange_law.proofs.Resettling.{Settling, one_removed, settling_move, untouched_same, untouched_then}
use Rattle.load_lives.specs.Between.{Between, KeepsOutside}
use Rattle.load_lives.proofs.Going.{kept_then}
use Rattle.load_lives.proofs.Leaving.{all_stand}
use Rattle.load_lives.proofs.Storing.{tape_stores}

-- ---- where a stub may run

settling_times : (program : Program) (R : ℕ → Type 0) (before : List ℕ) (n : ℕ) (x y : Link) → Settling program R before x → MovesTimes program n x y → Settling program R before y
settling_times program R before zero x y s same = subst (Settling program R before) (sym same) s
settling_times program R before (suc n) x y s (z, move, rest) = settling_times program R before n z y (settling_move program R before x z s move) rest

settling_gives : (program : Program) (R : ℕ → Type 0) (before : List ℕ) (what : Heard) (x v : Link) → Settling program R before x → Gives x what v → Settling program R before v
settling_gives program R before (Got c) x v s (rest, is, now) = subst (Settling program R before) (sym now) (heard_line program R before x rest s)
settling_gives program R before Quiet x v s (none, empty, now) = subst (Settling program R before) (sym now) s

settling_passes : (program : Program) (R : ℕ → Type 0) (before : List ℕ) (items : List Item) (x y : Link) → keys_of items ≡ [] → Settling program R before x → Passes program x items y → Settling program R before y
settling_passes program R before [] x y none s moves = settling_times program R before moves.0 x y s moves.1
settling_passes program R before (Sent key ∷ items) x y none s passes = absurd (cc none)
settling_passes program R before (Came what ∷ items) x y none s (z, v, moved, gives, passes) =
    settling_passes program R before items v y none (settling_gives program R before what z v (settling_times program R before moved.0 x z s moved.1) gives) passes

-- the first words stand, and outside the image nothing changes, where only bytes of later words do
pub stands_on : (tape : PlanValue) (v : ℕ) (now later : List ℕ) → IsPlan tape → v ≤ length tape.words → Untouched (IsLater tape v) now later → FirstStand tape.words v now → FirstStand tape.words v later
stands_on tape v now later is within u stand = record {
  lies = λ i less. lies_same tape.words now later i u.size (stand.lies i less);
  stands = λ i less. still_stands now later (word_nr tape.words i) (is.each i no_word (omega (arith, less, within))).even (λ b g. u.bytes b (λ l. l.later i less g)) (stand.stands i less);
}

pub kept_on : (tape : PlanValue) (v : ℕ) (before now later : List ℕ) → Untouched (IsLater tape v) now later → KeepsOutside before tape.image now → KeepsOutside before tape.image later
kept_on tape v before now later u kept = kept_then tape.image before now later kept (λ b low none. u.bytes b (λ l. clash (get tape.image b) none l.inside)) u.size
  where
    clash : (o : Option ℕ) → o ≡ None → IsSome o → ⊥
    clash None e h = absurd (cc h)
    clash (Some w) e h = absurd (cc e)

pub between_passes : (program : Program) (tape : PlanValue) (v : ℕ) (before : List ℕ) (items : List Item) (x y : Link) → IsPlan tape → v ≤ length tape.words → keys_of items ≡ [] → Between program tape v before x → Passes program x items y →
    Between program tape v before y
between_passes program tape v before items x y is within none b passes =
    let s = settling_passes program (IsLater tape v) x.machine.odt.memory items x y none (record { line = b.line; untouched = untouched_same (IsLater tape v) x.machine.odt.memory }) passes in record {
      stand = stands_on tape v x.machine.odt.memory y.machine.odt.memory is within s.untouched b.stand;
      kept = kept_on tape v before x.machine.odt.memory y.machine.odt.memory s.untouched b.kept;
      line = s.line;
    }

-- ---- behind the program's `G`

-- one key is under way, to ODT, which stores nothing
pub record IsIdleKey (program : Program) (R : ℕ → Type 0) (x : Link) : Type 0 where
  pub key : ℕ
  pub down : x.down ≡ key ∷ []
  pub none : x.machine.stub ≡ None
  pub untouched : Untouched R x.machine.odt.memory (after_odt program x.machine.odt key).odt.memory

abbrev pub IsIdle : Program → (ℕ → Type 0) → Link → Type 0
IsIdle program R x = (x.down ≡ []) ⊎ IsIdleKey program R x

record Idling (program : Program) (R : ℕ → Type 0) (before : List ℕ) (x : Link) : Type 0 where
  pub idle : IsIdle program R x
  pub untouched : Untouched R before x.machine.odt.memory

tails : (a b : ℕ) (rest : List ℕ) → a ∷ [] ≡ b ∷ rest → rest ≡ []
tails a b rest e = cc e

heads : (a b : ℕ) (rest : List ℕ) → a ∷ [] ≡ b ∷ rest → a ≡ b
heads a b rest e = cc e

idling_move : (program : Program) (R : ℕ → Type 0) (before : List ℕ) (x y : Link) → Idling program R before x → Moves program x y → Idling program R before y
idling_move program R before x y s (inl t) = elim s.idle [
  | inl none ↦ absurd (no_first x.down t.rest t.c none t.first)
  | inr k ↦
      let both : k.key ∷ [] ≡ t.c ∷ t.rest = sym k.down ∙ t.first in
      let met = subst (λ stub. Meets program stub x.machine.odt t.c t.station' t.answer) k.none t.meets in
      let station : t.station' ≡ after_odt program x.machine.odt k.key = met.0 ∙ ap (after_odt program x.machine.odt) (sym (heads k.key t.c t.rest both)) in
      subst (Idling program R before) (sym t.now) (record {
        idle = inl (tails k.key t.c t.rest both);
        untouched = untouched_then R before x.machine.odt.memory t.station'.odt.memory s.untouched (subst (λ (st : Station). Untouched R x.machine.odt.memory st.odt.memory) (sym station) k.untouched);
      })
]
idling_move program R before x y s (inr (inl (k, below, now))) = subst (Idling program R before) (sym now) (record {
  untouched = s.untouched;
  idle = elim s.idle [
    | inl none ↦ absurd (none_removed x.down k none below)
    | inr last ↦ inl (one_removed x.down last.key k last.down below)
  ];
})
idling_move program R before x y s (inr (inr (k, below, now))) = subst (Idling program R before) (sym now) (record {
  untouched = s.untouched;
  idle = elim s.idle [
    | inl none ↦ inl none
    | inr last ↦ inr (record { key = last.key; down = last.down; none = last.none; untouched = last.untouched })
  ];
})

idling_times : (program : Program) (R : ℕ → Type 0) (before : List ℕ) (n : ℕ) (x y : Link) → Idling program R before x → MovesTimes program n x y → Idling program R before y
idling_times program R before zero x y s same = subst (Idling program R before) (sym same) s
idling_times program R before (suc n) x y s (z, move, rest) = idling_times program R before n z y (idling_move program R before x z s move) rest

idling_gives : (program : Program) (R : ℕ → Type 0) (before : List ℕ) (what : Heard) (x v : Link) → Idling program R before x → Gives x what v → Idling program R before v
idling_gives program R before (Got c) x v s (rest, is, now) = subst (Idling program R before) (sym now) (record {
  untouched = s.untouched;
  idle = elim s.idle [
    | inl none ↦ inl none
    | inr last ↦ inr (record { key = last.key; down = last.down; none = last.none; untouched = last.untouched })
  ];
})
idling_gives program R before Quiet x v s (none, empty, now) = subst (Idling program R before) (sym now) s

idling_passes : (program : Program) (R : ℕ → Type 0) (before : List ℕ) (items : List Item) (x y : Link) → keys_of items ≡ [] → Idling program R before x → Passes program x items y → Idling program R before y
idling_passes program R before [] x y none s moves = idling_times program R before moves.0 x y s moves.1
idling_passes program R before (Sent key ∷ items) x y none s passes = absurd (cc none)
idling_passes program R before (Came what ∷ items) x y none s (z, v, moved, gives, passes) =
    idling_passes program R before items v y none (idling_gives program R before what z v (idling_times program R before moved.0 x z s moved.1) gives) passes

-- a host in order that has the mark leaves the line so
stopped_or : (P : Type 0) (running : Bool) → (running ≡ true → P) → (running ≡ false → P) → P
stopped_or P true h k = h refl
stopped_or P false h k = k refl

idle_key : (program : Program) (core : Core) (m : Machine) (stub : Option Stub) (c : ℕ) (rest up : List ℕ) (lost : Toll) (own : ℕ) → IsKept (scene m core (c ∷ rest) up lost) → core.going ≡ true → stub ≡ begins program false m.memory m.mode →
    (is_running m.mode ≡ true → c ∷ rest ≡ []) → IsIdleKey program (IsLater core.plan (length core.plan.words)) (record { machine = record { odt = m; stub = stub }; down = c ∷ rest; up = up; lost = own })
idle_key program core m stub c rest up lost own k set is quiet = stopped_or _ (is_running m.mode)
    (λ runs. absurd (no_first (c ∷ rest) rest c (quiet runs) refl))
    (λ stopped. let one : rest ≡ [] = k.one_way.0 in record {
      key = c;
      down = ap (λ list. c ∷ list) one;
      none = is ∙ none_begun program m.memory m.mode stopped;
      untouched = tape_stores (ground (scene m core (c ∷ rest) up lost)) (length core.plan.words) (take_of m c).memory k.host.image (omega arith) (all_stand m core (c ∷ rest) up lost k set) (key_takes m core c rest up lost k).memory;
    })

idle_by : (program : Program) (core : Core) (m : Machine) (stub : Option Stub) (down up : List ℕ) (lost : Toll) (own : ℕ) → IsKept (scene m core down up lost) → core.going ≡ true → stub ≡ begins program false m.memory m.mode →
    (is_running m.mode ≡ true → down ≡ []) → IsIdle program (IsLater core.plan (length core.plan.words)) (record { machine = record { odt = m; stub = stub }; down = down; up = up; lost = own })
idle_by program core m stub [] up lost own k set is quiet = inl refl
idle_by program core m stub (c ∷ rest) up lost own k set is quiet = inr (idle_key program core m stub c rest up lost own k set is quiet)

pub idle_behind : (program : Program) (core : Core) (y : Link) → IsInOrder program core y → core.going ≡ true → IsIdle program (IsLater core.plan (length core.plan.words)) y
idle_behind program core y o set = idle_by program core y.machine.odt y.machine.stub y.down y.up (toll_of (over core (wire_at y o.lost))) y.lost o.kept set o.just.stub o.just.quiet

pub all_in_order : (program : Program) (core : Core) (y : Link) → IsInOrder program core y → core.going ≡ true → FirstStand core.plan.words (length core.plan.words) y.machine.odt.memory
all_in_order program core y o set = all_stand y.machine.odt core y.down y.up (toll_of (over core (wire_at y o.lost))) o.kept set

-- ---- under the mark

-- the lives so far, which sent these keys, left a line on which no byte of memory changes any more: no `G` of the program was sent, or nothing behind it
abbrev pub Rested : Program → PlanValue → List ℕ → Link → Type 0
Rested program tape keys x = IsUnsettled program (IsLater tape (length tape.words)) x ⊎ (Contains keys go × IsIdle program (IsLater tape (length tape.words)) x)

pub record StaysRested (program : Program) (tape : PlanValue) (keys : List ℕ) (x y : Link) : Type 0 where
  pub rested : Rested program tape keys y
  pub untouched : Untouched (IsLater tape (length tape.words)) x.machine.odt.memory y.machine.odt.memory

pub rested_passes : (program : Program) (tape : PlanValue) (keys : List ℕ) (items : List Item) (x y : Link) → keys_of items ≡ [] → Rested program tape keys x → Passes program x items y → StaysRested program tape keys x y
rested_passes program tape keys items x y none (inl u) passes =
    let R : ℕ → Type 0 = IsLater tape (length tape.words) in
    let s = settling_passes program R x.machine.odt.memory items x y none (record { line = u; untouched = untouched_same R x.machine.odt.memory }) passes in record { rested = inl s.line; untouched = s.untouched }
rested_passes program tape keys items x y none (inr (has, idle)) passes =
    let R : ℕ → Type 0 = IsLater tape (length tape.words) in
    let s = idling_passes program R x.machine.odt.memory items x y none (record { idle = idle; untouched = untouched_same R x.machine.odt.memory }) passes in record { rested = inr (has, s.idle); untouched = s.untouched }
