-- A station on which no stub runs does what its machine does.
use Rattle.std.proofs.Common.{◌≡◌, ℕ, zero, suc, ◌+◌, ◌<◌, Bool, true, false, List, [], ◌∷◌, ◌++◌, length, Option, Some, None, inl, inr, refl, arith, ap, sym, subst, ◌∙◌, append-nil}
use Rattle.std.specs.Prelude.{option_to_list}
use Rattle.odt_machine.specs.declared.mode.Mode.{Mode}
use Rattle.odt_machine.specs.declared.mode.Mode.TheVariants.{Prompt, Number, Opened, Typing, Running}
use Rattle.odt_machine.specs.Laws.{is_running}
use Rattle.odt_machine.specs.Machine.{Machine}
use Rattle.odt_machine.specs.KeyTable.{take_of, after_key}
use Rattle.host_core.specs.declared.heard.Heard.{Heard}
use Rattle.host_core.specs.declared.heard.Heard.TheVariants.{Got, Quiet as Silence}
use Rattle.host_core.specs.Core.{Core}
use Rattle.host_core.specs.PhaseTable.{move}
use Rattle.host_core.proofs.Frame.{silent}
use Rattle.line_world.specs.declared.event.Event.TheVariants.{Hear, Quiet}
use Rattle.line_world.specs.Scene.{over}
use Rattle.line_world.specs.Wire.{Wire, heard, sent}
use Rattle.line_world.specs.World.{loading}
use Rattle.line_world.specs.Invariant.{IsKept, OneWay, RunsWith}
use Rattle.line_world.proofs.Events.{kept_event, kept_events}
use Rattle.host_devices.specs.declared.item.Item.{Item}
use Rattle.host_devices.specs.Dialogue.{dialogue, said}
use Rattle.honest_line.specs.Moves.{Gives as Gives', Moves as Moves', MovesOn as MovesOn', Passes as Crosses}
use Rattle.honest_line.proofs.Passings.{passing_said}
use Rattle.honest_line.proofs.Wires.{none_moves, one_first}
use Rattle.honest_line.proofs.Leading.{hearing, waiting}
use Rattle.honest_line.proofs.Runs.{Leads, dialogue_leads}
use Rattle.exchange_law.specs.Station.{Program, Station, Stub, Meets, after_odt, begins}
use Rattle.line_world.specs.Wire.{sent as sent_on}
use Rattle.honest_line.specs.Moves.{Gives}
use Rattle.exchange_law.specs.Line.{Link, Moves, MovesTimes, Passes, Takes}
use Rattle.honest_line.specs.Honest.{resting}
use Rattle.honest_line.proofs.Trusted.{begin_kept}
use Rattle.exchange_law.specs.Mirror.{IsJustAMachine, StationsWithoutStubAreMachines, wire_at}

-- ---- the host stays in order

kept_moves : (core : Core) (w v : Wire) → MovesOn' w v → IsKept (over core w) → IsKept (over core v)
kept_moves core w v moves k = let run : Leads (over core w) [] (over core v) = dialogue_leads [] core w v moves in subst IsKept run.world (kept_events (over core w) run.events k)

kept_move : (core : Core) (w v : Wire) → Moves' w v → IsKept (over core w) → IsKept (over core v)
kept_move core w v move k = kept_moves core w v (one_first w v v move (none_moves v)) k

pub kept_gives : (core : Core) (what : Heard) (x v : Wire) → Gives' x what v → IsKept (over core x) → IsKept (over (move core what).next (sent v (option_to_list (move core what).key)))
kept_gives core (Got c) x v (rest, is, now) k =
    subst (λ z. IsKept (over (move core (Got c)).next (sent z (option_to_list (move core (Got c)).key)))) (sym now) (subst IsKept (hearing loading core x c rest x.up is) (kept_event (over core x) Hear k))
kept_gives core Silence x v (none, empty, now) k =
    subst (λ z. IsKept (over (move core Silence).next (sent z (option_to_list (move core Silence).key)))) (sym now) (subst IsKept (waiting loading core x x.down x.up none empty) (kept_event (over core x) Quiet k))

-- ---- what runs

pub none_begun : (program : Program) (memory : List ℕ) (mode : Mode) → is_running mode ≡ false → begins program false memory mode ≡ None
none_begun program memory Prompt e = refl
none_begun program memory (Number v n) e = refl
none_begun program memory (Opened a) e = refl
none_begun program memory (Typing a v n) e = refl
none_begun program memory (Running p) e = absurd (cc)

pub no_first : (xs rest : List ℕ) (c : ℕ) → xs ≡ [] → xs ≡ c ∷ rest → ⊥
no_first xs rest c none first = clash (sym none ∙ first)
  where
    clash : [] ≡ c ∷ rest → ⊥
    clash e = absurd (cc e)

stopped_or : (P : Type 0) (running : Bool) → (running ≡ true → P) → (running ≡ false → P) → P
stopped_or P true h k = h refl
stopped_or P false h k = k refl

one_key : (down rest up : List ℕ) (c : ℕ) → down ≡ c ∷ rest → OneWay down up → rest ≡ []
one_key down rest up c is one = (subst (λ list. OneWay list up) is one).0

pub none_removed : (xs : List ℕ) (k : ℕ) → xs ≡ [] → k < length xs → ⊥
none_removed xs k none below = absurd (omega (arith, below, ap length none))

-- ---- one move

-- what a move of the station's line is on the machine's
abbrev Mirrored : Program → Link → ℕ → Link → Type 0
Mirrored program x lost y = (lost' : ℕ) × Moves' (wire_at x lost) (wire_at y lost') × IsJustAMachine program y × (lost' + x.lost ≡ lost + y.lost)

odt_takes : (program : Program) (core : Core) (x y : Link) (lost : ℕ) → IsKept (over core (wire_at x lost)) → (t : Takes program x y) → is_running x.machine.odt.mode ≡ false → x.machine.stub ≡ None → Mirrored program x lost y
odt_takes program core x y lost k t stopped none =
    let met = subst (λ stub. Meets program stub x.machine.odt t.c t.station' t.answer) none t.meets in
    let after : Link = record { machine = after_odt program x.machine.odt t.c; down = t.rest; up = x.up ++ (take_of x.machine.odt t.c).answer; lost = x.lost } in
    let now : y ≡ after = t.now ∙ (ap (λ (s : Station). record { machine = s; down = t.rest; up = x.up ++ t.answer; lost = x.lost }) met.0
    ∙ ap (λ (answer : List ℕ). record { machine = after_odt program x.machine.odt t.c; down = t.rest; up = x.up ++ answer; lost = x.lost }) met.1) in
    subst (Mirrored program x lost) (sym now) (
      lost,
      inl (t.c, t.rest, t.first, refl),
      record {
        stub = ap (λ running. begins program running (after_key x.machine.odt t.c).memory (after_key x.machine.odt t.c).mode) stopped;
        quiet = λ runs. one_key x.down t.rest x.up t.c t.first k.one_way;
      },
      refl,
    )

one_more : (a b : ℕ) → a + 1 + b ≡ a + (b + 1)
one_more a b = omega arith

move_mirrored : (program : Program) (core : Core) (x y : Link) (lost : ℕ) → IsKept (over core (wire_at x lost)) → IsJustAMachine program x → Moves program x y → Mirrored program x lost y
move_mirrored program core x y lost k just (inl t) =
    stopped_or (Mirrored program x lost y) (is_running x.machine.odt.mode) (λ runs. absurd (no_first x.down t.rest t.c (just.quiet runs) t.first))
    (λ stopped. odt_takes program core x y lost k t stopped (just.stub ∙ none_begun program x.machine.odt.memory x.machine.odt.mode stopped))
move_mirrored program core x y lost k just (inr (inl (n, below, now))) =
    subst (Mirrored program x lost) (sym now)
    (lost + 1, inr (inl (n, below, refl)), record { stub = just.stub; quiet = λ runs. absurd (none_removed x.down n (just.quiet runs) below) }, one_more lost x.lost)
move_mirrored program core x y lost k just (inr (inr (n, below, now))) =
    subst (Mirrored program x lost) (sym now) (lost + 1, inr (inr (n, below, refl)), record { stub = just.stub; quiet = just.quiet }, one_more lost x.lost)

abbrev MirroredOn : Program → Link → ℕ → Link → Type 0
MirroredOn program x lost y = (lost' : ℕ) × MovesOn' (wire_at x lost) (wire_at y lost') × IsJustAMachine program y × (lost' + x.lost ≡ lost + y.lost)

sums : (a b c k l n : ℕ) → l + a ≡ k + b → n + b ≡ l + c → n + a ≡ k + c
sums a b c k l n first second = omega (arith, first, second)

pub times_mirrored : (program : Program) (core : Core) (n : ℕ) (x y : Link) (lost : ℕ) → IsKept (over core (wire_at x lost)) → IsJustAMachine program x → MovesTimes program n x y → MirroredOn program x lost y
times_mirrored program core zero x y lost k just same = subst (MirroredOn program x lost) (sym same) (lost, none_moves (wire_at x lost), just, refl)
times_mirrored program core (suc n) x y lost k just (z, move, rest) =
    let one = move_mirrored program core x z lost k just move in
    let more = times_mirrored program core n z y one.0 (kept_move core (wire_at x lost) (wire_at z one.0) one.1 k) one.2 rest in
    (more.0, one_first (wire_at x lost) (wire_at z one.0) (wire_at y more.0) one.1 more.1, more.2, sums x.lost z.lost y.lost lost one.0 more.0 one.3 more.3)

-- ---- a thing heard, and the key behind it

pub gives_mirrored : (what : Heard) (x v : Link) (lost : ℕ) → Gives x what v → Gives' (wire_at x lost) what (wire_at v lost)
gives_mirrored (Got c) x v lost (rest, is, now) = (rest, is, ap (λ z. wire_at z lost) now)
gives_mirrored Silence x v lost (none, empty, now) = (none, empty, ap (λ z. wire_at z lost) now)

pub gives_just : (program : Program) (what : Heard) (x v : Link) → Gives x what v → IsJustAMachine program x → IsJustAMachine program v
gives_just program (Got c) x v (rest, is, now) just = subst (IsJustAMachine program) (sym now) (record { stub = just.stub; quiet = just.quiet })
gives_just program Silence x v (none, empty, now) just = subst (IsJustAMachine program) (sym now) just

marked : (going : Bool) (mode : Mode) → RunsWith going mode → is_running mode ≡ true → going ≡ true
marked going Prompt r e = absurd (cc)
marked going (Number v n) r e = absurd (cc)
marked going (Opened a) r e = absurd (cc)
marked going (Typing a v n) r e = absurd (cc)
marked going (Running p) r e = r

sent_just : (program : Program) (core : Core) (what : Heard) (x v : Link) (lost : ℕ) → IsKept (over core (wire_at x lost)) → Gives x what v → IsJustAMachine program x → IsJustAMachine program (sent_on v (option_to_list (move core what).key))
sent_just program core what x v lost k gives just =
    let given = gives_just program what x v gives just in
    record { stub = given.stub; quiet = λ runs. still runs (machine_same what x v gives) }
  where
    machine_same : (what : Heard) (x v : Link) → Gives x what v → v.machine.odt ≡ x.machine.odt
    machine_same (Got c) x v (rest, is, now) = ap (λ (z : Link). z.machine.odt) now
    machine_same Silence x v (none, empty, now) = ap (λ (z : Link). z.machine.odt) now

    still : is_running v.machine.odt.mode ≡ true → v.machine.odt ≡ x.machine.odt → v.down ++ option_to_list (move core what).key ≡ []
    still runs same =
        let there : is_running x.machine.odt.mode ≡ true = ap (λ (m : Machine). is_running m.mode) (sym same) ∙ runs in
        let none : (move core what).key ≡ None = (silent core what k.host (marked core.going x.machine.odt.mode k.running there)).key in
        ap (λ key. v.down ++ option_to_list key) none ∙ (append-nil v.down ∙ (gives_just program what x v gives just).quiet runs)

crosses_said : (key : Option ℕ) (items : List Item) (x y : Wire) → Crosses (sent x (option_to_list key)) items y → Crosses x (said key ++ items) y
crosses_said None items x y passes = subst (λ down. Crosses (record x { down = down }) items y) (append-nil x.down) passes
crosses_said (Some key) items x y passes = passes

-- ---- a whole dialogue

same_lost : (what : Heard) (x v : Link) → Gives x what v → v.lost ≡ x.lost
same_lost (Got c) x v (rest, is, now) = ap (λ (z : Link). z.lost) now
same_lost Silence x v (none, empty, now) = ap (λ (z : Link). z.lost) now

-- what passed over the station's line crossed the machine's, with as many losses
pub record IsMirrored (program : Program) (x : Link) (lost : ℕ) (items : List Item) (y : Link) : Type 0 where
  pub lost' : ℕ
  pub crosses : Crosses (wire_at x lost) items (wire_at y lost')
  pub just : IsJustAMachine program y
  pub losses : lost' + x.lost ≡ lost + y.lost

-- so it is of a host that is in order over the machine's line
pub mirrored : (program : Program) (things : List Heard) (core : Core) (x y : Link) (lost : ℕ) → IsJustAMachine program x → IsKept (over core (wire_at x lost)) → Passes program x (dialogue core things) y →
    IsMirrored program x lost (dialogue core things) y
mirrored program [] core x y lost just k moves =
    let m = times_mirrored program core moves.0 x y lost k just moves.1 in record { lost' = m.0; crosses = m.1; just = m.2; losses = m.3 }
mirrored program (what ∷ things) core x y lost just k (z, v, before, gives, passes) =
    let first = times_mirrored program core before.0 x z lost k just before.1 in
    let kept : IsKept (over core (wire_at z first.0)) = kept_moves core (wire_at x lost) (wire_at z first.0) first.1 k in
    let given = gives_mirrored what z v first.0 gives in
    let key : Option ℕ = (move core what).key in
    let rest = mirrored program things (move core what).next (sent_on v (option_to_list key)) y first.0 (sent_just program core what z v first.0 kept gives first.2)
    (kept_gives core what (wire_at z first.0) (wire_at v first.0) given kept) (passing_said (Moves program) key (dialogue (move core what).next things) v y passes) in record {
      lost' = rest.lost';
      crosses = (wire_at z first.0, wire_at v first.0, first.1, given, crosses_said key (dialogue (move core what).next things) (wire_at v first.0) (wire_at y rest.lost') rest.crosses);
      just = rest.just;
      losses = sums x.lost z.lost y.lost lost first.0 rest.lost' first.3 (let same = same_lost what z v gives in let more = rest.losses in omega (arith, same, more));
    }

-- ---- the law

stopped_stub : (program : Program) (memory : List ℕ) (mode : Mode) (stub : Option Stub) → stub ≡ None → is_running mode ≡ false → stub ≡ begins program false memory mode
stopped_stub program memory mode stub none stopped = none ∙ sym (none_begun program memory mode stopped)

not_both : (b : Bool) → b ≡ true → b ≡ false → ⊥
not_both b e f = cc

pub without_stub : StationsWithoutStubAreMachines
without_stub program core things x y lost host may at passes is =
    let kept : IsKept (over core (resting x.machine.odt x.up 0)) = begin_kept core x.machine.odt x.up host may at.few in
    let m = mirrored program things core x y 0
    (record { stub = stopped_stub program x.machine.odt.memory x.machine.odt.mode x.machine.stub at.no_stub may.stopped; quiet = λ runs. absurd (not_both (is_running x.machine.odt.mode) runs may.stopped) })
    (subst (λ down. IsKept (over core (record { machine = x.machine.odt; down = down; up = x.up; lost = 0 }))) (sym at.none_down) kept) passes in record {
      waiting = x.up;
      few = at.few;
      end = wire_at y m.lost';
      passes = subst (λ down. Crosses (record { machine = x.machine.odt; down = down; up = x.up; lost = 0 }) (dialogue core things) (wire_at y m.lost')) at.none_down m.crosses;
      machine_is = refl;
      lost_is = let sum = m.losses in omega (arith, sum, is);
    }
