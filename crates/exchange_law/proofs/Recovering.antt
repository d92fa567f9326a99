-- An ordinary host over a line on which a stub was at work: first it waits, then a machine answers.
use Rattle.std.proofs.Common.{◌≡◌, ℕ, zero, suc, ◌+◌, ◌-◌, ◌*◌, ◌<◌, ◌≤◌, ◌⊎◌, Bool, true, false, ltb, List, [], ◌∷◌, ◌++◌, length, Option, Some, None, inl, inr, refl, arith, ap, sym, subst, ◌∙◌, append-nil}
use Rattle.std.proofs.lemmas.Bool.Decides.{nat_tests}
use Rattle.std.specs.Prelude.{◌==◌, ◌&&◌, if◌then◌else◌, Contains, option_to_list}
use Rattle.std.specs.Option.{is_none}
use Rattle.std.specs.FinMap.{get}
use Rattle.std.specs.List.{remove}
use Rattle.octal.specs.Octal.{is_digit}
use Rattle.tape_image.specs.Memory.{byte_of, top_of}
use Rattle.tape_image.specs.Plan.{PlanValue, IsPlan}
use Rattle.tape_image.specs.Word.{gives}
use Rattle.tape_image.proofs.Halves.{Stands-unchanged, merged-Stands}
use Rattle.odt_machine.specs.declared.mode.Mode.{Mode}
use Rattle.odt_machine.specs.declared.mode.Mode.TheVariants.{Prompt, Number, Opened, Typing, Running}
use Rattle.odt_machine.specs.Laws.{is_running}
use Rattle.odt_machine.specs.Machine.{word_at}
use Rattle.host_core.specs.declared.heard.Heard.{Heard}
use Rattle.host_core.specs.declared.heard.Heard.TheVariants.{Got, Quiet as Silence}
use Rattle.host_core.specs.declared.phase.End.{End}
use Rattle.host_core.specs.declared.phase.End.TheVariants.{Loaded, Started, Uncertain, MaybeStarted, GaveUp, NoWord, WontHold}
use Rattle.host_core.specs.declared.phase.Phase.{Phase}
use Rattle.host_core.specs.declared.phase.Phase.TheVariants.{Settle, Sync, Address, Slash, Before, Value, Deposit, Return, Start, Go, Ended}
use Rattle.host_core.specs.declared.turn.Turn.TheVariants.{Stray}
use Rattle.host_core.specs.Console.{resynchronise_of}
use Rattle.host_core.specs.Core.{Core, begun_by, no_word, start_of, word_nr}
use Rattle.host_core.specs.Host.{IsHost, basis_of}
use Rattle.host_core.specs.Laws.{led, replay}
use Rattle.host_core.specs.declared.answers.Reply.TheVariants.{On, Wrong}
use Rattle.host_core.specs.PhaseTable.{Move, listens, move, sends, sync_hears, synced, taken}
use Rattle.host_core.proofs.Frame.{on_move}
use Rattle.host_core.proofs.Turns.{kept}
use Rattle.line_world.specs.Invariant.{EndIsPaid, IsKept, RunsAt, RunsWith, most_lost, spare}
use Rattle.line_world.specs.Pending.{IsStopped, RestFits, rest_of}
use Rattle.line_world.specs.Site.{IsThere, site, site_of}
use Rattle.line_world.specs.Promises.{EndsAtGo, HasCause, StartsOnce}
use Rattle.line_world.specs.Safe.{FirstStand, IsSafe}
use Rattle.line_world.specs.Scene.{Scene, over}
use Rattle.line_world.specs.World.{typed}
use Rattle.line_world.proofs.Events.{kept_events, safe_events}
use Rattle.line_world.proofs.Starts.{starts_events}
use Rattle.line_world.proofs.Tame.{tame_of}
use Rattle.exchange_core.proofs.Steps.{not_below}
use Rattle.host_devices.specs.Dialogue.{dialogue}
use Rattle.honest_line.proofs.Runs.{Leads, dialogue_leads}
use Rattle.honest_line.proofs.Trusted.{keys_of-dialogue}
use Rattle.exchange_core.specs.Chunk.{is_nibble}
use Rattle.exchange_law.specs.Station.{Program, Station, Stub, Each, IsHaltCharacter, Meets, StubMeets, begins, halted}
use Rattle.line_world.specs.Wire.{sent}
use Rattle.honest_line.specs.Moves.{Gives}
use Rattle.exchange_law.specs.Line.{Link, Moves, MovesTimes, Passes, Takes}
use Rattle.exchange_law.specs.Unsettled.{IsForStub, IsResynchronising, IsUnsettled, MayFill, Untouched}
use Rattle.exchange_law.proofs.Texts.{each_removed}
use Rattle.exchange_law.proofs.Words.{lies_same, still_stands}
use Rattle.exchange_law.specs.Mirror.{IsJustAMachine, wire_at}
use Rattle.exchange_law.specs.Recovery.{HasStarted, HostsRecover, IsInOrder, IsLaterAt}
use Rattle.exchange_law.proofs.Mirrors.{IsMirrored, mirrored, no_first, none_begun, none_removed}
use Rattle.honest_line.proofs.Passings.{passing_said}
use Rattle.exchange_law.proofs.Starting.{AtRest, StartedRests, going_at, rests_events, runs_from}
use Rattle.exchange_law.proofs.Resettling.{IsOver, Settling, lost_grows, over_move, settling_move, untouched_same}

-- ---- where such a host may stand

-- the stub runs, and the key that resynchronises is under way to it or was lost; so many mishaps are paid
pub record Sounding (careful : Bool) (mishaps : ℕ) (x : Link) : Type 0 where
  pub stub : Stub
  pub runs : x.machine.stub ≡ Some stub
  pub silent : x.up ≡ []
  pub down : ((x.down ≡ []) × (mishaps + 1 ≤ x.lost)) ⊎ ((x.down ≡ resynchronise_of careful ∷ []) × (mishaps ≤ x.lost))

-- the stub has halted, and what ODT printed then is under way
pub record Stopped (mishaps : ℕ) (x : Link) : Type 0 where
  pub none : x.machine.stub ≡ None
  pub prompt : x.machine.odt.mode ≡ Prompt
  pub none_down : x.down ≡ []
  pub halt : Each IsHaltCharacter x.up
  pub paid : mishaps ≤ x.lost

-- mishaps are paid by losses; where no stub runs any more, but for one
abbrev pub Owes : ℕ → Link → Type 0
Owes mishaps x = (mishaps ≤ x.lost) ⊎ (IsOver x × (mishaps ≤ x.lost + 1))

-- `paid` were lost before the host began
abbrev pub Waits : Bool → Phase → (patience paid spent used : ℕ) → Link → Type 0
Waits careful Settle patience paid spent used x = (spent ≤ used) × Owes (spent + paid) x
Waits careful (Sync place) patience paid spent used x = (place ≡ 0) × (spent + 1 ≤ used) × (Sounding careful (spent + paid) x ⊎ Stopped (spent + paid) x)
Waits careful (Ended GaveUp) patience paid spent used x = (spent + paid ≤ x.lost + 1) × (patience + paid < x.lost + 1)
Waits careful (Ended Loaded) patience paid spent used x = spent + paid ≤ x.lost + 1
Waits careful phase patience paid spent used x = ⊥

-- what is known of plan and memory all the while
pub record Region (R : ℕ → Type 0) (before : List ℕ) (plan : PlanValue) (verified : ℕ) : Type 0 where
  pub others : (i : ℕ) → i < verified → (b : ℕ) → gives (word_nr plan.words i) b ≡ true → R b → ⊥
  pub first : FirstStand plan.words verified before

pub record Waiting (program : Program) (R : ℕ → Type 0) (before : List ℕ) (paid : ℕ) (core : Core) (x : Link) : Type 0 where
  pub host : IsHost core
  pub unmarked : core.going ≡ false
  pub region : Region R before core.plan core.verified
  pub settling : Settling program R before x
  pub stands : Waits core.careful core.phase core.patience paid core.spent core.sent x

-- a machine answers
pub record Settled (program : Program) (R : ℕ → Type 0) (before : List ℕ) (paid : ℕ) (core : Core) (x : Link) : Type 0 where
  pub sync : core.phase ≡ Sync 0
  pub unmarked : core.going ≡ false
  pub still : RunsWith false x.machine.odt.mode
  pub kept : IsKept (over core (wire_at x core.spent))
  pub just : IsJustAMachine program x
  pub untouched : Untouched R before x.machine.odt.memory
  pub owed : core.spent + paid ≤ x.lost + 1

-- ---- the first words stand all the while

first_now : (R : ℕ → Type 0) (before now : List ℕ) (plan : PlanValue) (verified : ℕ) → IsPlan plan → verified ≤ length plan.words → Region R before plan verified → Untouched R before now → FirstStand plan.words verified now
first_now R before now plan verified is within region same = record {
  lies = λ i below. lies_same plan.words before now i same.size (region.first.lies i below);
  stands = λ i below. still_stands before now (word_nr plan.words i) (is.each i no_word (omega (arith, below, within))).even
      (λ b gives_b. same.bytes b (λ r. region.others i below b gives_b r)) (region.first.stands i below);
}

-- ---- moves

no_nibble : (careful : Bool) → is_nibble (resynchronise_of careful) ≡ false
no_nibble true = refl
no_nibble false = refl

waits_takes : (program : Program) (careful : Bool) (mishaps : ℕ) (x y : Link) → Takes program x y → Sounding careful mishaps x ⊎ Stopped mishaps x → Sounding careful mishaps y ⊎ Stopped mishaps y
waits_takes program careful mishaps x y t (inr s) = absurd (no_first x.down t.rest t.c s.none_down t.first)
waits_takes program careful mishaps x y t (inl s) = elim s.down [
  | inl none ↦ absurd (no_first x.down t.rest t.c none.0 t.first)
  | inr z ↦
      let both : resynchronise_of careful ∷ [] ≡ t.c ∷ t.rest = sym z.0 ∙ t.first in
      let key : resynchronise_of careful ≡ t.c = cc both in
      let rest : t.rest ≡ [] = none_behind t.c t.rest both in
      let met : StubMeets false x.machine.odt s.stub.left s.stub.half t.station' t.answer =
      subst (λ nibble. StubMeets nibble x.machine.odt s.stub.left s.stub.half t.station' t.answer) (ap is_nibble (sym key) ∙ no_nibble careful)
      (subst (λ stub. Meets program stub x.machine.odt t.c t.station' t.answer) s.runs t.meets) in
      let after : Link = record { machine = halted x.machine.odt x.machine.odt.memory; down = []; up = t.answer; lost = x.lost } in
      let now : y ≡ after = t.now ∙ (ap (λ (st : Station). record { machine = st; down = t.rest; up = x.up ++ t.answer; lost = x.lost }) met.0
      ∙ (ap (λ (down : List ℕ). record { machine = halted x.machine.odt x.machine.odt.memory; down = down; up = x.up ++ t.answer; lost = x.lost }) rest
      ∙ ap (λ (up : List ℕ). record { machine = halted x.machine.odt x.machine.odt.memory; down = []; up = up ++ t.answer; lost = x.lost }) s.silent)) in
      inr (subst (Stopped mishaps) (sym now) (record { none = refl; prompt = refl; none_down = refl; halt = met.1; paid = z.1 }))
]
  where
    none_behind : (c : ℕ) (rest : List ℕ) → resynchronise_of careful ∷ [] ≡ c ∷ rest → rest ≡ []
    none_behind c rest e = cc e

only_removed : (key : ℕ) (down : List ℕ) (k : ℕ) → down ≡ key ∷ [] → k < length down → remove down k ≡ []
only_removed key down zero is below = subst (λ (list : List ℕ). remove list 0 ≡ []) (sym is) refl
only_removed key down (suc k) is below = absurd (omega (arith, below, ap length is))

paid_more : (a b : ℕ) → a ≤ b → a + 1 ≤ b + 1
paid_more a b le = omega (arith, le)

paid_on : (a b : ℕ) → a ≤ b → a ≤ b + 1
paid_on a b le = omega (arith, le)

waits_move : (program : Program) (careful : Bool) (mishaps : ℕ) (x y : Link) → Moves program x y → Sounding careful mishaps x ⊎ Stopped mishaps x → Sounding careful mishaps y ⊎ Stopped mishaps y
waits_move program careful mishaps x y (inl t) s = waits_takes program careful mishaps x y t s
waits_move program careful mishaps x y (inr (inl (k, below, now))) (inl s) = elim s.down [
  | inl none ↦ absurd (none_removed x.down k none.0 below)
  | inr z ↦ inl (subst (Sounding careful mishaps) (sym now) (record { stub = s.stub; runs = s.runs; silent = s.silent; down = inl (only_removed (resynchronise_of careful) x.down k z.0 below, paid_more mishaps x.lost z.1) }))
]
waits_move program careful mishaps x y (inr (inl (k, below, now))) (inr s) = absurd (none_removed x.down k s.none_down below)
waits_move program careful mishaps x y (inr (inr (k, below, now))) (inl s) = absurd (none_removed x.up k s.silent below)
waits_move program careful mishaps x y (inr (inr (k, below, now))) (inr s) =
    inr (subst (Stopped mishaps) (sym now) (record { none = s.none; prompt = s.prompt; none_down = s.none_down; halt = each_removed IsHaltCharacter x.up k s.halt; paid = paid_on mishaps x.lost s.paid }))

owes_move : (program : Program) (R : ℕ → Type 0) (mishaps : ℕ) (x y : Link) → MayFill R x.machine.odt.mode x.machine.stub → Moves program x y → Owes mishaps x → Owes mishaps y
owes_move program R mishaps x y may move (inl paid) = let grows = lost_grows program x y move in inl (omega (arith, paid, grows))
owes_move program R mishaps x y may move (inr (done, paid)) = let grows = lost_grows program x y move in inr (over_move program R x y may move done, omega (arith, paid, grows))

phase_move : (program : Program) (R : ℕ → Type 0) (careful : Bool) (phase : Phase) (patience paid spent used : ℕ) (x y : Link) → MayFill R x.machine.odt.mode x.machine.stub → Moves program x y → Waits careful phase patience paid spent used x → Waits careful phase patience paid spent used y
phase_move program R careful Settle patience paid spent used x y may move w = (w.0, owes_move program R (spent + paid) x y may move w.1)
phase_move program R careful (Sync place) patience paid spent used x y may move w = (w.0, w.1, waits_move program careful (spent + paid) x y move w.2)
phase_move program R careful (Ended GaveUp) patience paid spent used x y may move w = let grows = lost_grows program x y move in (let one = w.0 in omega (arith, one, grows), let one = w.1 in omega (arith, one, grows))
phase_move program R careful (Ended Loaded) patience paid spent used x y may move w = let grows = lost_grows program x y move in omega (arith, w, grows)
phase_move program R careful (Ended Started) patience paid spent used x y may move w = absurd w
phase_move program R careful (Ended Uncertain) patience paid spent used x y may move w = absurd w
phase_move program R careful (Ended MaybeStarted) patience paid spent used x y may move w = absurd w
phase_move program R careful (Ended (NoWord a)) patience paid spent used x y may move w = absurd w
phase_move program R careful (Ended (WontHold a)) patience paid spent used x y may move w = absurd w
phase_move program R careful (Address visit place) patience paid spent used x y may move w = absurd w
phase_move program R careful (Slash visit) patience paid spent used x y may move w = absurd w
phase_move program R careful (Before visit) patience paid spent used x y may move w = absurd w
phase_move program R careful (Value visit value place) patience paid spent used x y may move w = absurd w
phase_move program R careful (Deposit deposit value place) patience paid spent used x y may move w = absurd w
phase_move program R careful (Return why place) patience paid spent used x y may move w = absurd w
phase_move program R careful (Start place) patience paid spent used x y may move w = absurd w
phase_move program R careful Go patience paid spent used x y may move w = absurd w

waiting_move : (program : Program) (R : ℕ → Type 0) (before : List ℕ) (paid : ℕ) (core : Core) (x y : Link) → Waiting program R before paid core x → Moves program x y → Waiting program R before paid core y
waiting_move program R before paid core x y w move = record {
  host = w.host;
  unmarked = w.unmarked;
  region = w.region;
  settling = settling_move program R before x y w.settling move;
  stands = phase_move program R core.careful core.phase core.patience paid core.spent core.sent x y w.settling.line.stub move w.stands;
}

pub waiting_times : (program : Program) (R : ℕ → Type 0) (before : List ℕ) (paid : ℕ) (core : Core) (n : ℕ) (x y : Link) → Waiting program R before paid core x → MovesTimes program n x y → Waiting program R before paid core y
waiting_times program R before paid core zero x y w same = subst (Waiting program R before paid core) (sym same) w
waiting_times program R before paid core (suc n) x y w (z, move, rest) = waiting_times program R before paid core n z y (waiting_move program R before paid core x z w move) rest

-- ---- a machine answers to that key

at_rest : (going : Bool) (mode : Mode) → is_running mode ≡ false → RunsWith going mode
at_rest going Prompt h = tt
at_rest going (Number v n) h = tt
at_rest going (Opened a) h = tt
at_rest going (Typing a v n) h = tt
at_rest going (Running p) h = absurd (cc)

nowhere : (start : ℕ) (mode : Mode) → is_running mode ≡ false → RunsAt start mode
nowhere start Prompt h = tt
nowhere start (Number v n) h = tt
nowhere start (Opened a) h = tt
nowhere start (Typing a v n) h = tt
nowhere start (Running p) h = absurd (cc)

is_stopped : (mode : Mode) → is_running mode ≡ false → IsStopped mode
is_stopped Prompt h = tt
is_stopped (Number v n) h = tt
is_stopped (Opened a) h = tt
is_stopped (Typing a v n) h = tt
is_stopped (Running p) h = absurd (cc)

standing_is : (P : ℕ → Type 0) (going : Bool) (all verified : ℕ) → going ≡ false → ((i : ℕ) → i < verified → P i) → (i : ℕ) → i < (if going then all else verified) → P i
standing_is P true all verified e h i below = absurd (cc)
standing_is P false all verified e h i below = h i below

-- one key was sent for each mishap, and one more
few_lost : (careful : Bool) (spent sent up : ℕ) → spent + 1 ≤ sent → up ≡ 0 → spent + spare careful false + up + 9 * 1 ≤ most_lost careful sent
few_lost true spent sent up few none = omega (arith, few, none)
few_lost false spent sent up few none = omega (arith, few, none)

settles : (program : Program) (R : ℕ → Type 0) (before : List ℕ) (paid : ℕ) (core : Core) (x : Link) → IsHost (record core { phase = Sync 0 }) → core.going ≡ false → Region R before core.plan core.verified → Settling program R before x → core.spent + 1 ≤ core.sent → core.spent + paid ≤ x.lost + 1 → x.machine.stub ≡ None →
    is_running x.machine.odt.mode ≡ false → x.up ≡ [] → Settled program R before paid (record core { phase = Sync 0 }) (record x { down = resynchronise_of core.careful ∷ [] })
settles program R before paid core x host unmarked region s few owed none stopped silent =
    let first : FirstStand core.plan.words core.verified x.machine.odt.memory = first_now R before x.machine.odt.memory core.plan core.verified host.image host.within region s.untouched in record {
      sync = refl;
      unmarked = unmarked;
      still = at_rest false x.machine.odt.mode stopped;
      kept = record {
        machine = s.line.console;
        host = host;
        one_way = (refl, silent);
        few = omega (arith, ap length silent);
        words = standing_is _ core.going (length core.plan.words) core.verified unmarked
            (λ i below. (first.lies i below, merged-Stands (word_nr core.plan.words i) (word_at x.machine.odt.memory (word_nr core.plan.words i).address) (first.stands i below)));
        running = at_rest core.going x.machine.odt.mode stopped;
        at_start = nowhere (start_of core) x.machine.odt.mode stopped;
        cared = λ e. absurd (cc e);
        spent = omega arith;
        characters = few_lost core.careful core.spent core.sent (length x.up) few (ap length silent);
        phase = record { key = (refl, refl, is_stopped x.machine.odt.mode stopped); rest = rest_none x.up silent; paid = tt; facts = tt };
      };
      just = record { stub = none ∙ sym (none_begun program x.machine.odt.memory x.machine.odt.mode stopped); quiet = λ runs. absurd (both x.machine.odt.mode runs stopped) };
      untouched = s.untouched;
      owed = owed;
    }
  where
    both : (mode : Mode) → is_running mode ≡ true → is_running mode ≡ false → ⊥
    both mode e f = cc

    rest_none : (up : List ℕ) → up ≡ [] → RestFits Prompt (rest_of (Sync 0) (site (over (record core { phase = Sync 0 }) (wire_at (record x { down = resynchronise_of core.careful ∷ [] }) core.spent)))) x.machine.odt.mode up
    rest_none up none_up = subst (λ list. RestFits Prompt (rest_of (Sync 0) (site (over (record core { phase = Sync 0 }) (wire_at (record x { down = resynchronise_of core.careful ∷ [] }) core.spent)))) x.machine.odt.mode list) (sym none_up) tt

-- ---- a thing heard

-- behind it the host still waits, or a machine answers
abbrev pub Next' : Program → (ℕ → Type 0) → List ℕ → ℕ → Move → Link → Type 0
Next' program R before paid m v = Waiting program R before paid m.next (sent v (option_to_list m.key)) ⊎ Settled program R before paid m.next (sent v (option_to_list m.key))

-- the host goes on listening
listens_on : (program : Program) (R : ℕ → Type 0) (before : List ℕ) (paid : ℕ) (core : Core) (phase : Phase) (v : Link) → Waiting program R before paid (record core { phase = phase }) v → Next' program R before paid (listens core phase) v
listens_on program R before paid core phase v w = inl (subst (λ down. Waiting program R before paid (record core { phase = phase }) (record v { down = down })) (sym (append-nil v.down)) w)

-- a halt's character is none that answers that key
not_one : (key c d : ℕ) → c ≡ d → (d == key) ≡ false → (d == 63) ≡ false → ((c == key) ≡ false) × ((c == 63) ≡ false)
not_one key c d is a b = (ap (λ n. n == key) is ∙ a, ap (λ n. n == 63) is ∙ b)

halt_is_no_key : (careful : Bool) → ((13 == resynchronise_of careful) ≡ false) × ((10 == resynchronise_of careful) ≡ false) × ((64 == resynchronise_of careful) ≡ false)
halt_is_no_key true = (refl, refl, refl)
halt_is_no_key false = (refl, refl, refl)

halt_no_answer : (careful : Bool) (c : ℕ) → IsHaltCharacter c → ((c == resynchronise_of careful) ≡ false) × ((c == 63) ≡ false)
halt_no_answer careful c (inl digit) = (no_key careful c digit, no_question c digit)
  where
    no_key : (careful : Bool) (c : ℕ) → is_digit c ≡ true → (c == resynchronise_of careful) ≡ false
    no_key true c d = grind (arith, nat_tests)
    no_key false c d = grind (arith, nat_tests)

    no_question : (c : ℕ) → is_digit c ≡ true → (c == 63) ≡ false
    no_question c d = grind (arith, nat_tests)
halt_no_answer careful c (inr (inl is)) = not_one (resynchronise_of careful) c 13 is (halt_is_no_key careful).0 refl
halt_no_answer careful c (inr (inr (inl is))) = not_one (resynchronise_of careful) c 10 is (halt_is_no_key careful).1 refl
halt_no_answer careful c (inr (inr (inr is))) = not_one (resynchronise_of careful) c 64 is (halt_is_no_key careful).2 refl

stray : (careful : Bool) (place c : ℕ) → place ≡ 0 → IsHaltCharacter c → sync_hears careful place c ≡ Stray
stray careful place c none halt =
    let n = halt_no_answer careful c halt in
    ap (λ p. sync_hears careful p c) none ∙ (ap (λ b. synced (if b then On 1 else (if c == 63 then On 2 else Wrong))) n.0 ∙ ap (λ b. synced (if b then On 2 else Wrong)) n.1)

lower : (a b : ℕ) → ltb a b ≡ true → a < b
lower a b e = grind (arith, nat_tests)

-- a mishap, which the next loss pays, or the stub that has halted
strays : (program : Program) (R : ℕ → Type 0) (before : List ℕ) (paid : ℕ) (core : Core) (v : Link) → IsHost (taken core Stray).next → core.going ≡ false → Region R before core.plan core.verified → Settling program R before v → core.spent + 1 ≤ core.sent →
    IsOver v → core.spent + paid ≤ v.lost → Next' program R before paid (taken core Stray) v
strays program R before paid core v host unmarked region s few done owed = by (ltb core.spent core.patience) refl host
  where
    one_more : (spent paid lost : ℕ) → spent + paid ≤ lost → spent + 1 + paid ≤ lost + 1
    one_more spent paid lost le = omega (arith, le)

    used_up : (patience spent paid lost : ℕ) → patience ≤ spent → spent + paid ≤ lost → (spent + paid ≤ lost + 1) × (patience + paid < lost + 1)
    used_up patience spent paid lost all le = (omega (arith, le), omega (arith, all, le))

    by : (test : Bool) → ltb core.spent core.patience ≡ test → IsHost (if test then listens (record core { spent = core.spent + 1 }) Settle else listens core (Ended GaveUp)).next →
        Next' program R before paid (if test then listens (record core { spent = core.spent + 1 }) Settle else listens core (Ended GaveUp)) v
    by true e h = listens_on program R before paid (record core { spent = core.spent + 1 }) Settle v
        (record { host = h; unmarked = unmarked; region = region; settling = s; stands = (few, inr (done, one_more core.spent paid v.lost owed)) })
    by false e h = listens_on program R before paid core (Ended GaveUp) v
        (record { host = h; unmarked = unmarked; region = region; settling = s; stands = used_up core.patience core.spent paid v.lost (not_below core.spent core.patience e) owed })

-- a character is heard: the line is else as it was
pub heard_line : (program : Program) (R : ℕ → Type 0) (before : List ℕ) (x : Link) (rest : List ℕ) → Settling program R before x → Settling program R before (record x { up = rest })
heard_line program R before x rest s = record {
  line = record {
    console = s.line.console;
    stub = s.line.stub;
    down = elim s.line.down [
      | inl for ↦ inl for
      | inr last ↦ inr (record { key = last.key; down = last.down; none = last.none; untouched = last.untouched; console = last.console; stub = last.stub })
    ];
  };
  untouched = s.untouched;
}

owes_heard : (mishaps : ℕ) (x : Link) (rest : List ℕ) → Owes mishaps x → Owes mishaps (record x { up = rest })
owes_heard mishaps x rest (inl paid) = inl paid
owes_heard mishaps x rest (inr (done, paid)) = inr (record { none = done.none; keys = done.keys }, paid)

got : (program : Program) (R : ℕ → Type 0) (before : List ℕ) (paid : ℕ) (core : Core) (phase : Phase) (x : Link) → Waiting program R before paid (record core { phase = phase }) x → (c : ℕ) (rest : List ℕ) → x.up ≡ c ∷ rest →
    Next' program R before paid (move (record core { phase = phase }) (Got c)) (record x { up = rest })
got program R before paid core Settle x w c rest first =
    listens_on program R before paid (record core { phase = Settle }) Settle (record x { up = rest })
    (record { host = w.host; unmarked = w.unmarked; region = w.region; settling = heard_line program R before x rest w.settling; stands = (w.stands.0, owes_heard (core.spent + paid) x rest w.stands.1) })
got program R before paid core (Sync place) x w c rest first = elim w.stands.2 [
  | inl s ↦ absurd (no_first x.up rest c s.silent first)
  | inr s ↦
      let halt : Each IsHaltCharacter (c ∷ rest) = subst (Each IsHaltCharacter) first s.halt in
      let turn : sync_hears core.careful place c ≡ Stray = stray core.careful place c w.stands.0 halt.0 in
      subst (λ t. Next' program R before paid (taken (record core { phase = Sync place }) t) (record x { up = rest })) (sym turn)
      (strays program R before paid (record core { phase = Sync place }) (record x { up = rest })
      (subst (λ t. IsHost (taken (record core { phase = Sync place }) t).next) turn (kept (record core { phase = Sync place }) (Got c) w.host)) w.unmarked w.region (heard_line program R before x rest w.settling) w.stands.1
      (record { none = s.none; keys = subst (Each IsForStub) (sym s.none_down) tt }) s.paid)
]
got program R before paid core (Ended GaveUp) x w c rest first =
    listens_on program R before paid (record core { phase = Ended GaveUp }) (Ended GaveUp) (record x { up = rest })
    (record { host = w.host; unmarked = w.unmarked; region = w.region; settling = heard_line program R before x rest w.settling; stands = w.stands })
got program R before paid core (Ended Loaded) x w c rest first =
    listens_on program R before paid (record core { phase = Ended Loaded }) (Ended Loaded) (record x { up = rest })
    (record { host = w.host; unmarked = w.unmarked; region = w.region; settling = heard_line program R before x rest w.settling; stands = w.stands })
got program R before paid core (Ended Started) x w c rest first = absurd w.stands
got program R before paid core (Ended Uncertain) x w c rest first = absurd w.stands
got program R before paid core (Ended MaybeStarted) x w c rest first = absurd w.stands
got program R before paid core (Ended (NoWord a)) x w c rest first = absurd w.stands
got program R before paid core (Ended (WontHold a)) x w c rest first = absurd w.stands
got program R before paid core (Address visit place) x w c rest first = absurd w.stands
got program R before paid core (Slash visit) x w c rest first = absurd w.stands
got program R before paid core (Before visit) x w c rest first = absurd w.stands
got program R before paid core (Value visit value place) x w c rest first = absurd w.stands
got program R before paid core (Deposit deposit value place) x w c rest first = absurd w.stands
got program R before paid core (Return why place) x w c rest first = absurd w.stands
got program R before paid core (Start place) x w c rest first = absurd w.stands
got program R before paid core Go x w c rest first = absurd w.stands

-- while a stub runs losses pay for all
runs_owes : (mishaps : ℕ) (x : Link) (stub : Stub) → x.machine.stub ≡ Some stub → Owes mishaps x → mishaps ≤ x.lost
runs_owes mishaps x stub is (inl paid) = paid
runs_owes mishaps x stub is (inr (done, paid)) = absurd (clash x.machine.stub is done.none)
  where
    clash : (o : Option Stub) → o ≡ Some stub → o ≡ None → ⊥
    clash o e f = absurd (cc (sym e ∙ f))

owes_one : (mishaps : ℕ) (x : Link) → Owes mishaps x → mishaps ≤ x.lost + 1
owes_one mishaps x (inl paid) = omega (arith, paid)
owes_one mishaps x (inr (done, paid)) = paid

is_resynchronising : (careful : Bool) → IsResynchronising (resynchronise_of careful)
is_resynchronising true = inr refl
is_resynchronising false = inl refl

-- the key that resynchronises is sent over a silent line: a stub will take it, or a machine answers
z_sent : (program : Program) (R : ℕ → Type 0) (before : List ℕ) (paid : ℕ) (core : Core) (v : Link) (stub : Option Stub) → v.machine.stub ≡ stub → IsHost (record core { phase = Sync 0 }) → core.going ≡ false → Region R before core.plan core.verified → Settling program R before v → core.spent + 1 ≤ core.sent → Owes (core.spent + paid) v → v.down ≡ [] → v.up ≡ [] →
    Waiting program R before paid (record core { phase = Sync 0 }) (sent v (resynchronise_of core.careful ∷ [])) ⊎ Settled program R before paid (record core { phase = Sync 0 }) (sent v (resynchronise_of core.careful ∷ []))
z_sent program R before paid core v (Some stub) is host unmarked region s few owes none silent =
    subst (λ (down : List ℕ). Waiting program R before paid (record core { phase = Sync 0 }) (record v { down = down ++ resynchronise_of core.careful ∷ [] }) ⊎ Settled program R before paid (record core { phase = Sync 0 }) (record v { down = down ++ resynchronise_of core.careful ∷ [] })) (sym none)
    (inl (record {
      host = host;
      unmarked = unmarked;
      region = region;
      settling = record { line = record { console = s.line.console; stub = s.line.stub; down = inl (inr (is_resynchronising core.careful), tt) }; untouched = s.untouched };
      stands = (refl, few, inl (record { stub = stub; runs = is; silent = silent; down = inr (refl, runs_owes (core.spent + paid) v stub is owes) }));
    }))
z_sent program R before paid core v None is host unmarked region s few owes none silent =
    subst (λ (down : List ℕ). Waiting program R before paid (record core { phase = Sync 0 }) (record v { down = down ++ resynchronise_of core.careful ∷ [] }) ⊎ Settled program R before paid (record core { phase = Sync 0 }) (record v { down = down ++ resynchronise_of core.careful ∷ [] })) (sym none)
    (inr (settles program R before paid core v host unmarked region s few (owes_one (core.spent + paid) v owes) is (subst (MayFill R v.machine.odt.mode) is s.line.stub) silent))

quiet : (program : Program) (R : ℕ → Type 0) (before : List ℕ) (paid : ℕ) (core : Core) (phase : Phase) (x : Link) → Waiting program R before paid (record core { phase = phase }) x → x.down ≡ [] → x.up ≡ [] → Next' program R before paid (move (record core { phase = phase }) Silence) x
quiet program R before paid core Settle x w none silent =
    z_sent program R before paid (record core { sent = core.sent + 1; phase = Sync 0 }) x x.machine.stub refl (kept (record core { phase = Settle }) Silence w.host) w.unmarked w.region w.settling (let few = w.stands.0 in omega (arith, few)) w.stands.1 none silent
quiet program R before paid core (Sync place) x w none silent = by (ltb core.spent core.patience) refl (kept (record core { phase = Sync place }) Silence w.host)
  where
    -- a key that was lost pays for its mishap, or the stub that has halted does
    owed : Sounding core.careful (core.spent + paid) x ⊎ Stopped (core.spent + paid) x → Owes (core.spent + 1 + paid) x
    owed (inl s) = elim s.down [ inl lost ↦ inl (one_more core.spent paid x.lost lost.1) | inr under_way ↦ absurd (no_first x.down [] (resynchronise_of core.careful) none under_way.0) ]
      where
        one_more : (spent paid lost : ℕ) → spent + paid + 1 ≤ lost → spent + 1 + paid ≤ lost
        one_more spent paid lost le = omega (arith, le)
    owed (inr s) = inr (record { none = s.none; keys = subst (Each IsForStub) (sym s.none_down) tt }, one_more core.spent paid x.lost s.paid)
      where
        one_more : (spent paid lost : ℕ) → spent + paid ≤ lost → spent + 1 + paid ≤ lost + 1
        one_more spent paid lost le = omega (arith, le)

    used_up : (patience spent paid lost : ℕ) → patience ≤ spent → spent + paid ≤ lost → (spent + paid ≤ lost + 1) × (patience + paid < lost + 1)
    used_up patience spent paid lost all le = (omega (arith, le), omega (arith, all, le))

    enough : Sounding core.careful (core.spent + paid) x ⊎ Stopped (core.spent + paid) x → core.spent + paid ≤ x.lost
    enough (inl s) = elim s.down [ inl lost ↦ (let le = lost.1 in omega (arith, le)) | inr under_way ↦ under_way.1 ]
    enough (inr s) = s.paid

    by : (test : Bool) → ltb core.spent core.patience ≡ test → IsHost (if test then sends (record core { spent = core.spent + 1; phase = Sync place }) (resynchronise_of core.careful) (Sync 0) else listens (record core { phase = Sync place }) (Ended GaveUp)).next →
        Next' program R before paid (if test then sends (record core { spent = core.spent + 1; phase = Sync place }) (resynchronise_of core.careful) (Sync 0) else listens (record core { phase = Sync place }) (Ended GaveUp)) x
    by true e h = z_sent program R before paid (record core { spent = core.spent + 1; sent = core.sent + 1; phase = Sync 0 }) x x.machine.stub refl h w.unmarked w.region w.settling (let few = w.stands.1 in omega (arith, few)) (owed w.stands.2) none silent
    by false e h = listens_on program R before paid (record core { phase = Sync place }) (Ended GaveUp) x
        (record { host = h; unmarked = w.unmarked; region = w.region; settling = w.settling; stands = used_up core.patience core.spent paid x.lost (not_below core.spent core.patience e) (enough w.stands.2) })
quiet program R before paid core (Ended GaveUp) x w none silent = listens_on program R before paid (record core { phase = Ended GaveUp }) (Ended GaveUp) x w
quiet program R before paid core (Ended Loaded) x w none silent = listens_on program R before paid (record core { phase = Ended Loaded }) (Ended Loaded) x w
quiet program R before paid core (Ended Started) x w none silent = absurd w.stands
quiet program R before paid core (Ended Uncertain) x w none silent = absurd w.stands
quiet program R before paid core (Ended MaybeStarted) x w none silent = absurd w.stands
quiet program R before paid core (Ended (NoWord a)) x w none silent = absurd w.stands
quiet program R before paid core (Ended (WontHold a)) x w none silent = absurd w.stands
quiet program R before paid core (Address visit place) x w none silent = absurd w.stands
quiet program R before paid core (Slash visit) x w none silent = absurd w.stands
quiet program R before paid core (Before visit) x w none silent = absurd w.stands
quiet program R before paid core (Value visit value place) x w none silent = absurd w.stands
quiet program R before paid core (Deposit deposit value place) x w none silent = absurd w.stands
quiet program R before paid core (Return why place) x w none silent = absurd w.stands
quiet program R before paid core (Start place) x w none silent = absurd w.stands
quiet program R before paid core Go x w none silent = absurd w.stands

pub heard_waiting : (program : Program) (R : ℕ → Type 0) (before : List ℕ) (paid : ℕ) (core : Core) (what : Heard) (x v : Link) → Waiting program R before paid core x → Gives x what v → Next' program R before paid (move core what) v
heard_waiting program R before paid core (Got c) x v w (rest, first, now) = subst (Next' program R before paid (move core (Got c))) (sym now) (got program R before paid core core.phase x w c rest first)
heard_waiting program R before paid core Silence x v w (none, silent, now) = subst (Next' program R before paid (move core Silence)) (sym now) (quiet program R before paid core core.phase x w none silent)

-- what is typed while the host waits: the key that resynchronises alone
abbrev OnlyZ : Bool → Option ℕ → Type 0
OnlyZ careful None = Unit {0}
OnlyZ careful (Some c) = c ≡ resynchronise_of careful

-- ---- which keys are typed

z_only : (program : Program) (core : Core) (phase : Phase) (what : Heard) (R : ℕ → Type 0) (before : List ℕ) (paid : ℕ) (x v : Link) → Waiting program R before paid (record core { phase = phase }) x → Gives x what v → OnlyZ core.careful (move (record core { phase = phase }) what).key
z_only program core Settle (Got c) R before paid x v w gives = tt
z_only program core Settle Silence R before paid x v w gives = refl
z_only program core (Sync place) (Got c) R before paid x v w (rest, first, now) = elim w.stands.2 [
  | inl s ↦ absurd (no_first x.up rest c s.silent first)
  | inr s ↦
      let halt : Each IsHaltCharacter (c ∷ rest) = subst (Each IsHaltCharacter) first s.halt in
      subst (λ t. OnlyZ core.careful (taken (record core { phase = Sync place }) t).key) (sym (stray core.careful place c w.stands.0 halt.0))
      (on_move (λ m. OnlyZ core.careful m.key) (ltb core.spent core.patience) (listens (record core { spent = core.spent + 1; phase = Sync place }) Settle) (listens (record core { phase = Sync place }) (Ended GaveUp)) (λ _. tt) (λ _. tt))
]
z_only program core (Sync place) Silence R before paid x v w gives =
    on_move (λ m. OnlyZ core.careful m.key) (ltb core.spent core.patience) (sends (record core { spent = core.spent + 1; phase = Sync place }) (resynchronise_of core.careful) (Sync 0)) (listens (record core { phase = Sync place }) (Ended GaveUp)) (λ _. refl) (λ _. tt)
z_only program core (Ended GaveUp) (Got c) R before paid x v w gives = tt
z_only program core (Ended GaveUp) Silence R before paid x v w gives = tt
z_only program core (Ended Loaded) (Got c) R before paid x v w gives = tt
z_only program core (Ended Loaded) Silence R before paid x v w gives = tt
z_only program core (Ended Started) what R before paid x v w gives = absurd w.stands
z_only program core (Ended Uncertain) what R before paid x v w gives = absurd w.stands
z_only program core (Ended MaybeStarted) what R before paid x v w gives = absurd w.stands
z_only program core (Ended (NoWord a)) what R before paid x v w gives = absurd w.stands
z_only program core (Ended (WontHold a)) what R before paid x v w gives = absurd w.stands
z_only program core (Address visit place) what R before paid x v w gives = absurd w.stands
z_only program core (Slash visit) what R before paid x v w gives = absurd w.stands
z_only program core (Before visit) what R before paid x v w gives = absurd w.stands
z_only program core (Value visit value place) what R before paid x v w gives = absurd w.stands
z_only program core (Deposit deposit value place) what R before paid x v w gives = absurd w.stands
z_only program core (Return why place) what R before paid x v w gives = absurd w.stands
z_only program core (Start place) what R before paid x v w gives = absurd w.stands
z_only program core Go what R before paid x v w gives = absurd w.stands

no_go : (careful : Bool) (c : ℕ) → c ≡ resynchronise_of careful → c ≡ 71 → ⊥
no_go true c a b = absurd (omega (arith, a, b))
no_go false c a b = absurd (omega (arith, a, b))

ends_behind : (careful : Bool) (key : Option ℕ) (keys : List ℕ) → OnlyZ careful key → EndsAtGo keys → EndsAtGo (option_to_list key ++ keys)
ends_behind careful None keys z h = h
ends_behind careful (Some c) keys z h = (λ go. absurd (no_go careful c z go), h)

contains_behind : (careful : Bool) (key : Option ℕ) (keys : List ℕ) → OnlyZ careful key → Contains (option_to_list key ++ keys) 71 → Contains keys 71
contains_behind careful None keys z h = h
contains_behind careful (Some c) keys z (zero, below, is) = absurd (no_go careful c z is)
contains_behind careful (Some c) keys z (suc k, below, is) = (k, omega (arith, below), is)

more_behind : (key : Option ℕ) (keys : List ℕ) → Contains keys 71 → Contains (option_to_list key ++ keys) 71
more_behind None keys h = h
more_behind (Some c) keys (k, below, is) = (suc k, omega (arith, below), is)

-- ---- what comes of it

-- the same for any bytes that a stub may change
record SafeBut (R : ℕ → Type 0) (before : List ℕ) (core : Core) (now : List ℕ) : Type 0 where
  pub verified : FirstStand core.plan.words core.verified now
  pub size : length now ≡ length before
  pub outside : (b : ℕ) → b < top_of before → (R b → ⊥) → get core.plan.image b ≡ None → byte_of now b ≡ byte_of before b
  pub going : core.going ≡ true → FirstStand core.plan.words (length core.plan.words) now

-- what comes of a host that hears these things
record Came (program : Program) (R : ℕ → Type 0) (before : List ℕ) (paid : ℕ) (core : Core) (keys : List ℕ) (y : Link) : Type 0 where
  pub safe : SafeBut R before core y.machine.odt.memory
  pub last : EndsAtGo keys
  pub marked : Contains keys 71 → core.going ≡ true
  pub typed : core.going ≡ true → Contains keys 71
  pub started : core.phase ≡ Ended Started → HasStarted program core y
  pub leaves : (IsUnsettled program R y × (core.going ≡ false) × ((i : ℕ) → i < core.verified → (b : ℕ) → gives (word_nr core.plan.words i) b ≡ true → R b → ⊥)) ⊎ IsInOrder program core y
  pub spent : core.spent + paid ≤ y.lost + 1
  pub cause : HasCause core.phase y.machine.odt.memory core.patience core.spent (y.lost + 1 - paid)

unset : (going : Bool) → going ≡ false → going ≡ true → ⊥
unset going e f = absurd (cc (sym e ∙ f))

not_started : (careful : Bool) (phase : Phase) (patience paid spent used : ℕ) (y : Link) → Waits careful phase patience paid spent used y → phase ≡ Ended Started → ⊥
not_started careful phase patience paid spent used y w e = subst (λ p. Waits careful p patience paid spent used y) e w

-- what is paid while the host waits
waits_paid : (careful : Bool) (phase : Phase) (patience paid spent used : ℕ) (memory : List ℕ) (y : Link) → Waits careful phase patience paid spent used y → (spent + paid ≤ y.lost + 1) × HasCause phase memory patience spent (y.lost + 1 - paid)
waits_paid careful Settle patience paid spent used memory y w = (owes_one (spent + paid) y w.1, tt)
waits_paid careful (Sync place) patience paid spent used memory y w = (
  elim w.2 [
    | inl s ↦ elim s.down [ inl lost ↦ (let le = lost.1 in omega (arith, le)) | inr under_way ↦ (let le = under_way.1 in omega (arith, le)) ]
    | inr s ↦ (let le = s.paid in omega (arith, le))
  ],
  tt,
)
waits_paid careful (Ended GaveUp) patience paid spent used memory y w = (w.0, let one = w.1 in omega (arith, one))
waits_paid careful (Ended Loaded) patience paid spent used memory y w = (w, tt)
waits_paid careful (Ended Started) patience paid spent used memory y w = absurd w
waits_paid careful (Ended Uncertain) patience paid spent used memory y w = absurd w
waits_paid careful (Ended MaybeStarted) patience paid spent used memory y w = absurd w
waits_paid careful (Ended (NoWord a)) patience paid spent used memory y w = absurd w
waits_paid careful (Ended (WontHold a)) patience paid spent used memory y w = absurd w
waits_paid careful (Address visit place) patience paid spent used memory y w = absurd w
waits_paid careful (Slash visit) patience paid spent used memory y w = absurd w
waits_paid careful (Before visit) patience paid spent used memory y w = absurd w
waits_paid careful (Value visit value place) patience paid spent used memory y w = absurd w
waits_paid careful (Deposit deposit value place) patience paid spent used memory y w = absurd w
waits_paid careful (Return why place) patience paid spent used memory y w = absurd w
waits_paid careful (Start place) patience paid spent used memory y w = absurd w
waits_paid careful Go patience paid spent used memory y w = absurd w

-- more losses are a cause as well
end_paid : (end : End) (memory : List ℕ) (patience spent lost more : ℕ) → lost ≤ more → EndIsPaid end memory patience spent lost → EndIsPaid end memory patience spent more
end_paid GaveUp memory patience spent lost more le p = omega (arith, le, p)
end_paid Uncertain memory patience spent lost more le p = omega (arith, le, p)
end_paid (NoWord a) memory patience spent lost more le p = p
end_paid (WontHold a) memory patience spent lost more le p = p
end_paid Loaded memory patience spent lost more le p = tt
end_paid Started memory patience spent lost more le p = tt
end_paid MaybeStarted memory patience spent lost more le p = tt

pub has_cause : (phase : Phase) (memory : List ℕ) (patience spent lost more : ℕ) → lost ≤ more → HasCause phase memory patience spent lost → HasCause phase memory patience spent more
has_cause (Ended end) memory patience spent lost more le h = end_paid end memory patience spent lost more le h
has_cause Settle memory patience spent lost more le h = tt
has_cause (Sync place) memory patience spent lost more le h = tt
has_cause (Address visit place) memory patience spent lost more le h = tt
has_cause (Slash visit) memory patience spent lost more le h = tt
has_cause (Before visit) memory patience spent lost more le h = tt
has_cause (Value visit value place) memory patience spent lost more le h = tt
has_cause (Deposit deposit value place) memory patience spent lost more le h = tt
has_cause (Return why place) memory patience spent lost more le h = tt
has_cause (Start place) memory patience spent lost more le h = tt
has_cause Go memory patience spent lost more le h = tt

-- all words stand under the mark
all_stand : (core : Core) (y : Link) (lost : ℕ) → IsKept (over core (wire_at y lost)) → core.going ≡ true → FirstStand core.plan.words (length core.plan.words) y.machine.odt.memory
all_stand core y lost k set = record {
  lies = λ i below. (there i below).0;
  stands = λ i below. Stands-unchanged (word_nr core.plan.words i) (word_at y.machine.odt.memory (word_nr core.plan.words i).address) (there i below).1;
}
  where
    every : (P : ℕ → Type 0) (going : Bool) (all verified : ℕ) → going ≡ true → ((i : ℕ) → i < (if going then all else verified) → P i) → (i : ℕ) → i < all → P i
    every P true all verified e h i below = h i below
    every P false all verified e h i below = absurd (cc)

    there : (i : ℕ) → i < length core.plan.words → IsThere (site_of (over core (wire_at y lost)) i)
    there i below = every (λ j. IsThere (site_of (over core (wire_at y lost)) j)) core.going (length core.plan.words) core.verified set k.words i below

came_waiting : (program : Program) (R : ℕ → Type 0) (before : List ℕ) (paid : ℕ) (core : Core) (y : Link) → Waiting program R before paid core y → Came program R before paid core [] y
came_waiting program R before paid core y w = record {
  safe = record {
    verified = first_now R before y.machine.odt.memory core.plan core.verified w.host.image w.host.within w.region w.settling.untouched;
    size = w.settling.untouched.size;
    outside = λ b low not none. w.settling.untouched.bytes b not;
    going = λ set. absurd (unset core.going w.unmarked set);
  };
  last = tt;
  marked = λ h. absurd (omega (arith, h.1));
  typed = λ set. absurd (unset core.going w.unmarked set);
  started = λ e. absurd (not_started core.careful core.phase core.patience paid core.spent core.sent y w.stands e);
  leaves = inl (w.settling.line, w.unmarked, w.region.others);
  spent = (waits_paid core.careful core.phase core.patience paid core.spent core.sent y.machine.odt.memory y w.stands).0;
  cause = (waits_paid core.careful core.phase core.patience paid core.spent core.sent y.machine.odt.memory y w.stands).1;
}

came_settled : (program : Program) (R : ℕ → Type 0) (before : List ℕ) (paid : ℕ) (core : Core) (things : List Heard) (x y : Link) → Settled program R before paid core x → Passes program x (dialogue core things) y →
    Came program R before paid (led core things) (replay core things) y
came_settled program R before paid core things x y s passes =
    let w : Scene = over core (wire_at x core.spent) in
    let m : IsMirrored program x core.spent (dialogue core things) y = mirrored program things core x y core.spent s.just s.kept passes in
    let last : Core = led core things in
    let end : Scene = over last (wire_at y m.lost') in
    let run : Leads w (replay core things) end = dialogue_leads things core (wire_at x core.spent) (wire_at y m.lost') m.crosses in
    let order : IsKept end = subst IsKept run.world (kept_events w run.events s.kept) in
    let starts : StartsOnce core last (replay core things) = subst (λ keys. StartsOnce core last keys) run.keys_are (subst (λ (z : Scene). StartsOnce core z.core (typed w run.events)) run.world (starts_events w run.events s.kept)) in
    let safe : IsSafe x.machine.odt.memory last y.machine.odt.memory = subst (λ (z : Scene). IsSafe x.machine.odt.memory z.core z.machine.memory) run.world (safe_events w run.events s.kept) in
    let rest : StartedRests end = subst StartedRests run.world (rests_events w run.events s.kept (λ calm e. absurd (not_now core.phase s.sync e))) in
    record {
      safe = record {
        verified = safe.verified;
        size = safe.bytes.size ∙ s.untouched.size;
        outside = λ b low not none. same_or (get last.plan.image b) (byte_of y.machine.odt.memory b) (byte_of x.machine.odt.memory b) none (safe.bytes.bytes b (let size = s.untouched.size in omega (arith, low, size))) ∙ s.untouched.bytes b not;
        going = λ set. all_stand last y m.lost' order set;
      };
      last = starts.last;
      marked = λ h. (starts.marked.0 h).1;
      typed = λ set. starts.marked.1 (s.unmarked, set);
      started = λ e. let r : AtRest end = rest refl e in record {
        all = all_stand last y m.lost' order (going_at last.phase (basis_of last) (inr e) order.host.fits);
        none_down = r.none_down;
        silent = r.silent;
        console = order.machine;
        runs = r.runs;
        stub = m.just.stub ∙ ap (begins program false y.machine.odt.memory) r.runs;
      };
      leaves = inr (record { lost = m.lost'; kept = order; just = m.just; from_start = runs_from (start_of last) y.machine.odt.mode order.at_start });
      spent = paid_by last.spent m.lost' core.spent x.lost y.lost paid order.spent m.losses s.owed;
      cause = has_cause last.phase y.machine.odt.memory last.patience last.spent m.lost' (y.lost + 1 - paid) (within_by m.lost' core.spent x.lost y.lost paid m.losses s.owed) (tame_of end order).cause;
    }
  where
    paid_by : (last lost' spent lost now paid : ℕ) → last ≤ lost' → lost' + lost ≡ spent + now → spent + paid ≤ lost + 1 → last + paid ≤ now + 1
    paid_by last lost' spent lost now paid le sum owed = omega (arith, le, sum, owed)

    within_by : (lost' spent lost now paid : ℕ) → lost' + lost ≡ spent + now → spent + paid ≤ lost + 1 → lost' ≤ now + 1 - paid
    within_by lost' spent lost now paid sum owed = omega (arith, sum, owed)

    not_now : (phase : Phase) → phase ≡ Sync 0 → phase ≡ Ended Started → ⊥
    not_now phase a b = absurd (clash (sym a ∙ b))
      where
        clash : Sync 0 ≡ Ended Started → ⊥
        clash e = absurd (cc e)

    same_or : (o : Option ℕ) (now old : ℕ) → o ≡ None → (now ≡ old) ⊎ (o ≡ Some now) → now ≡ old
    same_or o now old none (inl same) = same
    same_or o now old none (inr some) = absurd (cc (sym none ∙ some))

came : (program : Program) (R : ℕ → Type 0) (before : List ℕ) (paid : ℕ) (things : List Heard) (core : Core) (x y : Link) → Waiting program R before paid core x → Passes program x (dialogue core things) y → Came program R before paid (led core things) (replay core things) y
came program R before paid [] core x y w moves = came_waiting program R before paid core y (waiting_times program R before paid core moves.0 x y w moves.1)
came program R before paid (what ∷ things) core x y w (z, v, moved, gives, passes) =
    let there : Waiting program R before paid core z = waiting_times program R before paid core moved.0 x z w moved.1 in
    let key : Option ℕ = (move core what).key in
    let next : Core = (move core what).next in
    let rest : Passes program (sent v (option_to_list key)) (dialogue next things) y = passing_said (Moves program) key (dialogue next things) v y passes in
    let only : OnlyZ core.careful key = z_only program core core.phase what R before paid z v there gives in
    let later : Came program R before paid (led next things) (replay next things) y = elim (heard_waiting program R before paid core what z v there gives) [
      | inl waits ↦ came program R before paid things next (sent v (option_to_list key)) y waits rest
      | inr settled ↦ came_settled program R before paid next things (sent v (option_to_list key)) y settled rest
    ] in record {
      safe = later.safe;
      last = ends_behind core.careful key (replay next things) only later.last;
      marked = λ h. later.marked (contains_behind core.careful key (replay next things) only h);
      typed = λ set. more_behind key (replay next things) (later.typed set);
      started = later.started;
      leaves = later.leaves;
      spent = later.spent;
      cause = later.cause;
    }

-- ---- the law

begins_waiting : (careful : Bool) (plan : PlanValue) (k patience : ℕ) (x : Link) → Waits careful (begun_by careful plan k false patience).phase patience x.lost 0 0 x
begins_waiting careful plan k patience x = by (k == length plan.words && is_none plan.start)
  where
    by : (test : Bool) → Waits careful (if test then Ended Loaded else Settle) patience x.lost 0 0 x
    by true = omega arith
    by false = (omega arith, inl (omega arith))

pub waiting_at_first : (program : Program) (R : ℕ → Type 0) (careful : Bool) (plan : PlanValue) (k patience : ℕ) (x : Link) → IsHost (begun_by careful plan k false patience) → Region R x.machine.odt.memory plan k → IsUnsettled program R x →
    Waiting program R x.machine.odt.memory x.lost (begun_by careful plan k false patience) x
waiting_at_first program R careful plan k patience x host region line = record {
  host = host;
  unmarked = refl;
  region = region;
  settling = record { line = line; untouched = untouched_same R x.machine.odt.memory };
  stands = begins_waiting careful plan k patience x;
}

pub hosts_recover : HostsRecover
hosts_recover at core things y may passes =
    let x = at.found in
    let waits : Waiting at.program (IsLaterAt at) x.machine.odt.memory x.lost core x =
    subst (λ c. Waiting at.program (IsLaterAt at) x.machine.odt.memory x.lost c x) (sym may.at_first)
    (waiting_at_first at.program (IsLaterAt at) core.careful core.plan core.verified core.patience x (subst IsHost may.at_first may.host) (record { others = may.beside; first = may.stand }) may.line) in
    let c = came at.program (IsLaterAt at) x.machine.odt.memory x.lost things core x y waits passes in record {
      safe = record { verified = c.safe.verified; size = c.safe.size; outside = c.safe.outside; going = c.safe.going };
      last = subst EndsAtGo (sym (keys_of-dialogue things core)) c.last;
      marked = λ h. c.marked (subst (λ keys. Contains keys 71) (keys_of-dialogue things core) h);
      typed = λ set. subst (λ keys. Contains keys 71) (sym (keys_of-dialogue things core)) (c.typed set);
      started = c.started;
      leaves = c.leaves;
      paid = record { spent = let le = c.spent in omega (arith, le); cause = c.cause };
    }
