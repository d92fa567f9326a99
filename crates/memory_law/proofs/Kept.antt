-- What lasts while a test goes over a line: the loading host's invariant, and what memory is beside what it was.
use Rattle.std.proofs.Common.{◌≡◌, ℕ, zero, suc, ◌+◌, ◌-◌, ◌<◌, ◌≤◌, Bool, true, false, ◌==◌, ltb, nat_lt, if◌then◌else◌, List, [], ◌∷◌, ◌++◌, length, get_or, Some, None, unwrap_or, inl, inr, refl, arith, ap, sym, subst, ◌∙◌}
use Rattle.std.specs.Prelude.{◌⊎◌, option_to_list}
use Rattle.std.proofs.lemmas.Bool.Decides.{nat_tests}
use Rattle.std.proofs.lemmas.List.{get_or_push, get_or_append_left, length_push}
use Rattle.octal.specs.Octal.{digit_of}
use Rattle.tape_image.specs.Word.{WordValue, merged}
use Rattle.odt_machine.specs.KeyTable.{take_of}
use Rattle.odt_machine.specs.Machine.{Machine, IsWide, is_word, word_at, stored}
use Rattle.host_core.specs.declared.heard.Heard.{Heard}
use Rattle.host_core.specs.declared.heard.Heard.TheVariants.{Got, Quiet as Silence}
use Rattle.memory_core.specs.declared.phase.Visit.{Visit}
use Rattle.memory_core.specs.declared.phase.Visit.TheVariants.{Look, Check}
use Rattle.host_core.specs.declared.phase.Try.TheVariants.{Only}
use Rattle.host_core.specs.declared.phase.Phase.TheVariants.{Value as LoadValue, Deposit as LoadDeposit, Return as LoadReturn}
use Rattle.host_core.specs.declared.phase.Reason.TheVariants.{Close as Closes}
use Rattle.host_core.specs.Core.{Core, word_nr}
use Rattle.host_core.specs.PhaseTable.{move}
use Rattle.line_world.specs.declared.event.Event.TheVariants.{Take, Hear, LoseDown, LoseUp, Quiet}
use Rattle.line_world.specs.Scene.{Scene, over}
use Rattle.line_world.specs.Wire.{Wire, with_answer, without_down, without_up, heard, sent}
use Rattle.line_world.specs.World.{loading, takes}
use Rattle.line_world.specs.Site.{ground}
use Rattle.line_world.specs.Invariant.{IsKept, OneWay}
use Rattle.line_world.proofs.Events.{kept_event}
use Rattle.line_world.proofs.Keys.{Stores}
use Rattle.line_world.proofs.Stores.{same_or}
use Rattle.line_world.proofs.Taking.{key_takes}
use Rattle.honest_line.specs.Moves.{Moves, MovesTimes, MovesOn, Gives, Passes}
use Rattle.honest_line.proofs.Leading.{hearing, waiting}
use Rattle.honest_line.proofs.Passings.{passing_said}
use Rattle.looking_law.proofs.Saying.{plan_for, words_for, word_for, merged_for}
use Rattle.memory_core.specs.declared.phase.Phase.TheVariants.{Value}
use Rattle.memory_core.specs.declared.seen.Readings.{Readings}
use Rattle.memory_core.specs.declared.seen.Seen.{Seen}
use Rattle.memory_core.specs.declared.seen.Seen.TheVariants.{Unsteady, Tested}
use Rattle.memory_core.specs.declared.stage.Stage.{Stage}
use Rattle.memory_core.specs.declared.stage.Stage.TheVariants.{Unseen, Once, Turned, Returned}
use Rattle.memory_core.specs.declared.turn.Turn.TheVariants.{LooksAgain, Deposits, Counts}
use Rattle.memory_core.specs.Invariant.{IsTester, PhaseFits, VisitFits, basis_of}
use Rattle.memory_core.specs.Laws.{led}
use Rattle.memory_core.specs.MemoryTable.{TesterStep, ask, taken, turn_of, read, second_look}
use Rattle.memory_core.specs.Stage.{complement, number_of, AreNumbers, IsTouched}
use Rattle.memory_core.specs.Tester.{Tester, address_under_way}
use Rattle.memory_core.proofs.Lives.{asked}
use Rattle.memory_core.proofs.Turns.{kept as tester_kept}
use Rattle.memory_law.specs.Testing.{dialogue, IsTrueOf}
use Rattle.memory_law.proofs.Ahead.{ahead, ahead_asked, ahead_is, only_ahead, stored_own, stored_twice, stored_there, stored_wide}
use Rattle.memory_law.proofs.Mirror.{Account, Follows, IsPlain, IsWhole, core_for, scene_for, given, phase_for, follows, plain_or_whole, plain_silence}
use Rattle.memory_law.proofs.Switches.{HasRead, at_word, has_read, deposit_kept, close_kept, calm, scene, visit_for}

-- ---- what memory is

-- a word is borrowed: what it held is known, and any number may stand in its place
pub record IsBorrowed (memory : List ℕ) (address old : ℕ) (now : List ℕ) : Type 0 where
  pub lies : is_word memory address ≡ true
  pub held : old ≡ word_at memory address
  pub number : ℕ
  pub stands : now ≡ stored memory address number

-- memory beside what it was, by what is known of the word under way
abbrev pub MemoryIs : List ℕ → ℕ → Stage → List ℕ → Type 0
MemoryIs memory address Unseen now = now ≡ memory
MemoryIs memory address (Once first) now = (now ≡ memory) × (first ≡ word_at memory address)
MemoryIs memory address (Turned old) now = IsBorrowed memory address old now
MemoryIs memory address (Returned old turned) now = IsBorrowed memory address old now × (turned ≡ complement old)

-- the losses and mishaps before the last deposit, and those since
pub record AreCounted (t : Tester) (x : Wire) (a : Account) : Type 0 where
  pub spent_before : ℕ
  pub lost_before : ℕ
  pub spent : t.spent ≡ spent_before + a.spent
  pub patience : t.patience ≡ spent_before + a.patience
  pub lost : x.lost ≡ lost_before + a.lost
  pub paid : spent_before ≤ lost_before

-- what was read of each word that counts as tested is true
abbrev pub AreTrue : List ℕ → Tester → Type 0
AreTrue memory t = (i : ℕ) (other : Seen) → i < length t.seen → IsTrueOf memory (get_or t.addresses i 0) (get_or t.seen i other)

pub record IsKeptTest (memory : List ℕ) (t : Tester) (x : Wire) : Type 0 where
  pub account : Account
  pub kept : IsKept (scene_for memory t account x)
  pub tester : IsTester t
  pub counted : AreCounted t x account
  pub memory_is : MemoryIs memory (address_under_way t) t.stage x.machine.memory
  pub words : AreTrue memory t
  pub wide : IsWide memory

-- ---- moves

taking : (core : Core) (x : Wire) (c : ℕ) (rest down : List ℕ) → down ≡ c ∷ rest → unwrap_or (takes (over core x) down) (over core x) ≡ over core (with_answer x rest (take_of x.machine c))
taking core x c rest down is = rw is refl

losing : (w next : Scene) (k n : ℕ) → k < n → unwrap_or (if ltb k n then Some next else None) w ≡ next
losing w next k n below = here (ltb k n) (under k n below)
  where
    under : (k n : ℕ) → k < n → ltb k n ≡ true
    under k n below = grind (arith, nat_tests)

    here : (test : Bool) → test ≡ true → unwrap_or (if test then Some next else None) w ≡ next
    here true e = refl
    here false e = absurd (cc e)

one_more_lost : (before n : ℕ) → before + n + 1 ≡ before + (n + 1)
one_more_lost before n = omega arith

-- a word that is borrowed is stored to
stored_again : (memory : List ℕ) (a old : ℕ) (other now now' : List ℕ) → IsBorrowed memory a old now → now' ≡ stored now a (word_at other a) → IsBorrowed memory a old now'
stored_again memory a old other now now' at stores = record {
  lies = at.lies;
  held = at.held;
  number = word_at other a;
  stands = stores ∙ (ap (λ m. stored m a (word_at other a)) at.stands ∙ stored_twice memory a at.number (word_at other a));
}

stored_by_stage : (memory : List ℕ) (a : ℕ) (stage : Stage) (other now now' : List ℕ) → other ≡ given memory a stage → MemoryIs memory a stage now → now' ≡ stored now a (word_at other a) → MemoryIs memory a stage now'
stored_by_stage memory a Unseen other now now' same at stores =
    stores ∙ (ap (λ m. stored now a (word_at m a)) (same ∙ sym at) ∙ (stored_own now a ∙ at))
stored_by_stage memory a (Once first) other now now' same at stores =
    (stores ∙ (ap (λ m. stored now a (word_at m a)) (same ∙ sym at.0) ∙ (stored_own now a ∙ at.0)), at.1)
stored_by_stage memory a (Turned old) other now now' same at stores = stored_again memory a old other now now' at stores
stored_by_stage memory a (Returned old turned) other now now' same at stores = (stored_again memory a old other now now' at.0 stores, at.1)

-- a store of the plan's word
stored_is : (memory now' : List ℕ) (t : Tester) (m : Machine) → MemoryIs memory (address_under_way t) t.stage m.memory →
    Stores (record { machine = m; plan = plan_for (given memory (address_under_way t) t.stage) (ahead t); going = false; careful = false }) now' → MemoryIs memory (address_under_way t) t.stage now'
stored_is memory now' t m at (inl same) = subst (MemoryIs memory (address_under_way t) t.stage) (sym same) at
stored_is memory now' t m at (inr (i, inside, lies, stores)) =
    let other : List ℕ = given memory (address_under_way t) t.stage in
    let a : ℕ = address_under_way t in
    let word : word_nr (words_for other (ahead t)) i ≡ word_for other a = only_ahead other t i inside in
    stored_by_stage memory a t.stage other m.memory now' refl at
    (stores
    ∙ (ap (λ (w : WordValue). stored m.memory w.address (merged w (word_at m.memory w.address))) word
    ∙ ap (stored m.memory a) (merged_for other a (word_at m.memory a))))

-- the wire of the loading host's world
abbrev with_lost : Wire → ℕ → Wire
with_lost x lost = record x { lost = lost }

takes_kept : (memory : List ℕ) (t : Tester) (x y : Wire) (c : ℕ) (rest : List ℕ) → x.down ≡ c ∷ rest → y ≡ with_answer x rest (take_of x.machine c) → IsKeptTest memory t x → IsKeptTest memory t y
takes_kept memory t x y c rest is now k =
    let core : Core = core_for memory t k.account in
    let there : IsKept (scene x.machine core (c ∷ rest) x.up k.account.lost) = subst (λ down. IsKept (scene x.machine core down x.up k.account.lost)) is k.kept in
    let stores : Stores (ground (scene x.machine core (c ∷ rest) x.up k.account.lost)) (take_of x.machine c).memory = (key_takes x.machine core c rest x.up (calm k.account.lost) there).memory in
    subst (IsKeptTest memory t) (sym now) record {
      account = k.account;
      kept = subst IsKept (taking core (with_lost x k.account.lost) c rest x.down is) (kept_event (scene_for memory t k.account x) Take k.kept);
      tester = k.tester;
      counted = record { spent_before = k.counted.spent_before; lost_before = k.counted.lost_before; spent = k.counted.spent; patience = k.counted.patience; lost = k.counted.lost; paid = k.counted.paid };
      memory_is = stored_is memory (take_of x.machine c).memory t x.machine k.memory_is stores;
      words = k.words;
      wide = k.wide;
    }

loses_down_kept : (memory : List ℕ) (t : Tester) (x y : Wire) (n : ℕ) → n < length x.down → y ≡ without_down x n → IsKeptTest memory t x → IsKeptTest memory t y
loses_down_kept memory t x y n below now k =
    subst (IsKeptTest memory t) (sym now) record {
      account = record k.account { lost = k.account.lost + 1 };
      kept = subst IsKept (losing (scene_for memory t k.account x) (over (core_for memory t k.account) (without_down (with_lost x k.account.lost) n)) n (length x.down) below) (kept_event (scene_for memory t k.account x) (LoseDown n) k.kept);
      tester = k.tester;
      counted = record { spent_before = k.counted.spent_before; lost_before = k.counted.lost_before; spent = k.counted.spent; patience = k.counted.patience; lost = ap (λ lost. lost + 1) k.counted.lost ∙ one_more_lost k.counted.lost_before k.account.lost; paid = k.counted.paid };
      memory_is = k.memory_is;
      words = k.words;
      wide = k.wide;
    }

loses_up_kept : (memory : List ℕ) (t : Tester) (x y : Wire) (n : ℕ) → n < length x.up → y ≡ without_up x n → IsKeptTest memory t x → IsKeptTest memory t y
loses_up_kept memory t x y n below now k =
    subst (IsKeptTest memory t) (sym now) record {
      account = record k.account { lost = k.account.lost + 1 };
      kept = subst IsKept (losing (scene_for memory t k.account x) (over (core_for memory t k.account) (without_up (with_lost x k.account.lost) n)) n (length x.up) below) (kept_event (scene_for memory t k.account x) (LoseUp n) k.kept);
      tester = k.tester;
      counted = record { spent_before = k.counted.spent_before; lost_before = k.counted.lost_before; spent = k.counted.spent; patience = k.counted.patience; lost = ap (λ lost. lost + 1) k.counted.lost ∙ one_more_lost k.counted.lost_before k.account.lost; paid = k.counted.paid };
      memory_is = k.memory_is;
      words = k.words;
      wide = k.wide;
    }

move_kept : (memory : List ℕ) (t : Tester) (x y : Wire) → Moves x y → IsKeptTest memory t x → IsKeptTest memory t y
move_kept memory t x y (inl (c, rest, is, now)) k = takes_kept memory t x y c rest is now k
move_kept memory t x y (inr (inl (n, below, now))) k = loses_down_kept memory t x y n below now k
move_kept memory t x y (inr (inr (n, below, now))) k = loses_up_kept memory t x y n below now k

times_kept : (memory : List ℕ) (t : Tester) (n : ℕ) (x y : Wire) → MovesTimes n x y → IsKeptTest memory t x → IsKeptTest memory t y
times_kept memory t zero x y same k = subst (IsKeptTest memory t) (sym same) k
times_kept memory t (suc n) x y (z, move, rest) k = times_kept memory t n z y rest (move_kept memory t x z move k)

pub moves_kept : (memory : List ℕ) (t : Tester) (x y : Wire) → MovesOn x y → IsKeptTest memory t x → IsKeptTest memory t y
moves_kept memory t x y moves k = times_kept memory t moves.0 x y moves.1 k

-- ---- a thing heard, at which the loading host does the same

tests_alike : (before spent patience all limit : ℕ) → all ≡ before + spent → limit ≡ before + patience → nat_lt spent patience ≡ nat_lt all limit
tests_alike before spent patience all limit one two = rw (one, two) (alike before spent patience)
  where
    alike : (before spent patience : ℕ) → nat_lt spent patience ≡ nat_lt (before + spent) (before + patience)
    alike before spent patience = grind (arith, nat_tests)

spent_again : (next spent before old new : ℕ) → next + old ≡ spent + new → spent ≡ before + old → next ≡ before + new
spent_again next spent before old new one two = omega (arith, one, two)

-- the tester after its step, where the loading host took the same
plain_step : (memory : List ℕ) (t : Tester) (x y : Wire) (what : Heard) (k : IsKeptTest memory t x) → IsPlain (turn_of t what) → y.machine ≡ x.machine → y.lost ≡ x.lost →
    IsKept (over (move (core_for memory t k.account) what).next (sent (with_lost y k.account.lost) (option_to_list (move (core_for memory t k.account) what).key))) →
    IsKeptTest memory (ask t what).next (sent y (option_to_list (ask t what).key))
plain_step memory t x y what k plain machine lost now =
    let a : Account = k.account in
    let s : TesterStep = ask t what in
    let f : Follows memory t a (move (core_for memory t a) what) s = follows memory t a what plain (tests_alike k.counted.spent_before a.spent a.patience t.spent t.patience k.counted.spent k.counted.patience) in
    let step = asked t what in
    let one : IsKept (over (core_for memory s.next f.account) (sent (with_lost y a.lost) (option_to_list (move (core_for memory t a) what).key))) =
    subst (λ core. IsKept (over core (sent (with_lost y a.lost) (option_to_list (move (core_for memory t a) what).key)))) f.next now in
    let two : IsKept (over (core_for memory s.next f.account) (sent (with_lost y a.lost) (option_to_list s.key))) =
    subst (λ key. IsKept (over (core_for memory s.next f.account) (sent (with_lost y a.lost) (option_to_list key)))) f.key one in
    record {
      account = f.account;
      kept = subst (λ lost. IsKept (over (core_for memory s.next f.account) (sent (with_lost y lost) (option_to_list s.key)))) (sym f.lost) two;
      tester = tester_kept t what k.tester;
      counted = record {
        spent_before = k.counted.spent_before;
        lost_before = k.counted.lost_before;
        spent = spent_again s.next.spent t.spent k.counted.spent_before a.spent f.account.spent f.spent k.counted.spent;
        patience = step.patience ∙ (k.counted.patience ∙ ap (λ n. k.counted.spent_before + n) (sym f.patience));
        lost = lost ∙ (k.counted.lost ∙ ap (λ n. k.counted.lost_before + n) (sym f.lost));
        paid = k.counted.paid;
      };
      memory_is =
          subst (λ (m : Machine). MemoryIs memory (address_under_way s.next) s.next.stage m.memory) (sym machine)
          (subst (λ stage. MemoryIs memory (address_under_way s.next) stage x.machine.memory) (sym f.stage)
          (subst (λ seen. MemoryIs memory (get_or s.next.addresses (length seen) 0) t.stage x.machine.memory) (sym f.seen)
          (subst (λ addresses. MemoryIs memory (get_or addresses (length t.seen) 0) t.stage x.machine.memory) (sym step.addresses) k.memory_is)));
      words =
          subst (λ (seen : List Seen). (i : ℕ) (other : Seen) → i < length seen → IsTrueOf memory (get_or s.next.addresses i 0) (get_or seen i other)) (sym f.seen)
          (subst (λ addresses. (i : ℕ) (other : Seen) → i < length t.seen → IsTrueOf memory (get_or addresses i 0) (get_or t.seen i other)) (sym step.addresses) k.words);
      wide = k.wide;
    }

plain_hearing : (memory : List ℕ) (t : Tester) (x : Wire) (c : ℕ) (rest : List ℕ) → x.up ≡ c ∷ rest → IsKeptTest memory t x → IsPlain (turn_of t (Got c)) →
    IsKeptTest memory (ask t (Got c)).next (sent (heard x rest) (option_to_list (ask t (Got c)).key))
plain_hearing memory t x c rest is k plain =
    plain_step memory t x (heard x rest) (Got c) k plain refl refl
    (subst IsKept (hearing loading (core_for memory t k.account) (with_lost x k.account.lost) c rest x.up is) (kept_event (scene_for memory t k.account x) Hear k.kept))

plain_waiting : (memory : List ℕ) (t : Tester) (x : Wire) → x.down ≡ [] → x.up ≡ [] → IsKeptTest memory t x → IsPlain (turn_of t Silence) →
    IsKeptTest memory (ask t Silence).next (sent (heard x x.up) (option_to_list (ask t Silence).key))
plain_waiting memory t x none empty k plain =
    plain_step memory t x (heard x x.up) Silence k plain refl refl
    (subst IsKept (waiting loading (core_for memory t k.account) (with_lost x k.account.lost) x.down x.up none empty) (kept_event (scene_for memory t k.account x) Quiet k.kept))

-- ---- the last character of a reading

down_none : (down up : List ℕ) (c : ℕ) (rest : List ℕ) → OneWay down up → up ≡ c ∷ rest → down ≡ []
down_none [] up c rest one is = refl
down_none (d ∷ down) up c rest one is = absurd (cc (sym (one.1) ∙ is))

given_touched : (memory : List ℕ) (a : ℕ) (stage : Stage) → IsTouched stage → given memory a stage ≡ stored memory a (number_of stage)
given_touched memory a Unseen touched = absurd touched
given_touched memory a (Once first) touched = absurd touched
given_touched memory a (Turned old) touched = refl
given_touched memory a (Returned old turned) touched = refl

number_small : (stage : Stage) → IsTouched stage → AreNumbers stage → number_of stage < 65536
number_small Unseen touched are = absurd touched
number_small (Once first) touched are = absurd touched
number_small (Turned old) touched are = omega arith
number_small (Returned old turned) touched are = are.0

-- the counts begin anew
from_here : (t : Tester) (x : Wire) (sent : ℕ) (a : Account) → AreCounted t x a → a.spent ≤ a.lost → t.spent ≤ t.patience → AreCounted t x (record { patience = t.patience - t.spent; spent = 0; sent = sent; lost = 0 })
from_here t x sent a counted few within = record {
  spent_before = t.spent;
  lost_before = x.lost;
  spent = omega arith;
  patience = omega (arith, within);
  lost = omega arith;
  paid = omega (arith, counted.spent, counted.lost, counted.paid, few);
}

-- what is at hand where a number was read
record AtHand (memory : List ℕ) (t : Tester) (x : Wire) (visit : Visit) (value : ℕ) (rest : List ℕ) : Type 0 where
  pub read : HasRead x.machine (address_under_way t) visit value (word_at (given memory (address_under_way t) t.stage) (address_under_way t)) rest
  pub has_word : length t.seen < length t.addresses
  pub down : x.down ≡ []
  pub there : is_word memory (address_under_way t) ≡ true

lies_then : (memory : List ℕ) (a : ℕ) (stage : Stage) (now : List ℕ) → MemoryIs memory a stage now → is_word now a ≡ true → is_word memory a ≡ true
lies_then memory a Unseen now at lies = subst (λ m. is_word m a ≡ true) at lies
lies_then memory a (Once first) now at lies = subst (λ m. is_word m a ≡ true) at.0 lies
lies_then memory a (Turned old) now at lies = at.lies
lies_then memory a (Returned old turned) now at lies = at.0.lies

at_hand : (memory : List ℕ) (t : Tester) (x : Wire) (c : ℕ) (rest : List ℕ) → x.up ≡ c ∷ rest → (k : IsKeptTest memory t x) → (w : IsWhole t c) → AtHand memory t x w.visit w.value rest
at_hand memory t x c rest is k w =
    let a : ℕ = address_under_way t in
    let fits : PhaseFits (Value w.visit w.value 6) (basis_of t) = subst (λ phase. PhaseFits phase (basis_of t)) w.phase k.tester.fits in
    let other : List ℕ = given memory a t.stage in
    let one : IsKept (scene x.machine (at_word (plan_for other (ahead t)) k.account.patience k.account.spent k.account.sent (LoadValue (visit_for (number_of t.stage) w.visit) w.value 6)) x.down x.up k.account.lost) =
    subst (λ phase. IsKept (scene x.machine (at_word (plan_for other (ahead t)) k.account.patience k.account.spent k.account.sent (phase_for t.stage phase)) x.down x.up k.account.lost)) w.phase k.kept in
    let two : IsKept (scene x.machine (at_word (plan_for other (a ∷ [])) k.account.patience k.account.spent k.account.sent (LoadValue (visit_for (number_of t.stage) w.visit) w.value 6)) x.down x.up k.account.lost) =
    subst (λ addresses. IsKept (scene x.machine (at_word (plan_for other addresses) k.account.patience k.account.spent k.account.sent (LoadValue (visit_for (number_of t.stage) w.visit) w.value 6)) x.down x.up k.account.lost)) (ahead_is t fits.0) one in
    let three : IsKept (scene x.machine (at_word (plan_for other (a ∷ [])) k.account.patience k.account.spent k.account.sent (LoadValue (visit_for (number_of t.stage) w.visit) w.value 6)) x.down (32 ∷ rest) k.account.lost) =
    subst (λ up. IsKept (scene x.machine (at_word (plan_for other (a ∷ [])) k.account.patience k.account.spent k.account.sent (LoadValue (visit_for (number_of t.stage) w.visit) w.value 6)) x.down up k.account.lost)) (is ∙ ap (λ d. d ∷ rest) w.blank) two in
    let read = has_read x.machine other a (number_of t.stage) k.account.patience k.account.spent k.account.sent k.account.lost w.value w.visit x.down rest three in
    record {
      read = read;
      has_word = fits.0;
      down = down_none x.down x.up c rest k.kept.one_way is;
      there = lies_then memory a t.stage x.machine.memory k.memory_is read.lies;
    }

-- another number is typed into the open word
deposits_kept : (memory : List ℕ) (t : Tester) (x : Wire) (visit : Visit) (value : ℕ) (rest : List ℕ) (next : Stage) → (k : IsKeptTest memory t x) → AtHand memory t x visit value rest →
    IsTester (taken t (Deposits next)).next → IsTouched next → MemoryIs memory (address_under_way t) next x.machine.memory →
    IsKeptTest memory (taken t (Deposits next)).next (sent (heard x rest) (digit_of (number_of next) 1 ∷ []))
deposits_kept memory t x visit value rest next k hand tester touched at =
    let a : ℕ = address_under_way t in
    let number : ℕ = number_of next in
    let patience : ℕ = t.patience - t.spent in
    let small : number < 65536 = number_small next touched tester.numbers in
    let same : given memory a next ≡ stored memory a number = given_touched memory a next touched in
    let new : IsKept (scene x.machine (at_word (plan_for (given memory a next) (a ∷ [])) patience 0 9 (LoadDeposit Only number 1)) (digit_of number 1 ∷ []) [] 0) =
    deposit_kept x.machine (given memory a next) a patience number k.kept.machine (subst IsWide (sym same) (stored_wide memory a number k.wide small)) (k.tester.asked.each (length t.seen) 0 hand.has_word)
    (omega (arith, k.tester.long)) small hand.read.mode hand.read.lies (ap (λ m. word_at m a) same ∙ stored_there memory a number hand.there) in
    let with_plan : IsKept (scene x.machine (at_word (plan_for (given memory a next) (ahead t)) patience 0 9 (LoadDeposit Only number 1)) (digit_of number 1 ∷ []) [] 0) =
    subst (λ addresses. IsKept (scene x.machine (at_word (plan_for (given memory a next) addresses) patience 0 9 (LoadDeposit Only number 1)) (digit_of number 1 ∷ []) [] 0)) (sym (ahead_is t hand.has_word)) new in
    let with_down : IsKept (scene x.machine (at_word (plan_for (given memory a next) (ahead t)) patience 0 9 (LoadDeposit Only number 1)) (x.down ++ digit_of number 1 ∷ []) [] 0) =
    subst (λ down. IsKept (scene x.machine (at_word (plan_for (given memory a next) (ahead t)) patience 0 9 (LoadDeposit Only number 1)) (down ++ digit_of number 1 ∷ []) [] 0)) (sym hand.down) with_plan in
    record {
      account = record { patience = patience; spent = 0; sent = 9; lost = 0 };
      kept = subst (λ up. IsKept (scene x.machine (at_word (plan_for (given memory a next) (ahead t)) patience 0 9 (LoadDeposit Only number 1)) (x.down ++ digit_of number 1 ∷ []) up 0)) (sym hand.read.none) with_down;
      tester = tester;
      counted =
          let counted = from_here t x 9 k.account k.counted k.kept.spent k.tester.patient in
          record { spent_before = counted.spent_before; lost_before = counted.lost_before; spent = counted.spent; patience = counted.patience; lost = counted.lost; paid = counted.paid };
      memory_is = at;
      words = k.words;
      wide = k.wide;
    }

more_words_true : (memory : List ℕ) (addresses : List ℕ) (seen : List Seen) (word : Seen) → ((i : ℕ) (other : Seen) → i < length seen → IsTrueOf memory (get_or addresses i 0) (get_or seen i other)) → IsTrueOf memory (get_or addresses (length seen) 0) word →
    (i : ℕ) (other : Seen) → i < length (seen ++ word ∷ []) → IsTrueOf memory (get_or addresses i 0) (get_or (seen ++ word ∷ []) i other)
more_words_true memory addresses seen word before new i other low = elim (same_or i (length seen)) [
  | inl same ↦ subst (λ w. IsTrueOf memory (get_or addresses i 0) w) (sym (get_or_push seen word other i (sym same))) (subst (λ j. IsTrueOf memory (get_or addresses j 0) word) (sym same) new)
  | inr apart ↦
      let below : i < length seen = omega (arith, low, length_push seen word, apart) in
      subst (λ w. IsTrueOf memory (get_or addresses i 0) w) (sym (get_or_append_left seen (word ∷ []) other i below)) (before i other below)
]

-- the word is done
tested_kept : (memory : List ℕ) (t : Tester) (x : Wire) (visit : Visit) (value : ℕ) (rest : List ℕ) (word : Seen) → (k : IsKeptTest memory t x) → AtHand memory t x visit value rest →
    IsTester (taken t (Counts word)).next → x.machine.memory ≡ memory → IsTrueOf memory (address_under_way t) word →
    IsKeptTest memory (taken t (Counts word)).next (sent (heard x rest) (13 ∷ []))
tested_kept memory t x visit value rest word k hand tester back true_of =
    let next : Tester = (taken t (Counts word)).next in
    let patience : ℕ = t.patience - t.spent in
    let new : IsKept (scene x.machine (at_word (plan_for memory (ahead next)) patience 0 1 (LoadReturn Closes 0)) (13 ∷ []) [] 0) =
    close_kept x.machine memory (ahead next) (address_under_way t) patience k.kept.machine k.wide (ahead_asked next tester.asked) (omega (arith, k.tester.long)) hand.read.mode in
    let with_down : IsKept (scene x.machine (at_word (plan_for memory (ahead next)) patience 0 1 (LoadReturn Closes 0)) (x.down ++ 13 ∷ []) [] 0) =
    subst (λ down. IsKept (scene x.machine (at_word (plan_for memory (ahead next)) patience 0 1 (LoadReturn Closes 0)) (down ++ 13 ∷ []) [] 0)) (sym hand.down) new in
    record {
      account = record { patience = patience; spent = 0; sent = 1; lost = 0 };
      kept = subst (λ up. IsKept (scene x.machine (at_word (plan_for memory (ahead next)) patience 0 1 (LoadReturn Closes 0)) (x.down ++ 13 ∷ []) up 0)) (sym hand.read.none) with_down;
      tester = tester;
      counted =
          let counted = from_here t x 1 k.account k.counted k.kept.spent k.tester.patient in
          record { spent_before = counted.spent_before; lost_before = counted.lost_before; spent = counted.spent; patience = counted.patience; lost = counted.lost; paid = counted.paid };
      memory_is = back;
      words = more_words_true memory t.addresses t.seen word k.words true_of;
      wide = k.wide;
    }

-- the word is closed as it is, to be looked at again
looks_again_kept : (memory : List ℕ) (t : Tester) (x : Wire) (visit : Visit) (value : ℕ) (rest : List ℕ) → (k : IsKeptTest memory t x) → AtHand memory t x visit value rest →
    IsTester (taken t (LooksAgain value)).next → MemoryIs memory (address_under_way t) (Once value) x.machine.memory →
    IsKeptTest memory (taken t (LooksAgain value)).next (sent (heard x rest) (13 ∷ []))
looks_again_kept memory t x visit value rest k hand tester at =
    let patience : ℕ = t.patience - t.spent in
    let new : IsKept (scene x.machine (at_word (plan_for memory (ahead t)) patience 0 1 (LoadReturn Closes 0)) (13 ∷ []) [] 0) =
    close_kept x.machine memory (ahead t) (address_under_way t) patience k.kept.machine k.wide (ahead_asked t k.tester.asked) (omega (arith, k.tester.long)) hand.read.mode in
    let with_down : IsKept (scene x.machine (at_word (plan_for memory (ahead t)) patience 0 1 (LoadReturn Closes 0)) (x.down ++ 13 ∷ []) [] 0) =
    subst (λ down. IsKept (scene x.machine (at_word (plan_for memory (ahead t)) patience 0 1 (LoadReturn Closes 0)) (down ++ 13 ∷ []) [] 0)) (sym hand.down) new in
    record {
      account = record { patience = patience; spent = 0; sent = 1; lost = 0 };
      kept = subst (λ up. IsKept (scene x.machine (at_word (plan_for memory (ahead t)) patience 0 1 (LoadReturn Closes 0)) (x.down ++ 13 ∷ []) up 0)) (sym hand.read.none) with_down;
      tester = tester;
      counted =
          let counted = from_here t x 1 k.account k.counted k.kept.spent k.tester.patient in
          record { spent_before = counted.spent_before; lost_before = counted.lost_before; spent = counted.spent; patience = counted.patience; lost = counted.lost; paid = counted.paid };
      memory_is = at;
      words = k.words;
      wide = k.wide;
    }

-- ---- what the number says

-- memory, where the word was just read for the first time
first_read : (memory : List ℕ) (a value : ℕ) (now : List ℕ) → now ≡ memory → is_word memory a ≡ true → value ≡ word_at now a → IsBorrowed memory a value now
first_read memory a value now same lies holds = record {
  lies = lies;
  held = holds ∙ ap (λ m. word_at m a) same;
  number = word_at memory a;
  stands = same ∙ sym (stored_own memory a);
}

-- memory, where the word holds what it held
put_back : (memory : List ℕ) (a old : ℕ) (now : List ℕ) → IsBorrowed memory a old now → old ≡ word_at now a → now ≡ memory
put_back memory a old now at holds =
    let number : at.number ≡ word_at memory a = sym (stored_there memory a at.number at.lies) ∙ (ap (λ m. word_at m a) (sym at.stands) ∙ (sym holds ∙ at.held)) in
    at.stands ∙ (ap (stored memory a) number ∙ stored_own memory a)

-- good memory reads alike twice
looks_alike : (first value : ℕ) → value ≡ first → second_look first value ≡ Deposits (Turned value)
looks_alike first value alike = here (value == first) (same value first alike)
  where
    same : (value first : ℕ) → value ≡ first → (value == first) ≡ true
    same value first alike = grind (arith, nat_tests)

    here : (test : Bool) → test ≡ true → (if test then Deposits (Turned value) else Counts (Unsteady first value)) ≡ Deposits (Turned value)
    here true e = refl
    here false e = absurd (cc e)

read_kept : (memory : List ℕ) (t : Tester) (x : Wire) (visit : Visit) (value : ℕ) (rest : List ℕ) (stage : Stage) → t.stage ≡ stage → (k : IsKeptTest memory t x) → AtHand memory t x visit value rest → VisitFits visit stage →
    MemoryIs memory (address_under_way t) stage x.machine.memory → (visit ≡ Check → word_at (given memory (address_under_way t) stage) (address_under_way t) ≡ word_at x.machine.memory (address_under_way t)) →
    IsTester (taken t (read stage visit value)).next → IsKeptTest memory (taken t (read stage visit value)).next (sent (heard x rest) (option_to_list (taken t (read stage visit value)).key))
read_kept memory t x Look value rest Unseen is k hand fits at checked tester =
    looks_again_kept memory t x Look value rest k hand tester (at, hand.read.holds ∙ ap (λ m. word_at m (address_under_way t)) at)
read_kept memory t x Check value rest Unseen is k hand fits at checked tester = absurd fits
read_kept memory t x Look value rest (Once first) is k hand fits at checked tester =
    let a : ℕ = address_under_way t in
    let alike : value ≡ first = hand.read.holds ∙ (ap (λ m. word_at m a) at.0 ∙ sym at.1) in
    let turn : second_look first value ≡ Deposits (Turned value) = looks_alike first value alike in
    subst (λ turn. IsKeptTest memory (taken t turn).next (sent (heard x rest) (option_to_list (taken t turn).key))) (sym turn)
    (deposits_kept memory t x Look value rest (Turned value) k hand (subst (λ turn. IsTester (taken t turn).next) turn tester) tt (first_read memory a value x.machine.memory at.0 hand.there hand.read.holds))
read_kept memory t x Check value rest (Once first) is k hand fits at checked tester = absurd fits
read_kept memory t x Look value rest (Turned old) is k hand fits at checked tester = deposits_kept memory t x Look value rest (Turned old) k hand tester tt at
read_kept memory t x Check value rest (Turned old) is k hand fits at checked tester =
    let a : ℕ = address_under_way t in
    deposits_kept memory t x Check value rest (Returned old value) k hand tester tt (at, hand.read.holds ∙ (sym (checked refl) ∙ stored_there memory a (complement old) hand.there))
read_kept memory t x Look value rest (Returned old turned) is k hand fits at checked tester = deposits_kept memory t x Look value rest (Returned old turned) k hand tester tt at
read_kept memory t x Check value rest (Returned old turned) is k hand fits at checked tester =
    let a : ℕ = address_under_way t in
    let holds : old ≡ word_at x.machine.memory a = sym (stored_there memory a old hand.there) ∙ checked refl in
    let readings : Readings = record { old = old; turned = turned; back = value } in
    tested_kept memory t x Check value rest (Tested readings) k hand tester (put_back memory a old x.machine.memory at.0 holds)
    record { lies = hand.there; readings = readings; tested = refl; old = at.0.held; held = record { turned = at.1; back = hand.read.holds ∙ sym holds } }

whole_hearing : (memory : List ℕ) (t : Tester) (x : Wire) (c : ℕ) (rest : List ℕ) → x.up ≡ c ∷ rest → IsKeptTest memory t x → IsWhole t c →
    IsKeptTest memory (ask t (Got c)).next (sent (heard x rest) (option_to_list (ask t (Got c)).key))
whole_hearing memory t x c rest is k w =
    let hand : AtHand memory t x w.visit w.value rest = at_hand memory t x c rest is k w in
    let fits : PhaseFits (Value w.visit w.value 6) (basis_of t) = subst (λ phase. PhaseFits phase (basis_of t)) w.phase k.tester.fits in
    subst (λ turn. IsKeptTest memory (taken t turn).next (sent (heard x rest) (option_to_list (taken t turn).key))) (sym w.turn)
    (read_kept memory t x w.visit w.value rest t.stage refl k hand fits.3 k.memory_is hand.read.checked (subst (λ turn. IsTester (taken t turn).next) w.turn (tester_kept t (Got c) k.tester)))

-- ---- all of it

within_six : (t : Tester) → IsTester t → (visit : Visit) (value place : ℕ) → t.phase ≡ Value visit value place → place ≤ 6
within_six t is visit value place phase =
    let fits : PhaseFits (Value visit value place) (basis_of t) = subst (λ p. PhaseFits p (basis_of t)) phase is.fits in
    fits.1

hearing_kept : (memory : List ℕ) (t : Tester) (x : Wire) (c : ℕ) (rest : List ℕ) → x.up ≡ c ∷ rest → IsKeptTest memory t x → IsPlain (turn_of t (Got c)) ⊎ IsWhole t c →
    IsKeptTest memory (ask t (Got c)).next (sent (heard x rest) (option_to_list (ask t (Got c)).key))
hearing_kept memory t x c rest is k (inl plain) = plain_hearing memory t x c rest is k plain
hearing_kept memory t x c rest is k (inr whole) = whole_hearing memory t x c rest is k whole

gives_kept : (memory : List ℕ) (t : Tester) (what : Heard) (x y : Wire) → Gives x what y → IsKeptTest memory t x → IsKeptTest memory (ask t what).next (sent y (option_to_list (ask t what).key))
gives_kept memory t (Got c) x y (rest, is, now) k =
    subst (λ z. IsKeptTest memory (ask t (Got c)).next (sent z (option_to_list (ask t (Got c)).key))) (sym now)
    (hearing_kept memory t x c rest is k (plain_or_whole t c t.phase refl (within_six t k.tester)))
gives_kept memory t Silence x y (none, empty, now) k =
    subst (λ z. IsKeptTest memory (ask t Silence).next (sent z (option_to_list (ask t Silence).key))) (sym now)
    (plain_waiting memory t x none empty k (plain_silence t t.phase refl))

pub dialogue_kept : (memory : List ℕ) (things : List Heard) (t : Tester) (x y : Wire) → Passes x (dialogue t things) y → IsKeptTest memory t x → IsKeptTest memory (led t things) y
dialogue_kept memory [] t x y moves k = moves_kept memory t x y moves k
dialogue_kept memory (what ∷ things) t x y (z, v, before, gives, passes) k =
    let key = (ask t what).key in
    dialogue_kept memory things (ask t what).next (sent v (option_to_list key)) y (passing_said Moves key (dialogue (ask t what).next things) v y passes)
    (gives_kept memory t what z v gives (moves_kept memory t x z before k))
