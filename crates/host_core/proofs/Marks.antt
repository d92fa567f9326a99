-- `G` is sent only in the step that sets the mark.
use Rattle.std.proofs.Common.{◌≡◌, ℕ, ◌+◌, Bool, true, false, nat_lt, length, Option, Some, None, refl, arith}
use Rattle.octal.specs.Octal.{digit_of}
use Rattle.tape_image.specs.Word.{WordValue, merged}
use Rattle.host_core.specs.declared.heard.Heard.{Heard}
use Rattle.host_core.specs.declared.heard.Heard.TheVariants.{Got, Quiet}
use Rattle.host_core.specs.declared.phase.Phase.{Phase}
use Rattle.host_core.specs.declared.phase.Phase.TheVariants.{Settle, Sync, Address, Slash, Before, Value, Deposit, Return, Start, Go, Ended}
use Rattle.host_core.specs.declared.phase.Try.{Try}
use Rattle.host_core.specs.declared.phase.Try.TheVariants.{Only, First, Second}
use Rattle.host_core.specs.declared.phase.Visit.{Visit}
use Rattle.host_core.specs.declared.phase.Visit.TheVariants.{Look}
use Rattle.host_core.specs.declared.phase.Reason.{Reason}
use Rattle.host_core.specs.declared.phase.Reason.TheVariants.{Store, Reopen, Missing, Close}
use Rattle.host_core.specs.declared.phase.End.TheVariants.{GaveUp}
use Rattle.host_core.specs.declared.turn.Turn.{Turn}
use Rattle.host_core.specs.declared.turn.Turn.TheVariants.{Listen, Key, Verified, Revisit, Next, Mark, Stop, Stray, Timeout}
use Rattle.host_core.specs.Console.{resynchronise_of, go}
use Rattle.host_core.specs.Core.{Core, word_under_way, start_of}
use Rattle.host_core.specs.Host.{IsHost}
use Rattle.host_core.specs.Steps.{IsMarking}
use Rattle.host_core.specs.PhaseTable.{Move, move, listens, sends, taken, turn_of, hears, waits, mends, read, returned, after_words}
use Rattle.host_core.proofs.Frame.{on_move, silent}
use Rattle.host_core.proofs.Walk.{sync_walk, address_walk, slash_walk, before_walk, value_walk, read_walk, deposit_walk, return_walk, start_walk, go_walk}

-- a turn that sends a character as it stands sends no `G`
abbrev IsNoGo : Turn → Type 0
IsNoGo (Key key phase) = key ≡ go → ⊥
IsNoGo _ = Unit {0}

no_digit : (w k : ℕ) → digit_of w k ≡ go → ⊥
no_digit w k e = omega arith

no_resynchronise : (careful : Bool) → resynchronise_of careful ≡ go → ⊥
no_resynchronise true e = omega arith
no_resynchronise false e = omega arith

mends_no_go : (deposit : Try) (value : ℕ) → IsNoGo (mends deposit value)
mends_no_go deposit value = no_digit value 1

read_no_go : (careful : Bool) (word : WordValue) (visit : Visit) (value : ℕ) → IsNoGo (read careful word visit value)
read_no_go careful word visit value =
    read_walk IsNoGo careful word visit value tt (λ _. tt) (λ _ _ e. omega arith) (λ _ _. mends_no_go Only (merged word value)) (λ _ _. mends_no_go First (merged word value))
    (λ _ _. mends_no_go First (merged word value)) (λ stored _. mends_no_go (Second value) stored) tt

returned_no_go : (reason : Reason) → IsNoGo (returned reason)
returned_no_go (Store deposit value) = tt
returned_no_go (Reopen first) = tt
returned_no_go (Missing address) = tt
returned_no_go Close = tt

hears_no_go : (careful : Bool) (word : WordValue) (start : ℕ) (phase : Phase) (c : ℕ) → IsNoGo (hears careful word start phase c)
hears_no_go careful word start Settle c = tt
hears_no_go careful word start (Sync place) c = sync_walk IsNoGo careful place c tt (λ _ _. tt) tt
hears_no_go careful word start (Address visit place) c = address_walk IsNoGo word.address visit place c tt (λ _. no_digit word.address (place + 1)) (λ e. omega arith)
hears_no_go careful word start (Slash visit) c = slash_walk IsNoGo visit c tt tt
hears_no_go careful word start (Before visit) c = before_walk IsNoGo careful word visit c tt tt (λ _. tt) (λ _. tt) (λ _ _. tt)
hears_no_go careful word start (Value visit value place) c = value_walk IsNoGo careful word visit value place c tt (λ _ _ _. tt) (λ _ _ _. tt) (λ _ _. read_no_go careful word visit value)
hears_no_go careful word start (Deposit deposit value place) c = deposit_walk IsNoGo deposit value place c tt (λ _. no_digit value (place + 1)) (λ e. omega arith)
hears_no_go careful word start (Return reason place) c = return_walk IsNoGo reason place c tt (λ _ _. tt) (returned_no_go reason)
hears_no_go careful word start (Start place) c = start_walk IsNoGo start place c tt (λ _. no_digit start (place + 1)) (λ _. tt)
hears_no_go careful word start Go c = go_walk IsNoGo c tt tt
hears_no_go careful word start (Ended end) c = tt

waits_no_go : (careful : Bool) (phase : Phase) → IsNoGo (waits careful phase)
waits_no_go careful Settle = no_resynchronise careful
waits_no_go careful (Sync place) = tt
waits_no_go careful (Address visit place) = tt
waits_no_go careful (Slash visit) = tt
waits_no_go careful (Before visit) = tt
waits_no_go careful (Value visit value place) = tt
waits_no_go careful (Deposit deposit value place) = tt
waits_no_go careful (Return reason place) = tt
waits_no_go careful (Start place) = tt
waits_no_go careful Go = tt
waits_no_go careful (Ended end) = tt

turn_no_go : (core : Core) (heard : Heard) → IsNoGo (turn_of core heard)
turn_no_go core (Got c) = hears_no_go core.careful (word_under_way core) (start_of core) core.phase c
turn_no_go core Quiet = waits_no_go core.careful core.phase

-- the move sets the mark if it sends `G`
abbrev Marks : Move → Type 0
Marks m = m.key ≡ Some go → m.next.going ≡ true

marks_none : (m : Move) → m.key ≡ None → Marks m
marks_none m none e = absurd (cc)

marks_other : (m : Move) (key : ℕ) → m.key ≡ Some key → (key ≡ go → ⊥) → Marks m
marks_other m key is other e = absurd (other (cc))

after_words_marks : (core : Core) (start : Option ℕ) → Marks (after_words core start)
after_words_marks core (Some start) = marks_other (after_words core (Some start)) (digit_of start 1) refl (no_digit start 1)
after_words_marks core None = marks_none (after_words core None) refl

taken_marks : (core : Core) (turn : Turn) → IsNoGo turn → Marks (taken core turn)
taken_marks core (Listen phase) n = marks_none (listens core phase) refl
taken_marks core (Key key phase) n = marks_other (sends core key phase) key refl n
taken_marks core Verified n = marks_other (taken core Verified) 13 refl (λ e. omega arith)
taken_marks core (Revisit visit) n = marks_other (taken core (Revisit visit)) (digit_of (word_under_way core).address 1) refl (no_digit (word_under_way core).address 1)
taken_marks core Next n =
    on_move Marks (nat_lt core.verified (length core.plan.words)) (sends core (digit_of (word_under_way core).address 1) (Address Look 1)) (after_words core core.plan.start)
    (λ _. marks_other (sends core (digit_of (word_under_way core).address 1) (Address Look 1)) (digit_of (word_under_way core).address 1) refl (no_digit (word_under_way core).address 1))
    (λ _. after_words_marks core core.plan.start)
taken_marks core Mark n = λ _. refl
taken_marks core (Stop end) n = marks_none (listens core (Ended end)) refl
taken_marks core Stray n =
    on_move Marks (nat_lt core.spent core.patience) (listens (record core { spent = core.spent + 1 }) Settle) (listens core (Ended GaveUp))
    (λ _. marks_none (listens (record core { spent = core.spent + 1 }) Settle) refl)
    (λ _. marks_none (listens core (Ended GaveUp)) refl)
taken_marks core Timeout n =
    on_move Marks (nat_lt core.spent core.patience) (sends (record core { spent = core.spent + 1 }) (resynchronise_of core.careful) (Sync 0)) (listens core (Ended GaveUp))
    (λ _. marks_other (sends (record core { spent = core.spent + 1 }) (resynchronise_of core.careful) (Sync 0)) (resynchronise_of core.careful) refl (no_resynchronise core.careful))
    (λ _. marks_none (listens core (Ended GaveUp)) refl)

not_set : (going : Bool) → (going ≡ true → ⊥) → going ≡ false
not_set true is = absurd (is refl)
not_set false is = refl

-- where `G` is sent, no mark stood and one stands now
pub go_marks : (core : Core) (heard : Heard) → IsHost core → (move core heard).key ≡ Some go → IsMarking core (move core heard).next (move core heard).key
go_marks core heard h e = record {
  was = not_set core.going (λ set. let none : (move core heard).key ≡ None = (silent core heard h set).key in absurd (cc));
  now = taken_marks core (turn_of core heard) (turn_no_go core heard) e;
  sends = e;
}
