-- What a move of the phase table leaves alone, and how its parts hang together.
use Rattle.std.specs.Prelude.{option_to_list}
use Rattle.std.proofs.Common.{◌≡◌, ℕ, ◌+◌, Bool, true, false, ◌==◌, nat_lt, if◌then◌else◌, Option, Some, None, length, refl, arith}
use Rattle.octal.specs.Octal.{digit_of}
use Rattle.tape_image.specs.Word.{WordValue}
use Rattle.host_core.specs.declared.phase.Phase.{Phase}
use Rattle.host_core.specs.declared.phase.Phase.TheVariants.{Settle, Sync, Address, Slash, Before, Value, Deposit, Return, Start, Go, Ended}
use Rattle.host_core.specs.declared.phase.Visit.TheVariants.{Look}
use Rattle.host_core.specs.declared.phase.End.TheVariants.{Started, Uncertain, GaveUp}
use Rattle.host_core.specs.declared.heard.Heard.{Heard}
use Rattle.host_core.specs.declared.heard.Heard.TheVariants.{Got, Quiet}
use Rattle.host_core.specs.declared.turn.Turn.{Turn}
use Rattle.host_core.specs.declared.turn.Turn.TheVariants.{Listen, Key, Verified, Revisit, Next, Mark, Stop, Stray, Timeout}
use Rattle.host_core.specs.Console.{resynchronise_of}
use Rattle.host_core.specs.Core.{Core, word_under_way, start_of}
use Rattle.host_core.specs.Host.{IsHost, MarkFits, IsPastMark}
use Rattle.host_core.specs.PhaseTable.{Move, move, listens, sends, taken, turn_of, hears, waits, after_words}

-- a test has two outcomes
pub on_test : (P : Bool → Type 0) (test : Bool) → (test ≡ true → P true) → (test ≡ false → P false) → P test
on_test P true is isnt = is refl
on_test P false is isnt = isnt refl

-- what holds of both moves holds of the one that a test chooses
pub on_move : (P : Move → Type 0) (test : Bool) (m n : Move) → (test ≡ true → P m) → (test ≡ false → P n) → P (if test then m else n)
on_move P test m n is isnt = on_test (λ v. P (if v then m else n)) test is isnt

-- what every move does: care, plan and patience stay, a character that is sent is counted, one more word is
-- verified at most, and the mark stays once it is set
pub record IsMoved (core : Core) (m : Move) : Type 0 where
  pub care : m.next.careful ≡ core.careful
  pub plan : m.next.plan ≡ core.plan
  pub patience : m.next.patience ≡ core.patience
  pub sent : m.next.sent ≡ core.sent + length (option_to_list m.key)
  pub going : core.going ≡ true → m.next.going ≡ true
  pub start : start_of m.next ≡ start_of core

not_sent : (n : ℕ) → n ≡ n + 0
not_sent n = omega arith

after_words_moved : (core : Core) (start : Option ℕ) → IsMoved core (after_words core start)
after_words_moved core (Some start) = record { care = refl; plan = refl; patience = refl; sent = refl; going = λ e. e; start = refl }
after_words_moved core None = record { care = refl; plan = refl; patience = refl; sent = not_sent core.sent; going = λ e. e; start = refl }

taken_moved : (core : Core) (turn : Turn) → IsMoved core (taken core turn)
taken_moved core (Listen phase) = record { care = refl; plan = refl; patience = refl; sent = not_sent core.sent; going = λ e. e; start = refl }
taken_moved core (Key key phase) = record { care = refl; plan = refl; patience = refl; sent = refl; going = λ e. e; start = refl }
taken_moved core Verified = record { care = refl; plan = refl; patience = refl; sent = refl; going = λ e. e; start = refl }
taken_moved core (Revisit visit) = record { care = refl; plan = refl; patience = refl; sent = refl; going = λ e. e; start = refl }
taken_moved core Next =
    on_move (IsMoved core) (nat_lt core.verified (length core.plan.words)) (sends core (digit_of (word_under_way core).address 1) (Address Look 1)) (after_words core core.plan.start)
    (λ _. record { care = refl; plan = refl; patience = refl; sent = refl; going = λ e. e; start = refl })
    (λ _. after_words_moved core core.plan.start)
taken_moved core Mark = record { care = refl; plan = refl; patience = refl; sent = refl; going = λ _. refl; start = refl }
taken_moved core (Stop end) = record { care = refl; plan = refl; patience = refl; sent = not_sent core.sent; going = λ e. e; start = refl }
taken_moved core Stray =
    on_move (IsMoved core) (nat_lt core.spent core.patience) (listens (record core { spent = core.spent + 1 }) Settle) (listens core (Ended GaveUp))
    (λ _. record { care = refl; plan = refl; patience = refl; sent = not_sent core.sent; going = λ e. e; start = refl })
    (λ _. record { care = refl; plan = refl; patience = refl; sent = not_sent core.sent; going = λ e. e; start = refl })
taken_moved core Timeout =
    on_move (IsMoved core) (nat_lt core.spent core.patience) (sends (record core { spent = core.spent + 1 }) (resynchronise_of core.careful) (Sync 0)) (listens core (Ended GaveUp))
    (λ _. record { care = refl; plan = refl; patience = refl; sent = refl; going = λ e. e; start = refl })
    (λ _. record { care = refl; plan = refl; patience = refl; sent = not_sent core.sent; going = λ e. e; start = refl })

pub moved : (core : Core) (heard : Heard) → IsMoved core (move core heard)
moved core heard = taken_moved core (turn_of core heard)

-- a turn that sends nothing and verifies nothing
abbrev IsStill : Turn → Type 0
IsStill (Listen phase) = Unit {0}
IsStill (Stop end) = Unit {0}
IsStill _ = ⊥

-- a move that sends nothing and verifies nothing
pub record StaysStill (core : Core) (m : Move) : Type 0 where
  pub key : m.key ≡ None
  pub verified : m.next.verified ≡ core.verified

still_taken : (core : Core) (turn : Turn) → IsStill turn → StaysStill core (taken core turn)
still_taken core (Listen phase) i = record { key = refl; verified = refl }
still_taken core (Stop end) i = record { key = refl; verified = refl }
still_taken core (Key key phase) i = absurd i
still_taken core Verified i = absurd i
still_taken core (Revisit visit) i = absurd i
still_taken core Next i = absurd i
still_taken core Mark i = absurd i
still_taken core Stray i = absurd i
still_taken core Timeout i = absurd i

past_mark_hears : (careful : Bool) (word : WordValue) (start : ℕ) (phase : Phase) (c : ℕ) → IsPastMark phase → IsStill (hears careful word start phase c)
past_mark_hears careful word start Go c p = on_test (λ v. IsStill (if v then Stop Started else Stop Uncertain)) (c == 71) (λ _. tt) (λ _. tt)
past_mark_hears careful word start (Ended end) c p = tt
past_mark_hears careful word start Settle c p = absurd p
past_mark_hears careful word start (Sync place) c p = absurd p
past_mark_hears careful word start (Address visit place) c p = absurd p
past_mark_hears careful word start (Slash visit) c p = absurd p
past_mark_hears careful word start (Before visit) c p = absurd p
past_mark_hears careful word start (Value visit value place) c p = absurd p
past_mark_hears careful word start (Deposit deposit value place) c p = absurd p
past_mark_hears careful word start (Return reason place) c p = absurd p
past_mark_hears careful word start (Start place) c p = absurd p

past_mark_waits : (careful : Bool) (phase : Phase) → IsPastMark phase → IsStill (waits careful phase)
past_mark_waits careful Go p = tt
past_mark_waits careful (Ended end) p = tt
past_mark_waits careful Settle p = absurd p
past_mark_waits careful (Sync place) p = absurd p
past_mark_waits careful (Address visit place) p = absurd p
past_mark_waits careful (Slash visit) p = absurd p
past_mark_waits careful (Before visit) p = absurd p
past_mark_waits careful (Value visit value place) p = absurd p
past_mark_waits careful (Deposit deposit value place) p = absurd p
past_mark_waits careful (Return reason place) p = absurd p
past_mark_waits careful (Start place) p = absurd p

marked : (going : Bool) (start : Option ℕ) (phase : Phase) → MarkFits going start phase → going ≡ true → IsPastMark phase
marked true start phase m e = m.1
marked false start phase m e = cc e

-- with the mark set nothing is sent and nothing is verified
pub silent : (core : Core) (heard : Heard) → IsHost core → core.going ≡ true → StaysStill core (move core heard)
silent core (Got c) h e = still_taken core (turn_of core (Got c)) (past_mark_hears core.careful (word_under_way core) (start_of core) core.phase c (marked core.going core.plan.start core.phase h.mark e))
silent core Quiet h e = still_taken core (waits core.careful core.phase) (past_mark_waits core.careful core.phase (marked core.going core.plan.start core.phase h.mark e))
