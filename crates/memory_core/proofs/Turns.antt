-- Each turn of the table keeps what holds of every tester, and types a digit, `/`, CR or `Z` at most.
use Rattle.std.proofs.Common.{◌≡◌, ℕ, ◌+◌, ◌-◌, ◌^◌, ◌<◌, ◌≤◌, Bool, true, false, ◌==◌, nat_lt, if◌then◌else◌, List, [], length, inl, inr, refl, arith, length-append}
use borrow.Author.Tests.{ltb-true, ltb-false, eqb-true}
use Rattle.octal.proofs.Heads.{digit_of-is_digit}
use Rattle.octal.specs.Octal.{digit_of}
use Rattle.host_core.specs.Answers.{resynchronise_reply, return_reply, digit_echo, reading_start, reading_rest}
use Rattle.host_core.specs.Console.{resynchronise, carriage_return}
use Rattle.host_core.specs.declared.heard.Heard.{Heard}
use Rattle.host_core.specs.declared.heard.Heard.TheVariants.{Got, Quiet}
use Rattle.memory_core.specs.declared.phase.Visit.{Visit}
use Rattle.memory_core.specs.declared.phase.Visit.TheVariants.{Look, Check}
use Rattle.host_core.proofs.Frame.{on_test}
use Rattle.host_core.proofs.Replies.{either, resynchronise_walk, return_walk, echo_walk, start_walk, rest_walk}
use Rattle.host_core.proofs.Turns.{room_step, room_le, digit_below_eight}
use Rattle.reading_core.specs.Addresses.{AreAddresses}
use Rattle.memory_core.specs.declared.phase.Phase.{Phase}
use Rattle.memory_core.specs.declared.phase.Phase.TheVariants.{Settle, Sync, Address, Slash, Before, Value, Deposit, Return, Close, Ended}
use Rattle.memory_core.specs.declared.phase.End.TheVariants.{Complete, GaveUp}
use Rattle.memory_core.specs.declared.stage.Stage.{Stage}
use Rattle.memory_core.specs.declared.stage.Stage.TheVariants.{Unseen, Once, Turned, Returned}
use Rattle.memory_core.specs.declared.turn.Turn.{Turn}
use Rattle.memory_core.specs.declared.turn.Turn.TheVariants.{Listen, Key, LooksAgain, Deposits, Counts, ReadBack, Next, Stop, Stray, Timeout}
use Rattle.memory_core.specs.Bound.{testing_bound, used_before, used_in_visit, used_up_to}
use Rattle.memory_core.specs.Invariant.{IsTester, Basis, basis_of, PhaseFits, StageFits, VisitFits, EndFits, HasWord}
use Rattle.memory_core.specs.MemoryTable.{TesterStep, IsTesting, KeyTests, ask, taken, turn_of, hears, waits, synced, addressed, read, reads, second_look, deposited, returned, closed, next_word, sends, listens}
use Rattle.memory_core.specs.Stage.{IsTouched, AreNumbers, number_of}
use Rattle.memory_core.specs.Tester.{Tester, address_nr, address_under_way, begun}

-- what a turn needs of the tester that takes it, n being the characters that its visit may have used
abbrev TurnFits : Turn → Basis → ℕ → Type 0
TurnFits (Listen phase) b n = PhaseFits phase b × (n ≤ used_in_visit phase)
TurnFits (Key key phase) b n = PhaseFits phase b × (n + 1 ≤ used_in_visit phase) × IsTesting key
TurnFits (LooksAgain first) b n = HasWord b × (first < 65536) × (n + used_up_to b.stage ≤ 8)
TurnFits (Deposits stage) b n = HasWord b × IsTouched stage × AreNumbers stage × (n + used_up_to b.stage ≤ 8 + used_up_to stage)
TurnFits (Counts word) b n = HasWord b × (n + used_up_to b.stage ≤ 44)
TurnFits ReadBack b n = HasWord b × IsTouched b.stage × (n ≤ 15)
TurnFits Next b n = n ≤ 1
TurnFits (Stop end) b n = EndFits end b × (n ≤ 22)
TurnFits Stray b n = n ≤ 22
TurnFits Timeout b n = n ≤ 22

-- ---- keys

pub digit_tests : (w k : ℕ) → IsTesting (digit_of w k)
digit_tests w k = inl (cc (digit_of-is_digit w k))

slash_tests : IsTesting 47
slash_tests = inr (inl refl)

return_tests : IsTesting carriage_return
return_tests = inr (inr (inl refl))

resync_tests : IsTesting resynchronise
resync_tests = inr (inr (inr refl))

-- ---- what a turn does

either_asked : (test : Bool) (m k : TesterStep) → (test ≡ true → IsTester m.next) → (test ≡ false → IsTester k.next) → IsTester (if test then m else k).next
either_asked test m k is isnt = on_test (λ v. IsTester (if v then m else k).next) test is isnt

stage_has : (stage : Stage) (b : Basis) → HasWord b → StageFits stage b
stage_has Unseen b h = tt
stage_has (Once first) b h = h
stage_has (Turned old) b h = h
stage_has (Returned old turned) b h = h

-- a mishap more says nothing of the word
stage_spent : (stage : Stage) (b : Basis) (spent : ℕ) → StageFits stage b → StageFits stage (record b { spent = spent })
stage_spent Unseen b spent h = tt
stage_spent (Once first) b spent h = h
stage_spent (Turned old) b spent h = h
stage_spent (Returned old turned) b spent h = h

-- between words nothing was typed into one
none_left : (stage : Stage) (b : Basis) → StageFits stage b → length b.addresses ≤ length b.seen → stage ≡ Unseen
none_left Unseen b f le = refl
none_left (Once first) b f le = absurd (omega (arith, f, le))
none_left (Turned old) b f le = absurd (omega (arith, f, le))
none_left (Returned old turned) b f le = absurd (omega (arith, f, le))

next_kept : (t : Tester) → IsTester t → used_in_visit t.phase ≤ 1 → IsTester (next_word t).next
next_kept t h f =
    either_asked (nat_lt (length t.seen) (length t.addresses)) _ _
    (λ more. record { asked = h.asked; within = h.within; patient = h.patient; long = h.long; stage = stage_has t.stage _ (ltb-true _ _ more); numbers = h.numbers; fits = (ltb-true _ _ more, record { from = omega arith; to = omega arith }, tt); paid = omega (arith, h.paid, f) })
    (λ none. record { asked = h.asked; within = h.within; patient = h.patient; long = h.long; stage = h.stage; numbers = h.numbers; fits = (omega (arith, h.within, ltb-false _ _ none), none_left t.stage (basis_of t) h.stage (ltb-false _ _ none)); paid = omega (arith, h.paid, f) })

given_up : (t : Tester) → IsTester t → t.patience ≤ t.spent → used_in_visit t.phase ≤ 22 → IsTester (record t { phase = Ended GaveUp })
given_up t h out f =
    record { asked = h.asked; within = h.within; patient = h.patient; long = h.long; stage = h.stage; numbers = h.numbers; fits = omega (arith, h.patient, out); paid = omega (arith, h.paid, f) }

taken_kept : (t : Tester) (turn : Turn) → IsTester t → TurnFits turn (basis_of t) (used_in_visit t.phase) → IsTester (taken t turn).next
taken_kept t (Listen phase) h f = record { asked = h.asked; within = h.within; patient = h.patient; long = h.long; stage = h.stage; numbers = h.numbers; fits = f.0; paid = omega (arith, h.paid, f.1) }
taken_kept t (Key key phase) h f = record { asked = h.asked; within = h.within; patient = h.patient; long = h.long; stage = h.stage; numbers = h.numbers; fits = f.0; paid = omega (arith, h.paid, f.1) }
taken_kept t (LooksAgain first) h f = record {
  asked = h.asked;
  within = h.within;
  patient = h.patient;
  long = h.long;
  stage = f.0;
  numbers = f.1;
  fits = omega arith;
  paid = omega (arith, h.paid, f.2);
}
taken_kept t (Deposits stage) h f = record {
  asked = h.asked;
  within = h.within;
  patient = h.patient;
  long = h.long;
  stage = stage_has stage _ f.0;
  numbers = f.2;
  fits = (f.0, record { from = omega arith; to = omega arith }, f.1);
  paid = omega (arith, h.paid, f.3);
}
taken_kept t (Counts word) h f = record {
  asked = h.asked;
  within = simp length-append (omega (arith, f.0));
  patient = h.patient;
  long = h.long;
  stage = tt;
  numbers = tt;
  fits = omega arith;
  paid = simp length-append (omega (arith, h.paid, f.1));
}
taken_kept t ReadBack h f = record { asked = h.asked; within = h.within; patient = h.patient; long = h.long; stage = h.stage; numbers = h.numbers; fits = (f.0, record { from = omega arith; to = omega arith }, f.1); paid = omega (arith, h.paid, f.2) }
taken_kept t Next h f = next_kept t h f
taken_kept t (Stop end) h f = record { asked = h.asked; within = h.within; patient = h.patient; long = h.long; stage = h.stage; numbers = h.numbers; fits = f.0; paid = omega (arith, h.paid, f.1) }
taken_kept t Stray h f =
    either_asked (nat_lt t.spent t.patience) _ _
    (λ more. record { asked = h.asked; within = h.within; patient = omega (arith, ltb-true _ _ more); long = h.long; stage = stage_spent t.stage (basis_of t) (t.spent + 1) h.stage; numbers = h.numbers; fits = tt; paid = omega (arith, h.paid, f) })
    (λ none. given_up t h (ltb-false _ _ none) f)
taken_kept t Timeout h f =
    either_asked (nat_lt t.spent t.patience) _ _
    (λ more. record { asked = h.asked; within = h.within; patient = omega (arith, ltb-true _ _ more); long = h.long; stage = stage_spent t.stage (basis_of t) (t.spent + 1) h.stage; numbers = h.numbers; fits = omega arith; paid = omega (arith, h.paid, f) })
    (λ none. given_up t h (ltb-false _ _ none) f)

either_key : (test : Bool) (m k : TesterStep) → KeyTests m.key → KeyTests k.key → KeyTests (if test then m else k).key
either_key test m k one other = on_test (λ v. KeyTests (if v then m else k).key) test (λ _. one) (λ _. other)

taken_tests : (t : Tester) (turn : Turn) (b : Basis) (n : ℕ) → TurnFits turn b n → KeyTests (taken t turn).key
taken_tests t (Listen phase) b n f = tt
taken_tests t (Key key phase) b n f = f.2
taken_tests t (LooksAgain first) b n f = return_tests
taken_tests t (Deposits stage) b n f = digit_tests (number_of stage) 1
taken_tests t (Counts word) b n f = return_tests
taken_tests t ReadBack b n f = digit_tests (address_under_way t) 1
taken_tests t Next b n f = either_key (nat_lt (length t.seen) (length t.addresses)) (sends t (digit_of (address_under_way t) 1) (Address Look 1)) (listens t (Ended Complete)) (digit_tests (address_under_way t) 1) tt
taken_tests t (Stop end) b n f = tt
taken_tests t Stray b n f = either_key (nat_lt t.spent t.patience) (listens (record t { spent = t.spent + 1 }) Settle) (listens t (Ended GaveUp)) tt tt
taken_tests t Timeout b n f = either_key (nat_lt t.spent t.patience) (sends (record t { spent = t.spent + 1 }) resynchronise (Sync 0)) (listens t (Ended GaveUp)) resync_tests tt

-- ---- the rows

sync_fits : (b : Basis) (place c : ℕ) → TurnFits (synced (resynchronise_reply place c)) b 1
sync_fits b place c = resynchronise_walk (λ r. TurnFits (synced r) b 1) place c (omega arith) (λ k le. (le, omega arith)) (λ _. omega arith)

visit_le : (visit : Visit) → used_before visit ≤ 15
visit_le Look = omega arith
visit_le Check = omega arith

address_fits : (b : Basis) (address : ℕ) (visit : Visit) (place c : ℕ) → PhaseFits (Address visit place) b → TurnFits (addressed visit place (digit_echo address place c)) b (used_before visit + place)
address_fits b address visit place c f =
    echo_walk (λ e. TurnFits (addressed visit place e) b (used_before visit + place)) address place c (omega (arith, f.1.to, visit_le visit))
    (λ _ less. ((f.0, record { from = omega arith; to = omega (arith, less) }, f.2), omega arith, digit_tests address (place + 1)))
    (λ _ _. ((f.0, f.2), omega (arith, f.1.to), slash_tests))

first_below : (c : ℕ) → 48 ≤ c → c ≤ 49 → c - 48 < 2
first_below c low high = omega arith

before_fits : (b : Basis) (visit : Visit) (c : ℕ) → HasWord b → VisitFits visit b.stage → TurnFits (reads (address_nr b.addresses (length b.seen)) b.stage visit (reading_start c)) b (used_before visit + 7)
before_fits b visit c f v =
    start_walk (λ r. TurnFits (reads (address_nr b.addresses (length b.seen)) b.stage visit r) b (used_before visit + 7)) c (omega (arith, visit_le visit)) ((f, omega arith, omega arith, v), omega arith) ((f, refl), omega (arith, visit_le visit))
    (λ low high. ((f, omega arith, first_below c low high, v), omega arith))

-- two looks
looks_fit : (b : Basis) (first second : ℕ) → b.stage ≡ Once first → HasWord b → second < 65536 → TurnFits (second_look first second) b 8
looks_fit b first second is f small = either (λ t. TurnFits t b 8) (second == first) _ _ (λ _. (f, tt, small, rw is (omega arith))) (λ _. (f, rw is (omega arith)))

-- a whole reading
read_fits : (b : Basis) (stage : Stage) (visit : Visit) (value : ℕ) → b.stage ≡ stage → HasWord b → VisitFits visit stage → AreNumbers stage → value < 65536 → TurnFits (read stage visit value) b (used_before visit + 7)
read_fits b Unseen Look value is f v numbers small = (f, small, rw is (omega arith))
read_fits b Unseen Check value is f v numbers small = absurd v
read_fits b (Once first) Look value is f v numbers small = looks_fit b first value is f small
read_fits b (Once first) Check value is f v numbers small = absurd v
read_fits b (Turned old) Look value is f v numbers small = (f, tt, numbers, rw is (omega arith))
read_fits b (Turned old) Check value is f v numbers small = (f, tt, (numbers, small), rw is (omega arith))
read_fits b (Returned old turned) Look value is f v numbers small = (f, tt, numbers, rw is (omega arith))
read_fits b (Returned old turned) Check value is f v numbers small = (f, rw is (omega arith))

value_fits : (b : Basis) (address : ℕ) (visit : Visit) (value place c : ℕ) → AreNumbers b.stage → PhaseFits (Value visit value place) b → TurnFits (reads address b.stage visit (reading_rest value place c)) b (used_before visit + 7)
value_fits b address visit value place c numbers f =
    rest_walk (λ r. TurnFits (reads address b.stage visit r) b (used_before visit + 7)) value place c (omega (arith, visit_le visit))
    (λ _ low high. ((f.0, omega arith, first_below c low high, f.3), omega arith))
    (λ some less digit. ((f.0, omega (arith, less), room_step place value (c - 48) some less f.2 (digit_below_eight c digit), f.3), omega arith))
    (λ _ _. read_fits b b.stage visit value refl f.0 f.3 numbers (room_le place value f.2))

deposit_fits : (b : Basis) (number place c : ℕ) → PhaseFits (Deposit place) b → TurnFits (deposited place (digit_echo number place c)) b (8 + place)
deposit_fits b number place c f =
    echo_walk (λ e. TurnFits (deposited place e) b (8 + place)) number place c (omega (arith, f.1.to))
    (λ _ less. ((f.0, record { from = omega arith; to = omega (arith, less) }, f.2), omega arith, digit_tests number (place + 1)))
    (λ _ _. ((f.0, omega arith, f.2), omega (arith, f.1.to), return_tests))

return_fits : (b : Basis) (place c : ℕ) → PhaseFits (Return place) b → TurnFits (returned (return_reply place c)) b 15
return_fits b place c f = return_walk (λ r. TurnFits (returned r) b 15) place c (omega arith) (λ k le. ((f.0, le, f.2), omega arith)) (λ _. (f.0, f.2, omega arith))

close_fits : (b : Basis) (place c : ℕ) → PhaseFits (Close place) b → TurnFits (closed (return_reply place c)) b 1
close_fits b place c f = return_walk (λ r. TurnFits (closed r) b 1) place c (omega arith) (λ k le. (le, omega arith)) (λ _. omega arith)

end_used : (b : Basis) (phase : Phase) → PhaseFits phase b → used_in_visit phase ≤ 22
end_used b Settle f = omega arith
end_used b (Sync place) f = omega arith
end_used b (Address visit place) f = omega (arith, f.1.to, visit_le visit)
end_used b (Slash visit) f = omega (arith, visit_le visit)
end_used b (Before visit) f = omega (arith, visit_le visit)
end_used b (Value visit value place) f = omega (arith, visit_le visit)
end_used b (Deposit place) f = omega (arith, f.1.to)
end_used b (Return place) f = omega arith
end_used b (Close place) f = omega arith
end_used b (Ended end) f = omega arith

hears_fits : (b : Basis) (phase : Phase) (c : ℕ) → AreNumbers b.stage → PhaseFits phase b → TurnFits (hears (address_nr b.addresses (length b.seen)) b.stage phase c) b (used_in_visit phase)
hears_fits b Settle c numbers f = (tt, omega arith)
hears_fits b (Sync place) c numbers f = sync_fits b place c
hears_fits b (Address visit place) c numbers f = address_fits b _ visit place c f
hears_fits b (Slash visit) c numbers f = either (λ t. TurnFits t b (used_before visit + 7)) (c == 47) _ _ (λ _. (f, omega arith)) (λ _. omega (arith, visit_le visit))
hears_fits b (Before visit) c numbers f = before_fits b visit c f.0 f.1
hears_fits b (Value visit value place) c numbers f = value_fits b _ visit value place c numbers f
hears_fits b (Deposit place) c numbers f = deposit_fits b (number_of b.stage) place c f
hears_fits b (Return place) c numbers f = return_fits b place c f
hears_fits b (Close place) c numbers f = close_fits b place c f
hears_fits b (Ended end) c numbers f = (f, omega arith)

waits_fits : (b : Basis) (phase : Phase) → PhaseFits phase b → TurnFits (waits phase) b (used_in_visit phase)
waits_fits b Settle f = (omega arith, omega arith, resync_tests)
waits_fits b (Sync place) f = omega arith
waits_fits b (Address visit place) f = end_used b (Address visit place) f
waits_fits b (Slash visit) f = omega (arith, visit_le visit)
waits_fits b (Before visit) f = omega (arith, visit_le visit)
waits_fits b (Value visit value place) f = omega (arith, visit_le visit)
waits_fits b (Deposit place) f = omega (arith, f.1.to)
waits_fits b (Return place) f = omega arith
waits_fits b (Close place) f = omega arith
waits_fits b (Ended end) f = (f, omega arith)

pub turn_fits : (t : Tester) (heard : Heard) → IsTester t → TurnFits (turn_of t heard) (basis_of t) (used_in_visit t.phase)
turn_fits t (Got c) h = hears_fits (basis_of t) t.phase c h.numbers h.fits
turn_fits t Quiet h = waits_fits (basis_of t) t.phase h.fits

pub kept : (t : Tester) (heard : Heard) → IsTester t → IsTester (ask t heard).next
kept t heard h = taken_kept t (turn_of t heard) h (turn_fits t heard h)

pub tests : (t : Tester) (heard : Heard) → IsTester t → KeyTests (ask t heard).key
tests t heard h = taken_tests t (turn_of t heard) (basis_of t) (used_in_visit t.phase) (turn_fits t heard h)

up_to_le : (stage : Stage) → used_up_to stage ≤ 22
up_to_le Unseen = omega arith
up_to_le (Once first) = omega arith
up_to_le (Turned old) = omega arith
up_to_le (Returned old turned) = omega arith

pub within_bound : (t : Tester) → IsTester t → t.sent ≤ testing_bound (length t.addresses) t.patience
within_bound t h = omega (arith, h.paid, end_used (basis_of t) t.phase h.fits, up_to_le t.stage, h.within, h.patient)

-- ---- a life begins as every tester has to be

begun_test : (addresses : List ℕ) (patience : ℕ) (done : Bool) → (length addresses == 0) ≡ done → AreAddresses addresses → patience < 2 ^ 32 →
    IsTester (record { addresses = addresses; seen = []; patience = patience; spent = 0; sent = 0; stage = Unseen; phase = if done then Ended Complete else Settle })
begun_test addresses patience true e asked long = record { asked = asked; within = omega arith; patient = omega arith; long = long; stage = tt; numbers = tt; fits = (omega (arith, eqb-true _ _ e), refl); paid = omega arith }
begun_test addresses patience false e asked long = record { asked = asked; within = omega arith; patient = omega arith; long = long; stage = tt; numbers = tt; fits = tt; paid = omega arith }

pub begun_kept : (addresses : List ℕ) (patience : ℕ) → AreAddresses addresses → patience < 2 ^ 32 → IsTester (begun addresses patience)
begun_kept addresses patience asked long = begun_test addresses patience (length addresses == 0) refl asked long
