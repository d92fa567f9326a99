-- Each turn of the table keeps what holds of every reader.
use Rattle.std.proofs.Common.{◌≡◌, ℕ, ◌+◌, ◌-◌, ◌^◌, ◌<◌, ◌≤◌, Bool, true, false, ◌==◌, nat_lt, if◌then◌else◌, List, [], length, refl, arith, ap, sym, subst, ◌∙◌, ◌*◌, length-append}
use Rattle.std.specs.Prelude.{All, Option, Some, None}
use Rattle.tape_image.specs.Word.{WordValue, merged}
use Rattle.std.proofs.lemmas.List.{length_push}
use Rattle.std.proofs.lemmas.List.Elements.{All-nil, All-push}
use Rattle.std.proofs.Math.Nat.{mul-le-mul_left}
use borrow.Author.Tests.{ltb-true, ltb-false, eqb-true}
use Rattle.host_core.specs.Answers.{resynchronise_reply, return_reply, digit_echo, reading_start, reading_rest}
use Rattle.host_core.specs.declared.heard.Heard.{Heard}
use Rattle.host_core.specs.declared.heard.Heard.TheVariants.{Got, Quiet}
use Rattle.host_core.proofs.Frame.{on_test}
use Rattle.host_core.proofs.Replies.{either, resynchronise_walk, return_walk, echo_walk, start_walk, rest_walk}
use Rattle.host_core.proofs.Turns.{room_step, room_le, digit_below_eight}
use Rattle.reading_core.specs.declared.care.Care.{Care}
use Rattle.reading_core.specs.declared.care.Care.TheVariants.{Once, Twice, TwiceWhereOther}
use Rattle.reading_core.specs.declared.phase.Phase.{Phase}
use Rattle.reading_core.specs.declared.phase.Phase.TheVariants.{Settle, Sync, Address, Slash, Before, Value, Close, Refused, Ended}
use Rattle.reading_core.specs.declared.phase.End.TheVariants.{Complete, GaveUp}
use Rattle.reading_core.specs.declared.turn.Turn.{Turn}
use Rattle.reading_core.specs.declared.turn.Turn.TheVariants.{Listen, Key, Read, Again, Next, Stop, Stray, Timeout}
use Rattle.reading_core.specs.Addresses.{AreAddresses}
use Rattle.reading_core.specs.Bound.{used_in, used_before, most_of_word, life_bound}
use Rattle.reading_core.specs.Invariant.{IsReader, Basis, basis_of, PhaseFits, EndFits, HasWord, EarlierFits}
use Rattle.reading_core.specs.Reader.{Reader, Manner, address_under_way, begun, begun_in, looks_twice, once}
use Rattle.reading_core.specs.ReadingTable.{ReaderStep, ask, counted, taken, turn_of, hears, waits, synced, addressed, doubts, judged, target_of, questioned, reads, closed, refused, next_word, is_read}

-- what a turn needs of the reader that takes it, n being the characters that its phase may have used
abbrev TurnFits : Turn → Reader → ℕ → Type 0
TurnFits (Listen phase) r n = PhaseFits phase (basis_of r) × (n ≤ used_in phase)
TurnFits (Key key phase) r n = PhaseFits phase (basis_of r) × (n + 1 ≤ used_in phase)
TurnFits (Read value) r n = HasWord (basis_of r) × (value < 65536) × (n ≤ 8)
TurnFits (Again value) r n = (looks_twice r.manner.care ≡ true) × (r.earlier ≡ None) × (n ≤ 8)
TurnFits Next r n = n ≤ 1
TurnFits (Stop end) r n = EndFits end (basis_of r) × (n ≤ 9)
TurnFits Stray r n = n ≤ 9
TurnFits Timeout r n = n ≤ 9

either_asked : (test : Bool) (m k : ReaderStep) → (test ≡ true → IsReader m.next) → (test ≡ false → IsReader k.next) → IsReader (if test then m else k).next
either_asked test m k is isnt = on_test (λ v. IsReader (if v then m else k).next) test is isnt

-- an earlier look and the one under way are no more than a word may cost
two_looks : (twice : Bool) (earlier : Option ℕ) (care : Care) → looks_twice care ≡ twice → EarlierFits earlier care → used_before earlier + 8 ≤ most_of_word care
two_looks true None care e fits = rw e (omega arith)
two_looks false None care e fits = rw e (omega arith)
two_looks true (Some number) care e fits = rw e (omega arith)
two_looks false (Some number) care e fits = absurd (differs (sym fits ∙ e))
  where
    differs : true ≡ false → ⊥
    differs e = cc e

room : (r : Reader) → IsReader r → used_before r.earlier + 8 ≤ most_of_word r.manner.care
room r h = two_looks (looks_twice r.manner.care) r.earlier r.manner.care refl h.again

one_more : (m n : ℕ) → m * (n + 1) ≡ m * n + m
one_more m n = omega arith

next_kept : (r : Reader) → IsReader r → used_in r.phase ≤ 1 → IsReader (next_word r).next
next_kept r h f =
    either_asked (nat_lt (length r.values) (length r.addresses)) _ _
    (λ more. record { asked = h.asked; within = h.within; numbers = h.numbers; patient = h.patient; long = h.long; again = h.again; fits = (ltb-true _ _ more, record { from = omega arith; to = omega arith }); paid = omega (arith, h.paid, f) })
    (λ none. record { asked = h.asked; within = h.within; numbers = h.numbers; patient = h.patient; long = h.long; again = h.again; fits = omega (arith, h.within, ltb-false _ _ none); paid = omega (arith, h.paid, f) })

given_up : (r : Reader) → IsReader r → r.patience ≤ r.spent → used_in r.phase ≤ 9 → IsReader (record r { phase = Ended GaveUp })
given_up r h out f =
    record { asked = h.asked; within = h.within; numbers = h.numbers; patient = h.patient; long = h.long; again = h.again; fits = omega (arith, h.patient, out); paid = omega (arith, h.paid, f) }

taken_kept : (r : Reader) (turn : Turn) → IsReader r → TurnFits turn r (used_in r.phase) → IsReader (taken r turn).next
taken_kept r (Listen phase) h f = record { asked = h.asked; within = h.within; numbers = h.numbers; patient = h.patient; long = h.long; again = h.again; fits = f.0; paid = omega (arith, h.paid, f.1) }
taken_kept r (Key key phase) h f = record { asked = h.asked; within = h.within; numbers = h.numbers; patient = h.patient; long = h.long; again = h.again; fits = f.0; paid = omega (arith, h.paid, f.1) }
taken_kept r (Read value) h f = record {
  asked = h.asked;
  within = simp length-append (omega (arith, f.0));
  numbers = All-push (λ v. v < 65536) r.values value h.numbers f.1;
  patient = h.patient;
  long = h.long;
  again = tt;
  fits = omega arith;
  paid = simp length-append (omega (arith, h.paid, f.2, room r h, one_more (most_of_word r.manner.care) (length r.values)));
}
taken_kept r (Again value) h f = record { asked = h.asked; within = h.within; numbers = h.numbers; patient = h.patient; long = h.long; again = f.0; fits = omega arith; paid = omega (arith, h.paid, f.2, ap used_before f.1) }
taken_kept r Next h f = next_kept r h f
taken_kept r (Stop end) h f = record { asked = h.asked; within = h.within; numbers = h.numbers; patient = h.patient; long = h.long; again = h.again; fits = f.0; paid = omega (arith, h.paid, f.1) }
taken_kept r Stray h f =
    either_asked (nat_lt r.spent r.patience) _ _
    (λ more. record { asked = h.asked; within = h.within; numbers = h.numbers; patient = omega (arith, ltb-true _ _ more); long = h.long; again = tt; fits = tt; paid = omega (arith, h.paid, f, room r h, one_more (most_of_word r.manner.care + 1) r.spent) })
    (λ none. given_up r h (ltb-false _ _ none) f)
taken_kept r Timeout h f =
    either_asked (nat_lt r.spent r.patience) _ _
    (λ more. record { asked = h.asked; within = h.within; numbers = h.numbers; patient = omega (arith, ltb-true _ _ more); long = h.long; again = tt; fits = omega arith; paid = omega (arith, h.paid, f, room r h, one_more (most_of_word r.manner.care + 1) r.spent) })
    (λ none. given_up r h (ltb-false _ _ none) f)

sync_fits : (r : Reader) (place c : ℕ) → TurnFits (synced (resynchronise_reply place c)) r 1
sync_fits r place c = resynchronise_walk (λ reply. TurnFits (synced reply) r 1) place c (omega arith) (λ k le. (le, omega arith)) (λ _. omega arith)

address_fits : (r : Reader) (address place c : ℕ) → PhaseFits (Address place) (basis_of r) → TurnFits (addressed place (digit_echo address place c)) r (1 + place)
address_fits r address place c f =
    echo_walk (λ e. TurnFits (addressed place e) r (1 + place)) address place c (omega (arith, f.1.to))
    (λ _ less. ((f.0, record { from = omega arith; to = omega (arith, less) }), omega arith)) (λ _ _. (f.0, omega (arith, f.1.to)))

first_below : (c : ℕ) → 48 ≤ c → c ≤ 49 → c - 48 < 2
first_below c low high = omega arith

questioned_fits : (r : Reader) (twice : Bool) → HasWord (basis_of r) → TurnFits (questioned twice (address_under_way r)) r 8
questioned_fits r true f = ((f, omega arith), omega arith)
questioned_fits r false f = ((f, refl), omega arith)

doubts_twice : (care : Care) (word : WordValue) (number : ℕ) → doubts care word number ≡ true → looks_twice care ≡ true
doubts_twice Once word number e = e
doubts_twice Twice word number e = refl
doubts_twice TwiceWhereOther word number e = refl

judged_fits : (r : Reader) (earlier : Option ℕ) (doubted : Bool) (number : ℕ) → HasWord (basis_of r) → number < 65536 → r.earlier ≡ earlier → (doubted ≡ true → looks_twice r.manner.care ≡ true) →
    TurnFits (judged earlier doubted number) r 8
judged_fits r None true number f below e twice = (twice refl, e, omega arith)
judged_fits r None false number f below e twice = (f, below, omega arith)
judged_fits r (Some first) doubted number f below e twice = either (λ t. TurnFits t r 8) (number == first) _ _ (λ _. (f, below, omega arith)) (λ _. omega arith)

before_fits : (r : Reader) (c : ℕ) → HasWord (basis_of r) → TurnFits (reads (target_of r) (reading_start c)) r 8
before_fits r c f =
    start_walk (λ reading. TurnFits (reads (target_of r) reading) r 8) c (omega arith) ((f, omega arith, omega arith), omega arith) (questioned_fits r (looks_twice r.manner.care) f)
    (λ low high. ((f, omega arith, first_below c low high), omega arith))

value_fits : (r : Reader) (value place c : ℕ) → PhaseFits (Value value place) (basis_of r) → TurnFits (reads (target_of r) (reading_rest value place c)) r 8
value_fits r value place c f =
    rest_walk (λ reading. TurnFits (reads (target_of r) reading) r 8) value place c (omega arith)
    (λ _ low high. ((f.0, omega arith, first_below c low high), omega arith))
    (λ some less digit. ((f.0, omega (arith, less), room_step place value (c - 48) some less f.2 (digit_below_eight c digit)), omega arith))
    (λ _ _. judged_fits r r.earlier (doubts r.manner.care (target_of r).expected value) value f.0 (room_le place value f.2) refl (doubts_twice r.manner.care _ value))

close_fits : (r : Reader) (place c : ℕ) → TurnFits (closed (return_reply place c)) r 1
close_fits r place c = return_walk (λ reply. TurnFits (closed reply) r 1) place c (omega arith) (λ k le. (le, omega arith)) (λ _. omega arith)

refused_fits : (r : Reader) (place c : ℕ) → HasWord (basis_of r) → TurnFits (refused (address_under_way r) (return_reply place c)) r 8
refused_fits r place c f = return_walk (λ reply. TurnFits (refused (address_under_way r) reply) r 8) place c (omega arith) (λ k le. ((f, le), omega arith)) (λ _. ((f, refl), omega arith))

hears_fits : (r : Reader) (phase : Phase) (c : ℕ) → PhaseFits phase (basis_of r) → TurnFits (hears (target_of r) phase c) r (used_in phase)
hears_fits r Settle c f = (tt, omega arith)
hears_fits r (Sync place) c f = sync_fits r place c
hears_fits r (Address place) c f = address_fits r _ place c f
hears_fits r Slash c f = either (λ t. TurnFits t r 8) (c == 47) _ _ (λ _. (f, omega arith)) (λ _. omega arith)
hears_fits r Before c f = before_fits r c f
hears_fits r (Value value place) c f = value_fits r value place c f
hears_fits r (Close place) c f = close_fits r place c
hears_fits r (Refused place) c f = refused_fits r place c f.0
hears_fits r (Ended end) c f = (f, omega arith)

waits_fits : (r : Reader) (phase : Phase) → PhaseFits phase (basis_of r) → TurnFits (waits phase) r (used_in phase)
waits_fits r Settle f = (omega arith, omega arith)
waits_fits r (Sync place) f = omega arith
waits_fits r (Address place) f = omega (arith, f.1.to)
waits_fits r Slash f = omega arith
waits_fits r Before f = omega arith
waits_fits r (Value value place) f = omega arith
waits_fits r (Close place) f = omega arith
waits_fits r (Refused place) f = omega arith
waits_fits r (Ended end) f = (f, omega arith)

turn_fits : (r : Reader) (heard : Heard) → IsReader r → TurnFits (turn_of r heard) r (used_in r.phase)
turn_fits r (Got c) h = hears_fits r r.phase c h.fits
turn_fits r Quiet h = waits_fits r r.phase h.fits

-- nothing is judged by the count of what no loss explains
pub any_count : (r : Reader) (n : ℕ) → IsReader r → IsReader (record r { foreign = n })
any_count r n h = record { asked = h.asked; within = h.within; numbers = h.numbers; patient = h.patient; long = h.long; again = h.again; fits = h.fits; paid = h.paid }

counted_kept : (r : Reader) (heard : Heard) → IsReader r → IsReader (counted r heard)
counted_kept r heard h = any_count r (counted r heard).foreign h

pub kept_counted : (r : Reader) (heard : Heard) → IsReader (counted r heard) → IsReader (ask r heard).next
kept_counted r heard h = taken_kept (counted r heard) (turn_of r heard) h (turn_fits (counted r heard) heard h)

pub kept : (r : Reader) (heard : Heard) → IsReader r → IsReader (ask r heard).next
kept r heard h = kept_counted r heard (counted_kept r heard h)

-- the same of a reader that has counted, where this is the table's turn
pub step_kept : (r old : Reader) (heard : Heard) (turn : Turn) → r ≡ counted old heard → turn ≡ turn_of old heard → IsReader r → IsReader (taken r turn).next
step_kept r old heard turn is row h =
    subst (λ t. IsReader (taken r t).next) (sym row) (subst (λ x. IsReader (taken x (turn_of old heard)).next) (sym is) (kept_counted old heard (subst IsReader is h)))

-- there is an address for a number that a turn takes
pub read_within : (r : Reader) (turn : Turn) → IsReader (taken r turn).next → is_read turn ≡ true → length r.values < length r.addresses
read_within r (Listen phase) h e = absurd (cc e)
read_within r (Key key phase) h e = absurd (cc e)
read_within r (Read value) h e = omega (arith, h.within, length_push r.values value)
read_within r (Again value) h e = absurd (cc e)
read_within r Next h e = absurd (cc e)
read_within r (Stop end) h e = absurd (cc e)
read_within r Stray h e = absurd (cc e)
read_within r Timeout h e = absurd (cc e)

used_le : (phase : Phase) (b : Basis) → PhaseFits phase b → used_in phase ≤ 9
used_le Settle b f = omega arith
used_le (Sync place) b f = omega arith
used_le (Address place) b f = omega (arith, f.1.to)
used_le Slash b f = omega arith
used_le Before b f = omega arith
used_le (Value value place) b f = omega arith
used_le (Close place) b f = omega arith
used_le (Refused place) b f = omega arith
used_le (Ended end) b f = omega arith

pub within_bound : (r : Reader) → IsReader r → r.sent ≤ life_bound r.manner.care (length r.addresses) r.patience
within_bound r h =
    let words : most_of_word r.manner.care * length r.values ≤ most_of_word r.manner.care * length r.addresses = mul-le-mul_left (most_of_word r.manner.care) h.within in
    let mishaps : (most_of_word r.manner.care + 1) * r.spent ≤ (most_of_word r.manner.care + 1) * r.patience = mul-le-mul_left (most_of_word r.manner.care + 1) h.patient in
    omega (arith, h.paid, used_le r.phase (basis_of r) h.fits, words, mishaps, room r h, one_more (most_of_word r.manner.care + 1) r.patience)

-- a life begins as every reader has to be; `done` says whether nothing is left to do
begun_test : (addresses : List ℕ) (manner : Manner) (values : List ℕ) (patience : ℕ) (done : Bool) → (length values == length addresses) ≡ done → AreAddresses addresses → length values ≤ length addresses → All (λ v. v < 65536) values → patience < 2 ^ 32 →
    IsReader (record { addresses = addresses; manner = manner; values = values; patience = patience; spent = 0; foreign = 0; sent = 0; earlier = None; phase = if done then Ended Complete else Settle })
begun_test addresses manner values patience true e asked le numbers long = record { asked = asked; within = le; numbers = numbers; patient = omega arith; long = long; again = tt; fits = eqb-true _ _ e; paid = omega arith }
begun_test addresses manner values patience false e asked le numbers long = record { asked = asked; within = le; numbers = numbers; patient = omega arith; long = long; again = tt; fits = tt; paid = omega arith }

begun_kept : (addresses : List ℕ) (manner : Manner) (values : List ℕ) (patience : ℕ) → AreAddresses addresses → length values ≤ length addresses → All (λ v. v < 65536) values → patience < 2 ^ 32 → IsReader (begun_in manner addresses values patience)
begun_kept addresses manner values patience asked le numbers long = begun_test addresses manner values patience (length values == length addresses) refl asked le numbers long

pub fresh_in : (manner : Manner) (addresses : List ℕ) (patience : ℕ) → AreAddresses addresses → patience < 2 ^ 32 → IsReader (begun_in manner addresses [] patience)
fresh_in manner addresses patience asked long = begun_kept addresses manner [] patience asked (omega arith) (All-nil (λ v. v < 65536)) long

pub fresh_kept : (addresses : List ℕ) (patience : ℕ) → AreAddresses addresses → patience < 2 ^ 32 → IsReader (begun addresses [] patience)
fresh_kept addresses patience asked long = fresh_in once addresses patience asked long
