-- Each turn of the phase table keeps what holds of every core.
use Rattle.std.proofs.Common.{◌≡◌, ℕ, zero, suc, ◌+◌, ◌-◌, ◌*◌, ◌^◌, ◌<◌, ◌≤◌, Bool, true, false, ◌==◌, nat_lt, ◌||◌, ◌&&◌, if◌then◌else◌, Option, Some, None, IsSome, length, min, refl, arith, ◌⊎◌, inl, inr, subst}
use Rattle.std.specs.Option.{is_none}
use Rattle.std.proofs.lemmas.Bool.Decides.{nat_tests}
use Rattle.std.proofs.lemmas.List.Elements.{All-get_or}
use Rattle.tape_image.proofs.Halves.{merged_below}
use borrow.Author.Tests.{ltb-true, ltb-false, eqb-true}
use Rattle.octal.specs.Octal.{is_digit}
use Rattle.tape_image.specs.Word.{IsWord, WordValue, merged}
use Rattle.tape_image.specs.Plan.{PlanValue, IsPlan}
use Rattle.host_core.specs.declared.phase.Phase.{Phase}
use Rattle.host_core.specs.declared.phase.Phase.TheVariants.{Settle, Sync, Address, Slash, Before, Value, Deposit, Return, Start, Go, Ended}
use Rattle.host_core.specs.declared.phase.Try.{Try}
use Rattle.host_core.specs.declared.phase.Try.TheVariants.{Only, First, Second}
use Rattle.host_core.specs.declared.phase.Visit.{Visit}
use Rattle.host_core.specs.declared.phase.Visit.TheVariants.{Look, Again, Check}
use Rattle.host_core.specs.declared.phase.Reason.{Reason}
use Rattle.host_core.specs.declared.phase.Reason.TheVariants.{Store, Reopen, Missing, Close}
use Rattle.host_core.specs.declared.phase.End.{End}
use Rattle.host_core.specs.declared.phase.End.TheVariants.{Loaded, Started, Uncertain, GaveUp, NoWord, WontHold}
use Rattle.host_core.specs.declared.heard.Heard.{Heard}
use Rattle.host_core.specs.declared.heard.Heard.TheVariants.{Got, Quiet}
use Rattle.host_core.specs.declared.turn.Turn.{Turn}
use Rattle.host_core.specs.declared.turn.Turn.TheVariants.{Listen, Key, Verified, Revisit, Next, Mark, Stop, Stray, Timeout}
use Rattle.host_core.specs.Core.{Core, begun, begun_by, restarted, start_of, word_nr, no_word}
use Rattle.host_core.specs.Bound.{used_in, used_before, used_till, word_cost, character_bound}
use Rattle.host_core.specs.Host.{IsHost, Basis, basis_of, PhaseFits, TryFits, VisitFits, EndFits, MarkFits, IsPastMark, HasWord, IsReady, value_room}
use Rattle.host_core.specs.declared.progress.BadProgress.TheVariants.{TooMany, EarlyMark}
use Rattle.host_core.specs.Opening.{refusal_of}
use Rattle.host_core.specs.PhaseTable.{Move, move, taken, turn_of, hears, waits, address_hears, before_hears, mends, read, value_hears, deposit_hears, return_hears, start_hears, go_hears, next_word, after_words}
use Rattle.host_core.proofs.Frame.{on_test}
use Rattle.host_core.proofs.Walk.{sync_walk, address_walk, slash_walk, before_walk, value_walk, read_walk, deposit_walk, return_walk, start_walk, go_walk}

-- what a turn needs of the core that takes it, n being the characters that its phase may have used
abbrev pub TurnFits : Turn → Basis → ℕ → Type 0
TurnFits (Listen phase) b n = PhaseFits phase b × MarkFits b.going b.plan.start phase × (n ≤ used_in b.careful phase)
TurnFits (Key key phase) b n = PhaseFits phase b × (b.going ≡ false) × (n + 1 ≤ used_in b.careful phase)
TurnFits Verified b n = HasWord b × (b.going ≡ false) × (n ≤ word_cost b.careful)
TurnFits (Revisit visit) b n = HasWord b × (b.going ≡ false) × (n ≤ used_before visit) × VisitFits visit b.careful
TurnFits Next b n = (b.going ≡ false) × (n ≤ 1)
TurnFits Mark b n = IsReady b.plan b.verified × (b.going ≡ false) × (n ≤ 7)
TurnFits (Stop end) b n = EndFits end b × MarkFits b.going b.plan.start (Ended end) × (n ≤ word_cost b.careful + 1)
TurnFits Stray b n = (b.going ≡ false) × (n ≤ word_cost b.careful)
TurnFits Timeout b n = (b.going ≡ false) × (n ≤ word_cost b.careful)

-- what a life may have used, when its phase may have used more; and when it has sent one character more
used_more : (sent a b x y : ℕ) → sent ≤ a + x + y → a ≤ b → sent ≤ b + x + y
used_more sent a b x y paid le = omega (arith, paid, le)

sent_more : (sent a b x y : ℕ) → sent ≤ a + x + y → a + 1 ≤ b → sent + 1 ≤ b + x + y
sent_more sent a b x y paid le = omega (arith, paid, le)

-- one word more, and one mishap more
word_paid : (careful : Bool) (sent n v y : ℕ) → sent ≤ n + word_cost careful * v + y → n ≤ word_cost careful → sent + 1 ≤ 1 + word_cost careful * (v + 1) + y
word_paid true sent n v y paid le = omega (arith, paid, le)
word_paid false sent n v y paid le = omega (arith, paid, le)

mishap_paid : (careful : Bool) (sent n v s : ℕ) → sent ≤ n + word_cost careful * v + (word_cost careful + 1) * s → n ≤ word_cost careful → sent + 1 ≤ word_cost careful * v + (word_cost careful + 1) * (s + 1)
mishap_paid true sent n v s paid le = omega (arith, paid, le)
mishap_paid false sent n v s paid le = omega (arith, paid, le)

some_cost : (careful : Bool) → 22 ≤ word_cost careful
some_cost true = omega arith
some_cost false = omega arith

no_mark : (going : Bool) (start : Option ℕ) (phase : Phase) → going ≡ false → MarkFits going start phase
no_mark false start phase e = tt
no_mark true start phase e = cc e

either_move : (core : Core) (test : Bool) (m k : Move) → (test ≡ true → IsHost m.next) → (test ≡ false → IsHost k.next) → IsHost (if test then m else k).next
either_move core test m k is isnt = on_test (λ v. IsHost (if v then m else k).next) test is isnt

after_words_kept : (core : Core) (start : Option ℕ) → core.plan.start ≡ start → IsHost core → core.verified ≡ length core.plan.words → TurnFits Next (basis_of core) (used_in core.careful core.phase) → IsHost (after_words core start).next
after_words_kept core (Some s) e h all f =
    record { image = h.image; within = h.within; patient = h.patient; long = h.long; fits = (record { all = all; has_start = rw e refl }, record { from = omega arith; to = omega arith }); mark = no_mark core.going core.plan.start (Start 1) f.0; paid = sent_more core.sent (used_in core.careful core.phase) (used_in core.careful (Start 1)) (word_cost core.careful * core.verified) ((word_cost core.careful + 1) * core.spent) h.paid (omega (arith, f.1)) }
after_words_kept core None e h all f =
    record { image = h.image; within = h.within; patient = h.patient; long = h.long; fits = (all, e); mark = no_mark core.going core.plan.start (Ended Loaded) f.0; paid = used_more core.sent (used_in core.careful core.phase) (used_in core.careful (Ended Loaded)) (word_cost core.careful * core.verified) ((word_cost core.careful + 1) * core.spent) h.paid (omega (arith, f.1, some_cost core.careful)) }

next_kept : (core : Core) → IsHost core → TurnFits Next (basis_of core) (used_in core.careful core.phase) → IsHost (next_word core).next
next_kept core h f =
    either_move core (nat_lt core.verified (length core.plan.words)) _ _
    (λ more. record { image = h.image; within = h.within; patient = h.patient; long = h.long; fits = (ltb-true _ _ more, record { from = omega arith; to = omega arith }, tt); mark = no_mark core.going core.plan.start (Address Look 1) f.0; paid = sent_more core.sent (used_in core.careful core.phase) (used_in core.careful (Address Look 1)) (word_cost core.careful * core.verified) ((word_cost core.careful + 1) * core.spent) h.paid (omega (arith, f.1)) })
    (λ none. after_words_kept core core.plan.start refl h (omega (arith, h.within, ltb-false _ _ none)) f)

given_up : (core : Core) → IsHost core → core.patience ≤ core.spent → TurnFits Stray (basis_of core) (used_in core.careful core.phase) → IsHost (record core { phase = Ended GaveUp })
given_up core h out f =
    record { image = h.image; within = h.within; patient = h.patient; long = h.long; fits = omega (arith, h.patient, out); mark = no_mark core.going core.plan.start (Ended GaveUp) f.0; paid = used_more core.sent (used_in core.careful core.phase) (used_in core.careful (Ended GaveUp)) (word_cost core.careful * core.verified) ((word_cost core.careful + 1) * core.spent) h.paid (omega (arith, f.1)) }

settled : (sent x y : ℕ) → sent + 1 ≤ x + y → sent ≤ 0 + x + y
settled sent x y paid = omega (arith, paid)

resynchronised : (sent x y : ℕ) → sent + 1 ≤ x + y → sent + 1 ≤ 1 + x + y
resynchronised sent x y paid = omega (arith, paid)

taken_kept : (core : Core) (turn : Turn) → IsHost core → TurnFits turn (basis_of core) (used_in core.careful core.phase) → IsHost (taken core turn).next
taken_kept core (Listen phase) h f = record { image = h.image; within = h.within; patient = h.patient; long = h.long; fits = f.0; mark = f.1; paid = used_more core.sent (used_in core.careful core.phase) (used_in core.careful phase) (word_cost core.careful * core.verified) ((word_cost core.careful + 1) * core.spent) h.paid f.2 }
taken_kept core (Key key phase) h f = record { image = h.image; within = h.within; patient = h.patient; long = h.long; fits = f.0; mark = no_mark core.going core.plan.start phase f.1; paid = sent_more core.sent (used_in core.careful core.phase) (used_in core.careful phase) (word_cost core.careful * core.verified) ((word_cost core.careful + 1) * core.spent) h.paid f.2 }
taken_kept core Verified h f =
    record { image = h.image; within = omega (arith, f.0); patient = h.patient; long = h.long; fits = omega arith; mark = no_mark core.going core.plan.start (Return Close 0) f.1; paid = word_paid core.careful core.sent (used_in core.careful core.phase) core.verified ((word_cost core.careful + 1) * core.spent) h.paid f.2 }
taken_kept core (Revisit visit) h f =
    record { image = h.image; within = h.within; patient = h.patient; long = h.long; fits = (f.0, record { from = omega arith; to = omega arith }, f.3); mark = no_mark core.going core.plan.start (Address visit 1) f.1; paid = sent_more core.sent (used_in core.careful core.phase) (used_in core.careful (Address visit 1)) (word_cost core.careful * core.verified) ((word_cost core.careful + 1) * core.spent) h.paid (omega (arith, f.2)) }
taken_kept core Next h f = next_kept core h f
taken_kept core Mark h f =
    record { image = h.image; within = h.within; patient = h.patient; long = h.long; fits = (f.0, refl); mark = (f.0.has_start, tt); paid = sent_more core.sent (used_in core.careful core.phase) (used_in core.careful Go) (word_cost core.careful * core.verified) ((word_cost core.careful + 1) * core.spent) h.paid (omega (arith, f.2)) }
taken_kept core (Stop end) h f = record { image = h.image; within = h.within; patient = h.patient; long = h.long; fits = f.0; mark = f.1; paid = used_more core.sent (used_in core.careful core.phase) (used_in core.careful (Ended end)) (word_cost core.careful * core.verified) ((word_cost core.careful + 1) * core.spent) h.paid f.2 }
taken_kept core Stray h f =
    either_move core (nat_lt core.spent core.patience) _ _
    (λ more. record { image = h.image; within = h.within; patient = omega (arith, ltb-true _ _ more); long = h.long; fits = tt; mark = no_mark core.going core.plan.start Settle f.0; paid = settled core.sent (word_cost core.careful * core.verified) ((word_cost core.careful + 1) * (core.spent + 1)) (mishap_paid core.careful core.sent (used_in core.careful core.phase) core.verified core.spent h.paid f.1) })
    (λ none. given_up core h (ltb-false _ _ none) f)
taken_kept core Timeout h f =
    either_move core (nat_lt core.spent core.patience) _ _
    (λ more. record { image = h.image; within = h.within; patient = omega (arith, ltb-true _ _ more); long = h.long; fits = omega arith; mark = no_mark core.going core.plan.start (Sync 0) f.0; paid = resynchronised core.sent (word_cost core.careful * core.verified) ((word_cost core.careful + 1) * (core.spent + 1)) (mishap_paid core.careful core.sent (used_in core.careful core.phase) core.verified core.spent h.paid f.1) })
    (λ none. given_up core h (ltb-false _ _ none) f)

unmarked : (going : Bool) (start : Option ℕ) (phase : Phase) → MarkFits going start phase → (IsPastMark phase → ⊥) → going ≡ false
unmarked false start phase m live = refl
unmarked true start phase m live = absurd (live m.1)

-- the host listens on in a phase
on : (b : Basis) (n : ℕ) (phase : Phase) → b.going ≡ false → PhaseFits phase b → n ≤ used_in b.careful phase → TurnFits (Listen phase) b n
on b n phase e fits le = (fits, no_mark b.going b.plan.start phase e, le)

try_le : (deposit : Try) (careful : Bool) → TryFits deposit careful → used_till deposit + 14 ≤ word_cost careful
try_le Only true f = cc f
try_le Only false f = omega arith
try_le First true f = omega arith
try_le First false f = cc f
try_le (Second before) true f = omega arith
try_le (Second before) false f = cc f

visit_le : (visit : Visit) (careful : Bool) → VisitFits visit careful → used_before visit + 7 ≤ word_cost careful
visit_le Look careful f = omega (arith, some_cost careful)
visit_le (Again first) true f = omega arith
visit_le (Again first) false f = cc f
visit_le (Check deposit value) careful f = omega (arith, try_le deposit careful f.0)

address_fits : (b : Basis) (address : ℕ) (visit : Visit) (place c : ℕ) → b.going ≡ false → PhaseFits (Address visit place) b → TurnFits (address_hears address visit place c) b (used_before visit + place)
address_fits b address visit place c e f =
    address_walk (λ t. TurnFits t b (used_before visit + place)) address visit place c (e, omega (arith, f.1.to, visit_le visit b.careful f.2))
    (λ less. ((f.0, record { from = omega arith; to = omega arith }, f.2), e, omega arith)) ((f.0, f.2), e, omega (arith, f.1.to))

-- a reading goes on
reading : (b : Basis) (visit : Visit) (value place : ℕ) → b.going ≡ false → HasWord b × VisitFits visit b.careful → place ≤ 6 → value < value_room place → TurnFits (Listen (Value visit value place)) b (used_before visit + 7)
reading b visit value place e f le room = on b (used_before visit + 7) (Value visit value place) e (f.0, le, room, f.1) (omega arith)

before_fits : (b : Basis) (visit : Visit) (c : ℕ) → b.going ≡ false → HasWord b × VisitFits visit b.careful → TurnFits (before_hears b.careful (word_nr b.plan.words b.verified) visit c) b (used_before visit + 7)
before_fits b visit c e f =
    let all : used_before visit + 7 ≤ word_cost b.careful = visit_le visit b.careful f.1 in
    before_walk (λ t. TurnFits t b (used_before visit + 7)) b.careful (word_nr b.plan.words b.verified) visit c (e, all)
    (reading b visit 0 0 e f (omega arith) (omega arith))
    (λ careful. on b (used_before visit + 7) (Return (Missing (word_nr b.plan.words b.verified).address) 0) e ((f.0, refl), omega arith, careful) all)
    (λ _. ((f.0, refl), no_mark b.going b.plan.start (Ended (NoWord (word_nr b.plan.words b.verified).address)) e, omega (arith, all)))
    (λ low high. reading b visit (c - 48) 1 e f (omega arith) (omega arith))

pub room_step : (place value d : ℕ) → (place == 0) ≡ false → place < 6 → value < value_room place → d < 8 → 8 * value + d < value_room (place + 1)
room_step zero value d some less room digit = cc some
room_step (suc zero) value d some less room digit = omega arith
room_step (suc (suc zero)) value d some less room digit = omega arith
room_step (suc (suc (suc zero))) value d some less room digit = omega arith
room_step (suc (suc (suc (suc zero)))) value d some less room digit = omega arith
room_step (suc (suc (suc (suc (suc zero))))) value d some less room digit = omega arith
room_step (suc (suc (suc (suc (suc (suc n)))))) value d some less room digit = absurd (omega arith)

pub room_le : (place value : ℕ) → value < value_room place → value < 65536
room_le place value room = grind (arith, nat_tests)

pub digit_below_eight : (c : ℕ) → is_digit c ≡ true → c - 48 < 8
digit_below_eight c h = grind (arith, nat_tests)

merged_fits : (b : Basis) (value : ℕ) → IsPlan b.plan → HasWord b → value < 65536 → merged (word_nr b.plan.words b.verified) value < 65536
merged_fits b value p f small = merged_below (word_nr b.plan.words b.verified) value (All-get_or IsWord b.plan.words b.verified no_word f p.each).fits small

mends_fits : (b : Basis) (deposit : Try) (value n : ℕ) → b.going ≡ false → HasWord b → value < 65536 → TryFits deposit b.careful → n ≤ used_till deposit → TurnFits (mends deposit value) b n
mends_fits b deposit value n e f small fits le = ((f, record { from = omega arith; to = omega arith }, small, fits), e, omega (arith, le))

look_used : (visit : Visit) (deposit : Try) (first : ℕ) → visit ≡ Look → 8 ≤ used_till deposit → used_before visit + 7 ≤ used_till deposit
look_used visit deposit first is le = rw is le

read_fits : (b : Basis) (visit : Visit) (value : ℕ) → IsPlan b.plan → b.going ≡ false → HasWord b → VisitFits visit b.careful → value < 65536 → TurnFits (read b.careful (word_nr b.plan.words b.verified) visit value) b (used_before visit + 7)
read_fits b visit value p e f known small =
    let word : WordValue = word_nr b.plan.words b.verified in
    let n : ℕ = used_before visit + 7 in
    let all : n ≤ word_cost b.careful = visit_le visit b.careful known in
    let fits : merged word value < 65536 = merged_fits b value p f small in
    read_walk (λ t. TurnFits t b n) b.careful word visit value (e, all) (λ _. (f, e, all))
    (λ careful look. ((f, omega arith, careful), e, rw look (omega arith)))
    (λ plain look. mends_fits b Only (merged word value) n e f fits plain (rw look (omega arith)))
    (λ careful look. mends_fits b First (merged word value) n e f fits careful (rw look (omega arith)))
    (λ first again. mends_fits b First (merged word value) n e f fits (subst (λ v. VisitFits v b.careful) again known) (rw again (omega arith)))
    (λ stored check. mends_fits b (Second value) stored n e f (subst (λ v. VisitFits v b.careful) check known).1 (subst (λ v. VisitFits v b.careful) check known).0 (rw check (omega arith)))
    ((f, refl), no_mark b.going b.plan.start (Ended (WontHold word.address)) e, omega (arith, all))

value_fits : (b : Basis) (visit : Visit) (value place c : ℕ) → IsPlan b.plan → b.going ≡ false → PhaseFits (Value visit value place) b → TurnFits (value_hears b.careful (word_nr b.plan.words b.verified) visit value place c) b (used_before visit + 7)
value_fits b visit value place c p e f =
    value_walk (λ t. TurnFits t b (used_before visit + 7)) b.careful (word_nr b.plan.words b.verified) visit value place c (e, visit_le visit b.careful f.3)
    (λ _ low high. reading b visit (c - 48) 1 e (f.0, f.3) (omega arith) (omega arith))
    (λ some less digit. reading b visit (8 * value + (c - 48)) (place + 1) e (f.0, f.3) (omega arith) (room_step place value (c - 48) some less f.2 (digit_below_eight c digit)))
    (λ _ _. read_fits b visit value p e f.0 f.3 (room_le place value f.2))

deposit_fits : (b : Basis) (deposit : Try) (value place c : ℕ) → b.going ≡ false → PhaseFits (Deposit deposit value place) b → TurnFits (deposit_hears deposit value place c) b (used_till deposit + place)
deposit_fits b deposit value place c e f =
    deposit_walk (λ t. TurnFits t b (used_till deposit + place)) deposit value place c (e, omega (arith, f.1.to, try_le deposit b.careful f.3))
    (λ less. ((f.0, record { from = omega arith; to = omega arith }, f.2, f.3), e, omega arith)) ((f.0, omega arith, f.2, f.3), e, omega (arith, f.1.to))

return_fits : (b : Basis) (reason : Reason) (place c : ℕ) → b.going ≡ false → PhaseFits (Return reason place) b → TurnFits (return_hears reason place c) b (used_in b.careful (Return reason place))
return_fits b (Store deposit value) place c e f =
    return_walk (λ t. TurnFits t b (used_till deposit + 7)) (Store deposit value) place c (e, omega (arith, try_le deposit b.careful f.3))
    (λ k le. on b (used_till deposit + 7) (Return (Store deposit value) k) e (f.0, le, f.2, f.3) (omega arith)) (f.0, e, omega arith, (f.3, f.2))
return_fits b (Reopen first) place c e f =
    return_walk (λ t. TurnFits t b 9) (Reopen first) place c (e, omega (arith, some_cost b.careful)) (λ k le. on b 9 (Return (Reopen first) k) e (f.0, le, f.2) (omega arith)) (f.0, e, omega arith, f.2)
return_fits b (Missing address) place c e f =
    return_walk (λ t. TurnFits t b (word_cost b.careful)) (Missing address) place c (e, omega arith)
    (λ k le. on b (word_cost b.careful) (Return (Missing address) k) e (f.0, le, f.2) (omega arith)) (f.0, no_mark b.going b.plan.start (Ended (NoWord address)) e, omega arith)
return_fits b Close place c e f =
    return_walk (λ t. TurnFits t b 1) Close place c (e, omega (arith, some_cost b.careful)) (λ k le. on b 1 (Return Close k) e le (omega arith)) (e, omega arith)

start_fits : (b : Basis) (start place c : ℕ) → b.going ≡ false → PhaseFits (Start place) b → TurnFits (start_hears start place c) b (1 + place)
start_fits b start place c e f =
    start_walk (λ t. TurnFits t b (1 + place)) start place c (e, omega (arith, f.1.to, some_cost b.careful))
    (λ less. ((f.0, record { from = omega arith; to = omega arith }), e, omega arith)) (λ _. (f.0, e, omega (arith, f.1.to)))

ended_mark : (going : Bool) (start : Option ℕ) (end : End) → IsSome start → MarkFits going start (Ended end)
ended_mark false start end some = tt
ended_mark true start end some = (some, tt)

go_fits : (b : Basis) (c : ℕ) → PhaseFits Go b → TurnFits (go_hears c) b 8
go_fits b c f =
    go_walk (λ t. TurnFits t b 8) c (f.1, ended_mark b.going b.plan.start Started f.0.has_start, omega (arith, some_cost b.careful))
    (f.1, ended_mark b.going b.plan.start Uncertain f.0.has_start, omega (arith, some_cost b.careful))

hears_fits : (b : Basis) (start : ℕ) (phase : Phase) (c : ℕ) → IsPlan b.plan → PhaseFits phase b → MarkFits b.going b.plan.start phase → TurnFits (hears b.careful (word_nr b.plan.words b.verified) start phase c) b (used_in b.careful phase)
hears_fits b start Settle c p f m = (tt, m, omega arith)
hears_fits b start (Sync place) c p f m =
    let e : b.going ≡ false = unmarked b.going b.plan.start (Sync place) m (λ x. x) in
    sync_walk (λ t. TurnFits t b 1) b.careful place c (e, omega (arith, some_cost b.careful)) (λ k le. on b 1 (Sync k) e le (omega arith)) (e, omega arith)
hears_fits b start (Address visit place) c p f m = address_fits b _ visit place c (unmarked b.going b.plan.start (Address visit place) m (λ x. x)) f
hears_fits b start (Slash visit) c p f m =
    let e : b.going ≡ false = unmarked b.going b.plan.start (Slash visit) m (λ x. x) in
    slash_walk (λ t. TurnFits t b (used_before visit + 7)) visit c (e, visit_le visit b.careful f.1) (on b (used_before visit + 7) (Before visit) e f (omega arith))
hears_fits b start (Before visit) c p f m = before_fits b visit c (unmarked b.going b.plan.start (Before visit) m (λ x. x)) f
hears_fits b start (Value visit value place) c p f m = value_fits b visit value place c p (unmarked b.going b.plan.start (Value visit value place) m (λ x. x)) f
hears_fits b start (Deposit deposit value place) c p f m = deposit_fits b deposit value place c (unmarked b.going b.plan.start (Deposit deposit value place) m (λ x. x)) f
hears_fits b start (Return reason place) c p f m = return_fits b reason place c (unmarked b.going b.plan.start (Return reason place) m (λ x. x)) f
hears_fits b start (Start place) c p f m = start_fits b start place c (unmarked b.going b.plan.start (Start place) m (λ x. x)) f
hears_fits b start Go c p f m = go_fits b c f
hears_fits b start (Ended end) c p f m = (f, m, omega arith)

used_le : (phase : Phase) (b : Basis) → PhaseFits phase b → IsPastMark phase ⊎ (used_in b.careful phase ≤ word_cost b.careful)
used_le Settle b f = inr (omega arith)
used_le (Sync place) b f = inr (omega (arith, some_cost b.careful))
used_le (Address visit place) b f = inr (omega (arith, f.1.to, visit_le visit b.careful f.2))
used_le (Slash visit) b f = inr (visit_le visit b.careful f.1)
used_le (Before visit) b f = inr (visit_le visit b.careful f.1)
used_le (Value visit value place) b f = inr (visit_le visit b.careful f.3)
used_le (Deposit deposit value place) b f = inr (omega (arith, f.1.to, try_le deposit b.careful f.3))
used_le (Return (Store deposit value) place) b f = inr (omega (arith, try_le deposit b.careful f.3))
used_le (Return (Reopen first) place) b f = inr (omega (arith, some_cost b.careful))
used_le (Return (Missing address) place) b f = inr (omega arith)
used_le (Return Close place) b f = inr (omega (arith, some_cost b.careful))
used_le (Start place) b f = inr (omega (arith, f.1.to, some_cost b.careful))
used_le Go b f = inl tt
used_le (Ended end) b f = inl tt

-- a phase that a quiet time breaks off
times_out : (b : Basis) (phase : Phase) → PhaseFits phase b → MarkFits b.going b.plan.start phase → (IsPastMark phase → ⊥) → TurnFits Timeout b (used_in b.careful phase)
times_out b phase f m live = (unmarked b.going b.plan.start phase m live, elim (used_le phase b f) [ inl past ↦ absurd (live past) | inr le ↦ le ])

waits_fits : (b : Basis) (phase : Phase) → PhaseFits phase b → MarkFits b.going b.plan.start phase → TurnFits (waits b.careful phase) b (used_in b.careful phase)
waits_fits b Settle f m = (omega arith, unmarked b.going b.plan.start Settle m (λ x. x), omega arith)
waits_fits b (Sync place) f m = times_out b (Sync place) f m (λ x. x)
waits_fits b (Address visit place) f m = times_out b (Address visit place) f m (λ x. x)
waits_fits b (Slash visit) f m = times_out b (Slash visit) f m (λ x. x)
waits_fits b (Before visit) f m = times_out b (Before visit) f m (λ x. x)
waits_fits b (Value visit value place) f m = times_out b (Value visit value place) f m (λ x. x)
waits_fits b (Deposit deposit value place) f m = times_out b (Deposit deposit value place) f m (λ x. x)
waits_fits b (Return reason place) f m = times_out b (Return reason place) f m (λ x. x)
waits_fits b (Start place) f m = times_out b (Start place) f m (λ x. x)
waits_fits b Go f m = (f.1, ended_mark b.going b.plan.start Uncertain f.0.has_start, omega (arith, some_cost b.careful))
waits_fits b (Ended end) f m = (f, m, omega arith)

pub turn_fits : (core : Core) (heard : Heard) → IsHost core → TurnFits (turn_of core heard) (basis_of core) (used_in core.careful core.phase)
turn_fits core (Got c) h = hears_fits (basis_of core) (start_of core) core.phase c h.image h.fits h.mark
turn_fits core Quiet h = waits_fits (basis_of core) core.phase h.fits h.mark

pub kept : (core : Core) (heard : Heard) → IsHost core → IsHost (move core heard).next
kept core heard h = taken_kept core (turn_of core heard) h (turn_fits core heard h)

most_used : (phase : Phase) (b : Basis) → PhaseFits phase b → used_in b.careful phase ≤ word_cost b.careful + 1
most_used Go b f = omega (arith, some_cost b.careful)
most_used (Ended end) b f = omega arith
most_used phase b f = elim (used_le phase b f) [ inl past ↦ absurd past | inr le ↦ omega (arith, le) ]

bound_of : (careful : Bool) (sent u v s n patience : ℕ) → sent ≤ u + word_cost careful * v + (word_cost careful + 1) * s → u ≤ word_cost careful + 1 → v ≤ n → s ≤ patience → sent ≤ character_bound careful n patience
bound_of true sent u v s n patience paid le within patient = omega (arith, paid, le, within, patient)
bound_of false sent u v s n patience paid le within patient = omega (arith, paid, le, within, patient)

pub within_bound : (core : Core) → IsHost core → core.sent ≤ character_bound core.careful (length core.plan.words) core.patience
within_bound core h =
    bound_of core.careful core.sent (used_in core.careful core.phase) core.verified core.spent (length core.plan.words) core.patience h.paid (most_used core.phase (basis_of core) h.fits) h.within h.patient

and_left : (a b : Bool) → (a && b) ≡ true → a ≡ true
and_left true b e = refl
and_left false b e = e

and_right : (a b : Bool) → (a && b) ≡ true → b ≡ true
and_right true b e = e
and_right false b e = cc e

nothing : (start : Option ℕ) → is_none start ≡ true → start ≡ None
nothing None e = refl
nothing (Some start) e = cc e

-- a life without the mark, where `done` says whether nothing is left to do
begun_unmarked : (careful : Bool) (plan : PlanValue) (verified patience : ℕ) (done : Bool) → IsPlan plan → verified ≤ length plan.words → patience < 2 ^ 32 → (done ≡ true → (verified ≡ length plan.words) × (plan.start ≡ None)) →
    IsHost (record { careful = careful; plan = plan; verified = verified; going = false; patience = patience; spent = 0; sent = 0; phase = if done then Ended Loaded else Settle })
begun_unmarked careful plan verified patience true p le long done =
    record { image = p; within = le; patient = omega arith; long = long; fits = done refl; mark = tt; paid = omega arith }
begun_unmarked careful plan verified patience false p le long done =
    record { image = p; within = le; patient = omega arith; long = long; fits = tt; mark = tt; paid = omega arith }

-- a life begins as every core has to be
pub begun_by_kept : (careful : Bool) (plan : PlanValue) (verified : ℕ) (going : Bool) (patience : ℕ) → IsPlan plan → verified ≤ length plan.words → patience < 2 ^ 32 → (going ≡ true → IsSome plan.start) → IsHost (begun_by careful plan verified going patience)
begun_by_kept careful plan verified true patience p le long some =
    record { image = p; within = le; patient = omega arith; long = long; fits = refl; mark = (some refl, tt); paid = omega arith }
begun_by_kept careful plan verified false patience p le long some =
    begun_unmarked careful plan verified patience (verified == length plan.words && is_none plan.start) p le long
    (λ e. (eqb-true _ _ (and_left (verified == length plan.words) _ e), nothing plan.start (and_right (verified == length plan.words) _ e)))

pub begun_kept : (plan : PlanValue) (verified : ℕ) (going : Bool) (patience : ℕ) → IsPlan plan → verified ≤ length plan.words → patience < 2 ^ 32 → (going ≡ true → IsSome plan.start) → IsHost (begun plan verified going patience)
begun_kept plan verified going patience p le long some = begun_by_kept false plan verified going patience p le long some

-- a progress that is not refused
accepted_mark : (plan : PlanValue) (start : Option ℕ) (going : Bool) (missing : Bool) → (if going && (missing || is_none start) then Some EarlyMark else None) ≡ None → going ≡ true → IsSome start
accepted_mark plan (Some start) going missing e g = refl
accepted_mark plan None true true e g = cc e
accepted_mark plan None true false e g = cc e
accepted_mark plan None false missing e g = cc g

accepted_test : (plan : PlanValue) (verified : ℕ) (going : Bool) (many : Bool) → nat_lt (length plan.words) verified ≡ many → (if many then Some TooMany else (if going && (nat_lt verified (length plan.words) || is_none plan.start) then Some EarlyMark else None)) ≡ None → (verified ≤ length plan.words) × (going ≡ true → IsSome plan.start)
accepted_test plan verified going true t e = cc e
accepted_test plan verified going false t e = (ltb-false _ _ t, accepted_mark plan plan.start going (nat_lt verified (length plan.words)) e)

pub accepted : (plan : PlanValue) (verified : ℕ) (going : Bool) → refusal_of plan verified going ≡ None → (verified ≤ length plan.words) × (going ≡ true → IsSome plan.start)
accepted plan verified going e = accepted_test plan verified going (nat_lt (length plan.words) verified) refl e

has_start : (going : Bool) (start : Option ℕ) (phase : Phase) → MarkFits going start phase → going ≡ true → IsSome start
has_start true start phase m e = m.0
has_start false start phase m e = cc e

pub restart_kept : (core : Core) (kept : ℕ) → IsHost core → IsHost (restarted core kept)
restart_kept core kept h = begun_by_kept core.careful core.plan (min kept core.verified) core.going core.patience h.image (omega (arith, h.within)) h.long (has_start core.going core.plan.start core.phase h.mark)
