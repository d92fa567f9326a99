-- Step by step a reading host does what a loading host does whose plan says what memory holds already.
use Rattle.std.proofs.Common.{◌≡◌, ℕ, zero, suc, ◌+◌, ◌≤◌, Bool, true, false, ◌==◌, nat_lt, ◌&&◌, ◌||◌, not, if◌then◌else◌, List, [], ◌∷◌, length, take, get_or, Option, Some, None, inl, inr, refl, ap, sym, ◌∙◌, length-take}
use Rattle.std.specs.Prelude.{◌⊎◌}
use Rattle.std.proofs.lemmas.Bool.{eq-eqb}
use Rattle.std.proofs.lemmas.List.{length_push}
use borrow.Author.Tests.{ltb-true, eqb-true}
use Rattle.octal.specs.Octal.{digit_of}
use Rattle.tape_image.specs.Word.{WordValue, merged}
use Rattle.host_core.specs.declared.answers.Reply.{Reply}
use Rattle.host_core.specs.declared.answers.Reply.TheVariants.{On, Over, Wrong}
use Rattle.host_core.specs.declared.heard.Heard.{Heard}
use Rattle.host_core.specs.declared.heard.Heard.TheVariants.{Got, Quiet}
use Rattle.host_core.specs.declared.phase.Phase.{Phase as LoadPhase}
use Rattle.host_core.specs.declared.phase.Phase.TheVariants.{Settle as LoadSettle, Sync as LoadSync, Address as LoadAddress, Slash as LoadSlash, Before as LoadBefore, Value as LoadValue, Return, Ended as LoadEnded}
use Rattle.host_core.specs.declared.phase.Try.TheVariants.{Only}
use Rattle.host_core.specs.declared.phase.Visit.TheVariants.{Look}
use Rattle.host_core.specs.declared.phase.Reason.TheVariants.{Close as Closes}
use Rattle.host_core.specs.declared.phase.End.{End as LoadEnd}
use Rattle.host_core.specs.declared.phase.End.TheVariants.{Loaded, GaveUp as LoadGaveUp, NoWord as LoadNoWord}
use Rattle.host_core.specs.declared.turn.Turn.{Turn as LoadTurn}
use Rattle.host_core.specs.declared.turn.Turn.TheVariants.{Listen as LoadListen, Key as LoadKey, Verified, Next as LoadNext, Stop as LoadStop, Stray as LoadStray, Timeout as LoadTimeout}
use Rattle.host_core.specs.Answers.{resynchronise_reply, return_reply, digit_echo, reading_start, reading_rest}
use Rattle.host_core.specs.Core.{Core, word_nr, word_under_way, begun as load_begun, restarted as load_restarted}
use Rattle.host_core.specs.Foreign.{may_come, is_foreign as load_is_foreign}
use Rattle.host_core.specs.PhaseTable.{Move, move, sends as load_sends, listens as load_listens, taken as load_taken, turn_of as load_turn_of, hears as load_hears, waits as load_waits, read as load_read, mends, next_word as load_next_word, synced as load_synced, echoed as load_echoed, address_hears as load_address_hears, reads as load_reads, returns as load_returns}
use Rattle.reading_core.specs.declared.phase.Phase.{Phase}
use Rattle.reading_core.specs.declared.phase.Phase.TheVariants.{Settle, Sync, Address, Slash, Before, Value, Close, Refused, Ended}
use Rattle.reading_core.specs.declared.phase.End.{End}
use Rattle.reading_core.specs.declared.phase.End.TheVariants.{Complete, GaveUp, NoWord}
use Rattle.reading_core.specs.declared.turn.Turn.{Turn}
use Rattle.reading_core.specs.declared.turn.Turn.TheVariants.{Listen, Key, Read, Again, Next, Stop, Stray, Timeout}
use Rattle.reading_core.specs.Foreign.{end_for, is_foreign, phase_for}
use Rattle.reading_core.specs.Reader.{Reader, Manner, address_under_way, begun_in, looks_twice, restarted}
use Rattle.reading_core.specs.ReadingTable.{ReaderStep, ask, counted as counts, taken, turn_of, hears, waits, next_word, sends, listens, synced, addressed, Target, doubts, judged, target_of, questioned, reads, closed, refused}
use Rattle.host_core.specs.Console.{carriage_return}
use Rattle.host_core.specs.declared.answers.Reading.{Reading}
use Rattle.host_core.proofs.Replies.{either, resynchronise_walk, return_walk, echo_walk, rest_walk}
use Rattle.looking_law.proofs.Saying.{plan_for, words_for, nr_for, length_for}

-- ---- the same of the loading host

abbrev pub turn_for : Turn → LoadTurn
turn_for (Listen phase) = LoadListen (phase_for phase)
turn_for (Key key phase) = LoadKey key (phase_for phase)
turn_for (Read value) = Verified
turn_for (Again value) = Verified
turn_for Next = LoadNext
turn_for (Stop end) = LoadStop (end_for end)
turn_for Stray = LoadStray
turn_for Timeout = LoadTimeout

-- the loading host over the plan of what this memory holds at the reader's addresses
abbrev pub core_for : List ℕ → Reader → Core
core_for memory r = record {
  careful = false;
  plan = plan_for memory r.addresses;
  verified = length r.values;
  going = false;
  patience = r.patience;
  spent = r.spent;
  sent = r.sent;
  phase = phase_for r.phase;
}

abbrev pub move_for : List ℕ → ReaderStep → Move
move_for memory a = record { next = core_for memory a.next; key = a.key }

-- ---- a turn

same_if : (memory : List ℕ) (test other : Bool) (a b : Move) (x y : ReaderStep) → test ≡ other → (other ≡ true → a ≡ move_for memory x) → b ≡ move_for memory y → (if test then a else b) ≡ move_for memory (if other then x else y)
same_if memory test true a b x y same holds fails = ap (λ v. if v then a else b) same ∙ holds refl
same_if memory test false a b x y same holds fails = ap (λ v. if v then a else b) same ∙ fails

next_of : (memory : List ℕ) (r : Reader) → load_next_word (core_for memory r) ≡ move_for memory (next_word r)
next_of memory r =
    same_if memory (nat_lt (length r.values) (length (words_for memory r.addresses))) (nat_lt (length r.values) (length r.addresses))
    (load_sends (core_for memory r) (digit_of (word_under_way (core_for memory r)).address 1) (LoadAddress Look 1)) (load_listens (core_for memory r) (LoadEnded Loaded))
    (sends r (digit_of (address_under_way r) 1) (Address 1)) (listens r (Ended Complete)) (ap (nat_lt (length r.values)) (length_for memory r.addresses))
    (λ more. ap (λ (w : WordValue). load_sends (core_for memory r) (digit_of w.address 1) (LoadAddress Look 1)) (nr_for memory r.addresses (length r.values) (ltb-true _ _ more))) refl

-- a count of numbers, one more
counted : Core → ℕ → Move
counted core n = load_sends (record core { verified = n }) 13 (Return Closes 0)

-- where a number is not believed yet, the loading host counts one word more
abbrev pub next_for_turn : List ℕ → Reader → Turn → Move
next_for_turn memory r (Again value) = record {
  next = record (core_for memory (taken r (Again value)).next) { verified = length r.values + 1 };
  key = Some carriage_return;
}
next_for_turn memory r turn = move_for memory (taken r turn)

pub taken_for : (memory : List ℕ) (r : Reader) (turn : Turn) → load_taken (core_for memory r) (turn_for turn) ≡ next_for_turn memory r turn
unfolding counted
taken_for memory r (Listen phase) = refl
taken_for memory r (Key key phase) = refl
taken_for memory r (Read value) = ap (counted (core_for memory r)) (sym (length_push r.values value))
taken_for memory r (Again value) = refl
taken_for memory r Next = next_of memory r
taken_for memory r (Stop end) = refl
taken_for memory r Stray =
    same_if memory (nat_lt r.spent r.patience) (nat_lt r.spent r.patience) (load_taken (record (core_for memory r) { spent = r.spent + 1 }) (LoadListen LoadSettle)) (load_listens (core_for memory r) (LoadEnded LoadGaveUp))
    (listens (record r { spent = r.spent + 1; earlier = None }) Settle) (listens r (Ended GaveUp)) refl (λ _. refl) refl
taken_for memory r Timeout =
    same_if memory (nat_lt r.spent r.patience) (nat_lt r.spent r.patience) (load_sends (record (core_for memory r) { spent = r.spent + 1 }) 90 (LoadSync 0)) (load_listens (core_for memory r) (LoadEnded LoadGaveUp))
    (sends (record r { spent = r.spent + 1; earlier = None }) 90 (Sync 0)) (listens r (Ended GaveUp)) refl (λ _. refl) refl

-- ---- a row

row : (test : Bool) (a b : LoadTurn) (x y : Turn) → (test ≡ true → a ≡ turn_for x) → (test ≡ false → b ≡ turn_for y) → (if test then a else b) ≡ turn_for (if test then x else y)
row true a b x y holds fails = holds refl
row false a b x y holds fails = fails refl

sync_for : (place c : ℕ) → load_synced (resynchronise_reply place c) ≡ turn_for (synced (resynchronise_reply place c))
sync_for place c = resynchronise_walk (λ r. load_synced r ≡ turn_for (synced r)) place c refl (λ _ _. refl) (λ _. refl)

address_for : (address place c : ℕ) → load_address_hears address Look place c ≡ turn_for (addressed place (digit_echo address place c))
address_for address place c =
    echo_walk (λ e. load_echoed e (LoadAddress Look (place + 1)) (LoadKey 47 (LoadSlash Look)) ≡ turn_for (addressed place e)) address place c refl (λ _ _. refl) (λ _ _. refl)

-- a `?` where no reading began is the whole answer: the host looks at each word once, or it is another character
abbrev pub IsWholeAnswer : Bool → ℕ → Type 0
IsWholeAnswer twice c = (twice ≡ false) ⊎ ((c == 63) ≡ false)

question_for : (address : ℕ) (twice : Bool) (c : ℕ) → (c == 63) ≡ true → IsWholeAnswer twice c → LoadStop (LoadNoWord address) ≡ turn_for (questioned twice address)
question_for address false c is whole = refl
question_for address true c is (inl never) = absurd (cc never)
question_for address true c is (inr other) = absurd (both (c == 63) is other)
  where
    both : (b : Bool) → b ≡ true → b ≡ false → ⊥
    both b e f = cc

before_for : (word : WordValue) (t : Target) (c : ℕ) → word.address ≡ t.address → IsWholeAnswer (looks_twice t.care) c → load_reads false word Look (reading_start c) ≡ turn_for (reads t (reading_start c))
before_for word t c here whole =
    either P (c == 32) _ _ (λ _. refl) (λ _. either P (c == 63) _ _ (λ is. ap (λ a. LoadStop (LoadNoWord a)) here ∙ question_for t.address (looks_twice t.care) c is whole) (λ _. either P (c == 48 || c == 49) _ _ (λ _. refl) (λ _. refl)))
  where
    P : Reading → Type 0
    P reading = load_reads false word Look reading ≡ turn_for (reads t reading)

read_for : (word : WordValue) (value : ℕ) → merged word value ≡ value → load_read false word Look value ≡ Verified
read_for word value same = ap (λ test. if test then Verified else mends Only (merged word value)) (eq-eqb (merged word value) value same)

-- an earlier look read this number too, if there was one
abbrev pub ReadBefore : Option ℕ → ℕ → Type 0
ReadBefore None number = Unit {0}
ReadBefore (Some first) number = number ≡ first

judged_for : (earlier : Option ℕ) (doubted : Bool) (number : ℕ) → ReadBefore earlier number → turn_for (judged earlier doubted number) ≡ Verified
judged_for None true number before = refl
judged_for None false number before = refl
judged_for (Some first) doubted number before = ap (λ test. turn_for (if test then Read number else Stray)) (eq-eqb number first before)

value_for : (word : WordValue) (t : Target) (value place c : ℕ) → (6 ≤ place → c ≡ 32 → (merged word value ≡ value) × ReadBefore t.earlier value) → load_reads false word Look (reading_rest value place c) ≡ turn_for (reads t (reading_rest value place c))
value_for word t value place c same =
    rest_walk (λ reading. load_reads false word Look reading ≡ turn_for (reads t reading)) value place c refl (λ _ _ _. refl) (λ _ _ _. refl)
    (λ all blank. read_for word value (same all (eqb-true _ _ blank)).0 ∙ sym (judged_for t.earlier (doubts t.care t.expected value) value (same all (eqb-true _ _ blank)).1))

close_for : (place c : ℕ) → load_returns Closes (return_reply place c) ≡ turn_for (closed (return_reply place c))
close_for place c = return_walk (λ r. load_returns Closes r ≡ turn_for (closed r)) place c refl (λ _ _. refl) (λ _. refl)

-- the answer goes on
abbrev pub GoesOn : Reply → Type 0
GoesOn Over = ⊥
GoesOn reply = Unit {0}

refused_for : (address : ℕ) (reply : Reply) → GoesOn reply → load_returns Closes reply ≡ turn_for (refused address reply)
refused_for address (On place) on = refl
refused_for address Over on = absurd on
refused_for address Wrong on = refl

-- what is heard is right where a number that it completes is what the word holds and what an earlier look read, and where it ends no refusal of `/`
abbrev pub IsRight : Target → Phase → ℕ → WordValue → Type 0
IsRight t (Value value place) c word = 6 ≤ place → c ≡ 32 → (merged word value ≡ value) × ReadBefore t.earlier value
IsRight t Before c word = IsWholeAnswer (looks_twice t.care) c
IsRight t (Refused place) c word = GoesOn (return_reply place c)
IsRight t phase c word = Unit {0}

pub hears_for : (word : WordValue) (start : ℕ) (t : Target) (phase : Phase) (c : ℕ) → word.address ≡ t.address → IsRight t phase c word → load_hears false word start (phase_for phase) c ≡ turn_for (hears t phase c)
hears_for word start t Settle c here right = refl
hears_for word start t (Sync place) c here right = sync_for place c
hears_for word start t (Address place) c here right = ap (λ a. load_address_hears a Look place c) here ∙ address_for t.address place c
hears_for word start t Slash c here right = row (c == 47) _ _ _ _ (λ _. refl) (λ _. refl)
hears_for word start t Before c here right = before_for word t c here right
hears_for word start t (Value value place) c here right = value_for word t value place c right
hears_for word start t (Close place) c here right = close_for place c
hears_for word start t (Refused place) c here right = refused_for t.address (return_reply place c) right
hears_for word start t (Ended end) c here right = refl

waits_for : (phase : Phase) → load_waits false (phase_for phase) ≡ turn_for (waits phase)
waits_for Settle = refl
waits_for (Sync place) = refl
waits_for (Address place) = refl
waits_for Slash = refl
waits_for Before = refl
waits_for (Value value place) = refl
waits_for (Close place) = refl
waits_for (Refused place) = refl
waits_for (Ended end) = refl

-- ---- a step

-- past the last address there is none in either
pub under_way_for : (memory addresses : List ℕ) (k : ℕ) → (word_nr (words_for memory addresses) k).address ≡ get_or addresses k 0
under_way_for memory [] k = refl
under_way_for memory (a ∷ addresses) zero = refl
under_way_for memory (a ∷ addresses) (suc k) = under_way_for memory addresses k

-- what is heard is right, with the word under way
abbrev pub HearsRight : List ℕ → Reader → Heard → Type 0
HearsRight memory r (Got c) = IsRight (target_of r) r.phase c (word_nr (words_for memory r.addresses) (length r.values))
HearsRight memory r Quiet = Unit {0}

pub turn_is : (memory : List ℕ) (r : Reader) (heard : Heard) → HearsRight memory r heard → load_turn_of (core_for memory r) heard ≡ turn_for (turn_of r heard)
turn_is memory r (Got c) right =
    hears_for (word_nr (words_for memory r.addresses) (length r.values)) 0 (target_of r) r.phase c (under_way_for memory r.addresses (length r.values)) right
turn_is memory r Quiet right = waits_for r.phase

pub move_is : (memory : List ℕ) (r : Reader) (heard : Heard) → HearsRight memory r heard → move (core_for memory r) heard ≡ next_for_turn memory r (turn_of r heard)
move_is memory r heard right = ap (load_taken (core_for memory r)) (turn_is memory r heard right) ∙ taken_for memory r (turn_of r heard)

-- the same of a reader with another count of what no loss explains
pub counted_move_is : (memory : List ℕ) (r : Reader) (heard : Heard) → HearsRight memory r heard → move (core_for memory r) heard ≡ next_for_turn memory (counts r heard) (turn_of r heard)
counted_move_is memory r heard right = ap (load_taken (core_for memory r)) (turn_is memory r heard right) ∙ taken_for memory (counts r heard) (turn_of r heard)

-- what no loss explains to one, none explains to the other
pub foreign_for : (memory : List ℕ) (r : Reader) (c : ℕ) → load_is_foreign (core_for memory r) (Got c) ≡ is_foreign (address_under_way r) r.phase (Got c)
foreign_for memory r c = ap (λ address. not (may_come false address 0 (phase_for r.phase) c)) (under_way_for memory r.addresses (length r.values))

-- ---- the beginning of a life

and_true : (b : Bool) → (b && true) ≡ b
and_true true = refl
and_true false = refl

done_for : (test : Bool) → (if test then LoadEnded Loaded else LoadSettle) ≡ phase_for (if test then Ended Complete else Settle)
done_for true = refl
done_for false = refl

begun_phase : (memory addresses : List ℕ) (n : ℕ) → (if n == length (words_for memory addresses) && true then LoadEnded Loaded else LoadSettle) ≡ phase_for (if n == length addresses then Ended Complete else Settle)
begun_phase memory addresses n =
    ap (λ test. if test then LoadEnded Loaded else LoadSettle) (and_true (n == length (words_for memory addresses)) ∙ ap (λ all. n == all) (length_for memory addresses))
    ∙ done_for (n == length addresses)

at_phase : Core → LoadPhase → Core
at_phase core phase = record core { phase = phase }

pub begun_for : (memory : List ℕ) (manner : Manner) (addresses values : List ℕ) (patience : ℕ) → load_begun (plan_for memory addresses) (length values) false patience ≡ core_for memory (begun_in manner addresses values patience)
unfolding at_phase
begun_for memory manner addresses values patience =
    ap (at_phase (load_begun (plan_for memory addresses) (length values) false patience)) (begun_phase memory addresses (length values))

pub restarted_for : (memory : List ℕ) (r : Reader) (kept : ℕ) → load_restarted (core_for memory r) kept ≡ core_for memory (restarted r kept)
restarted_for memory r kept =
    ap (λ n. load_begun (plan_for memory r.addresses) n false r.patience) (sym (length-take kept r.values)) ∙ begun_for memory r.manner r.addresses (take kept r.values) r.patience
