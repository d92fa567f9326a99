-- What is reported was heard: what a life has heard so far, phase by phase. (The first part is that of host_core's Readings, which keeps it to itself.)
use Rattle.std.proofs.Common.{◌≡◌, ◌≢◌, ℕ, zero, suc, ◌+◌, ◌-◌, ◌*◌, ◌<◌, ◌≤◌, Bool, true, false, ◌==◌, nat_lt, if◌then◌else◌, List, [], ◌∷◌, ◌++◌, length, map, refl, arith, subst, sym, ◌∙◌, ap, append_assoc, append-nil, length-append}
use Rattle.std.specs.Prelude.{All, IsTrue, slice_index, fold}
use Rattle.std.proofs.lemmas.List.Elements.{All-append}
use Rattle.std.proofs.lemmas.List.{map-append, length_push}
use Rattle.std.proofs.lemmas.List.Sums.{fold-append}
use Rattle.std.proofs.lemmas.Bool.Decides.{nat_tests}
use borrow.Author.Tests.{eqb-true}
use Rattle.octal.specs.Octal.{octal_text, digit_of, is_digit, pushed}
use Rattle.octal.proofs.Digits.{octal_text-only, pushed-small, pushed-octal_value}
use Rattle.host_core.specs.Answers.{resynchronise_reply, return_reply, digit_echo, reading_start, reading_rest}
use Rattle.host_core.specs.Console.{resynchronise, space}
use Rattle.host_core.specs.Host.{value_room}
use Rattle.host_core.specs.declared.heard.Heard.{Heard}
use Rattle.host_core.specs.declared.heard.Heard.TheVariants.{Got, Quiet}
use Rattle.memory_core.specs.declared.phase.Visit.{Visit}
use Rattle.memory_core.specs.declared.phase.Visit.TheVariants.{Look, Check}
use Rattle.host_core.proofs.Frame.{on_test}
use Rattle.host_core.proofs.Replies.{either, resynchronise_walk, return_walk, echo_walk, start_walk, rest_walk}
use Rattle.host_core.proofs.Turns.{room_le, room_step, digit_below_eight}
use Rattle.memory_core.specs.declared.phase.Phase.{Phase}
use Rattle.memory_core.specs.declared.phase.Phase.TheVariants.{Settle, Sync, Address, Slash, Before, Value, Deposit, Return, Close, Ended}
use Rattle.memory_core.specs.declared.phase.End.TheVariants.{Complete, GaveUp}
use Rattle.memory_core.specs.declared.seen.Seen.{Seen}
use Rattle.memory_core.specs.declared.seen.Seen.TheVariants.{Unsteady, Tested}
use Rattle.memory_core.specs.declared.stage.Stage.{Stage}
use Rattle.memory_core.specs.declared.stage.Stage.TheVariants.{Unseen, Once, Turned, Returned}
use Rattle.memory_core.specs.declared.turn.Turn.{Turn}
use Rattle.memory_core.specs.declared.turn.Turn.TheVariants.{Listen, Key, LooksAgain, Deposits, Counts, ReadBack, Next, Stop, Stray, Timeout}
use Rattle.memory_core.specs.Invariant.{IsTester, Basis, basis_of, PhaseFits}
use Rattle.memory_core.specs.Laws.{led, replay, WasRead, StageIsHeard, WordIsHeard, TellsOnlyHeard, ReportsOnlyHeard}
use Rattle.memory_core.specs.MemoryTable.{TesterStep, ask, taken, turn_of, hears, waits, synced, addressed, read, reads, deposited, returned, closed, sends, listens}
use Rattle.memory_core.specs.Stage.{number_of}
use Rattle.memory_core.specs.Tester.{Tester, address_under_way, begun, first_phase}
use Rattle.memory_core.proofs.Lives.{led_kept}
use Rattle.memory_core.proofs.Turns.{kept}
use Rattle.memory_core.proofs.Typed.{StageIsTyped, WordIsTyped, TurnIsTyped, turn_typed}

-- ---- the digits of a reading

-- the first digits of a word's octal text, which make the number `value`
record IsReading (text : List ℕ) (number place : ℕ) : Type 0 where
  pub count : length text ≡ place
  pub digits : All (λ c. IsTrue (is_digit c)) text
  pub first : slice_index text 0 ≤ 49
  pub value : fold pushed 0 text ≡ number

-- in the phase Value the digits of the reading were heard last
abbrev HeardFits : Phase → List Heard → Type 0
HeardFits (Value visit value place) heard = (digits : List ℕ) × (before : List Heard) × (heard ≡ before ++ map Got digits) × IsReading digits value place
HeardFits _ heard = Unit {0}

all_none : All (λ c. IsTrue (is_digit c)) []
all_none i d low = absurd (omega (arith, low))

all_one : (c : ℕ) → IsTrue (is_digit c) → All (λ c. IsTrue (is_digit c)) (c ∷ [])
all_one c h zero d low = h
all_one c h (suc i) d low = absurd (omega (arith, low))

small_digit : (c : ℕ) → 48 ≤ c → c ≤ 49 → IsTrue (is_digit c)
small_digit c low high = grind (arith, nat_tests)

no_digits : (visit : Visit) (heard : List Heard) → HeardFits (Value visit 0 0) heard
no_digits visit heard = ([], heard, sym (append-nil heard), record { count = refl; digits = all_none; first = omega arith; value = refl })

first_digit : (visit : Visit) (heard : List Heard) (c : ℕ) → 48 ≤ c → c ≤ 49 → HeardFits (Value visit (c - 48) 1) (heard ++ Got c ∷ [])
first_digit visit heard c low high = (c ∷ [], heard, refl, record { count = refl; digits = all_one c (small_digit c low high); first = high; value = omega arith })

same_first : (text : List ℕ) (place c : ℕ) → length text ≡ place → (place == 0) ≡ false → slice_index text 0 ≤ 49 → slice_index (text ++ c ∷ []) 0 ≤ 49
same_first (d ∷ text) place c count some first = first
same_first [] place c count some first = absurd (cc (count, some))

one_digit_more : (text : List ℕ) (value place c : ℕ) → (place == 0) ≡ false → is_digit c ≡ true → 8 * value + (c - 48) < 65536 → IsReading text value place → IsReading (text ++ c ∷ []) (8 * value + (c - 48)) (place + 1)
one_digit_more text value place c some digit small r = record {
  count = length-append text (c ∷ []) ∙ ap (λ n. n + 1) r.count;
  digits = All-append (λ c. IsTrue (is_digit c)) text (c ∷ []) r.digits (all_one c digit);
  first = same_first text place c r.count some r.first;
  value = fold-append pushed 0 text (c ∷ []) ∙ (ap (λ n. pushed n c) r.value ∙ pushed-small value c small);
}

next_digit : (visit : Visit) (value place c : ℕ) (heard : List Heard) → (place == 0) ≡ false → place < 6 → is_digit c ≡ true → value < value_room place → HeardFits (Value visit value place) heard → HeardFits (Value visit (8 * value + (c - 48)) (place + 1)) (heard ++ Got c ∷ [])
next_digit visit value place c heard some less digit room h = (
  h.0 ++ c ∷ [],
  h.1,
  ap (λ all. all ++ Got c ∷ []) h.2 ∙ (append_assoc h.1 (map Got h.0) (Got c ∷ []) ∙ ap (λ digits. h.1 ++ digits) (sym (map-append Got h.0 (c ∷ [])))),
  one_digit_more h.0 value place c some digit (room_le (place + 1) (8 * value + (c - 48)) (room_step place value (c - 48) some less room (digit_below_eight c digit))) h.3,
)

whole_text : (text : List ℕ) (value place : ℕ) → place ≡ 6 → IsReading text value place → text ≡ octal_text value
whole_text text value place six r =
    octal_text-only value text record { six = r.count ∙ six; digits = r.digits; first = r.first; value = sym (pushed-octal_value text (r.count ∙ six) r.digits r.first) ∙ r.value }

whole : (visit : Visit) (value place c : ℕ) (heard : List Heard) → 6 ≤ place → place ≤ 6 → c ≡ space → HeardFits (Value visit value place) heard → WasRead value (heard ++ Got c ∷ [])
whole visit value place c heard low high blank h = (
  h.1,
  ap (λ all. all ++ Got c ∷ []) h.2 ∙ (append_assoc h.1 (map Got h.0) (Got c ∷ []) ∙ ap (λ all. h.1 ++ all) (sym (map-append Got h.0 (c ∷ [])) ∙ (ap (λ text. map Got (text ++ c ∷ [])) (whole_text h.0 value place (omega arith) h.3) ∙ ap (λ last. map Got (octal_text value ++ last ∷ [])) blank))),
)

-- ---- the rows

-- what is known of a word becomes more only by what was just read
abbrev StageWasRead : Stage → Stage → List Heard → Type 0
StageWasRead Unseen (Once first) heard = WasRead first heard
StageWasRead (Once first) (Turned old) heard = (old ≡ first) × WasRead old heard
StageWasRead (Turned old) (Returned old' turned) heard = (old' ≡ old) × WasRead turned heard
StageWasRead before after heard = after ≡ before

abbrev WordWasRead : Stage → Seen → List Heard → Type 0
WordWasRead (Returned old turned) (Tested r) heard = (r.old ≡ old) × (r.turned ≡ turned) × WasRead r.back heard
WordWasRead (Once before) (Unsteady first second) heard = (first ≡ before) × (second ≢ first) × WasRead second heard
WordWasRead stage word heard = ⊥

-- what a turn takes for heard was heard, where this is known of the word under way
abbrev Tells : Stage → List Heard → Turn → Type 0
Tells stage heard (Listen next) = HeardFits next heard
Tells stage heard (Key key next) = HeardFits next heard
Tells stage heard (LooksAgain first) = StageWasRead stage (Once first) heard
Tells stage heard (Deposits next) = StageWasRead stage next heard
Tells stage heard (Counts word) = WordWasRead stage word heard
Tells stage heard turn = Unit {0}

sync_tells : (stage : Stage) (heard : List Heard) (place c : ℕ) → Tells stage heard (synced (resynchronise_reply place c))
sync_tells stage heard place c = resynchronise_walk (λ r. Tells stage heard (synced r)) place c tt (λ _ _. tt) (λ _. tt)

address_tells : (stage : Stage) (heard : List Heard) (visit : Visit) (address place c : ℕ) → Tells stage heard (addressed visit place (digit_echo address place c))
address_tells stage heard visit address place c = echo_walk (λ e. Tells stage heard (addressed visit place e)) address place c tt (λ _ _. tt) (λ _ _. tt)

apart_of : (value first : ℕ) → (value == first) ≡ false → value ≢ first
apart_of value first apart same = other apart
  where
    other : (value == first) ≡ false → ⊥
    other e = grind (arith, nat_tests, same)

read_tells : (stage : Stage) (heard : List Heard) (visit : Visit) (value : ℕ) → WasRead value heard → Tells stage heard (read stage visit value)
read_tells Unseen heard visit value was = was
read_tells (Once first) heard visit value was =
    either (Tells (Once first) heard) (value == first) _ _ (λ same. (eqb-true _ _ same, was)) (λ apart. (refl, apart_of value first apart, was))
read_tells (Turned old) heard Look value was = refl
read_tells (Turned old) heard Check value was = (refl, was)
read_tells (Returned old turned) heard Look value was = refl
read_tells (Returned old turned) heard Check value was = (refl, refl, was)

before_tells : (stage : Stage) (heard : List Heard) (visit : Visit) (address c : ℕ) → Tells stage (heard ++ Got c ∷ []) (reads address stage visit (reading_start c))
before_tells stage heard visit address c =
    start_walk (λ r. Tells stage (heard ++ Got c ∷ []) (reads address stage visit r)) c tt (no_digits visit (heard ++ Got c ∷ [])) tt (λ low high. first_digit visit heard c low high)

value_tells : (stage : Stage) (heard : List Heard) (visit : Visit) (address value place c : ℕ) → place ≤ 6 → value < value_room place → HeardFits (Value visit value place) heard →
    Tells stage (heard ++ Got c ∷ []) (reads address stage visit (reading_rest value place c))
value_tells stage heard visit address value place c high room h =
    rest_walk (λ r. Tells stage (heard ++ Got c ∷ []) (reads address stage visit r)) value place c tt (λ _ low high. first_digit visit heard c low high)
    (λ some less digit. next_digit visit value place c heard some less digit room h)
    (λ all blank. read_tells stage (heard ++ Got c ∷ []) visit value (whole visit value place c heard all high (eqb-true _ _ blank) h))

deposit_tells : (stage : Stage) (heard : List Heard) (number place c : ℕ) → Tells stage heard (deposited place (digit_echo number place c))
deposit_tells stage heard number place c = echo_walk (λ e. Tells stage heard (deposited place e)) number place c tt (λ _ _. tt) (λ _ _. tt)

return_tells : (stage : Stage) (heard : List Heard) (place c : ℕ) → Tells stage heard (returned (return_reply place c))
return_tells stage heard place c = return_walk (λ r. Tells stage heard (returned r)) place c tt (λ _ _. tt) (λ _. tt)

close_tells : (stage : Stage) (heard : List Heard) (place c : ℕ) → Tells stage heard (closed (return_reply place c))
close_tells stage heard place c = return_walk (λ r. Tells stage heard (closed r)) place c tt (λ _ _. tt) (λ _. tt)

hears_tells : (b : Basis) (address : ℕ) (phase : Phase) (c : ℕ) (heard : List Heard) → PhaseFits phase b → HeardFits phase heard → Tells b.stage (heard ++ Got c ∷ []) (hears address b.stage phase c)
hears_tells b address Settle c heard f h = tt
hears_tells b address (Sync place) c heard f h = sync_tells b.stage (heard ++ Got c ∷ []) place c
hears_tells b address (Address visit place) c heard f h = address_tells b.stage (heard ++ Got c ∷ []) visit address place c
hears_tells b address (Slash visit) c heard f h = either (Tells b.stage (heard ++ Got c ∷ [])) (c == 47) _ _ (λ _. tt) (λ _. tt)
hears_tells b address (Before visit) c heard f h = before_tells b.stage heard visit address c
hears_tells b address (Value visit value place) c heard f h = value_tells b.stage heard visit address value place c f.1 f.2 h
hears_tells b address (Deposit place) c heard f h = deposit_tells b.stage (heard ++ Got c ∷ []) (number_of b.stage) place c
hears_tells b address (Return place) c heard f h = return_tells b.stage (heard ++ Got c ∷ []) place c
hears_tells b address (Close place) c heard f h = close_tells b.stage (heard ++ Got c ∷ []) place c
hears_tells b address (Ended end) c heard f h = tt

waits_tells : (stage : Stage) (phase : Phase) (heard : List Heard) → Tells stage heard (waits phase)
waits_tells stage Settle heard = tt
waits_tells stage (Sync place) heard = tt
waits_tells stage (Address visit place) heard = tt
waits_tells stage (Slash visit) heard = tt
waits_tells stage (Before visit) heard = tt
waits_tells stage (Value visit value place) heard = tt
waits_tells stage (Deposit place) heard = tt
waits_tells stage (Return place) heard = tt
waits_tells stage (Close place) heard = tt
waits_tells stage (Ended end) heard = tt

turn_tells : (t : Tester) (last : Heard) (heard : List Heard) → IsTester t → HeardFits t.phase heard → Tells t.stage (heard ++ last ∷ []) (turn_of t last)
turn_tells t (Got c) heard h f = hears_tells (basis_of t) (address_under_way t) t.phase c heard h.fits f
turn_tells t Quiet heard h f = waits_tells t.stage t.phase (heard ++ Quiet ∷ [])

-- ---- what a turn makes of it

either_step : (P : TesterStep → Type 0) (test : Bool) (a b : TesterStep) → P a → P b → P (if test then a else b)
either_step P test a b one other = on_test (λ v. P (if v then a else b)) test (λ _. one) (λ _. other)

taken_heard : (t : Tester) (turn : Turn) (heard : List Heard) → Tells t.stage heard turn → HeardFits (taken t turn).next.phase heard
taken_heard t (Listen phase) heard h = h
taken_heard t (Key key phase) heard h = h
taken_heard t (LooksAgain first) heard h = tt
taken_heard t (Deposits stage) heard h = tt
taken_heard t (Counts word) heard h = tt
taken_heard t ReadBack heard h = tt
taken_heard t Next heard h =
    either_step (λ a. HeardFits a.next.phase heard) (nat_lt (length t.seen) (length t.addresses)) (sends t (digit_of (address_under_way t) 1) (Address Look 1)) (listens t (Ended Complete)) tt tt
taken_heard t (Stop end) heard h = tt
taken_heard t Stray heard h =
    either_step (λ a. HeardFits a.next.phase heard) (nat_lt t.spent t.patience) (listens (record t { spent = t.spent + 1 }) Settle) (listens t (Ended GaveUp)) tt tt
taken_heard t Timeout heard h =
    either_step (λ a. HeardFits a.next.phase heard) (nat_lt t.spent t.patience) (sends (record t { spent = t.spent + 1 }) resynchronise (Sync 0)) (listens t (Ended GaveUp)) tt tt

led_heard : (t : Tester) (more before : List Heard) → IsTester t → HeardFits t.phase before → HeardFits (led t more).phase (before ++ more)
led_heard t [] before h f = subst (HeardFits t.phase) (sym (append-nil before)) f
led_heard t (heard ∷ more) before h f =
    subst (HeardFits (led t (heard ∷ more)).phase) (append_assoc before (heard ∷ []) more)
    (led_heard (ask t heard).next more (before ++ heard ∷ []) (kept t heard h) (taken_heard t (turn_of t heard) (before ++ heard ∷ []) (turn_tells t heard before h f)))

-- read, and behind its keys
stage_both : (address : ℕ) (before after : Stage) (heard : List Heard) (typed : List ℕ) → StageWasRead before after heard → StageIsTyped address before after typed → StageIsHeard address before after heard typed
stage_both address Unseen Unseen heard typed was keys = was
stage_both address Unseen (Once first) heard typed was keys = (was, keys)
stage_both address Unseen (Turned old) heard typed was keys = was
stage_both address Unseen (Returned old turned) heard typed was keys = was
stage_both address (Once first) Unseen heard typed was keys = was
stage_both address (Once first) (Once other) heard typed was keys = was
stage_both address (Once first) (Turned old) heard typed was keys = (was.0, was.1, keys)
stage_both address (Once first) (Returned old turned) heard typed was keys = was
stage_both address (Turned old) Unseen heard typed was keys = was
stage_both address (Turned old) (Once first) heard typed was keys = was
stage_both address (Turned old) (Turned old') heard typed was keys = was
stage_both address (Turned old) (Returned old' turned) heard typed was keys = (was.0, was.1, keys)
stage_both address (Returned old turned) Unseen heard typed was keys = was
stage_both address (Returned old turned) (Once first) heard typed was keys = was
stage_both address (Returned old turned) (Turned old') heard typed was keys = was
stage_both address (Returned old turned) (Returned old' turned') heard typed was keys = was

word_both : (address : ℕ) (stage : Stage) (word : Seen) (heard : List Heard) (typed : List ℕ) → WordWasRead stage word heard → WordIsTyped address stage typed → WordIsHeard address stage word heard typed
word_both address Unseen word heard typed was keys = absurd was
word_both address (Once first) (Unsteady one other) heard typed was keys = (was.0, was.1, was.2, keys)
word_both address (Once first) (Tested r) heard typed was keys = absurd was
word_both address (Turned old) word heard typed was keys = absurd was
word_both address (Returned old turned) (Unsteady one other) heard typed was keys = absurd was
word_both address (Returned old turned) (Tested r) heard typed was keys = (was.0, was.1, was.2, keys)

same_stage : (address : ℕ) (stage : Stage) (heard : List Heard) (typed : List ℕ) → StageIsHeard address stage stage heard typed
same_stage address Unseen heard typed = refl
same_stage address (Once first) heard typed = refl
same_stage address (Turned old) heard typed = refl
same_stage address (Returned old turned) heard typed = refl

-- nothing more is known, and no word more is tested
still : (t : Tester) (a : TesterStep) (heard : List Heard) (typed : List ℕ) → a.next.seen ≡ t.seen → a.next.stage ≡ t.stage → TellsOnlyHeard t a.next heard typed
still t a heard typed seen stage =
    record { stage = λ _. subst (λ s. StageIsHeard (address_under_way t) t.stage s heard typed) (sym stage) (same_stage (address_under_way t) t.stage heard typed); word = λ other. absurd (other seen) }

one_longer : (seen : List Seen) (word : Seen) → seen ++ word ∷ [] ≡ seen → ⊥
one_longer seen word same = absurd (omega (arith, ap length same, length_push seen word))

taken_tells : (t : Tester) (turn : Turn) (heard : List Heard) (typed : List ℕ) → Tells t.stage heard turn → TurnIsTyped (address_under_way t) t.stage turn typed → TellsOnlyHeard t (taken t turn).next heard typed
taken_tells t (Listen phase) heard typed h k = still t (listens t phase) heard typed refl refl
taken_tells t (Key key phase) heard typed h k = still t (sends t key phase) heard typed refl refl
taken_tells t (LooksAgain first) heard typed h k = record { stage = λ _. stage_both (address_under_way t) t.stage (Once first) heard typed h k; word = λ other. absurd (other refl) }
taken_tells t (Deposits stage) heard typed h k = record { stage = λ _. stage_both (address_under_way t) t.stage stage heard typed h k; word = λ other. absurd (other refl) }
taken_tells t (Counts word) heard typed h k =
    record { stage = λ same. absurd (one_longer t.seen word same); word = λ _. record { word = word; seen = refl; read = word_both (address_under_way t) t.stage word heard typed h k; stage = refl } }
taken_tells t ReadBack heard typed h k = still t (taken t ReadBack) heard typed refl refl
taken_tells t Next heard typed h k =
    either_step (λ a. TellsOnlyHeard t a.next heard typed) (nat_lt (length t.seen) (length t.addresses)) (sends t (digit_of (address_under_way t) 1) (Address Look 1)) (listens t (Ended Complete))
    (still t (sends t (digit_of (address_under_way t) 1) (Address Look 1)) heard typed refl refl) (still t (listens t (Ended Complete)) heard typed refl refl)
taken_tells t (Stop end) heard typed h k = still t (listens t (Ended end)) heard typed refl refl
taken_tells t Stray heard typed h k =
    either_step (λ a. TellsOnlyHeard t a.next heard typed) (nat_lt t.spent t.patience) (listens (record t { spent = t.spent + 1 }) Settle) (listens t (Ended GaveUp))
    (still t (listens (record t { spent = t.spent + 1 }) Settle) heard typed refl refl) (still t (listens t (Ended GaveUp)) heard typed refl refl)
taken_tells t Timeout heard typed h k =
    either_step (λ a. TellsOnlyHeard t a.next heard typed) (nat_lt t.spent t.patience) (sends (record t { spent = t.spent + 1 }) resynchronise (Sync 0)) (listens t (Ended GaveUp))
    (still t (sends (record t { spent = t.spent + 1 }) resynchronise (Sync 0)) heard typed refl refl) (still t (listens t (Ended GaveUp)) heard typed refl refl)

first_heard : (n : ℕ) → HeardFits (first_phase n) []
first_heard n = on_test (λ v. HeardFits (if v then Ended Complete else Settle) []) (n == 0) (λ _. tt) (λ _. tt)

pub reports_only_heard : (addresses : List ℕ) (patience : ℕ) → IsTester (begun addresses patience) → ReportsOnlyHeard (begun addresses patience)
reports_only_heard addresses patience h heard last =
    let t : Tester = begun addresses patience in
    let now : Tester = led t heard in
    taken_tells now (turn_of now last) (heard ++ last ∷ []) (replay t heard) (turn_tells now last heard (led_kept t heard h) (led_heard t heard [] h (first_heard (length addresses)))) (turn_typed addresses patience h heard last)
