-- A word is verified only where it has just been read: what a life has heard so far, phase by phase.
use Rattle.std.proofs.Common.{◌≡◌, ◌≢◌, ℕ, zero, suc, ◌+◌, ◌-◌, ◌*◌, ◌<◌, ◌≤◌, Bool, true, false, ◌==◌, nat_lt, ◌&&◌, if◌then◌else◌, List, [], ◌∷◌, ◌++◌, length, map, Option, Some, None, refl, arith, subst, sym, ◌∙◌, ap, append_assoc, append-nil, length-append}
use Rattle.std.specs.Prelude.{All, IsTrue, slice_index, fold}
use Rattle.std.specs.Option.{is_none}
use Rattle.std.proofs.lemmas.List.Elements.{All-append}
use Rattle.std.proofs.lemmas.List.{map-append}
use Rattle.std.proofs.lemmas.List.Sums.{fold-append}
use Rattle.std.proofs.lemmas.Bool.Decides.{nat_tests}
use Rattle.octal.specs.Octal.{octal_text, digit_of, is_digit, pushed}
use Rattle.octal.proofs.Digits.{octal_text-only, pushed-small, pushed-octal_value}
use Rattle.tape_image.specs.Word.{WordValue, merged}
use Rattle.tape_image.specs.Plan.{PlanValue}
use Rattle.tape_image.proofs.Halves.{Stands-unchanged}
use Rattle.host_core.specs.declared.phase.Phase.{Phase}
use Rattle.host_core.specs.declared.phase.Phase.TheVariants.{Settle, Sync, Address, Slash, Before, Value, Deposit, Return, Start, Go, Ended}
use Rattle.host_core.specs.declared.phase.Visit.{Visit}
use Rattle.host_core.specs.declared.phase.Visit.TheVariants.{Look}
use Rattle.host_core.specs.declared.phase.Reason.{Reason}
use Rattle.host_core.specs.declared.phase.Reason.TheVariants.{Store, Reopen, Missing, Close}
use Rattle.host_core.specs.declared.phase.End.TheVariants.{Loaded, GaveUp}
use Rattle.host_core.specs.declared.heard.Heard.{Heard}
use Rattle.host_core.specs.declared.heard.Heard.TheVariants.{Got, Quiet}
use Rattle.host_core.specs.declared.turn.Turn.{Turn}
use Rattle.host_core.specs.declared.turn.Turn.TheVariants.{Listen, Key, Verified, Revisit, Next, Mark, Stop, Stray, Timeout}
use Rattle.host_core.specs.Console.{resynchronise_of, space}
use Rattle.host_core.specs.Core.{Core, begun_by, first_phase, word_under_way, start_of}
use Rattle.host_core.specs.Host.{IsHost, Basis, PhaseFits, basis_of, value_room}
use Rattle.host_core.specs.Laws.{led, HasRead, VerifiesOnlyRead}
use Rattle.host_core.specs.PhaseTable.{move, listens, sends, taken, turn_of, hears, waits, read, returned, after_words}
use Rattle.host_core.proofs.Frame.{on_test, on_move}
use Rattle.host_core.proofs.Lives.{led_kept}
use Rattle.host_core.proofs.Turns.{kept, room_le, room_step, digit_below_eight}
use Rattle.host_core.proofs.Walk.{sync_walk, address_walk, slash_walk, before_walk, value_walk, read_walk, deposit_walk, return_walk, start_walk, go_walk}

-- the first digits of a word's octal text, which make the number `value`
record IsReading (text : List ℕ) (number place : ℕ) : Type 0 where
  pub count : length text ≡ place
  pub digits : All (λ c. IsTrue (is_digit c)) text
  pub first : slice_index text 0 ≤ 49
  pub value : fold pushed 0 text ≡ number

-- in the phase Value the digits of the reading were heard last
abbrev HeardFits : Phase → List Heard → Type 0
HeardFits (Value visit value place) heard = (digits : List ℕ) × (before : List Heard) × (heard ≡ before ++ map Got digits) × IsReading digits value place
HeardFits _ heard = Unit {0}

-- what a turn takes for heard was heard
abbrev Tells : WordValue → List Heard → Turn → Type 0
Tells word heard (Listen next) = HeardFits next heard
Tells word heard (Key key next) = HeardFits next heard
Tells word heard Verified = HasRead word heard
Tells word heard _ = Unit {0}

all_none : All (λ c. IsTrue (is_digit c)) []
all_none i d low = absurd (omega (arith, low))

all_one : (c : ℕ) → IsTrue (is_digit c) → All (λ c. IsTrue (is_digit c)) (c ∷ [])
all_one c h zero d low = h
all_one c h (suc i) d low = absurd (omega (arith, low))

small_digit : (c : ℕ) → 48 ≤ c → c ≤ 49 → IsTrue (is_digit c)
small_digit c low high = grind (arith, nat_tests)

no_digits : (visit : Visit) (heard : List Heard) → HeardFits (Value visit 0 0) heard
no_digits visit heard = ([], heard, sym (append-nil heard), record { count = refl; digits = all_none; first = omega arith; value = refl })

first_digit : (visit : Visit) (heard : List Heard) (c : ℕ) → 48 ≤ c → c ≤ 49 → HeardFits (Value visit (c - 48) 1) (heard ++ Got c ∷ [])
first_digit visit heard c low high = (c ∷ [], heard, refl, record { count = refl; digits = all_one c (small_digit c low high); first = high; value = omega arith })

same_first : (text : List ℕ) (place c : ℕ) → length text ≡ place → (place == 0) ≡ false → slice_index text 0 ≤ 49 → slice_index (text ++ c ∷ []) 0 ≤ 49
same_first (d ∷ text) place c count some first = first
same_first [] place c count some first = absurd (cc (count, some))

one_digit_more : (text : List ℕ) (value place c : ℕ) → (place == 0) ≡ false → is_digit c ≡ true → 8 * value + (c - 48) < 65536 → IsReading text value place → IsReading (text ++ c ∷ []) (8 * value + (c - 48)) (place + 1)
one_digit_more text value place c some digit small r = record {
  count = length-append text (c ∷ []) ∙ ap (λ n. n + 1) r.count;
  digits = All-append (λ c. IsTrue (is_digit c)) text (c ∷ []) r.digits (all_one c digit);
  first = same_first text place c r.count some r.first;
  value = fold-append pushed 0 text (c ∷ []) ∙ (ap (λ n. pushed n c) r.value ∙ pushed-small value c small);
}

next_digit : (visit : Visit) (value place c : ℕ) (heard : List Heard) → (place == 0) ≡ false → place < 6 → is_digit c ≡ true → value < value_room place → HeardFits (Value visit value place) heard → HeardFits (Value visit (8 * value + (c - 48)) (place + 1)) (heard ++ Got c ∷ [])
next_digit visit value place c heard some less digit room h = (
  h.0 ++ c ∷ [],
  h.1,
  ap (λ all. all ++ Got c ∷ []) h.2 ∙ (append_assoc h.1 (map Got h.0) (Got c ∷ []) ∙ ap (λ digits. h.1 ++ digits) (sym (map-append Got h.0 (c ∷ [])))),
  one_digit_more h.0 value place c some digit (room_le (place + 1) (8 * value + (c - 48)) (room_step place value (c - 48) some less room (digit_below_eight c digit))) h.3,
)

whole_text : (text : List ℕ) (value place : ℕ) → place ≡ 6 → IsReading text value place → text ≡ octal_text value
whole_text text value place six r =
    octal_text-only value text record { six = r.count ∙ six; digits = r.digits; first = r.first; value = sym (pushed-octal_value text (r.count ∙ six) r.digits r.first) ∙ r.value }

whole : (word : WordValue) (visit : Visit) (value place c : ℕ) (heard : List Heard) → 6 ≤ place → place ≤ 6 → c ≡ space → merged word value ≡ value → HeardFits (Value visit value place) heard → HasRead word (heard ++ Got c ∷ [])
whole word visit value place c heard low high blank same h = (
  value,
  h.1,
  ap (λ all. all ++ Got c ∷ []) h.2 ∙ (append_assoc h.1 (map Got h.0) (Got c ∷ []) ∙ ap (λ all. h.1 ++ all) (sym (map-append Got h.0 (c ∷ [])) ∙ (ap (λ text. map Got (text ++ c ∷ [])) (whole_text h.0 value place (omega arith) h.3) ∙ ap (λ last. map Got (octal_text value ++ last ∷ [])) blank))),
  Stands-unchanged word value same,
)

read_tells : (careful : Bool) (word : WordValue) (visit : Visit) (value : ℕ) (heard : List Heard) → (merged word value ≡ value → HasRead word heard) → Tells word heard (read careful word visit value)
read_tells careful word visit value heard done = read_walk (Tells word heard) careful word visit value tt done (λ _ _. tt) (λ _ _. tt) (λ _ _. tt) (λ _ _. tt) (λ _ _. tt) tt

returned_tells : (word : WordValue) (reason : Reason) (heard : List Heard) → Tells word heard (returned reason)
returned_tells word (Store deposit value) heard = tt
returned_tells word (Reopen first) heard = tt
returned_tells word (Missing address) heard = tt
returned_tells word Close heard = tt

hears_tells : (careful : Bool) (word : WordValue) (start : ℕ) (phase : Phase) (c : ℕ) (b : Basis) (heard : List Heard) → PhaseFits phase b → HeardFits phase heard → Tells word (heard ++ Got c ∷ []) (hears careful word start phase c)
hears_tells careful word start Settle c b heard f h = tt
hears_tells careful word start (Sync place) c b heard f h = sync_walk (Tells word (heard ++ Got c ∷ [])) careful place c tt (λ _ _. tt) tt
hears_tells careful word start (Address visit place) c b heard f h = address_walk (Tells word (heard ++ Got c ∷ [])) word.address visit place c tt (λ _. tt) tt
hears_tells careful word start (Slash visit) c b heard f h = slash_walk (Tells word (heard ++ Got c ∷ [])) visit c tt tt
hears_tells careful word start (Before visit) c b heard f h =
    before_walk (Tells word (heard ++ Got c ∷ [])) careful word visit c tt (no_digits visit (heard ++ Got c ∷ [])) (λ _. tt) (λ _. tt) (λ low high. first_digit visit heard c low high)
hears_tells careful word start (Value visit value place) c b heard f h =
    value_walk (Tells word (heard ++ Got c ∷ [])) careful word visit value place c tt (λ _ low high. first_digit visit heard c low high)
    (λ some less digit. next_digit visit value place c heard some less digit f.2 h)
    (λ all blank. read_tells careful word visit value (heard ++ Got c ∷ []) (λ same. whole word visit value place c heard all f.1 blank same h))
hears_tells careful word start (Deposit deposit value place) c b heard f h = deposit_walk (Tells word (heard ++ Got c ∷ [])) deposit value place c tt (λ _. tt) tt
hears_tells careful word start (Return reason place) c b heard f h = return_walk (Tells word (heard ++ Got c ∷ [])) reason place c tt (λ _ _. tt) (returned_tells word reason (heard ++ Got c ∷ []))
hears_tells careful word start (Start place) c b heard f h = start_walk (Tells word (heard ++ Got c ∷ [])) start place c tt (λ _. tt) (λ _. tt)
hears_tells careful word start Go c b heard f h = go_walk (Tells word (heard ++ Got c ∷ [])) c tt tt
hears_tells careful word start (Ended end) c b heard f h = tt

waits_tells : (careful : Bool) (word : WordValue) (phase : Phase) (heard : List Heard) → Tells word heard (waits careful phase)
waits_tells careful word Settle heard = tt
waits_tells careful word (Sync place) heard = tt
waits_tells careful word (Address visit place) heard = tt
waits_tells careful word (Slash visit) heard = tt
waits_tells careful word (Before visit) heard = tt
waits_tells careful word (Value visit value place) heard = tt
waits_tells careful word (Deposit deposit value place) heard = tt
waits_tells careful word (Return reason place) heard = tt
waits_tells careful word (Start place) heard = tt
waits_tells careful word Go heard = tt
waits_tells careful word (Ended end) heard = tt

turn_tells : (core : Core) (last : Heard) (heard : List Heard) → IsHost core → HeardFits core.phase heard → Tells (word_under_way core) (heard ++ last ∷ []) (turn_of core last)
turn_tells core (Got c) heard h f = hears_tells core.careful (word_under_way core) (start_of core) core.phase c (basis_of core) heard h.fits f
turn_tells core Quiet heard h f = waits_tells core.careful (word_under_way core) core.phase (heard ++ Quiet ∷ [])

after_words_heard : (core : Core) (start : Option ℕ) (heard : List Heard) → HeardFits (after_words core start).next.phase heard
after_words_heard core (Some start) heard = tt
after_words_heard core None heard = tt

taken_heard : (core : Core) (turn : Turn) (heard : List Heard) → Tells (word_under_way core) heard turn → HeardFits (taken core turn).next.phase heard
taken_heard core (Listen phase) heard t = t
taken_heard core (Key key phase) heard t = t
taken_heard core Verified heard t = tt
taken_heard core (Revisit visit) heard t = tt
taken_heard core Next heard t =
    on_move (λ m. HeardFits m.next.phase heard) (nat_lt core.verified (length core.plan.words)) (sends core (digit_of (word_under_way core).address 1) (Address Look 1)) (after_words core core.plan.start)
    (λ _. tt) (λ _. after_words_heard core core.plan.start heard)
taken_heard core Mark heard t = tt
taken_heard core (Stop end) heard t = tt
taken_heard core Stray heard t =
    on_move (λ m. HeardFits m.next.phase heard) (nat_lt core.spent core.patience) (listens (record core { spent = core.spent + 1 }) Settle) (listens core (Ended GaveUp)) (λ _. tt) (λ _. tt)
taken_heard core Timeout heard t =
    on_move (λ m. HeardFits m.next.phase heard) (nat_lt core.spent core.patience) (sends (record core { spent = core.spent + 1 }) (resynchronise_of core.careful) (Sync 0)) (listens core (Ended GaveUp)) (λ _. tt) (λ _. tt)

led_heard : (core : Core) (more before : List Heard) → IsHost core → HeardFits core.phase before → HeardFits (led core more).phase (before ++ more)
led_heard core [] before h f = subst (HeardFits core.phase) (sym (append-nil before)) f
led_heard core (heard ∷ more) before h f =
    subst (HeardFits (led core (heard ∷ more)).phase) (append_assoc before (heard ∷ []) more)
    (led_heard (move core heard).next more (before ++ heard ∷ []) (kept core heard h) (taken_heard core (turn_of core heard) (before ++ heard ∷ []) (turn_tells core heard before h f)))

after_words_verified : (core : Core) (start : Option ℕ) → (after_words core start).next.verified ≡ core.verified
after_words_verified core (Some start) = refl
after_words_verified core None = refl

taken_verified : (core : Core) (turn : Turn) (heard : List Heard) → Tells (word_under_way core) heard turn → (taken core turn).next.verified ≢ core.verified → HasRead (word_under_way core) heard
taken_verified core (Listen phase) heard t other = absurd (other refl)
taken_verified core (Key key phase) heard t other = absurd (other refl)
taken_verified core Verified heard t other = t
taken_verified core (Revisit visit) heard t other = absurd (other refl)
taken_verified core Next heard t other =
    absurd
    (other
    (on_move (λ m. m.next.verified ≡ core.verified) (nat_lt core.verified (length core.plan.words)) (sends core (digit_of (word_under_way core).address 1) (Address Look 1)) (after_words core core.plan.start)
    (λ _. refl) (λ _. after_words_verified core core.plan.start)))
taken_verified core Mark heard t other = absurd (other refl)
taken_verified core (Stop end) heard t other = absurd (other refl)
taken_verified core Stray heard t other =
    absurd
    (other
    (on_move (λ m. m.next.verified ≡ core.verified) (nat_lt core.spent core.patience) (listens (record core { spent = core.spent + 1 }) Settle) (listens core (Ended GaveUp)) (λ _. refl) (λ _. refl)))
taken_verified core Timeout heard t other =
    absurd
    (other
    (on_move (λ m. m.next.verified ≡ core.verified) (nat_lt core.spent core.patience) (sends (record core { spent = core.spent + 1 }) (resynchronise_of core.careful) (Sync 0)) (listens core (Ended GaveUp)) (λ _. refl) (λ _. refl)))

first_heard : (plan : PlanValue) (verified : ℕ) (going : Bool) → HeardFits (first_phase plan verified going) []
first_heard plan verified true = tt
first_heard plan verified false = on_test (λ v. HeardFits (if v then Ended Loaded else Settle) []) (verified == length plan.words && is_none plan.start) (λ _. tt) (λ _. tt)

pub verifies_only_read : (careful : Bool) (plan : PlanValue) (verified : ℕ) (going : Bool) (patience : ℕ) → IsHost (begun_by careful plan verified going patience) → VerifiesOnlyRead (begun_by careful plan verified going patience)
verifies_only_read careful plan verified going patience h heard last other =
    let core : Core = begun_by careful plan verified going patience in
    let now : Core = led core heard in
    taken_verified now (turn_of now last) (heard ++ last ∷ []) (turn_tells now last heard (led_kept core heard h) (led_heard core heard [] h (first_heard plan verified going))) other
