-- A reading host types no digit right after `/`, and never `G`, whatever it hears.
use Rattle.std.proofs.Common.{◌≡◌, ℕ, ◌+◌, Bool, true, false, ◌==◌, nat_lt, ltb, if◌then◌else◌, List, [], ◌∷◌, ◌++◌, length, Option, Some, None, unwrap_or, inl, inr, refl, arith}
use Rattle.std.specs.Prelude.{option_to_list}
use Rattle.std.proofs.lemmas.Bool.Decides.{nat_tests}
use Rattle.octal.specs.Octal.{digit_of, is_digit}
use Rattle.host_core.specs.declared.heard.Heard.{Heard}
use Rattle.host_core.specs.declared.heard.Heard.TheVariants.{Got, Quiet as Silence}
use Rattle.host_core.specs.Answers.{resynchronise_reply, return_reply, digit_echo, reading_start, reading_rest}
use Rattle.host_core.proofs.Frame.{on_test}
use Rattle.host_core.proofs.Replies.{either, resynchronise_walk, return_walk, echo_walk, start_walk, rest_walk}
use Rattle.line_world.specs.declared.event.Event.{Event}
use Rattle.line_world.specs.declared.event.Event.TheVariants.{Take, Hear, LoseDown, LoseUp, ChangeDown, ChangeUp, Quiet, Restart}
use Rattle.line_world.specs.Wire.{without_down, without_up}
use Rattle.reading_core.specs.declared.phase.Phase.{Phase}
use Rattle.reading_core.specs.declared.phase.Phase.TheVariants.{Settle, Sync, Address, Slash, Before, Value, Close, Refused, Ended}
use Rattle.reading_core.specs.declared.phase.End.TheVariants.{Complete, GaveUp}
use Rattle.reading_core.specs.declared.turn.Turn.{Turn}
use Rattle.reading_core.specs.declared.turn.Turn.TheVariants.{Listen, Key, Read, Again, Next, Stop, Stray, Timeout}
use Rattle.reading_core.specs.Laws.{replay}
use Rattle.reading_core.specs.Reader.{Reader, address_under_way, looks_twice, restarted}
use Rattle.reading_core.specs.ReadingTable.{ask, counted, taken, turn_of, hears, waits, sends, listens, synced, addressed, Target, doubts, judged, target_of, questioned, reads, closed, refused}
use Rattle.line_world.specs.Scene.{wire_of, over_when}
use Rattle.line_world.specs.Happening.{takes, host_hears as world_hears, times_out, typed_hearing, typed_timeout}
use Rattle.looking_law.specs.Inquiry.{Inquiry, happens, typed_in, typed, reading}
use Rattle.looking_law.specs.Harmless.{IsLooking, OnlyLook}

-- a phase that may follow right after `/` was typed
abbrev AfterSlash : Phase → Type 0
AfterSlash (Sync place) = ⊥
AfterSlash (Address place) = ⊥
AfterSlash (Close place) = ⊥
AfterSlash phase = Unit {0}

-- where `/` was the last key, the phase is such a one
abbrev Agrees : Bool → Phase → Type 0
Agrees slash phase = slash ≡ true → AfterSlash phase

-- the key that is sent, if any, is a looking one, and the phase agrees
abbrev LooksOn : Bool → Option ℕ → Phase → Type 0
LooksOn slash None phase = Agrees slash phase
LooksOn slash (Some key) phase = IsLooking slash key × Agrees (key == 47) phase

-- what a turn needs for that
abbrev TurnLooks : Bool → Turn → Type 0
TurnLooks slash (Listen phase) = Agrees slash phase
TurnLooks slash (Key key phase) = IsLooking slash key × Agrees (key == 47) phase
TurnLooks slash (Read value) = Unit {0}
TurnLooks slash (Again value) = Unit {0}
TurnLooks slash Next = slash ≡ false
TurnLooks slash (Stop end) = Unit {0}
TurnLooks slash Stray = Unit {0}
TurnLooks slash Timeout = Unit {0}

returns_look : (slash : Bool) → IsLooking slash 13
returns_look true = inl refl
returns_look false = inr (inr (inl refl))

resync_looks : (slash : Bool) → IsLooking slash 90
resync_looks true = inr refl
resync_looks false = inr (inr (inr refl))

digit_is : (w k : ℕ) → is_digit (digit_of w k) ≡ true
digit_is w k = grind (arith, nat_tests)

digit_looks : (slash : Bool) (w k : ℕ) → slash ≡ false → IsLooking slash (digit_of w k)
digit_looks false w k e = inl (digit_is w k)
digit_looks true w k e = absurd (cc e)

no_slash : (w k : ℕ) (P : Type 0) → (digit_of w k == 47) ≡ true → P
no_slash w k P e = absurd (apart e)
  where
    apart : (digit_of w k == 47) ≡ true → ⊥
    apart e = grind (arith, nat_tests)

taken_looks : (slash : Bool) (r : Reader) (turn : Turn) → TurnLooks slash turn → LooksOn slash (taken r turn).key (taken r turn).next.phase
taken_looks slash r (Listen phase) h = h
taken_looks slash r (Key key phase) h = h
taken_looks slash r (Read value) h = (returns_look slash, λ e. absurd (cc e))
taken_looks slash r (Again value) h = (returns_look slash, λ e. absurd (cc e))
taken_looks slash r Next h =
    on_test (λ v. LooksOn slash (if v then sends r (digit_of (address_under_way r) 1) (Address 1) else listens r (Ended Complete)).key (if v then sends r (digit_of (address_under_way r) 1) (Address 1) else listens r (Ended Complete)).next.phase)
    (nat_lt (length r.values) (length r.addresses)) (λ _. (digit_looks slash (address_under_way r) 1 h, no_slash (address_under_way r) 1 ⊥)) (λ _. λ _. tt)
taken_looks slash r (Stop end) h = λ _. tt
taken_looks slash r Stray h =
    on_test (λ v. LooksOn slash (if v then listens (record r { spent = r.spent + 1; earlier = None }) Settle else listens r (Ended GaveUp)).key (if v then listens (record r { spent = r.spent + 1; earlier = None }) Settle else listens r (Ended GaveUp)).next.phase)
    (nat_lt r.spent r.patience) (λ _. λ _. tt) (λ _. λ _. tt)
taken_looks slash r Timeout h =
    on_test (λ v. LooksOn slash (if v then sends (record r { spent = r.spent + 1; earlier = None }) 90 (Sync 0) else listens r (Ended GaveUp)).key (if v then sends (record r { spent = r.spent + 1; earlier = None }) 90 (Sync 0) else listens r (Ended GaveUp)).next.phase)
    (nat_lt r.spent r.patience) (λ _. (resync_looks slash, λ e. absurd (cc e))) (λ _. λ _. tt)

-- ---- the rows

isnt : (slash : Bool) → (slash ≡ true → ⊥) → slash ≡ false
isnt true never = absurd (never refl)
isnt false never = refl

sync_looks : (slash : Bool) (place c : ℕ) → slash ≡ false → TurnLooks slash (synced (resynchronise_reply place c))
sync_looks slash place c e = resynchronise_walk (λ r. TurnLooks slash (synced r)) place c tt (λ _ _. λ s. cc) (λ _. e)

slash_looks : (slash : Bool) → slash ≡ false → IsLooking slash 47
slash_looks false e = inr (inl refl)
slash_looks true e = absurd (cc e)

address_looks : (slash : Bool) (address place c : ℕ) → slash ≡ false → TurnLooks slash (addressed place (digit_echo address place c))
address_looks slash address place c e =
    echo_walk (λ echo. TurnLooks slash (addressed place echo)) address place c tt
    (λ _ _. (digit_looks slash address (place + 1) e, no_slash address (place + 1) ⊥)) (λ _ _. (slash_looks slash e, λ _. tt))

questioned_looks : (slash twice : Bool) (address : ℕ) → TurnLooks slash (questioned twice address)
questioned_looks slash true address = λ _. tt
questioned_looks slash false address = tt

judged_looks : (slash : Bool) (earlier : Option ℕ) (doubted : Bool) (number : ℕ) → TurnLooks slash (judged earlier doubted number)
judged_looks slash None true number = tt
judged_looks slash None false number = tt
judged_looks slash (Some first) doubted number = either (TurnLooks slash) (number == first) _ _ (λ _. tt) (λ _. tt)

before_looks : (slash : Bool) (t : Target) (c : ℕ) → TurnLooks slash (reads t (reading_start c))
before_looks slash t c = start_walk (λ reading. TurnLooks slash (reads t reading)) c tt (λ _. tt) (questioned_looks slash (looks_twice t.care) t.address) (λ _ _. λ _. tt)

value_looks : (slash : Bool) (t : Target) (value place c : ℕ) → TurnLooks slash (reads t (reading_rest value place c))
value_looks slash t value place c =
    rest_walk (λ reading. TurnLooks slash (reads t reading)) value place c tt (λ _ _ _. λ _. tt) (λ _ _ _. λ _. tt) (λ _ _. judged_looks slash t.earlier (doubts t.care t.expected value) value)

refused_looks : (slash : Bool) (address place c : ℕ) → TurnLooks slash (refused address (return_reply place c))
refused_looks slash address place c = return_walk (λ reply. TurnLooks slash (refused address reply)) place c tt (λ _ _. λ _. tt) (λ _. tt)

close_looks : (slash : Bool) (place c : ℕ) → slash ≡ false → TurnLooks slash (closed (return_reply place c))
close_looks slash place c e = return_walk (λ r. TurnLooks slash (closed r)) place c tt (λ _ _. λ s. cc) (λ _. e)

hears_look : (slash : Bool) (t : Target) (phase : Phase) (c : ℕ) → Agrees slash phase → TurnLooks slash (hears t phase c)
hears_look slash t Settle c a = a
hears_look slash t (Sync place) c a = sync_looks slash place c (isnt slash a)
hears_look slash t (Address place) c a = address_looks slash t.address place c (isnt slash a)
hears_look slash t Slash c a = either (TurnLooks slash) (c == 47) _ _ (λ _. λ _. tt) (λ _. tt)
hears_look slash t Before c a = before_looks slash t c
hears_look slash t (Value value place) c a = value_looks slash t value place c
hears_look slash t (Close place) c a = close_looks slash place c (isnt slash a)
hears_look slash t (Refused place) c a = refused_looks slash t.address place c
hears_look slash t (Ended end) c a = a

waits_look : (slash : Bool) (phase : Phase) → Agrees slash phase → TurnLooks slash (waits phase)
waits_look slash Settle a = (resync_looks slash, λ e. absurd (cc e))
waits_look slash (Sync place) a = tt
waits_look slash (Address place) a = tt
waits_look slash Slash a = tt
waits_look slash Before a = tt
waits_look slash (Value value place) a = tt
waits_look slash (Close place) a = tt
waits_look slash (Refused place) a = tt
waits_look slash (Ended end) a = a

turn_looks : (slash : Bool) (r : Reader) (heard : Heard) → Agrees slash r.phase → TurnLooks slash (turn_of r heard)
turn_looks slash r (Got c) a = hears_look slash (target_of r) r.phase c a
turn_looks slash r Silence a = waits_look slash r.phase a

ask_looks : (slash : Bool) (r : Reader) (heard : Heard) → Agrees slash r.phase → LooksOn slash (ask r heard).key (ask r heard).next.phase
ask_looks slash r heard a = taken_looks slash (counted r heard) (turn_of r heard) (turn_looks slash r heard a)

-- ---- events

-- what was typed before these keys, if anything, was a looking key
looks_then : (slash : Bool) (key : Option ℕ) (phase : Phase) (keys : List ℕ) → LooksOn slash key phase → ((s : Bool) → Agrees s phase → OnlyLook s keys) → OnlyLook slash (option_to_list key ++ keys)
looks_then slash None phase keys h more = more slash h
looks_then slash (Some key) phase keys h more = (h.0, more (key == 47) h.1)

-- what events may do: the keys that are typed look, and so do all keys that look from the host's phase on
abbrev LooksStep : Bool → Inquiry → List ℕ → Type 0
LooksStep slash next keys = (more : List ℕ) → ((s : Bool) → Agrees s next.core.phase → OnlyLook s more) → OnlyLook slash (keys ++ more)

hearing_looks : (slash : Bool) (w : Inquiry) (up : List ℕ) → Agrees slash w.core.phase → LooksStep slash (unwrap_or (world_hears reading w up) w) (typed_hearing reading w up)
hearing_looks slash w [] a = λ more rest. rest slash a
hearing_looks slash w (c ∷ up) a = λ more rest. looks_then slash (ask w.core (Got c)).key (ask w.core (Got c)).next.phase more (ask_looks slash w.core (Got c) a) rest

silence_looks : (slash : Bool) (w : Inquiry) (down up : List ℕ) → Agrees slash w.core.phase → LooksStep slash (unwrap_or (times_out reading w down up) w) (typed_timeout reading w down up)
silence_looks slash w [] [] a = λ more rest. looks_then slash (ask w.core Silence).key (ask w.core Silence).next.phase more (ask_looks slash w.core Silence a) rest
silence_looks slash w (c ∷ down) up a = λ more rest. rest slash a
silence_looks slash w [] (c ∷ up) a = λ more rest. rest slash a

taking_looks : (slash : Bool) (w : Inquiry) (down : List ℕ) → Agrees slash w.core.phase → LooksStep slash (unwrap_or (takes w down) w) []
taking_looks slash w [] a = λ more rest. rest slash a
taking_looks slash w (c ∷ down) a = λ more rest. rest slash a

losing_looks : (slash : Bool) (w next : Inquiry) (test : Bool) → Agrees slash w.core.phase → Agrees slash next.core.phase → LooksStep slash (unwrap_or (if test then Some next else None) w) []
losing_looks slash w next true a b = λ more rest. rest slash b
losing_looks slash w next false a b = λ more rest. rest slash a

begun_agrees : (slash done : Bool) → Agrees slash (if done then Ended Complete else Settle)
begun_agrees slash true = λ _. tt
begun_agrees slash false = λ _. tt

event_looks : (slash : Bool) (w : Inquiry) (event : Event) → Agrees slash w.core.phase → LooksStep slash (happens w event) (typed_in w event)
event_looks slash w Take a = taking_looks slash w w.down a
event_looks slash w Hear a = hearing_looks slash w w.up a
event_looks slash w (LoseDown k) a = losing_looks slash w (over_when w.changed w.core (without_down (wire_of w) k)) (ltb k (length w.down)) a a
event_looks slash w (LoseUp k) a = losing_looks slash w (over_when w.changed w.core (without_up (wire_of w) k)) (ltb k (length w.up)) a a
event_looks slash w (ChangeDown k c) a = λ more rest. rest slash a
event_looks slash w (ChangeUp k c) a = λ more rest. rest slash a
event_looks slash w Quiet a = silence_looks slash w w.down w.up a
event_looks slash w (Restart kept) a = λ more rest. rest slash (begun_agrees slash (length (restarted w.core kept).values == length w.core.addresses))

pub events_look : (slash : Bool) (w : Inquiry) (events : List Event) → Agrees slash w.core.phase → OnlyLook slash (typed w events)
events_look slash w [] a = tt
events_look slash w (event ∷ events) a = event_looks slash w event a (typed (happens w event) events) (λ s agrees. events_look s (happens w event) events agrees)

-- the same of the keys that answer any list of heard things
pub replay_looks : (slash : Bool) (r : Reader) (things : List Heard) → Agrees slash r.phase → OnlyLook slash (replay r things)
replay_looks slash r [] a = tt
replay_looks slash r (what ∷ things) a =
    looks_then slash (ask r what).key (ask r what).next.phase (replay (ask r what).next things) (ask_looks slash r what a) (λ s agrees. replay_looks s (ask r what).next things agrees)
