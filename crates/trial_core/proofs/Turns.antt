-- Each turn of the table leads to a phase that fits, and types a digit, `/`, `Z` or `a` at most.
use Rattle.std.proofs.Common.{◌≡◌, ℕ, ◌+◌, ◌≤◌, Bool, true, ◌==◌, if◌then◌else◌, inl, inr, refl, arith}
use Rattle.std.specs.Prelude.{⊤}
use Rattle.octal.specs.Octal.{digit_of}
use Rattle.octal.proofs.Heads.{digit_of-is_digit}
use Rattle.host_core.specs.declared.heard.Heard.{Heard}
use Rattle.host_core.specs.declared.heard.Heard.TheVariants.{Got, Quiet}
use Rattle.host_core.specs.Console.{resynchronise}
use Rattle.host_core.specs.Answers.{refusal_reply, resynchronise_reply, digit_echo, reading_start, reading_rest}
use Rattle.host_core.proofs.Frame.{on_test}
use Rattle.host_core.proofs.Replies.{refusal_walk, resynchronise_walk, echo_walk, start_walk, rest_walk}
use Rattle.trial_core.specs.declared.phase.Phase.{Phase}
use Rattle.trial_core.specs.declared.phase.Phase.TheVariants.{Settle, Sync, Address, Slash, Before, Value, Typed, Done, Letter, Refused, Ended}
use Rattle.host_core.specs.declared.answers.Reply.{Reply}
use Rattle.host_core.specs.declared.answers.Reply.TheVariants.{On, Over, Wrong}
use Rattle.trial_core.specs.declared.turn.Turn.{Turn}
use Rattle.trial_core.specs.declared.turn.Turn.TheVariants.{Listen, Key, Stop, Stray, Timeout}
use Rattle.trial_core.specs.declared.letter.SmallLetters.{SmallLetters}
use Rattle.trial_core.specs.declared.trial.Trial.{Trial}
use Rattle.trial_core.specs.Letter.{small_letter}
use Rattle.trial_core.specs.Trial.{PhaseFits}
use Rattle.trial_core.specs.TrialTable.{IsTrying, synced, addressed, reads, typed, finished, echoed, refused, hears, waits, turn_of}

-- the phase that a turn leads to fits, and the character that it sends is a digit, `/`, `Z` or `a`
abbrev pub TurnFits : Turn → Type 0
TurnFits (Listen phase) = PhaseFits phase
TurnFits (Key key phase) = PhaseFits phase × IsTrying key
TurnFits (Stop end) = ⊤
TurnFits Stray = ⊤
TurnFits Timeout = ⊤

-- how far an answer to `Z` goes
abbrev ReplyFits : Reply → Type 0
ReplyFits (On place) = place ≤ 5
ReplyFits Over = ⊤
ReplyFits Wrong = ⊤

digit_tries : (w k : ℕ) → IsTrying (digit_of w k)
digit_tries w k = inl (cc (digit_of-is_digit w k))

pub z_tries : IsTrying resynchronise
z_tries = inr (inr (inl refl))

letter_tries : IsTrying small_letter
letter_tries = inr (inr (inr refl))

-- what holds of both turns holds of the one that a test chooses
either : (test : Bool) (t u : Turn) → (test ≡ true → TurnFits t) → TurnFits u → TurnFits (if test then t else u)
either test t u is isnt = on_test (λ v. TurnFits (if v then t else u)) test is (λ _. isnt)

reply_fits : (place c : ℕ) → ReplyFits (resynchronise_reply place c)
reply_fits place c = resynchronise_walk ReplyFits place c tt (λ k le. le) (λ _. tt)

synced_fits : (address : ℕ) (r : Reply) → ReplyFits r → TurnFits (synced address r)
synced_fits address (On place) f = f
synced_fits address Over f = (record { from = omega arith; to = omega arith }, digit_tries address 1)
synced_fits address Wrong f = tt

finished_fits : (r : Reply) → ReplyFits r → TurnFits (finished r)
finished_fits (On place) f = f
finished_fits Over f = (tt, letter_tries)
finished_fits Wrong f = tt

echoed_fits : (c : ℕ) → TurnFits (echoed c)
echoed_fits c = either (c == 97) _ _ (λ _. omega arith) (either (c == 65) _ _ (λ _. omega arith) tt)

letter_reply_fits : (place c : ℕ) → ReplyFits (refusal_reply small_letter place c)
letter_reply_fits place c = refusal_walk ReplyFits 97 place c tt (λ k le. le) (λ _. tt)

refused_fits : (letters : SmallLetters) (r : Reply) → ReplyFits r → TurnFits (refused letters r)
refused_fits letters (On place) f = f
refused_fits letters Over f = tt
refused_fits letters Wrong f = tt

address_fits : (address place c : ℕ) → PhaseFits (Address place) → TurnFits (addressed place (digit_echo address place c))
address_fits address place c f =
    echo_walk (λ e. TurnFits (addressed place e)) address place c tt
    (λ _ less. (record { from = omega arith; to = omega (arith, less) }, digit_tries address (place + 1))) (λ _ _. (tt, inr (inl refl)))

before_fits : (digits c : ℕ) → TurnFits (reads digits (reading_start c))
before_fits digits c = start_walk (λ r. TurnFits (reads digits r)) c tt (omega arith) tt (λ _ _. omega arith)

value_fits : (digits place c : ℕ) → TurnFits (reads digits (reading_rest 0 place c))
value_fits digits place c =
    rest_walk (λ r. TurnFits (reads digits r)) 0 place c tt (λ _ _ _. omega arith) (λ _ less _. omega (arith, less)) (λ _ _. ((omega arith, omega arith), digit_tries digits 4))

typed_fits : (digits place c : ℕ) → PhaseFits (Typed place) → TurnFits (typed place (digit_echo digits (place + 3) c))
typed_fits digits place c f =
    echo_walk (λ e. TurnFits (typed place e)) digits (place + 3) c tt (λ _ less. ((omega arith, omega (arith, less)), digit_tries digits (place + 3 + 1))) (λ _ _. (omega arith, z_tries))

hears_fits : (address digits : ℕ) (phase : Phase) (c : ℕ) → PhaseFits phase → TurnFits (hears address digits phase c)
hears_fits address digits Settle c f = tt
hears_fits address digits (Sync place) c f = synced_fits address (resynchronise_reply place c) (reply_fits place c)
hears_fits address digits (Address place) c f = address_fits address place c f
hears_fits address digits Slash c f = either (c == 47) _ _ (λ _. tt) tt
hears_fits address digits Before c f = before_fits digits c
hears_fits address digits (Value place) c f = value_fits digits place c
hears_fits address digits (Typed place) c f = typed_fits digits place c f
hears_fits address digits (Done place) c f = finished_fits (resynchronise_reply place c) (reply_fits place c)
hears_fits address digits Letter c f = echoed_fits c
hears_fits address digits (Refused letters place) c f = refused_fits letters (refusal_reply small_letter place c) (letter_reply_fits place c)
hears_fits address digits (Ended end) c f = tt

waits_fits : (phase : Phase) → TurnFits (waits phase)
waits_fits Settle = (omega arith, z_tries)
waits_fits (Sync place) = tt
waits_fits (Address place) = tt
waits_fits Slash = tt
waits_fits Before = tt
waits_fits (Value place) = tt
waits_fits (Typed place) = tt
waits_fits (Done place) = tt
waits_fits Letter = tt
waits_fits (Refused letters place) = tt
waits_fits (Ended end) = tt

pub turn_fits : (t : Trial) (heard : Heard) → PhaseFits t.phase → TurnFits (turn_of t heard)
turn_fits t (Got c) f = hears_fits t.address t.digits t.phase c f
turn_fits t Quiet f = waits_fits t.phase
