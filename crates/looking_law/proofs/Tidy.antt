-- A trial sends a key only where nothing is under way: each of its keys answers the last character of an answer, or a silence.
use Rattle.std.proofs.Common.{◌≡◌, ℕ, zero, suc, ◌+◌, ◌<◌, ◌≤◌, Bool, true, false, ◌==◌, nat_lt, if◌then◌else◌, List, [], ◌∷◌, ◌++◌, length, drop, inl, inr, refl, arith, ap, sym, subst, ◌∙◌}
use Rattle.std.specs.Prelude.{option_to_list}
use Rattle.std.specs.List.{remove}
use Rattle.std.proofs.lemmas.List.Edits.{length-remove}
use Rattle.octal.specs.Octal.{digit_of}
use Rattle.octal.proofs.Heads.{digit_of-is_digit}
use Rattle.odt_machine.specs.KeyTable.{take_of}
use Rattle.odt_machine.specs.Machine.{Machine}
use Rattle.host_core.specs.declared.heard.Heard.{Heard}
use Rattle.host_core.specs.declared.heard.Heard.TheVariants.{Got, Quiet}
use Rattle.host_core.specs.Answers.{refusal_reply, resynchronise_reply, digit_echo, reading_start, reading_rest}
use Rattle.host_core.proofs.Frame.{on_test}
use Rattle.host_core.proofs.Replies.{resynchronise_walk, echo_walk, start_walk, rest_walk}
use Rattle.line_world.specs.Invariant.{OneWay}
use Rattle.line_world.specs.Wire.{Wire, sent}
use Rattle.honest_line.specs.Moves.{Gives, Moves, MovesTimes, Passes}
use Rattle.honest_line.specs.Honest.{resting}
use Rattle.honest_line.proofs.Passings.{passing_said}
use Rattle.trial_core.specs.declared.phase.Phase.{Phase}
use Rattle.trial_core.specs.declared.phase.Phase.TheVariants.{Settle, Sync, Address, Slash, Before, Value, Typed, Done, Letter, Refused, Ended}
use Rattle.trial_core.specs.declared.phase.End.TheVariants.{GaveUp}
use Rattle.host_core.specs.declared.answers.Reply.{Reply}
use Rattle.host_core.specs.declared.answers.Reply.TheVariants.{On, Over, Wrong}
use Rattle.trial_core.specs.declared.turn.Turn.{Turn}
use Rattle.trial_core.specs.declared.turn.Turn.TheVariants.{Listen, Key, Stop, Stray, Timeout}
use Rattle.trial_core.specs.declared.letter.SmallLetters.{SmallLetters}
use Rattle.trial_core.specs.declared.trial.Trial.{Trial}
use Rattle.trial_core.specs.Laws.{led}
use Rattle.trial_core.specs.Letter.{small_letter}
use Rattle.trial_core.specs.Trial.{begun_trial}
use Rattle.trial_core.specs.TrialTable.{TrialStep, ask, synced, addressed, reads, typed, finished, echoed, refused, hears, waits, turn_of, taken, noted, listens, sends}
use Rattle.looking_law.specs.Trying.{trial_dialogue}
use Rattle.looking_law.specs.Splitting.{EndsTidily, TrialsEndTidily}
use Rattle.looking_law.proofs.Answers.{Alone, EndsAt, answer_short, digit_ends, ends_behind, ends_removed, none_removed, resync_ends, slash_ends}
use Rattle.looking_law.proofs.Told.{told_tidy}

-- ---- what is under way in a phase

-- of the answer under way that a phase waits for: where the character at which the next key is sent stands, nothing is behind it
abbrev Fits : Phase → List ℕ → Type 0
Fits (Sync place) up = EndsAt 64 up
Fits (Address place) up = (e : ℕ) → EndsAt e up
Fits Slash up = EndsAt 32 (drop 2 up)
Fits Before up = EndsAt 32 (drop 1 up)
Fits (Value place) up = EndsAt 32 up
Fits (Typed place) up = (e : ℕ) → EndsAt e up
Fits (Done place) up = EndsAt 64 up
Fits phase up = Unit {0}

-- whatever the console is in the middle of, its answer to a key fits
abbrev Answers : Phase → ℕ → Type 0
Answers phase key = (m : Machine) → Fits phase (take_of m key).answer

-- at most one key is under way, alone, with an answer that will fit, or an answer that does
abbrev Steady : Phase → List ℕ → List ℕ → Type 0
Steady phase [] up = Fits phase up × (length up ≤ 32)
Steady phase (key ∷ down) up = (down ≡ []) × ((up ≡ []) × Answers phase key)

abbrev SteadyOn : Phase → Wire → Type 0
SteadyOn phase x = Steady phase x.down x.up

none_fits : (phase : Phase) → Fits phase []
none_fits (Sync place) = tt
none_fits (Address place) = λ e. tt
none_fits Slash = tt
none_fits Before = tt
none_fits (Value place) = tt
none_fits (Typed place) = λ e. tt
none_fits Settle = tt
none_fits (Done place) = tt
none_fits Letter = tt
none_fits (Refused letters place) = tt
none_fits (Ended end) = tt

removed_fits : (phase : Phase) (up : List ℕ) (k : ℕ) → Fits phase up → Fits phase (remove up k)
removed_fits (Sync place) up k fits = ends_removed 64 up k fits
removed_fits (Address place) up k fits = λ e. ends_removed e up k (fits e)
removed_fits Slash up k fits = ends_behind 32 2 up k fits
removed_fits Before up k fits = ends_behind 32 1 up k fits
removed_fits (Value place) up k fits = ends_removed 32 up k fits
removed_fits (Typed place) up k fits = λ e. ends_removed e up k (fits e)
removed_fits Settle up k fits = tt
removed_fits (Done place) up k fits = ends_removed 64 up k fits
removed_fits Letter up k fits = tt
removed_fits (Refused letters place) up k fits = tt
removed_fits (Ended end) up k fits = tt

-- ---- moves

none_but : (keys rest : List ℕ) (c d : ℕ) → keys ≡ [] → c ∷ keys ≡ d ∷ rest → rest ≡ []
none_but keys rest c d none is = cc

taken_steady : (phase : Phase) (m : Machine) (down rest up : List ℕ) (key : ℕ) → Steady phase down up → down ≡ key ∷ rest → Steady phase rest (up ++ (take_of m key).answer)
taken_steady phase m [] rest up key steady is = absurd (cc is)
taken_steady phase m (c ∷ down) rest up key steady is =
    subst (λ keys. Steady phase keys (up ++ (take_of m key).answer)) (sym (none_but down rest c key steady.0 is))
    (subst (λ before. Steady phase [] (before ++ (take_of m key).answer)) (sym steady.1.0)
    (subst (λ d. Fits phase (take_of m d).answer) (first is) (steady.1.1 m), omega (arith, answer_short m key)))
  where
    first : c ∷ down ≡ key ∷ rest → c ≡ key
    first e = cc e

down_steady : (phase : Phase) (down up : List ℕ) (k : ℕ) → Steady phase down up → Steady phase (remove down k) up
down_steady phase [] up zero steady = steady
down_steady phase [] up (suc k) steady = steady
down_steady phase (c ∷ down) up zero steady =
    subst (λ keys. Steady phase keys up) (sym steady.0) (subst (Fits phase) (sym steady.1.0) (none_fits phase), omega (arith, ap length steady.1.0))
down_steady phase (c ∷ down) up (suc k) steady = (none_removed down k steady.0, steady.1)

up_steady : (phase : Phase) (down up : List ℕ) (k : ℕ) → k < length up → Steady phase down up → Steady phase down (remove up k)
up_steady phase [] up k below steady = (removed_fits phase up k steady.0, omega (arith, length-remove up k below, steady.1))
up_steady phase (c ∷ down) up k below steady = absurd (omega (arith, below, ap length steady.1.0))

move_steady : (phase : Phase) (x y : Wire) → Moves x y → SteadyOn phase x → SteadyOn phase y
move_steady phase x y (inl (c, rest, is, now)) steady = subst (SteadyOn phase) (sym now) (taken_steady phase x.machine x.down rest x.up c steady is)
move_steady phase x y (inr (inl (k, below, now))) steady = subst (SteadyOn phase) (sym now) (down_steady phase x.down x.up k steady)
move_steady phase x y (inr (inr (k, below, now))) steady = subst (SteadyOn phase) (sym now) (up_steady phase x.down x.up k below steady)

times_steady : (phase : Phase) (n : ℕ) (x y : Wire) → MovesTimes n x y → SteadyOn phase x → SteadyOn phase y
times_steady phase zero x y same steady = subst (SteadyOn phase) (sym same) steady
times_steady phase (suc n) x y (z, move, rest) steady = times_steady phase n z y rest (move_steady phase x z move steady)

-- ---- turns

-- what a turn needs where no key is under way and this is left of the answers
abbrev TurnFits : Turn → List ℕ → Type 0
TurnFits (Listen phase) left = Fits phase left
TurnFits (Key key phase) left = (left ≡ []) × Answers phase key
TurnFits (Stop end) left = Unit {0}
TurnFits Stray left = Unit {0}
TurnFits Timeout left = left ≡ []

abbrev ReplyFits : Reply → List ℕ → Type 0
ReplyFits (On place) left = EndsAt 64 left
ReplyFits Over left = left ≡ []
ReplyFits Wrong left = Unit {0}

-- nothing stands behind the one character
last_one : (test : Bool) (left : List ℕ) → Alone test left → test ≡ true → left ≡ []
last_one true left alone is = alone
last_one false left alone is = absurd (cc is)

either : (left : List ℕ) (test : Bool) (t u : Turn) → (test ≡ true → TurnFits t left) → (test ≡ false → TurnFits u left) → TurnFits (if test then t else u) left
either left test t u is isnt = on_test (λ v. TurnFits (if v then t else u) left) test is isnt

digit_fits : (w k place : ℕ) → Answers (Address place) (digit_of w k)
digit_fits w k place m e = digit_ends m (digit_of w k) e (cc (digit_of-is_digit w k))

typed_fits : (w k place : ℕ) → Answers (Typed place) (digit_of w k)
typed_fits w k place m e = digit_ends m (digit_of w k) e (cc (digit_of-is_digit w k))

reply_fits : (place c : ℕ) (left : List ℕ) → EndsAt 64 (c ∷ left) → ReplyFits (resynchronise_reply place c) left
reply_fits place c left ends = resynchronise_walk (λ r. ReplyFits r left) place c tt (λ _ _. ends.1) (λ is. last_one (c == 64) left ends.0 is)

synced_fits : (address : ℕ) (r : Reply) (left : List ℕ) → ReplyFits r left → TurnFits (synced address r) left
synced_fits address (On place) left fits = fits
synced_fits address Over left fits = (fits, digit_fits address 1 1)
synced_fits address Wrong left fits = tt

finished_fits : (r : Reply) (left : List ℕ) → ReplyFits r left → TurnFits (finished r) left
finished_fits (On place) left fits = fits
finished_fits Over left fits = (fits, λ m. tt)
finished_fits Wrong left fits = tt

refused_fits : (letters : SmallLetters) (r : Reply) (left : List ℕ) → TurnFits (refused letters r) left
refused_fits letters (On place) left = tt
refused_fits letters Over left = tt
refused_fits letters Wrong left = tt

echoed_fits : (c : ℕ) (left : List ℕ) → TurnFits (echoed c) left
echoed_fits c left = either left (c == 97) _ _ (λ _. tt) (λ _. either left (c == 65) _ _ (λ _. tt) (λ _. tt))

address_fits : (address place c : ℕ) (left : List ℕ) → ((e : ℕ) → EndsAt e (c ∷ left)) → TurnFits (addressed place (digit_echo address place c)) left
address_fits address place c left ends =
    let none : (c == digit_of address place) ≡ true → left ≡ [] = λ is. last_one (c == digit_of address place) left (ends (digit_of address place)).0 is in
    echo_walk (λ e. TurnFits (addressed place e) left) address place c tt (λ is _. (none is, digit_fits address (place + 1) (place + 1))) (λ is _. (none is, slash_ends))

before_fits : (digits c : ℕ) (left : List ℕ) → EndsAt 32 left → TurnFits (reads digits (reading_start c)) left
before_fits digits c left ends = start_walk (λ r. TurnFits (reads digits r) left) c tt ends tt (λ _ _. ends)

value_fits : (digits place c : ℕ) (left : List ℕ) → EndsAt 32 (c ∷ left) → TurnFits (reads digits (reading_rest 0 place c)) left
value_fits digits place c left ends =
    rest_walk (λ r. TurnFits (reads digits r) left) 0 place c tt (λ _ _ _. ends.1) (λ _ _ _. ends.1) (λ _ is. (last_one (c == 32) left ends.0 is, typed_fits digits 4 1))

digits_fit : (digits place c : ℕ) (left : List ℕ) → ((e : ℕ) → EndsAt e (c ∷ left)) → TurnFits (typed place (digit_echo digits (place + 3) c)) left
digits_fit digits place c left ends =
    let none : (c == digit_of digits (place + 3)) ≡ true → left ≡ [] = λ is. last_one (c == digit_of digits (place + 3)) left (ends (digit_of digits (place + 3))).0 is in
    echo_walk (λ e. TurnFits (typed place e) left) digits (place + 3) c tt (λ is _. (none is, typed_fits digits (place + 3 + 1) (place + 1))) (λ is _. (none is, resync_ends))

hears_fits : (address digits : ℕ) (phase : Phase) (c : ℕ) (left : List ℕ) → Fits phase (c ∷ left) → TurnFits (hears address digits phase c) left
hears_fits address digits Settle c left fits = tt
hears_fits address digits (Sync place) c left fits = synced_fits address (resynchronise_reply place c) left (reply_fits place c left fits)
hears_fits address digits (Address place) c left fits = address_fits address place c left fits
hears_fits address digits Slash c left fits = either left (c == 47) _ _ (λ _. fits) (λ _. tt)
hears_fits address digits Before c left fits = before_fits digits c left fits
hears_fits address digits (Value place) c left fits = value_fits digits place c left fits
hears_fits address digits (Typed place) c left fits = digits_fit digits place c left fits
hears_fits address digits (Done place) c left fits = finished_fits (resynchronise_reply place c) left (reply_fits place c left fits)
hears_fits address digits Letter c left fits = echoed_fits c left
hears_fits address digits (Refused letters place) c left fits = refused_fits letters (refusal_reply small_letter place c) left
hears_fits address digits (Ended end) c left fits = tt

waits_fits : (phase : Phase) (left : List ℕ) → left ≡ [] → TurnFits (waits phase) left
waits_fits Settle left none = (none, resync_ends)
waits_fits (Sync place) left none = none
waits_fits (Address place) left none = none
waits_fits Slash left none = none
waits_fits Before left none = none
waits_fits (Value place) left none = none
waits_fits (Typed place) left none = none
waits_fits (Done place) left none = none
waits_fits Letter left none = tt
waits_fits (Refused letters place) left none = tt
waits_fits (Ended end) left none = tt

-- a trial that took a step where no key is under way and this is left
abbrev SteadyAsked : List ℕ → TrialStep → Type 0
SteadyAsked left a = Steady a.next.phase (option_to_list a.key) left

turn_steady : (t : Trial) (turn : Turn) (left : List ℕ) → TurnFits turn left → length left ≤ 32 → SteadyAsked left (taken t turn)
turn_steady t (Listen phase) left fits few = (fits, few)
turn_steady t (Key key phase) left fits few = (refl, fits)
turn_steady t (Stop end) left fits few = (tt, few)
turn_steady t Stray left fits few =
    on_test (λ v. SteadyAsked left (if v then listens (record t { spent = t.spent + 1 }) Settle else listens t (Ended GaveUp))) (nat_lt t.spent t.patience)
    (λ _. (tt, few)) (λ _. (tt, few))
turn_steady t Timeout left fits few =
    on_test (λ v. SteadyAsked left (if v then sends (record t { spent = t.spent + 1 }) 90 (Sync 0) else listens t (Ended GaveUp))) (nat_lt t.spent t.patience)
    (λ _. (refl, (fits, resync_ends))) (λ _. (tt, few))

-- ---- a dialogue

-- where something is heard no key is under way
heard_alone : (phase : Phase) (down up left : List ℕ) (c : ℕ) → Steady phase down up → up ≡ c ∷ left → (down ≡ []) × (Fits phase (c ∷ left) × (length left ≤ 32))
heard_alone phase [] up left c steady is =
    (refl, (subst (Fits phase) is steady.0, let few : length (c ∷ left) ≤ 32 = subst (λ xs. length xs ≤ 32) is steady.1 in omega (arith, few)))
heard_alone phase (key ∷ down) up left c steady is = absurd (clash (sym steady.1.0 ∙ is))
  where
    clash : [] ≡ c ∷ left → ⊥
    clash e = absurd (cc e)

step_steady : (t : Trial) (what : Heard) (x y : Wire) → Gives x what y → SteadyOn t.phase x → SteadyOn (ask t what).next.phase (sent y (option_to_list (ask t what).key))
step_steady t (Got c) x y (rest, is, now) steady =
    let alone = heard_alone t.phase x.down x.up rest c steady is in
    subst (λ (z : Wire). SteadyOn (ask t (Got c)).next.phase (sent z (option_to_list (ask t (Got c)).key))) (sym now)
    (subst (λ down. Steady (ask t (Got c)).next.phase (down ++ option_to_list (ask t (Got c)).key) rest) (sym alone.0)
    (turn_steady (noted t (Got c)) (turn_of t (Got c)) rest (hears_fits t.address t.digits t.phase c rest alone.1.0) alone.1.1))
step_steady t Quiet x y (none, silent, now) steady =
    subst (λ (z : Wire). SteadyOn (ask t Quiet).next.phase (sent z (option_to_list (ask t Quiet).key))) (sym now)
    (subst (λ down. Steady (ask t Quiet).next.phase (down ++ option_to_list (ask t Quiet).key) x.up) (sym none)
    (turn_steady (noted t Quiet) (turn_of t Quiet) x.up (waits_fits t.phase x.up silent) (omega (arith, ap length silent))))

dialogue_steady : (things : List Heard) (t : Trial) (x y : Wire) → SteadyOn t.phase x → Passes x (trial_dialogue t things) y → SteadyOn (led t things).phase y
dialogue_steady [] t x y steady moves = times_steady t.phase moves.0 x y moves.1 steady
dialogue_steady (what ∷ things) t x y steady (z, v, before, gives, passes) =
    dialogue_steady things (ask t what).next (sent v (option_to_list (ask t what).key)) y
    (step_steady t what z v gives (times_steady t.phase before.0 x z before.1 steady))
    (passing_said Moves (ask t what).key (trial_dialogue (ask t what).next things) v y passes)

-- ---- the law

steady_tidy : (phase : Phase) (down up : List ℕ) → Steady phase down up → OneWay down up × (length up ≤ 32)
steady_tidy phase [] up steady = (tt, steady.1)
steady_tidy phase (key ∷ down) up steady = ((steady.0, steady.1.0), omega (arith, ap length steady.1.0))

trial_tidy : (address old patience : ℕ) (things : List Heard) (machine : Machine) → EndsTidily machine (trial_dialogue (begun_trial address old patience) things)
trial_tidy address old patience things machine waiting end few passes =
    let t : Trial = begun_trial address old patience in
    let tidy = steady_tidy (led t things).phase end.down end.up (dialogue_steady things t (resting machine waiting 0) end (tt, few) passes) in
    record { one_way = tidy.0; few = tidy.1 }

pub trials_tidy : TrialsEndTidily
trials_tidy address old patience things told machine front = told_tidy (trial_dialogue (begun_trial address old patience) things) told machine front (trial_tidy address old patience things machine)
