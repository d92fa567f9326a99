-- A number counts as read only behind the keys that opened its word, or deposited there: what a life has typed so far, phase by phase.
use Rattle.std.specs.Prelude.{All, option_to_list}
use Rattle.std.proofs.Common.{◌≡◌, ℕ, zero, suc, ◌+◌, ◌<◌, ◌≤◌, Bool, ◌==◌, nat_lt, if◌then◌else◌, List, [], ◌∷◌, ◌++◌, length, take, Option, Some, None, refl, arith, subst, sym, ◌∙◌, ap, append_assoc, append-nil}
use Rattle.std.proofs.lemmas.List.Elements.{All-nil, All-cons, All-append}
use Rattle.octal.specs.Octal.{digit_of, octal_text}
use Rattle.host_core.specs.Answers.{resynchronise_reply, return_reply, digit_echo, reading_start, reading_rest}
use Rattle.host_core.specs.Console.{resynchronise, carriage_return}
use Rattle.host_core.specs.Host.{IsPlace}
use Rattle.host_core.specs.declared.heard.Heard.{Heard}
use Rattle.host_core.specs.declared.heard.Heard.TheVariants.{Got, Quiet}
use Rattle.memory_core.specs.declared.phase.Visit.{Visit}
use Rattle.memory_core.specs.declared.phase.Visit.TheVariants.{Look, Check}
use Rattle.host_core.proofs.Frame.{on_test}
use Rattle.host_core.proofs.Replies.{either, resynchronise_walk, return_walk, echo_walk, start_walk, rest_walk}
use Rattle.memory_core.specs.declared.phase.Phase.{Phase}
use Rattle.memory_core.specs.declared.phase.Phase.TheVariants.{Settle, Sync, Address, Slash, Before, Value, Deposit, Return, Close, Ended}
use Rattle.memory_core.specs.declared.phase.End.TheVariants.{Complete, GaveUp}
use Rattle.memory_core.specs.declared.stage.Stage.{Stage}
use Rattle.memory_core.specs.declared.stage.Stage.TheVariants.{Unseen, Once, Turned, Returned}
use Rattle.memory_core.specs.declared.turn.Turn.{Turn}
use Rattle.memory_core.specs.declared.turn.Turn.TheVariants.{Listen, Key, LooksAgain, Deposits, Counts, ReadBack, Next, Stop, Stray, Timeout}
use Rattle.memory_core.specs.Invariant.{IsTester, Basis, basis_of, PhaseFits, VisitFits}
use Rattle.memory_core.specs.Laws.{led, replay, opens, deposits, EndsWith, TypesOnlyTesting}
use Rattle.memory_core.specs.MemoryTable.{TesterStep, IsTesting, KeyTests, ask, taken, turn_of, hears, waits, synced, addressed, read, reads, deposited, returned, closed, sends, listens}
use Rattle.memory_core.specs.Stage.{complement, number_of}
use Rattle.memory_core.specs.Tester.{Tester, address_under_way, begun, first_phase}
use Rattle.memory_core.proofs.Lives.{led_kept}
use Rattle.memory_core.proofs.Turns.{kept, tests}

-- ---- the keys are of four kinds

key_tests : (key : Option ℕ) → KeyTests key → All IsTesting (option_to_list key)
key_tests None h = All-nil IsTesting
key_tests (Some c) h = All-cons IsTesting c [] h (All-nil IsTesting)

pub types_only_testing : (t : Tester) → IsTester t → TypesOnlyTesting t
types_only_testing t h [] = All-nil IsTesting
types_only_testing t h (heard ∷ more) =
    All-append IsTesting (option_to_list (ask t heard).key) (replay (ask t heard).next more) (key_tests (ask t heard).key (tests t heard h)) (types_only_testing (ask t heard).next (kept t heard h) more)

-- ---- the last keys, by phase

-- where a visit of the word begins, after these keys of it
abbrev visit_keys : ℕ → Stage → Visit → List ℕ → List ℕ
visit_keys address stage Look keys = keys
visit_keys address stage Check keys = opens address ++ octal_text (number_of stage) ++ carriage_return ∷ keys

abbrev last_keys : ℕ → Stage → Phase → List ℕ
last_keys address stage (Address visit place) = visit_keys address stage visit (take place (octal_text address))
last_keys address stage (Slash visit) = visit_keys address stage visit (opens address)
last_keys address stage (Before visit) = visit_keys address stage visit (opens address)
last_keys address stage (Value visit value place) = visit_keys address stage visit (opens address)
last_keys address stage (Deposit place) = opens address ++ take place (octal_text (number_of stage))
last_keys address stage (Return place) = opens address ++ octal_text (number_of stage) ++ carriage_return ∷ []
last_keys address stage phase = []

abbrev Fits : ℕ → Stage → Phase → List ℕ → Type 0
Fits address stage phase typed = EndsWith (last_keys address stage phase) typed

-- a number counts as read behind these keys
abbrev pub StageIsTyped : ℕ → Stage → Stage → List ℕ → Type 0
StageIsTyped address Unseen (Once first) typed = EndsWith (opens address) typed
StageIsTyped address (Once first) (Turned old) typed = EndsWith (opens address) typed
StageIsTyped address (Turned old) (Returned old' turned) typed = EndsWith (deposits address (complement old)) typed
StageIsTyped address before after typed = Unit {0}

abbrev pub WordIsTyped : ℕ → Stage → List ℕ → Type 0
WordIsTyped address (Returned old turned) typed = EndsWith (deposits address old) typed
WordIsTyped address (Once first) typed = EndsWith (opens address) typed
WordIsTyped address stage typed = Unit {0}

-- what a turn takes for read stands behind its keys
abbrev pub TurnIsTyped : ℕ → Stage → Turn → List ℕ → Type 0
TurnIsTyped address stage (LooksAgain first) typed = StageIsTyped address stage (Once first) typed
TurnIsTyped address stage (Deposits next) typed = StageIsTyped address stage next typed
TurnIsTyped address stage (Counts word) typed = WordIsTyped address stage typed
TurnIsTyped address stage turn typed = Unit {0}

-- how a turn goes on from what was typed
abbrev Types : ℕ → Stage → Phase → Turn → Type 0
Types address stage phase (Listen next) = (typed : List ℕ) → Fits address stage phase typed → Fits address stage next typed
Types address stage phase (Key key next) = (typed : List ℕ) → Fits address stage phase typed → Fits address stage next (typed ++ key ∷ [])
Types address stage phase (LooksAgain first) = (typed : List ℕ) → Fits address stage phase typed → StageIsTyped address stage (Once first) typed
Types address stage phase (Deposits next) = (typed : List ℕ) → Fits address stage phase typed → StageIsTyped address stage next typed × Fits address next (Deposit 1) (typed ++ digit_of (number_of next) 1 ∷ [])
Types address stage phase (Counts word) = (typed : List ℕ) → Fits address stage phase typed → WordIsTyped address stage typed
Types address stage phase ReadBack = (typed : List ℕ) → Fits address stage phase typed → Fits address stage (Address Check 1) (typed ++ digit_of address 1 ∷ [])
Types address stage phase turn = Unit {0}

-- ---- ends of lists

anything : (typed : List ℕ) → EndsWith [] typed
anything typed = (typed, sym (append-nil typed))

and_key : (keys more typed : List ℕ) (key : ℕ) → keys ++ key ∷ [] ≡ more → EndsWith keys typed → EndsWith more (typed ++ key ∷ [])
and_key keys more typed key is ends = (ends.0, ap (λ all. all ++ key ∷ []) ends.1 ∙ (append_assoc ends.0 keys (key ∷ []) ∙ ap (λ all. ends.0 ++ all) is))

end_alone : (front keys typed : List ℕ) → EndsWith (front ++ keys) typed → EndsWith keys typed
end_alone front keys typed ends = (ends.0 ++ front, ends.1 ∙ sym (append_assoc ends.0 front keys))

one_more : (number place : ℕ) → 1 ≤ place → place < 6 → take place (octal_text number) ++ digit_of number (place + 1) ∷ [] ≡ take (place + 1) (octal_text number)
one_more number zero low high = absurd (omega arith)
one_more number (suc zero) low high = refl
one_more number (suc (suc zero)) low high = refl
one_more number (suc (suc (suc zero))) low high = refl
one_more number (suc (suc (suc (suc zero)))) low high = refl
one_more number (suc (suc (suc (suc (suc zero))))) low high = refl
one_more number (suc (suc (suc (suc (suc (suc n)))))) low high = absurd (omega arith)

front_and : (front keys more : List ℕ) (key : ℕ) → keys ++ key ∷ [] ≡ more → (front ++ keys) ++ key ∷ [] ≡ front ++ more
front_and front keys more key is = append_assoc front keys (key ∷ []) ∙ ap (λ all. front ++ all) is

visit_and : (address : ℕ) (stage : Stage) (visit : Visit) (keys more : List ℕ) (key : ℕ) → keys ++ key ∷ [] ≡ more → visit_keys address stage visit keys ++ key ∷ [] ≡ visit_keys address stage visit more
visit_and address stage Look keys more key is = is
visit_and address stage Check keys more key is = front_and (opens address ++ octal_text (number_of stage) ++ carriage_return ∷ []) keys more key is

visit_opened : (address : ℕ) (stage : Stage) (visit : Visit) (typed : List ℕ) → EndsWith (visit_keys address stage visit (opens address)) typed → EndsWith (opens address) typed
visit_opened address stage Look typed ends = ends
visit_opened address stage Check typed ends = end_alone (opens address ++ octal_text (number_of stage) ++ carriage_return ∷ []) (opens address) typed ends

-- ---- the rows

sync_types : (address : ℕ) (stage : Stage) (phase : Phase) (place c : ℕ) → Types address stage phase (synced (resynchronise_reply place c))
sync_types address stage phase place c = resynchronise_walk (λ r. Types address stage phase (synced r)) place c tt (λ _ _. λ typed _. anything typed) (λ _. tt)

six_of : (place : ℕ) → 6 ≤ place → place ≤ 6 → place ≡ 6
six_of place low high = omega arith

address_types : (address : ℕ) (stage : Stage) (visit : Visit) (place c : ℕ) → IsPlace place → Types address stage (Address visit place) (addressed visit place (digit_echo address place c))
address_types address stage visit place c is =
    echo_walk (λ e. Types address stage (Address visit place) (addressed visit place e)) address place c tt
    (λ _ less. λ typed ends.
    and_key (visit_keys address stage visit (take place (octal_text address))) (visit_keys address stage visit (take (place + 1) (octal_text address))) typed (digit_of address (place + 1))
    (visit_and address stage visit (take place (octal_text address)) (take (place + 1) (octal_text address)) (digit_of address (place + 1)) (one_more address place is.from less)) ends)
    (λ _ all. λ typed ends.
    and_key (visit_keys address stage visit (octal_text address)) (visit_keys address stage visit (opens address)) typed 47
    (visit_and address stage visit (octal_text address) (opens address) 47 refl)
    (subst (λ k. EndsWith (visit_keys address stage visit (take k (octal_text address))) typed) (six_of place all is.to) ends))

read_types : (address : ℕ) (stage : Stage) (visit : Visit) (phase : Phase) (value : ℕ) → last_keys address stage phase ≡ visit_keys address stage visit (opens address) → VisitFits visit stage → Types address stage phase (read stage visit value)
read_types address Unseen Look phase value is fits = λ typed ends. subst (λ keys. EndsWith keys typed) is ends
read_types address Unseen Check phase value is fits = absurd fits
read_types address (Once first) Look phase value is fits =
    either (Types address (Once first) phase) (value == first) _ _
    (λ _. λ typed ends.
    let here : EndsWith (opens address) typed = subst (λ keys. EndsWith keys typed) is ends in
    (here, and_key (opens address) (opens address ++ take 1 (octal_text (number_of (Turned value)))) typed (digit_of (number_of (Turned value)) 1) refl here))
    (λ _. λ typed ends. subst (λ keys. EndsWith keys typed) is ends)
read_types address (Once first) Check phase value is fits = absurd fits
read_types address (Turned old) Look phase value is fits = λ typed ends.
    let here : EndsWith (opens address) typed = subst (λ keys. EndsWith keys typed) is ends in
    (tt, and_key (opens address) (opens address ++ take 1 (octal_text (number_of (Turned old)))) typed (digit_of (number_of (Turned old)) 1) refl here)
read_types address (Turned old) Check phase value is fits = λ typed ends.
    let here : EndsWith (visit_keys address (Turned old) Check (opens address)) typed = subst (λ keys. EndsWith keys typed) is ends in
    (here, and_key (opens address) (opens address ++ take 1 (octal_text (number_of (Returned old value)))) typed (digit_of (number_of (Returned old value)) 1) refl (visit_opened address (Turned old) Check typed here))
read_types address (Returned old turned) Look phase value is fits = λ typed ends.
    let here : EndsWith (opens address) typed = subst (λ keys. EndsWith keys typed) is ends in
    (tt, and_key (opens address) (opens address ++ take 1 (octal_text (number_of (Returned old turned)))) typed (digit_of (number_of (Returned old turned)) 1) refl here)
read_types address (Returned old turned) Check phase value is fits = λ typed ends. subst (λ keys. EndsWith keys typed) is ends

before_types : (address : ℕ) (stage : Stage) (visit : Visit) (c : ℕ) → Types address stage (Before visit) (reads address stage visit (reading_start c))
before_types address stage visit c = start_walk (λ r. Types address stage (Before visit) (reads address stage visit r)) c tt (λ typed ends. ends) tt (λ _ _. λ typed ends. ends)

value_types : (address : ℕ) (stage : Stage) (visit : Visit) (value place c : ℕ) → VisitFits visit stage → Types address stage (Value visit value place) (reads address stage visit (reading_rest value place c))
value_types address stage visit value place c fits =
    rest_walk (λ r. Types address stage (Value visit value place) (reads address stage visit r)) value place c tt (λ _ _ _. λ typed ends. ends) (λ _ _ _. λ typed ends. ends)
    (λ _ _. read_types address stage visit (Value visit value place) value refl fits)

deposit_types : (address : ℕ) (stage : Stage) (place c : ℕ) → IsPlace place → Types address stage (Deposit place) (deposited place (digit_echo (number_of stage) place c))
deposit_types address stage place c is =
    let number : ℕ = number_of stage in
    echo_walk (λ e. Types address stage (Deposit place) (deposited place e)) number place c tt
    (λ _ less. λ typed ends.
    and_key (opens address ++ take place (octal_text number)) (opens address ++ take (place + 1) (octal_text number)) typed (digit_of number (place + 1))
    (front_and (opens address) (take place (octal_text number)) (take (place + 1) (octal_text number)) (digit_of number (place + 1)) (one_more number place is.from less)) ends)
    (λ _ all. λ typed ends.
    and_key (opens address ++ octal_text number) (opens address ++ octal_text number ++ carriage_return ∷ []) typed carriage_return refl
    (subst (λ k. EndsWith (opens address ++ take k (octal_text number)) typed) (six_of place all is.to) ends))

return_types : (address : ℕ) (stage : Stage) (place c : ℕ) → Types address stage (Return place) (returned (return_reply place c))
return_types address stage place c =
    return_walk (λ r. Types address stage (Return place) (returned r)) place c tt (λ _ _. λ typed ends. ends)
    (λ _. λ typed ends.
    and_key (opens address ++ octal_text (number_of stage) ++ carriage_return ∷ []) (opens address ++ octal_text (number_of stage) ++ carriage_return ∷ take 1 (octal_text address)) typed (digit_of address 1) refl ends)

close_types : (address : ℕ) (stage : Stage) (place c : ℕ) → Types address stage (Close place) (closed (return_reply place c))
close_types address stage place c = return_walk (λ r. Types address stage (Close place) (closed r)) place c tt (λ _ _. λ typed ends. ends) (λ _. tt)

hears_types : (b : Basis) (address : ℕ) (phase : Phase) (c : ℕ) → PhaseFits phase b → Types address b.stage phase (hears address b.stage phase c)
hears_types b address Settle c f = λ typed ends. ends
hears_types b address (Sync place) c f = sync_types address b.stage (Sync place) place c
hears_types b address (Address visit place) c f = address_types address b.stage visit place c f.1
hears_types b address (Slash visit) c f = either (Types address b.stage (Slash visit)) (c == 47) _ _ (λ _. λ typed ends. ends) (λ _. tt)
hears_types b address (Before visit) c f = before_types address b.stage visit c
hears_types b address (Value visit value place) c f = value_types address b.stage visit value place c f.3
hears_types b address (Deposit place) c f = deposit_types address b.stage place c f.1
hears_types b address (Return place) c f = return_types address b.stage place c
hears_types b address (Close place) c f = close_types address b.stage place c
hears_types b address (Ended end) c f = λ typed ends. ends

waits_types : (address : ℕ) (stage : Stage) (phase : Phase) → Types address stage phase (waits phase)
waits_types address stage Settle = λ typed ends. anything (typed ++ resynchronise ∷ [])
waits_types address stage (Sync place) = tt
waits_types address stage (Address visit place) = tt
waits_types address stage (Slash visit) = tt
waits_types address stage (Before visit) = tt
waits_types address stage (Value visit value place) = tt
waits_types address stage (Deposit place) = tt
waits_types address stage (Return place) = tt
waits_types address stage (Close place) = tt
waits_types address stage (Ended end) = λ typed ends. ends

turn_types : (t : Tester) (heard : Heard) → IsTester t → Types (address_under_way t) t.stage t.phase (turn_of t heard)
turn_types t (Got c) h = hears_types (basis_of t) (address_under_way t) t.phase c h.fits
turn_types t Quiet h = waits_types (address_under_way t) t.stage t.phase

-- ---- what a step makes of it

-- the last keys are those of the tester's phase
abbrev FitsIn : Tester → List ℕ → Type 0
FitsIn t typed = Fits (address_under_way t) t.stage t.phase typed

-- and so they are after a step
abbrev GoesWith : List ℕ → TesterStep → Type 0
GoesWith typed a = FitsIn a.next (typed ++ option_to_list a.key)

either_step : (typed : List ℕ) (test : Bool) (a b : TesterStep) → GoesWith typed a → GoesWith typed b → GoesWith typed (if test then a else b)
either_step typed test a b one other = on_test (λ v. GoesWith typed (if v then a else b)) test (λ _. one) (λ _. other)

taken_typed : (t : Tester) (turn : Turn) (typed : List ℕ) → Types (address_under_way t) t.stage t.phase turn → FitsIn t typed → GoesWith typed (taken t turn)
taken_typed t (Listen phase) typed h fits = subst (Fits (address_under_way t) t.stage phase) (sym (append-nil typed)) (h typed fits)
taken_typed t (Key key phase) typed h fits = h typed fits
taken_typed t (LooksAgain first) typed h fits = anything (typed ++ carriage_return ∷ [])
taken_typed t (Deposits next) typed h fits = (h typed fits).1
taken_typed t (Counts word) typed h fits = anything (typed ++ carriage_return ∷ [])
taken_typed t ReadBack typed h fits = h typed fits
taken_typed t Next typed h fits =
    either_step typed (nat_lt (length t.seen) (length t.addresses)) (sends t (digit_of (address_under_way t) 1) (Address Look 1)) (listens t (Ended Complete)) (typed, refl) (anything (typed ++ []))
taken_typed t (Stop end) typed h fits = anything (typed ++ [])
taken_typed t Stray typed h fits =
    either_step typed (nat_lt t.spent t.patience) (listens (record t { spent = t.spent + 1 }) Settle) (listens t (Ended GaveUp)) (anything (typed ++ [])) (anything (typed ++ []))
taken_typed t Timeout typed h fits =
    either_step typed (nat_lt t.spent t.patience) (sends (record t { spent = t.spent + 1 }) resynchronise (Sync 0)) (listens t (Ended GaveUp)) (anything (typed ++ resynchronise ∷ [])) (anything (typed ++ []))

led_typed : (t : Tester) (heard : List Heard) (typed : List ℕ) → IsTester t → FitsIn t typed → FitsIn (led t heard) (typed ++ replay t heard)
led_typed t [] typed h fits = subst (FitsIn t) (sym (append-nil typed)) fits
led_typed t (what ∷ more) typed h fits =
    subst (FitsIn (led t (what ∷ more))) (append_assoc typed (option_to_list (ask t what).key) (replay (ask t what).next more))
    (led_typed (ask t what).next more (typed ++ option_to_list (ask t what).key) (kept t what h) (taken_typed t (turn_of t what) typed (turn_types t what h) fits))

typed_turn : (address : ℕ) (stage : Stage) (phase : Phase) (turn : Turn) (typed : List ℕ) → Types address stage phase turn → Fits address stage phase typed → TurnIsTyped address stage turn typed
typed_turn address stage phase (Listen next) typed h fits = tt
typed_turn address stage phase (Key key next) typed h fits = tt
typed_turn address stage phase (LooksAgain first) typed h fits = h typed fits
typed_turn address stage phase (Deposits next) typed h fits = (h typed fits).0
typed_turn address stage phase (Counts word) typed h fits = h typed fits
typed_turn address stage phase ReadBack typed h fits = tt
typed_turn address stage phase Next typed h fits = tt
typed_turn address stage phase (Stop end) typed h fits = tt
typed_turn address stage phase Stray typed h fits = tt
typed_turn address stage phase Timeout typed h fits = tt

first_typed : (address n : ℕ) → Fits address Unseen (first_phase n) []
first_typed address n = on_test (λ v. Fits address Unseen (if v then Ended Complete else Settle) []) (n == 0) (λ _. anything []) (λ _. anything [])

pub turn_typed : (addresses : List ℕ) (patience : ℕ) → IsTester (begun addresses patience) → (heard : List Heard) (last : Heard) →
    TurnIsTyped (address_under_way (led (begun addresses patience) heard)) (led (begun addresses patience) heard).stage (turn_of (led (begun addresses patience) heard) last) (replay (begun addresses patience) heard)
turn_typed addresses patience h heard last =
    let t : Tester = begun addresses patience in
    let now : Tester = led t heard in
    typed_turn (address_under_way now) now.stage now.phase (turn_of now last) (replay t heard) (turn_types now last (led_kept t heard h))
    (led_typed t heard [] h (first_typed (address_under_way t) (length addresses)))
