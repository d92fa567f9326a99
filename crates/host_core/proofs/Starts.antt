-- `G` is typed only right after the whole start address: what a life has typed so far, phase by phase.
use Rattle.std.specs.Prelude.{option_to_list}
use Rattle.std.proofs.Common.{◌≡◌, ℕ, zero, suc, ◌+◌, ◌<◌, ◌≤◌, ◌⊎◌, Bool, true, false, ◌==◌, ◌&&◌, nat_lt, if◌then◌else◌, List, [], ◌∷◌, ◌++◌, length, take, Option, Some, None, refl, arith, subst, sym, ◌∙◌, ap, inl, inr, append_assoc, append-nil}
use Rattle.std.specs.List.{Contains}
use Rattle.std.specs.Option.{is_none, unwrap_or}
use Rattle.std.proofs.lemmas.List.Elements.{Contains-append_cases}
use Rattle.octal.specs.Octal.{digit_of, octal_text}
use Rattle.tape_image.specs.Plan.{PlanValue}
use Rattle.tape_image.specs.Word.{WordValue, merged}
use Rattle.host_core.specs.declared.phase.Phase.{Phase}
use Rattle.host_core.specs.declared.phase.Phase.TheVariants.{Settle, Sync, Address, Slash, Before, Value, Deposit, Return, Start, Go, Ended}
use Rattle.host_core.specs.declared.phase.Try.{Try}
use Rattle.host_core.specs.declared.phase.Try.TheVariants.{Only, First, Second}
use Rattle.host_core.specs.declared.phase.Visit.{Visit}
use Rattle.host_core.specs.declared.phase.Visit.TheVariants.{Look}
use Rattle.host_core.specs.declared.phase.Reason.{Reason}
use Rattle.host_core.specs.declared.phase.Reason.TheVariants.{Store, Reopen, Missing, Close}
use Rattle.host_core.specs.declared.phase.End.TheVariants.{Loaded, GaveUp}
use Rattle.host_core.specs.declared.heard.Heard.{Heard}
use Rattle.host_core.specs.declared.heard.Heard.TheVariants.{Got, Quiet}
use Rattle.host_core.specs.declared.turn.Turn.{Turn}
use Rattle.host_core.specs.declared.turn.Turn.TheVariants.{Listen, Key, Verified, Revisit, Next, Mark, Stop, Stray, Timeout}
use Rattle.host_core.specs.Console.{resynchronise_of, carriage_return, go}
use Rattle.host_core.specs.Core.{Core, begun_by, first_phase, word_under_way, start_of}
use Rattle.host_core.specs.Host.{IsHost, IsPlace, Basis, PhaseFits, basis_of}
use Rattle.host_core.specs.Bound.{used_in}
use Rattle.host_core.specs.Laws.{led, replay, EndsWithStart, StartsOnlyWhole}
use Rattle.host_core.specs.PhaseTable.{Move, move, listens, sends, taken, turn_of, hears, waits, mends, read, returned, start_hears, after_words}
use Rattle.host_core.proofs.Frame.{on_test, on_move, IsMoved, moved, StaysStill, silent}
use Rattle.host_core.proofs.Walk.{sync_walk, address_walk, slash_walk, before_walk, value_walk, read_walk, deposit_walk, return_walk, start_walk, go_walk}
use Rattle.host_core.proofs.Turns.{TurnFits, turn_fits, kept}
use Rattle.host_core.proofs.Lives.{led_plan}

-- in the phase Start the last keys are the digits of the start address so far
abbrev TypedFits : Phase → ℕ → List ℕ → Type 0
TypedFits (Start place) start typed = (before : List ℕ) × (typed ≡ before ++ take place (octal_text start))
TypedFits _ start typed = Unit {0}

-- what is typed in a turn goes on so, and the mark comes after all six digits
abbrev Types : Phase → ℕ → Turn → Type 0
Types phase start (Listen next) = (typed : List ℕ) → TypedFits phase start typed → TypedFits next start typed
Types phase start (Key key next) = (go ≡ key → ⊥) × ((typed : List ℕ) → TypedFits phase start typed → TypedFits next start (typed ++ key ∷ []))
Types phase start Mark = (typed : List ℕ) → TypedFits phase start typed → (before : List ℕ) × (typed ≡ before ++ octal_text start)
Types phase start _ = Unit {0}

no_digit : (w k : ℕ) → go ≡ digit_of w k → ⊥
no_digit w k e = omega arith

no_resynchronise : (careful : Bool) → go ≡ resynchronise_of careful → ⊥
no_resynchronise true e = omega arith
no_resynchronise false e = omega arith

mends_types : (p : Phase) (start : ℕ) (deposit : Try) (value : ℕ) → Types p start (mends deposit value)
mends_types p start deposit value = (no_digit value 1, λ _ _. tt)

read_types : (p : Phase) (start : ℕ) (careful : Bool) (word : WordValue) (visit : Visit) (value : ℕ) → Types p start (read careful word visit value)
read_types p start careful word visit value =
    read_walk (Types p start) careful word visit value tt (λ _. tt) (λ _ _. ((λ e. omega arith), λ _ _. tt)) (λ _ _. mends_types p start Only (merged word value))
    (λ _ _. mends_types p start First (merged word value)) (λ _ _. mends_types p start First (merged word value)) (λ stored _. mends_types p start (Second value) stored) tt

returned_types : (p : Phase) (start : ℕ) (reason : Reason) → Types p start (returned reason)
returned_types p start (Store deposit value) = tt
returned_types p start (Reopen first) = tt
returned_types p start (Missing address) = tt
returned_types p start Close = tt

-- one digit more of the start address
one_more : (start place : ℕ) → 1 ≤ place → place < 6 → take (place + 1) (octal_text start) ≡ take place (octal_text start) ++ digit_of start (place + 1) ∷ []
one_more start zero low high = absurd (omega arith)
one_more start (suc zero) low high = refl
one_more start (suc (suc zero)) low high = refl
one_more start (suc (suc (suc zero))) low high = refl
one_more start (suc (suc (suc (suc zero)))) low high = refl
one_more start (suc (suc (suc (suc (suc zero))))) low high = refl
one_more start (suc (suc (suc (suc (suc (suc n)))))) low high = absurd (omega arith)

typed_more : (start place : ℕ) → 1 ≤ place → place < 6 → (typed : List ℕ) → TypedFits (Start place) start typed → TypedFits (Start (place + 1)) start (typed ++ digit_of start (place + 1) ∷ [])
typed_more start place low high typed t =
    (t.0, ap (λ all. all ++ digit_of start (place + 1) ∷ []) t.1 ∙ (append_assoc t.0 (take place (octal_text start)) (digit_of start (place + 1) ∷ []) ∙ ap (λ digits. t.0 ++ digits) (sym (one_more start place low high))))

start_types : (start place c : ℕ) → IsPlace place → Types (Start place) start (start_hears start place c)
start_types start place c p =
    start_walk (Types (Start place) start) start place c tt (λ less. (no_digit start (place + 1), typed_more start place p.from less))
    (λ all typed t. (t.0, let six : place ≡ 6 = omega (arith, p.to) in t.1 ∙ ap (λ k. t.0 ++ take k (octal_text start)) six))

hears_types : (careful : Bool) (word : WordValue) (start : ℕ) (phase : Phase) (c : ℕ) (b : Basis) → PhaseFits phase b → Types phase start (hears careful word start phase c)
hears_types careful word start Settle c b f = λ _ _. tt
hears_types careful word start (Sync place) c b f = sync_walk (Types (Sync place) start) careful place c tt (λ _ _ _ _. tt) tt
hears_types careful word start (Address visit place) c b f =
    address_walk (Types (Address visit place) start) word.address visit place c tt (λ _. (no_digit word.address (place + 1), λ _ _. tt)) ((λ e. omega arith), λ _ _. tt)
hears_types careful word start (Slash visit) c b f = slash_walk (Types (Slash visit) start) visit c tt (λ _ _. tt)
hears_types careful word start (Before visit) c b f = before_walk (Types (Before visit) start) careful word visit c tt (λ _ _. tt) (λ _ _ _. tt) (λ _. tt) (λ _ _ _ _. tt)
hears_types careful word start (Value visit value place) c b f =
    value_walk (Types (Value visit value place) start) careful word visit value place c tt (λ _ _ _ _ _. tt) (λ _ _ _ _ _. tt) (λ _ _. read_types (Value visit value place) start careful word visit value)
hears_types careful word start (Deposit deposit value place) c b f =
    deposit_walk (Types (Deposit deposit value place) start) deposit value place c tt (λ _. (no_digit value (place + 1), λ _ _. tt)) ((λ e. omega arith), λ _ _. tt)
hears_types careful word start (Return reason place) c b f =
    return_walk (Types (Return reason place) start) reason place c tt (λ _ _ _ _. tt) (returned_types (Return reason place) start reason)
hears_types careful word start (Start place) c b f = start_types start place c f.1
hears_types careful word start Go c b f = go_walk (Types Go start) c tt tt
hears_types careful word start (Ended end) c b f = λ _ _. tt

waits_types : (careful : Bool) (start : ℕ) (phase : Phase) → Types phase start (waits careful phase)
waits_types careful start Settle = (no_resynchronise careful, λ _ _. tt)
waits_types careful start (Sync place) = tt
waits_types careful start (Address visit place) = tt
waits_types careful start (Slash visit) = tt
waits_types careful start (Before visit) = tt
waits_types careful start (Value visit value place) = tt
waits_types careful start (Deposit deposit value place) = tt
waits_types careful start (Return reason place) = tt
waits_types careful start (Start place) = tt
waits_types careful start Go = tt
waits_types careful start (Ended end) = λ _ _. tt

-- what a life has typed: no `G` yet, or the whole start address and `G` with every word verified
abbrev IsTyped : Core → List ℕ → Type 0
IsTyped core typed =
    ((Contains typed go → ⊥) × TypedFits core.phase (start_of core) typed) ⊎
    (EndsWithStart (start_of core) typed × (core.verified ≡ length core.plan.words) × (core.going ≡ true))

the_only : (key : ℕ) → Contains (key ∷ []) go → go ≡ key
the_only key (zero, low, is) = sym is
the_only key (suc k, low, is) = absurd (omega (arith, low))

no_more : (typed : List ℕ) (key : ℕ) → (Contains typed go → ⊥) → (go ≡ key → ⊥) → Contains (typed ++ key ∷ []) go → ⊥
no_more typed key none other c = elim (Contains-append_cases typed (key ∷ []) go c) [ inl before ↦ none before | inr last ↦ other (the_only key last) ]

not_typed : (core : Core) (typed : List ℕ) → IsTyped core typed → IsTyped core (typed ++ [])
not_typed core typed t = subst (λ all. IsTyped core all) (sym (append-nil typed)) t

after_words_typed : (core : Core) (start : Option ℕ) (typed : List ℕ) → core.plan.start ≡ start → (Contains typed go → ⊥) → IsTyped (after_words core start).next (typed ++ option_to_list (after_words core start).key)
after_words_typed core (Some start) typed e none =
    inl (no_more typed (digit_of start 1) none (no_digit start 1), (typed, ap (λ s. typed ++ digit_of (unwrap_or s 0) 1 ∷ []) (sym e)))
after_words_typed core None typed e none = not_typed (listens core (Ended Loaded)).next typed (inl (none, tt))

taken_typed : (core : Core) (turn : Turn) (typed : List ℕ) → TurnFits turn (basis_of core) (used_in core.careful core.phase) → Types core.phase (start_of core) turn → (Contains typed go → ⊥) → TypedFits core.phase (start_of core) typed →
    IsTyped (taken core turn).next (typed ++ option_to_list (taken core turn).key)
taken_typed core (Listen phase) typed f t none past = not_typed (listens core phase).next typed (inl (none, t typed past))
taken_typed core (Key key phase) typed f t none past = inl (no_more typed key none t.0, t.1 typed past)
taken_typed core Verified typed f t none past = inl (no_more typed carriage_return none (λ e. omega arith), tt)
taken_typed core (Revisit visit) typed f t none past = inl (no_more typed (digit_of (word_under_way core).address 1) none (no_digit (word_under_way core).address 1), tt)
taken_typed core Next typed f t none past =
    on_move (λ m. IsTyped m.next (typed ++ option_to_list m.key)) (nat_lt core.verified (length core.plan.words)) (sends core (digit_of (word_under_way core).address 1) (Address Look 1)) (after_words core core.plan.start)
    (λ _. inl (no_more typed (digit_of (word_under_way core).address 1) none (no_digit (word_under_way core).address 1), tt))
    (λ _. after_words_typed core core.plan.start typed refl none)
taken_typed core Mark typed f t none past =
    let whole = t typed past in
    inr ((whole.0, ap (λ all. all ++ go ∷ []) whole.1), f.0.all, refl)
taken_typed core (Stop end) typed f t none past = not_typed (listens core (Ended end)).next typed (inl (none, tt))
taken_typed core Stray typed f t none past =
    on_move (λ m. IsTyped m.next (typed ++ option_to_list m.key)) (nat_lt core.spent core.patience) (listens (record core { spent = core.spent + 1 }) Settle) (listens core (Ended GaveUp))
    (λ _. not_typed (listens (record core { spent = core.spent + 1 }) Settle).next typed (inl (none, tt)))
    (λ _. not_typed (listens core (Ended GaveUp)).next typed (inl (none, tt)))
taken_typed core Timeout typed f t none past =
    on_move (λ m. IsTyped m.next (typed ++ option_to_list m.key)) (nat_lt core.spent core.patience) (sends (record core { spent = core.spent + 1 }) (resynchronise_of core.careful) (Sync 0)) (listens core (Ended GaveUp))
    (λ _. inl (no_more typed (resynchronise_of core.careful) none (no_resynchronise core.careful), tt))
    (λ _. not_typed (listens core (Ended GaveUp)).next typed (inl (none, tt)))

stays_whole : (core : Core) (m : Move) (typed : List ℕ) → StaysStill core m → IsMoved core m → EndsWithStart (start_of core) typed → core.verified ≡ length core.plan.words → core.going ≡ true → IsTyped m.next (typed ++ option_to_list m.key)
stays_whole core m typed s mv ends all e =
    inr (
      (ends.0, ap (λ key. typed ++ option_to_list key) s.key ∙ (append-nil typed ∙ (ends.1 ∙ ap (λ start. ends.0 ++ octal_text start ++ go ∷ []) (sym mv.start)))),
      s.verified ∙ (all ∙ ap (λ plan. length plan.words) (sym mv.plan)),
      mv.going e,
    )

turn_types : (core : Core) (heard : Heard) → IsHost core → Types core.phase (start_of core) (turn_of core heard)
turn_types core (Got c) h = hears_types core.careful (word_under_way core) (start_of core) core.phase c (basis_of core) h.fits
turn_types core Quiet h = waits_types core.careful (start_of core) core.phase

move_typed : (core : Core) (heard : Heard) (typed : List ℕ) → IsHost core → IsTyped core typed → IsTyped (move core heard).next (typed ++ option_to_list (move core heard).key)
move_typed core heard typed h (inl t) = taken_typed core (turn_of core heard) typed (turn_fits core heard h) (turn_types core heard h) t.0 t.1
move_typed core heard typed h (inr t) = stays_whole core (move core heard) typed (silent core heard h t.2) (moved core heard) t.0 t.1 t.2

led_typed : (core : Core) (heard : List Heard) (typed : List ℕ) → IsHost core → IsTyped core typed → IsTyped (led core heard) (typed ++ replay core heard)
led_typed core [] typed h t = not_typed core typed t
led_typed core (heard ∷ more) typed h t =
    subst (λ all. IsTyped (led core (heard ∷ more)) all) (append_assoc typed (option_to_list (move core heard).key) (replay (move core heard).next more))
    (led_typed (move core heard).next more (typed ++ option_to_list (move core heard).key) (kept core heard h) (move_typed core heard typed h t))

first_typed : (plan : PlanValue) (verified : ℕ) (going : Bool) (start : ℕ) → TypedFits (first_phase plan verified going) start []
first_typed plan verified true start = tt
first_typed plan verified false start = on_test (λ v. TypedFits (if v then Ended Loaded else Settle) start []) (verified == length plan.words && is_none plan.start) (λ _. tt) (λ _. tt)

nothing_yet : Contains [] go → ⊥
nothing_yet (k, low, is) = omega (arith, low)

whole_start : (core : Core) (heard : List Heard) → IsTyped (led core heard) (replay core heard) → Contains (replay core heard) go → EndsWithStart (start_of core) (replay core heard) × ((led core heard).verified ≡ length core.plan.words)
whole_start core heard (inl t) c = absurd (t.0 c)
whole_start core heard (inr t) c =
    (subst (λ plan. EndsWithStart (unwrap_or plan.start 0) (replay core heard)) (led_plan core heard) t.0, t.1 ∙ ap (λ plan. length plan.words) (led_plan core heard))

pub starts_only_whole : (careful : Bool) (plan : PlanValue) (verified : ℕ) (going : Bool) (patience : ℕ) → IsHost (begun_by careful plan verified going patience) → StartsOnlyWhole (begun_by careful plan verified going patience)
starts_only_whole careful plan verified going patience h heard c =
    let core : Core = begun_by careful plan verified going patience in
    whole_start core heard (led_typed core heard [] h (inl (nothing_yet, first_typed plan verified going (start_of core)))) c
