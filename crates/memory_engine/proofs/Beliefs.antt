-- What a stretch of a test says over an honest line.
use Rattle.std.proofs.Common.{◌≡◌, ℕ, ◌+◌, ◌-◌, List, [], ◌∷◌, ◌++◌, length, Option, Some, None, inl, inr, refl, arith, ap, sym, subst, ◌∙◌}
use Rattle.std.specs.Prelude.{option_to_list}
use Rattle.host_core.specs.declared.heard.Heard.{Heard}
use Rattle.host_devices.specs.declared.item.Item.{Item}
use Rattle.host_devices.specs.declared.item.Item.TheVariants.{Sent, Heard as Came}
use Rattle.host_devices.specs.Dialogue.{LacksKey, said, heard_of}
use Rattle.engine.specs.Session.{IsDone}
use Rattle.engine.specs.Ways.{dialogue as lead_dialogue, led as lead_led, said_all}
use Rattle.engine.specs.declared.stop.Stop.{Stop}
use Rattle.engine.specs.declared.stop.Cut.TheVariants.{LineFailed, TurnsOver}
use Rattle.engine.specs.declared.stop.Stop.TheVariants.{Ended, KeepFailed, CutOff}
use Rattle.engine.proofs.Sessions.{gained_is}
use Rattle.engine.proofs.Turns.{unsent_key}
use Rattle.memory_core.specs.declared.phase.End.{End}
use Rattle.memory_core.specs.declared.phase.End.TheVariants.{Complete, GaveUp, NoWord}
use Rattle.memory_core.specs.declared.phase.Phase.{Phase}
use Rattle.memory_core.specs.declared.phase.Phase.TheVariants.{Settle, Sync, Address, Slash, Before, Value, Deposit, Return, Close, Ended as Over}
use Rattle.memory_core.specs.declared.stage.Borrowed.{Borrowed}
use Rattle.memory_core.specs.Invariant.{IsTester}
use Rattle.memory_core.specs.Laws.{led}
use Rattle.memory_core.specs.MemoryTable.{ask}
use Rattle.memory_core.specs.Tester.{Tester}
use Rattle.memory_law.specs.Testing.{dialogue, EndIsPaid, HasCause, IsBelievable}
use Rattle.memory_law.proofs.Believed.{tests_true, unsaid_true}
use Rattle.memory_engine.specs.Belief.{IsBelievableAt, IsBelievableOver}
use Rattle.memory_engine.specs.Leading.{a_test, tests}
use Rattle.looking_law.specs.Trying.{IsToldOf}
use Rattle.memory_engine.specs.Tested.{NoKeepFault, Tested, testing}

-- ---- the engine's words for it

said_is : (o : Option ℕ) → said_all (option_to_list o) ≡ said o
said_is None = refl
said_is (Some key) = refl

pub led_is : (t : Tester) (heard : List Heard) → (lead_led tests (a_test t) heard).core ≡ led t heard
led_is t [] = refl
led_is t (heard ∷ more) = led_is (ask t heard).next more

dialogue_is : (t : Tester) (heard : List Heard) → lead_dialogue tests (a_test t) heard ≡ dialogue t heard
dialogue_is t [] = refl
dialogue_is t (heard ∷ more) =
    ap (λ front. Came heard ∷ (front ++ lead_dialogue tests (a_test (ask t heard).next) more)) (said_is (ask t heard).key)
    ∙ ap (λ rest. Came heard ∷ (said (ask t heard).key ++ rest)) (dialogue_is (ask t heard).next more)

-- ---- what was heard in a dialogue

heard_of_said : (key : Option ℕ) (items : List Item) → heard_of (said key ++ items) ≡ heard_of items
heard_of_said None items = refl
heard_of_said (Some key) items = refl

heard_of-dialogue : (t : Tester) (heard : List Heard) → heard_of (dialogue t heard) ≡ heard
heard_of-dialogue t [] = refl
heard_of-dialogue t (heard ∷ more) =
    ap (λ rest. heard ∷ rest) (heard_of_said (ask t heard).key (dialogue (ask t heard).next more) ∙ heard_of-dialogue (ask t heard).next more)

heard_of_more : (items : List Item) (key : ℕ) → heard_of (items ++ Sent key ∷ []) ≡ heard_of items
heard_of_more [] key = refl
heard_of_more (Sent c ∷ items) key = heard_of_more items key
heard_of_more (Came heard ∷ items) key = ap (λ rest. heard ∷ rest) (heard_of_more items key)

-- ---- one loss more does no harm

paid_more : (end : End) (memory : List ℕ) (patience lost : ℕ) → EndIsPaid end memory patience lost → EndIsPaid end memory patience (lost + 1)
paid_more Complete memory patience lost h = tt
paid_more GaveUp memory patience lost h = omega (arith, h)
paid_more (NoWord a) memory patience lost h = h

cause_more : (phase : Phase) (memory : List ℕ) (patience lost : ℕ) → HasCause phase memory patience lost → HasCause phase memory patience (lost + 1)
cause_more (Over end) memory patience lost h = paid_more end memory patience lost h
cause_more Settle memory patience lost h = tt
cause_more (Sync place) memory patience lost h = tt
cause_more (Address visit place) memory patience lost h = tt
cause_more (Slash visit) memory patience lost h = tt
cause_more (Before visit) memory patience lost h = tt
cause_more (Value visit value place) memory patience lost h = tt
cause_more (Deposit place) memory patience lost h = tt
cause_more (Return place) memory patience lost h = tt
cause_more (Close place) memory patience lost h = tt

believed_more : (old new : Tester) (items : List Item) → IsBelievable old new items 0 → IsBelievable old new items 1
believed_more old new items trust machine now lost may honest =
    let t = trust machine now lost may honest in
    let none : lost + 0 ≡ lost = omega arith in
    record { memory = t.memory; words = t.words; spent = omega (arith, t.spent); cause = cause_more new.phase machine.memory new.patience lost (subst (HasCause new.phase machine.memory new.patience) none t.cause) }

-- ---- stretches

-- the whole dialogue was said
whole_believed : (old new : Tester) (heard : List Heard) (items : List Item) → IsTester old → new ≡ led old heard → items ≡ dialogue old heard → IsBelievable old new items 0
whole_believed old new heard items is host all =
    subst (λ t. IsBelievable old t items 0) (sym host) (subst (λ list. IsBelievable old (led old heard) list 0) (sym all) (tests_true old heard is))

-- all but its last key was said
cut_believed : (old new : Tester) (heard : List Heard) (items : List Item) → IsTester old → new ≡ led old heard → LacksKey (dialogue old heard) items → IsBelievable old new items 1
cut_believed old new heard items is host lacks = subst (λ t. IsBelievable old t items 1) (sym host) (unsaid_true old heard items lacks.0 is lacks.1)

-- the dialogue of what was heard
again_believed : (old new : Tester) (heard : List Heard) (items : List Item) → IsTester old → new ≡ led old heard → heard_of items ≡ heard → IsBelievable old new (dialogue old (heard_of items)) 0
again_believed old new heard items is host same = whole_believed old new heard (dialogue old (heard_of items)) is host (ap (dialogue old) same)

believable : (stop : Stop End) (left : ℕ) (old new : Tester) (heard : List Heard) (items : List Item) (given : List Borrowed) → IsTester old → new ≡ led old heard →
    IsDone tests (Some stop) left (a_test old) heard items given → IsBelievableAt (Some stop) old new items
believable (Ended end) left old new heard items given is host d = whole_believed old new heard items is host (d.said_is ∙ dialogue_is old heard)
believable (CutOff TurnsOver) left old new heard items given is host d = whole_believed old new heard items is host (d.0.said_is ∙ dialogue_is old heard)
believable (KeepFailed fault) left old new heard items given is host d = tt
believable (CutOff (LineFailed fault)) left old new heard items given is host (inl d) =
    let all : items ≡ dialogue old heard = d.0.said_is ∙ dialogue_is old heard in
    (believed_more old new items (whole_believed old new heard items is host all), again_believed old new heard items is host (ap heard_of all ∙ heard_of-dialogue old heard))
believable (CutOff (LineFailed fault)) left old new heard items given is host (inr u) =
    let lacks : LacksKey (dialogue old heard) items = subst (λ all. LacksKey all items) (dialogue_is old heard) (unsent_key tests (λ t what. (ask t.core what).key) (a_test old) heard items given (λ t what. refl) u) in
    (cut_believed old new heard items is host lacks, again_believed old new heard items is host (sym (heard_of_more items lacks.0) ∙ (ap heard_of (sym lacks.1) ∙ heard_of-dialogue old heard)))

pub tested_believable : (turns : ℕ) (stop : Stop End) (old new : Tester) (line line' : Option (List Item)) → IsTester old → Tested turns (testing old new (Some stop)) line line' → IsBelievableOver (testing old new (Some stop)) line line'
tested_believable turns stop old new line line' is s items gained =
    subst (IsBelievableAt (Some stop) old new) (sym (gained_is line line' items s.said gained s.on_line))
    (believable stop (turns - length s.heard) old new s.heard s.said s.given is (ap (λ t. t.core) s.host ∙ led_is old s.heard) s.done)

-- what was said is the whole dialogue, or all but its last key
pub said_told : (stop : Stop End) (left : ℕ) (old : Tester) (heard : List Heard) (items : List Item) (given : List Borrowed) → NoKeepFault stop → IsDone tests (Some stop) left (a_test old) heard items given → IsToldOf (dialogue old heard) items
said_told (Ended end) left old heard items given never d = inl (d.said_is ∙ dialogue_is old heard)
said_told (CutOff TurnsOver) left old heard items given never d = inl (d.0.said_is ∙ dialogue_is old heard)
said_told (KeepFailed fault) left old heard items given never d = absurd never
said_told (CutOff (LineFailed fault)) left old heard items given never (inl d) = inl (d.0.said_is ∙ dialogue_is old heard)
said_told (CutOff (LineFailed fault)) left old heard items given never (inr u) =
    inr (subst (λ all. LacksKey all items) (dialogue_is old heard) (unsent_key tests (λ t what. (ask t.core what).key) (a_test old) heard items given (λ t what. refl) u))
