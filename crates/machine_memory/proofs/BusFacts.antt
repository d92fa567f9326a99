-- What is true of a bus that is tested, over honest lines: memory is good there.
use Rattle.std.proofs.Common.{◌≡◌, ◌≢◌, ℕ, suc, ◌/◌, ◌^◌, ◌<◌, Bool, true, false, if◌then◌else◌, List, [], ◌∷◌, length, get_or, refl, arith, ap, sym, subst, ◌∙◌, get_or-set_other}
use Rattle.std.specs.Prelude.{◌==◌, All, bit_xor}
use Rattle.std.specs.List.{filter}
use Rattle.std.specs.Int.{is_power_of_two}
use Rattle.std.specs.Int.Bits.{xor_self}
use Rattle.std.proofs.lemmas.Bool.{eq-eqb, ne_eqb}
use Rattle.std.proofs.lemmas.List.Elements.{All-cons, All-get_or, All-nil, All-weaker}
use Rattle.std.proofs.lemmas.List.Folds.{list_any_none}
use borrow.Author.Tests.{eqb-true}
use Rattle.odt_machine.specs.Machine.{Machine, is_word, stored, word_at}
use Rattle.host_devices.specs.declared.item.Item.{Item}
use Rattle.honest_line.specs.Honest.{IsHonest}
use Rattle.looking_law.specs.Belief.{IsReadyMachine}
use Rattle.looking_law.specs.Parts.{LeavesReady}
use Rattle.looking_law.specs.Runs.{Look, Run, dialogue_of}
use Rattle.looking_law.specs.Trying.{IsToldOf}
use Rattle.looking_law.proofs.Parts.{leave_ready}
use Rattle.looking_law.proofs.Runs.{IsHarmless, run_harmless}
use Rattle.looking_law.proofs.Told.{told_honest}
use Rattle.looking_engine.specs.Stopping.{LookStop}
use Rattle.reading_core.specs.Addresses.{AreAddresses, IsAddress, addresses_between}
use Rattle.reading_core.specs.Laws.{led}
use Rattle.reading_core.specs.Reader.{Reader, begun}
use Rattle.reading_core.proofs.Lives.{led_addresses}
use Rattle.memory_core.specs.declared.stage.Borrowed.{Borrowed}
use Rattle.memory_report.specs.Bus.{BusFound, is_same, same_words}
use Rattle.machine_probe.proofs.Believed.{told_look}
use Rattle.machine_memory.specs.declared.course.Place.{Place}
use Rattle.machine_memory.specs.declared.course.Place.TheVariants.{Trying, Testing, Marking, Looking, PuttingBack, LookingAgain, Over}
use Rattle.machine_memory.specs.declared.memory_options.MemoryOptions.{MemoryOptions}
use Rattle.machine_memory.specs.Bus.{is_neighbour, mark, neighbours, reading}
use Rattle.machine_memory.specs.BusRuns.{IsLookLed}
use Rattle.machine_memory.proofs.Readings.{neighbours_asked}

-- ---- between two hosts

-- a word is lent: it holds what it is given, and any number may stand there now
pub record IsLent (before : List ℕ) (word : Borrowed) (now : List ℕ) : Type 0 where
  pub address : IsAddress word.address
  pub lies : is_word before word.address ≡ true
  pub old : word.old ≡ word_at before word.address
  pub cell : ℕ
  pub memory : now ≡ stored before word.address cell

-- what was read of the words around it is what they hold
pub record AreMarks (before : List ℕ) (word : Borrowed) (b : BusFound) : Type 0 where
  pub marked : All (λ (a : ℕ). word_at before a ≡ mark word.old) b.marked
  pub returned : All (λ (a : ℕ). word_at before a ≡ word.old) b.returned

-- nothing was read there
abbrev pub IsUnread : BusFound → Type 0
IsUnread b = (b.marked ≡ []) × (b.returned ≡ [])

abbrev pub AtPlace : List ℕ → Place → BusFound → List ℕ → Type 0
AtPlace before (Trying address) b now = IsUnread b
AtPlace before (Testing address) b now = IsUnread b
AtPlace before (Marking word place) b now = IsLent before word now × AreMarks before word b
AtPlace before (Looking word first) b now = IsLent before word now × AreMarks before word b
AtPlace before (PuttingBack word) b now = IsLent before word now × AreMarks before word b
AtPlace before (LookingAgain word first) b now = (now ≡ before) × AreMarks before word b
AtPlace before (Over end) b now = same_words b ≡ []

-- ---- no word is one with another

pub unread_apart : (b : BusFound) → IsUnread b → same_words b ≡ []
unread_apart b none = ap (λ (list : List ℕ). filter (is_same b) list) none.0

pub unread_marks : (before : List ℕ) (word : Borrowed) (b : BusFound) → IsUnread b → AreMarks before word b
unread_marks before word b none = record {
  marked = subst (All (λ (a : ℕ). word_at before a ≡ mark word.old)) (sym none.0) (All-nil (λ (a : ℕ). word_at before a ≡ mark word.old));
  returned = subst (All (λ (a : ℕ). word_at before a ≡ word.old)) (sym none.1) (All-nil (λ (a : ℕ). word_at before a ≡ word.old));
}

mark_apart : (old : ℕ) → mark old ≡ old → ⊥
mark_apart old is = by (old == 0o177400) refl is
  where
    by : (test : Bool) → (old == 0o177400) ≡ test → (if test then 0o377 else 0o177400) ≡ old → ⊥
    by true e same = absurd (omega (arith, eqb-true old 0o177400 e, same))
    by false e same = absurd (cc (sym e ∙ eq-eqb old 0o177400 (sym same)))

filter_none : (p : ℕ → Bool) (xs : List ℕ) → All (λ (x : ℕ). p x ≡ false) xs → filter p xs ≡ []
filter_none p [] all = refl
filter_none p (x ∷ xs) all =
    let here : p x ≡ false = all 0 0 (omega arith) in
    ap (λ t. if t then x ∷ filter p xs else filter p xs) here ∙ filter_none p xs (λ i d low. all (suc i) d (omega (arith, low)))

pub marks_apart : (before : List ℕ) (word : Borrowed) (b : BusFound) → AreMarks before word b → same_words b ≡ []
marks_apart before word b m =
    filter_none (is_same b) b.marked
    (All-weaker (λ (a : ℕ). word_at before a ≡ mark word.old) (λ (a : ℕ). is_same b a ≡ false) (λ a is. not_same a is) b.marked m.marked)
  where
    not_same : (a : ℕ) → word_at before a ≡ mark word.old → is_same b a ≡ false
    not_same a is =
        list_any_none (λ other. other == a) b.returned
        (All-weaker (λ (o : ℕ). word_at before o ≡ word.old) (λ (o : ℕ). (o == a) ≡ false)
        (λ o held. ne_eqb o a (λ same. mark_apart word.old (sym is ∙ (ap (word_at before) (sym same) ∙ held)))) b.returned m.returned)

-- ---- the words that read a number

all_if : (P : ℕ → Type 0) (x : ℕ) (xs : List ℕ) (test : Bool) → (test ≡ true → P x) → All P xs → All P (if test then x ∷ xs else xs)
all_if P x xs true here rest = All-cons P x xs (here refl) rest
all_if P x xs false here rest = rest

reading_has : (P : ℕ → Type 0) (number : ℕ) (addresses values : List ℕ) → ((i : ℕ) → i < length values → i < length addresses → get_or values i 0 ≡ number → P (get_or addresses i 0)) → All P (reading number addresses values)
reading_has P number [] values h = All-nil P
reading_has P number (address ∷ addresses) [] h = All-nil P
reading_has P number (address ∷ addresses) (value ∷ values) h =
    all_if P address (reading number addresses values) (value == number) (λ e. h 0 (omega arith) (omega arith) (eqb-true value number e))
    (reading_has P number addresses values (λ i low inside is. h (suc i) (omega (arith, low)) (omega (arith, inside)) is))

-- ---- the words around another

passes : (p : ℕ → Bool) (xs : List ℕ) → All (λ (x : ℕ). p x ≡ true) (filter p xs)
passes p [] = All-nil (λ (x : ℕ). p x ≡ true)
passes p (x ∷ xs) = all_if (λ (y : ℕ). p y ≡ true) x (filter p xs) (p x) (λ e. e) (passes p xs)

no_power : is_power_of_two 0 ≡ false
unfolding lib.Count.ones
no_power = refl

elsewhere : (at a : ℕ) → IsAddress at → IsAddress a → is_neighbour at a ≡ true → a / 2 ≢ at / 2
elsewhere at a here there near same =
    let one : a ≡ at = omega (arith, here.even, there.even, same) in
    absurd (cc (sym near ∙ (ap (λ (n : ℕ). is_power_of_two (bit_xor at n)) one ∙ (ap is_power_of_two (xor_self at) ∙ no_power))))

-- ---- a look at them

-- a look leaves memory as it is, and what it read is what memory holds
pub record Looked (machine now : Machine) (at first : ℕ) (last : Reader) : Type 0 where
  pub ready : IsReadyMachine now
  pub memory : now.memory ≡ machine.memory
  pub addresses : last.addresses ≡ neighbours at first
  pub holds : (i : ℕ) → i < length last.values → get_or last.values i 0 ≡ word_at machine.memory (get_or last.addresses i 0)

look_told : (options : MemoryOptions) (at first : ℕ) (last : Reader) (stop : LookStop) (parts : List (List Item)) → (l : IsLookLed options at first last stop parts) → IsToldOf (dialogue_of (Look (neighbours at first) options.patience l.inquired.heard)) l.said
look_told options at first last stop parts l =
    let run : Run = Look (neighbours at first) options.patience l.inquired.heard in
    subst (IsToldOf (dialogue_of run)) (sym l.inquired.on_line) (told_look stop _ (dialogue_of run) l.inquired.said l.inquired.items)

pub look_leaves : (options : MemoryOptions) (at first : ℕ) (last : Reader) (stop : LookStop) (parts : List (List Item)) → options.patience < 2 ^ 32 → IsAddress first → (l : IsLookLed options at first last stop parts) → LeavesReady l.said
look_leaves options at first last stop parts long is l =
    leave_ready (Look (neighbours at first) options.patience l.inquired.heard) l.said (neighbours_asked at first is, long) (look_told options at first last stop parts l)

pub looked : (options : MemoryOptions) (at first : ℕ) (last : Reader) (stop : LookStop) (parts : List (List Item)) (machine now : Machine) (lost : ℕ) → options.patience < 2 ^ 32 → IsAddress first → (l : IsLookLed options at first last stop parts) →
    IsReadyMachine machine → IsHonest machine l.said lost now → Looked machine now at first last
looked options at first last stop parts machine now lost long is l ready honest =
    let s = l.inquired in
    let run : Run = Look (neighbours at first) options.patience s.heard in
    let r : Reader = begun (neighbours at first) [] options.patience in
    let h : IsHarmless machine run lost now = run_harmless run machine now lost ready (neighbours_asked at first is, long) (told_honest (dialogue_of run) l.said machine now lost (look_told options at first last stop parts l) honest) in
    let same : last ≡ led r s.heard = s.host in
    record {
      ready = h.ready;
      memory = h.memory;
      addresses = ap (λ (t : Reader). t.addresses) same ∙ led_addresses r s.heard;
      holds = subst (λ (t : Reader). (i : ℕ) → i < length t.values → get_or t.values i 0 ≡ word_at machine.memory (get_or t.addresses i 0)) (sym same) h.learned.read.holds;
    }

-- a neighbour of the word at a place of the list
near : (at first i : ℕ) (addresses : List ℕ) → addresses ≡ neighbours at first → i < length addresses → IsAddress first → IsAddress (get_or addresses i 0) × (is_neighbour at (get_or addresses i 0) ≡ true)
near at first i addresses are low is =
    let all : AreAddresses (neighbours at first) = neighbours_asked at first is in
    let inside : i < length (neighbours at first) = subst (λ (list : List ℕ). i < length list) are low in (
      subst (λ (list : List ℕ). IsAddress (get_or list i 0)) (sym are) (All-get_or IsAddress (neighbours at first) i 0 inside all.each),
      subst (λ (list : List ℕ). is_neighbour at (get_or list i 0) ≡ true) (sym are)
          (All-get_or (λ (a : ℕ). is_neighbour at a ≡ true) (neighbours at first) i 0 inside (passes (is_neighbour at) (addresses_between first 0o157776))),
    )

-- those that read a number while the word is lent hold it
pub marked_hold : (before : List ℕ) (word : Borrowed) (first : ℕ) (m now : Machine) (last : Reader) → IsAddress first → IsLent before word m.memory → Looked m now word.address first last → (number : ℕ) →
    All (λ (a : ℕ). word_at before a ≡ number) (reading number last.addresses last.values)
marked_hold before word first m now last is lent l number =
    reading_has (λ (a : ℕ). word_at before a ≡ number) number last.addresses last.values
    (λ i low inside reads.
    let a : ℕ = get_or last.addresses i 0 in
    let there = near word.address first i last.addresses l.addresses inside is in
    let other : word_at m.memory a ≡ word_at before a =
    ap (λ (memory : List ℕ). word_at memory a) lent.memory ∙ get_or-set_other before (word.address / 2) (a / 2) lent.cell 0 (elsewhere word.address a lent.address there.0 there.1) in
    sym other ∙ (sym (l.holds i low) ∙ reads))

-- and those that read one where memory is what it was
pub returned_hold : (before : List ℕ) (at first : ℕ) (m now : Machine) (last : Reader) → m.memory ≡ before → Looked m now at first last → (number : ℕ) →
    All (λ (a : ℕ). word_at before a ≡ number) (reading number last.addresses last.values)
returned_hold before at first m now last same l number =
    reading_has (λ (a : ℕ). word_at before a ≡ number) number last.addresses last.values
    (λ i low inside reads. ap (λ (memory : List ℕ). word_at memory (get_or last.addresses i 0)) (sym same) ∙ (sym (l.holds i low) ∙ reads))
