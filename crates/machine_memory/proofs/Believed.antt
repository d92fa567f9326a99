-- What a test of memory leaves, over honest lines.
use Rattle.std.proofs.Common.{◌≡◌, ℕ, zero, suc, ◌+◌, ◌^◌, ◌<◌, ◌≤◌, List, [], ◌∷◌, ◌++◌, length, get_or, Option, Some, None, Ok, Err, Bool, true, false, nat_lt, if◌then◌else◌, refl, arith, ap, sym, subst, inl, inr, ◌∙◌}
use Rattle.std.specs.Prelude.{◌==◌, All, ⊤}
use Rattle.std.proofs.lemmas.List.Elements.{All-nil, All-cons, All-append, All-head, All-tail}
use Rattle.odt_machine.specs.Machine.{Machine, is_word, stored, word_at}
use Rattle.host_devices.specs.declared.item.Item.{Item}
use Rattle.engine.specs.declared.stop.Cut.TheVariants.{LineFailed, TurnsOver}
use Rattle.engine.specs.declared.stop.Stop.{Stop}
use Rattle.engine.specs.declared.stop.Stop.TheVariants as stop
use Rattle.honest_line.specs.Honest.{IsHonest}
use Rattle.looking_law.specs.Belief.{IsReadyMachine}
use Rattle.looking_law.specs.Parts.{LeavesReady}
use Rattle.looking_law.specs.Rows.{AreHonest}
use Rattle.reading_core.specs.Addresses.{AreAddresses, IsAddress, IsRange}
use Rattle.memory_core.specs.declared.phase.End.{End}
use Rattle.memory_core.specs.declared.phase.End.TheVariants as core
use Rattle.memory_core.specs.declared.seen.Seen.{Seen}
use Rattle.memory_core.specs.Seen.{old_in}
use Rattle.memory_core.specs.declared.stage.Borrowed.{Borrowed}
use Rattle.memory_core.specs.Addresses.{every_address}
use Rattle.memory_core.specs.Invariant.{IsTester}
use Rattle.memory_core.specs.Tester.{Tester, begun as begun_test, borrowed}
use Rattle.memory_core.proofs.Asking.{range_asked}
use Rattle.memory_core.proofs.Turns.{begun_kept}
use Rattle.looking_law.specs.Trying.{IsToldOf}
use Rattle.memory_law.specs.Testing.{dialogue, IsAsItWas, IsTrueOf, IsTrueTest, MayTest}
use Rattle.memory_law.proofs.Believed.{in_a_row as tests_in_a_row}
use Rattle.memory_engine.specs.Belief.{IsBelievableAt}
use Rattle.memory_engine.specs.Tested.{NoKeepFault}
use Rattle.memory_engine.proofs.Beliefs.{led_is, said_told, tested_believable}
use Rattle.memory_core.specs.Laws.{led}
use Rattle.memory_core.proofs.Lives.{led_addresses}
use Rattle.memory_report.specs.declared.test_end.TestEnd.{TestEnd}
use Rattle.memory_report.specs.declared.findings.Word.{Word}
use Rattle.probe_report.specs.declared.findings.Findings.{Findings}
use Rattle.probe_report.specs.declared.findings.Sighting.{Sighting}
use Rattle.probe_report.specs.declared.findings.Sighting.TheVariants as look
use Rattle.probe_report.specs.declared.judging.Verdict.{Verdict}
use Rattle.probe_report.specs.declared.judging.Verdict.TheVariants.{Forgets, Stores, Unknown}
use Rattle.probe_report.specs.Judging.{verdict_of}
use Rattle.machine_probe.specs.Follow.{stores}
use Rattle.machine_probe.specs.PuttingBack.{is_loaded}
use Rattle.machine_probe.proofs.Believed.{TriedLeaves, IsOnePart, one_part, split, tried_leaves}
use Rattle.machine_memory.specs.declared.course.Place.{Place}
use Rattle.machine_memory.specs.declared.course.Place.TheVariants.{Trying, Testing, Marking, Looking, PuttingBack, LookingAgain, Over}
use Rattle.machine_memory.specs.declared.memory_options.MemoryOptions.{MemoryOptions}
use Rattle.load_engine.specs.Driving.{LoadStop}
use Rattle.host_core.specs.declared.phase.End.TheVariants as loaded
use Rattle.looking_engine.specs.Stopping.{LookStop}
use Rattle.reading_core.specs.declared.phase.End.TheVariants as looked_end
use Rattle.memory_law.proofs.Ahead.{stored_own, stored_there, stored_twice}
use Rattle.memory_report.specs.declared.test_end.TestEnd.TheVariants as test
use Rattle.memory_report.specs.Bus.{BusFound, same_words}
use Rattle.machine_memory.specs.Belief.{AreBelievable, Remains}
use Rattle.machine_memory.specs.Bus.{mark, number_at, reading}
use Rattle.machine_memory.specs.BusCourse.{again_from, behind_mark, behind_put_back, bus_begins, first_good, in_bus, on_from, put_back_next, stopped_load, then_bus, with_marked, with_returned, by_look, by_second_look}
use Rattle.machine_memory.specs.BusRuns.{IsLookAgainStep, IsLookStep, IsMarkStep, IsNamedStep, IsPutBackStep}
use Rattle.machine_memory.proofs.BusFacts.{AreMarks, AtPlace, IsLent, IsUnread, Looked, looked, marked_hold, marks_apart, returned_hold, unread_apart, unread_marks}
use Rattle.machine_memory.proofs.BusLeads.{first_good_has, look_within, look_words, mark_within, mark_words, put_back_within, put_back_words, stopped_within, stopped_words, second_look_within, second_look_words, test_words, then_are, then_within}
use Rattle.machine_memory.proofs.Deposits.{Deposited, deposited}
use Rattle.machine_memory.specs.Course.{AreWords, IsWithin, Standing, behind_test, begun, over, by_first, by_stop, by_verdict, next_bank, test_next, try_next}
use Rattle.machine_memory.specs.Options.{IsAsked, probe_options}
use Rattle.machine_memory.specs.Runs.{AreSteps, IsRow, IsStepAt, IsTestLed, IsTestStep, IsTryStep, most_steps}
use Rattle.machine_memory.specs.Words.{words_of}
use Rattle.machine_memory.specs.Turns.{most_turns}
use Rattle.machine_memory.proofs.Leads.{test_within, trial_within, trial_words}

-- ---- between two hosts

abbrev AreTrue : List ℕ → List Word → Type 0
AreTrue before words = All (λ (word : Word). IsTrueOf before word.address word.seen) words

-- where words are tested next, no word is borrowed; where a look comes next, the one that it goes around
abbrev IsFree : Place → Option Borrowed → Type 0
IsFree (Trying address) word = word ≡ None
IsFree (Testing address) word = word ≡ None
IsFree (Looking lent first) word = word ≡ Some lent
IsFree place word = ⊤

record Stands (before : List ℕ) (s : Standing) (now : Machine) : Type 0 where
  pub ready : IsReadyMachine now
  pub memory : Remains before s.borrowed now.memory
  pub words : AreTrue before s.words
  pub free : IsFree s.place s.borrowed
  pub touches : s.bus.touches ≡ false
  pub at : AtPlace before s.place s.bus now.memory

none_borrowed : (before : List ℕ) (word : Option Borrowed) (now : List ℕ) → word ≡ None → now ≡ before → Remains before word now
none_borrowed before word now none same = subst (λ (w : Option Borrowed). Remains before w now) (sym none) same

same_then : (before : List ℕ) (word : Option Borrowed) (now : List ℕ) → word ≡ None → Remains before word now → now ≡ before
same_then before word now none is = subst (λ (w : Option Borrowed). Remains before w now) none is

-- ---- behind a trial

unread_try : (before : List ℕ) (address : ℕ) (next : Option ℕ) (b : BusFound) (now : List ℕ) → IsUnread b → AtPlace before (try_next address next) b now
unread_try before address None b now none = unread_apart b none
unread_try before address (Some next) b now none = none

unread_test : (before : List ℕ) (next : Option ℕ) (b : BusFound) (now : List ℕ) → IsUnread b → AtPlace before (test_next next) b now
unread_test before None b now none = unread_apart b none
unread_test before (Some next) b now none = none

free_try : (address : ℕ) (next : Option ℕ) (word : Option Borrowed) → word ≡ None → IsFree (try_next address next) word
free_try address None word none = tt
free_try address (Some next) word none = none

first_stands : (before : List ℕ) (to : ℕ) (s : Standing) (f : Findings) (first : Sighting) (now : Machine) → ((number : ℕ) → first ≡ look.Number number → number ≡ word_at before f.address) →
    s.borrowed ≡ None → IsReadyMachine now → now.memory ≡ before → AreTrue before s.words → s.bus.touches ≡ false → IsUnread s.bus → Stands before (by_first to s f first) now
first_stands before to s f (look.Number old) now held none ready same words quiet unread = record { ready = ready; memory = (held old refl, inl same); words = words; free = tt; touches = quiet; at = unread_apart s.bus unread }
first_stands before to s f look.NoWord now held none ready same words quiet unread =
    record { ready = ready; memory = none_borrowed before s.borrowed now.memory none same; words = words; free = free_try f.address (next_bank f.address to) s.borrowed none; touches = quiet; at = unread_try before f.address (next_bank f.address to) s.bus now.memory unread }
first_stands before to s f look.GaveUp now held none ready same words quiet unread = record { ready = ready; memory = same; words = words; free = tt; touches = quiet; at = unread_apart s.bus unread }
first_stands before to s f (look.CutOff cut) now held none ready same words quiet unread = record { ready = ready; memory = same; words = words; free = tt; touches = quiet; at = unread_apart s.bus unread }

verdict_stands : (before : List ℕ) (to : ℕ) (s : Standing) (f : Findings) (verdict : Verdict) (now : Machine) → stores verdict ≡ false → ((number : ℕ) → f.first ≡ look.Number number → number ≡ word_at before f.address) →
    s.borrowed ≡ None → IsReadyMachine now → now.memory ≡ before → AreTrue before s.words → s.bus.touches ≡ false → IsUnread s.bus → Stands before (by_verdict to s f verdict) now
verdict_stands before to s f Forgets now off held none ready same words quiet unread = record { ready = ready; memory = none_borrowed before s.borrowed now.memory none same; words = words; free = none; touches = quiet; at = unread }
verdict_stands before to s f Stores now off held none ready same words quiet unread = absurd (cc off)
verdict_stands before to s f Unknown now off held none ready same words quiet unread = first_stands before to s f f.first now held none ready same words quiet unread

try_stands : (options : MemoryOptions) (before : List ℕ) (at : ℕ) (s after : Standing) (m now : Machine) (parts : List (List Item)) (lost : ℕ) → options.patience < 2 ^ 32 → IsRange at options.to → s.borrowed ≡ None → IsUnread s.bus →
    IsTryStep options at s after parts → Stands before s m → AreHonest m parts lost now → Stands before after now
try_stands options before at s after m now parts lost long range none unread t k honest =
    let l : TriedLeaves (probe_options options at) t.f m now = tried_leaves (probe_options options at) t.f parts m now lost range.from_is long t.tried k.ready honest in
    let earlier : m.memory ≡ before = same_then before s.borrowed m.memory none k.memory in
    subst (λ (x : Standing). Stands before x now) (sym t.after_is)
    (verdict_stands before options.to s t.f (verdict_of t.f) now l.off
    (λ number is. l.first number is ∙ (ap (λ (memory : List ℕ). word_at memory at) earlier ∙ ap (word_at before) (sym t.tried.address)))
    none l.ready (l.memory ∙ earlier) k.words k.touches unread)

-- ---- behind a test

zip_true : (P : ℕ → Seen → Type 0) (addresses : List ℕ) (seen : List Seen) → ((i : ℕ) (other : Seen) → i < length seen → P (get_or addresses i 0) (get_or seen i other)) → All (λ (word : Word). P word.address word.seen) (words_of addresses seen)
zip_true P [] seen h = All-nil (λ (word : Word). P word.address word.seen)
zip_true P (address ∷ addresses) [] h = All-nil (λ (word : Word). P word.address word.seen)
zip_true P (address ∷ addresses) (one ∷ seen) h =
    All-cons (λ (word : Word). P word.address word.seen) (record { address = address; seen = one }) (words_of addresses seen) (h 0 one (omega arith))
    (zip_true P addresses seen (λ i other low. h (suc i) other (omega (arith, low))))

remains_of : (before : List ℕ) (word : Option Borrowed) (now : List ℕ) → IsAsItWas before word now → Remains before word now
remains_of before None now is = is
remains_of before (Some word) now is = (is.1, inr (is.2, is.3))

free_test : (next : Option ℕ) (word : Option Borrowed) → word ≡ None → IsFree (test_next next) word
free_test None word none = tt
free_test (Some next) word none = none

stop_stands : (before : List ℕ) (to : ℕ) (s : Standing) (stopped : Stop End) (word : Option Borrowed) (now : Machine) → Remains before word now.memory → s.borrowed ≡ None → IsReadyMachine now → AreTrue before s.words → s.bus.touches ≡ false → IsUnread s.bus →
    Stands before (by_stop to s stopped word) now
stop_stands before to s (stop.Ended core.Complete) word now is none ready words quiet unread = record { ready = ready; memory = is; words = words; free = tt; touches = quiet; at = unread_apart s.bus unread }
stop_stands before to s (stop.Ended (core.NoWord gap)) None now is none ready words quiet unread =
    record { ready = ready; memory = none_borrowed before s.borrowed now.memory none is; words = words; free = free_test (next_bank gap to) s.borrowed none; touches = quiet; at = unread_test before (next_bank gap to) s.bus now.memory unread }
stop_stands before to s (stop.Ended (core.NoWord gap)) (Some word) now is none ready words quiet unread = record { ready = ready; memory = is; words = words; free = tt; touches = quiet; at = unread_apart s.bus unread }
stop_stands before to s (stop.Ended core.GaveUp) word now is none ready words quiet unread = record { ready = ready; memory = is; words = words; free = tt; touches = quiet; at = unread_apart s.bus unread }
stop_stands before to s (stop.KeepFailed fault) word now is none ready words quiet unread = record { ready = ready; memory = is; words = words; free = tt; touches = quiet; at = unread_apart s.bus unread }
stop_stands before to s (stop.CutOff cut) word now is none ready words quiet unread = record { ready = ready; memory = is; words = words; free = tt; touches = quiet; at = unread_apart s.bus unread }

-- what was tested is true, whatever the losses
record HasTested (machine : List ℕ) (last : Tester) (now : List ℕ) : Type 0 where
  pub lost : ℕ
  pub is : IsTrueTest machine last now lost

tested_at : (stopped : Stop End) (first last : Tester) (said : List Item) (m now : Machine) (lost : ℕ) → NoKeepFault stopped → IsBelievableAt (Some stopped) first last said → MayTest first m → IsHonest m said lost now → HasTested m.memory last now.memory
tested_at (stop.Ended end) first last said m now lost never b may honest = record { lost = lost + 0; is = b m now lost may honest }
tested_at (stop.CutOff TurnsOver) first last said m now lost never b may honest = record { lost = lost + 0; is = b m now lost may honest }
tested_at (stop.CutOff (LineFailed fault)) first last said m now lost never b may honest = record { lost = lost + 1; is = b.0 m now lost may honest }
tested_at (stop.KeepFailed fault) first last said m now lost never b may honest = absurd never

-- a test leaves the machine ready, whatever it came to
pub test_leaves : (options : MemoryOptions) (at : ℕ) (last : Tester) (stopped : Stop End) (parts : List (List Item)) → options.patience < 2 ^ 32 → 1 ≤ options.every → IsRange at options.to → (l : IsTestLed options at last stopped parts) → LeavesReady l.said
test_leaves options at last stopped parts long some range l =
    let first : Tester = begun_test (every_address at options.to options.every) options.patience in
    let is : IsTester first = begun_kept (every_address at options.to options.every) options.patience (range_asked at options.to options.every range some) long in
    tests_in_a_row first l.tested.heard l.said is refl (subst (λ (items : List Item). IsToldOf (dialogue first l.tested.heard) items) (sym l.tested.on_line) (said_told stopped _ first l.tested.heard l.tested.said l.tested.given l.no_fault l.tested.done))

-- what tested it tested these addresses
pub test_asked : (options : MemoryOptions) (at : ℕ) (last : Tester) (stopped : Stop End) (parts : List (List Item)) → options.patience < 2 ^ 32 → 1 ≤ options.every → IsRange at options.to → IsTestLed options at last stopped parts → AreAddresses last.addresses
test_asked options at last stopped parts long some range l =
    let first : Tester = begun_test (every_address at options.to options.every) options.patience in
    let same : last ≡ led first l.tested.heard = ap (λ t. t.core) l.tested.host ∙ led_is first l.tested.heard in
    subst AreAddresses (sym (ap (λ (t : Tester). t.addresses) same ∙ led_addresses first l.tested.heard)) (range_asked at options.to options.every range some)

stop_bus : (to : ℕ) (s : Standing) (stopped : Stop End) (word : Option Borrowed) → (by_stop to s stopped word).bus ≡ s.bus
stop_bus to s (stop.Ended core.Complete) word = refl
stop_bus to s (stop.Ended (core.NoWord gap)) None = refl
stop_bus to s (stop.Ended (core.NoWord gap)) (Some word) = refl
stop_bus to s (stop.Ended core.GaveUp) word = refl
stop_bus to s (stop.KeepFailed fault) word = refl
stop_bus to s (stop.CutOff cut) word = refl

-- what is true of a word that is lent
record MayLend (before : List ℕ) (word : Borrowed) : Type 0 where
  pub address : IsAddress word.address
  pub lies : is_word before word.address ≡ true
  pub old : word.old ≡ word_at before word.address

each_may : (before : List ℕ) (words : List Word) → AreTrue before words → AreWords words → All (λ (w : Word). MayLend before (record { address = w.address; old = old_in w.seen })) words
each_may before [] held_all are = All-nil (λ (w : Word). MayLend before (record { address = w.address; old = old_in w.seen }))
each_may before (word ∷ words) held_all are =
    let held : Word → Type 0 = λ (w : Word). IsTrueOf before w.address w.seen in
    let here : IsTrueOf before word.address word.seen = All-head held word words held_all in
    All-cons (λ (w : Word). MayLend before (record { address = w.address; old = old_in w.seen })) word words
    (record { address = All-head (λ (w : Word). IsAddress w.address) word words are; lies = here.lies; old = ap old_in here.tested ∙ here.old })
    (each_may before words (All-tail held word words held_all) (All-tail (λ (w : Word). IsAddress w.address) word words are))

lent_first : (before : List ℕ) (word : Borrowed) (now : List ℕ) → MayLend before word → now ≡ before → IsLent before word now
lent_first before word now may same = record {
  address = may.address;
  lies = may.lies;
  old = may.old;
  cell = word_at before word.address;
  memory = same ∙ sym (stored_own before word.address);
}

bus_stands : (before : List ℕ) (every : ℕ) (s : Standing) (now : Machine) → AreWords s.words → IsUnread s.bus → Stands before s now → Stands before (then_bus every s) now
bus_stands before every s now are unread k = by s.place s.borrowed (first_good s.words) refl refl (first_good_has (MayLend before) s.words (each_may before s.words k.words are))
  where
    by : (place : Place) (word found : Option Borrowed) → s.place ≡ place → s.borrowed ≡ word → ((w : Borrowed) → found ≡ Some w → MayLend before w) → Stands before (bus_begins every s place word found) now
    by (Over test.Tested) None (Some w) there none may = begun_at (every == 1)
      where
        same : now.memory ≡ before
        same = same_then before s.borrowed now.memory none k.memory

        begun_at : (each : Bool) → Stands before (if each then record s { bus = record s.bus { at = Some w.address }; place = Marking w 0 } else s) now
        begun_at true = record {
          ready = k.ready;
          memory = k.memory;
          words = k.words;
          free = tt;
          touches = k.touches;
          at = (lent_first before w now.memory (may w refl) same, unread_marks before w (record s.bus { at = Some w.address }) unread);
        }
        begun_at false = k
    by (Over test.Tested) None None there none may = k
    by (Over test.Tested) (Some other) found there none may = k
    by (Over test.NotTrusted) word found there none may = k
    by (Over (test.NoWord address)) word found there none may = k
    by (Over test.GaveUp) word found there none may = k
    by (Over (test.CutOff cut)) word found there none may = k
    by (Trying address) word found there none may = k
    by (Testing address) word found there none may = k
    by (Marking w place) word found there none may = k
    by (Looking w first) word found there none may = k
    by (PuttingBack w) word found there none may = k
    by (LookingAgain w first) word found there none may = k

test_stands : (options : MemoryOptions) (before : List ℕ) (at : ℕ) (s after : Standing) (m now : Machine) (parts : List (List Item)) (lost : ℕ) → options.patience < 2 ^ 32 → 1 ≤ options.every → IsRange at options.to → s.borrowed ≡ None → IsUnread s.bus → AreWords s.words →
    IsTestStep options at s after parts → Stands before s m → AreHonest m parts lost now → Stands before after now
test_stands options before at s after m now parts lost long some range none unread are t k honest =
    let l : IsTestLed options at t.last t.stop parts = t.test_led in
    let first : Tester = begun_test (every_address at options.to options.every) options.patience in
    let is : IsTester first = begun_kept (every_address at options.to options.every) options.patience (range_asked at options.to options.every range some) long in
    let one : IsOnePart m now l.said = one_part m now parts l.said lost l.part honest in
    let earlier : m.memory ≡ before = same_then before s.borrowed m.memory none k.memory in
    let may : MayTest first m = record { begun = refl; console = k.ready.console; stopped = k.ready.stopped } in
    let tested : HasTested m.memory t.last now.memory =
    tested_at t.stop first t.last l.said m now one.lost l.no_fault (tested_believable most_turns t.stop first t.last (Some []) (Some l.said) is l.tested l.said ([], refl, refl)) may one.honest in
    let right : HasTested before t.last now.memory = subst (λ (memory : List ℕ). HasTested memory t.last now.memory) earlier tested in
    let reached : Standing = record s { words = s.words ++ words_of t.last.addresses t.last.seen } in
    let stands : Stands before (behind_test options.to s t.last t.stop) now =
    stop_stands before options.to reached t.stop (borrowed t.last) now (remains_of before (borrowed t.last) now.memory right.is.memory) none
    ((test_leaves options at t.last t.stop parts long some range l).ready m now one.lost k.ready one.honest)
    (All-append (λ (word : Word). IsTrueOf before word.address word.seen) s.words (words_of t.last.addresses t.last.seen) k.words (zip_true (IsTrueOf before) t.last.addresses t.last.seen right.is.words)) k.touches unread in
    subst (λ (x : Standing). Stands before x now) (sym t.after_is)
    (bus_stands before options.every (behind_test options.to s t.last t.stop) now
    (test_words options.to s t.last t.stop are (test_asked options at t.last t.stop parts long some range l))
    (subst IsUnread (sym (stop_bus options.to reached t.stop (borrowed t.last))) unread) stands)

-- ---- behind a deposit

lent_then : (before : List ℕ) (word : Borrowed) (number : ℕ) (stopped : LoadStop) (m now : Machine) → IsLent before word m.memory → Deposited m now word.address number stopped → IsLent before word now.memory
lent_then before word number stopped m now lent d = record {
  address = lent.address;
  lies = lent.lies;
  old = lent.old;
  cell = d.cell;
  memory = d.memory ∙ (ap (λ (memory : List ℕ). stored memory word.address d.cell) lent.memory ∙ stored_twice before word.address lent.cell d.cell);
}

lent_remains : (before : List ℕ) (word : Borrowed) (now : List ℕ) → IsLent before word now → Remains before (Some word) now
lent_remains before word now lent = (lent.old, inr (lent.cell, lent.memory))

-- a word that is lent, and a machine that is ready
record Lends (before : List ℕ) (s : Standing) (word : Borrowed) (now : Machine) : Type 0 where
  pub ready : IsReadyMachine now
  pub words : AreTrue before s.words
  pub touches : s.bus.touches ≡ false
  pub lent : IsLent before word now.memory
  pub marks : AreMarks before word s.bus

-- it ended while the word was lent
ended_stands : (before : List ℕ) (s : Standing) (word : Borrowed) (end : TestEnd) (now : Machine) → Lends before s word now → Stands before (over s end (Some word)) now
ended_stands before s word end now l = record {
  ready = l.ready;
  memory = lent_remains before word now.memory l.lent;
  words = l.words;
  free = tt;
  touches = l.touches;
  at = marks_apart before word s.bus l.marks;
}

next_stands : (before : List ℕ) (place : ℕ) (s : Standing) (word : Borrowed) (now : Machine) (more : Bool) → Lends before s word now → Stands before (record s { borrowed = Some word; place = if more then Marking word (place + 1) else Looking word 0 }) now
next_stands before place s word now true l = record { ready = l.ready; memory = lent_remains before word now.memory l.lent; words = l.words; free = tt; touches = l.touches; at = (l.lent, l.marks) }
next_stands before place s word now false l = record { ready = l.ready; memory = lent_remains before word now.memory l.lent; words = l.words; free = refl; touches = l.touches; at = (l.lent, l.marks) }

mark_stops : (before : List ℕ) (place : ℕ) (s : Standing) (word : Borrowed) (stopped : LoadStop) (now : Machine) → ((a : ℕ) → stopped ≡ stop.Ended (loaded.WontHold a) → ⊥) → Lends before s word now → Stands before (behind_mark s word place stopped) now
mark_stops before place s word (stop.Ended loaded.Loaded) now held l = next_stands before place s word now (nat_lt place 3) l
mark_stops before place s word (stop.Ended (loaded.WontHold a)) now held l = absurd (held a refl)
mark_stops before place s word (stop.Ended (loaded.NoWord a)) now held l = ended_stands before s word (test.NoWord a) now l
mark_stops before place s word (stop.Ended loaded.Started) now held l = ended_stands before s word test.GaveUp now l
mark_stops before place s word (stop.Ended loaded.Uncertain) now held l = ended_stands before s word test.GaveUp now l
mark_stops before place s word (stop.Ended loaded.MaybeStarted) now held l = ended_stands before s word test.GaveUp now l
mark_stops before place s word (stop.Ended loaded.GaveUp) now held l = ended_stands before s word test.GaveUp now l
mark_stops before place s word (stop.KeepFailed fault) now held l = ended_stands before s word (test.CutOff TurnsOver) now l
mark_stops before place s word (stop.CutOff cut) now held l = ended_stands before s word (test.CutOff cut) now l

mark_stands : (options : MemoryOptions) (before : List ℕ) (word : Borrowed) (place : ℕ) (s after : Standing) (m now : Machine) (parts : List (List Item)) (lost : ℕ) → Lends before s word m →
    IsMarkStep options word place s after parts → AreHonest m parts lost now → Stands before after now
mark_stands options before word place s after m now parts lost l t honest =
    let one : IsOnePart m now t.deposit_led.said = one_part m now parts t.deposit_led.said lost t.deposit_led.part honest in
    let d : Deposited m now word.address (number_at place word.old) t.stop = deposited options word.address (number_at place word.old) t.stop parts m now one.lost t.deposit_led l.ready one.honest in
    subst (λ (x : Standing). Stands before x now) (sym t.after_is)
    (mark_stops before place s word t.stop now d.held (record { ready = d.ready; words = l.words; touches = l.touches; lent = lent_then before word (number_at place word.old) t.stop m now l.lent d; marks = l.marks }))

-- once the old number stands again, memory is what it was
put_back_same : (before : List ℕ) (word : Borrowed) (now : List ℕ) → IsLent before word now → word_at now word.address ≡ word.old → now ≡ before
put_back_same before word now lent is =
    let cell : lent.cell ≡ word_at before word.address =
    sym (stored_there before word.address lent.cell lent.lies) ∙ (ap (λ (memory : List ℕ). word_at memory word.address) (sym lent.memory) ∙ (is ∙ lent.old)) in
    lent.memory ∙ (ap (stored before word.address) cell ∙ stored_own before word.address)

again_at : (before : List ℕ) (word : Borrowed) (b : BusFound) (now marked : List ℕ) → b.marked ≡ marked → now ≡ before → AreMarks before word b → AtPlace before (put_back_next word marked) b now
again_at before word b now [] is same marks = marks_apart before word b marks
again_at before word b now (a ∷ marked) is same marks = (same, marks)

again_free : (word : Borrowed) (marked : List ℕ) → IsFree (put_back_next word marked) None
again_free word [] = tt
again_free word (a ∷ marked) = tt

put_back_stops : (before : List ℕ) (s : Standing) (word : Borrowed) (stopped : LoadStop) (now : Machine) → ((a : ℕ) → stopped ≡ stop.Ended (loaded.WontHold a) → ⊥) → (is_loaded stopped ≡ true → word_at now.memory word.address ≡ word.old) →
    Lends before s word now → Stands before (behind_put_back s word stopped) now
put_back_stops before s word (stop.Ended loaded.Loaded) now held is l =
    let same : now.memory ≡ before = put_back_same before word now.memory l.lent (is refl) in
    record { ready = l.ready; memory = same; words = l.words; free = again_free word s.bus.marked; touches = l.touches; at = again_at before word s.bus now.memory s.bus.marked refl same l.marks }
put_back_stops before s word (stop.Ended (loaded.WontHold a)) now held is l = absurd (held a refl)
put_back_stops before s word (stop.Ended (loaded.NoWord a)) now held is l = ended_stands before s word (test.NoWord a) now l
put_back_stops before s word (stop.Ended loaded.Started) now held is l = ended_stands before s word test.GaveUp now l
put_back_stops before s word (stop.Ended loaded.Uncertain) now held is l = ended_stands before s word test.GaveUp now l
put_back_stops before s word (stop.Ended loaded.MaybeStarted) now held is l = ended_stands before s word test.GaveUp now l
put_back_stops before s word (stop.Ended loaded.GaveUp) now held is l = ended_stands before s word test.GaveUp now l
put_back_stops before s word (stop.KeepFailed fault) now held is l = ended_stands before s word (test.CutOff TurnsOver) now l
put_back_stops before s word (stop.CutOff cut) now held is l = ended_stands before s word (test.CutOff cut) now l

put_back_stands : (options : MemoryOptions) (before : List ℕ) (word : Borrowed) (s after : Standing) (m now : Machine) (parts : List (List Item)) (lost : ℕ) → Lends before s word m →
    IsPutBackStep options word s after parts → AreHonest m parts lost now → Stands before after now
put_back_stands options before word s after m now parts lost l t honest =
    let one : IsOnePart m now t.deposit_led.said = one_part m now parts t.deposit_led.said lost t.deposit_led.part honest in
    let d : Deposited m now word.address word.old t.stop = deposited options word.address word.old t.stop parts m now one.lost t.deposit_led l.ready one.honest in
    subst (λ (x : Standing). Stands before x now) (sym t.after_is)
    (put_back_stops before s word t.stop now d.held d.loaded (record { ready = d.ready; words = l.words; touches = l.touches; lent = lent_then before word word.old t.stop m now l.lent d; marks = l.marks }))

-- where it may not stand, the word is named
named_stops : (before : List ℕ) (s : Standing) (word : Borrowed) (stopped : LoadStop) (now : Machine) → Lends before s word now → Stands before (stopped_load s word stopped) now
named_stops before s word (stop.Ended loaded.Loaded) now l = ended_stands before s word test.GaveUp now l
named_stops before s word (stop.Ended (loaded.WontHold a)) now l = ended_stands before s word test.GaveUp now l
named_stops before s word (stop.Ended (loaded.NoWord a)) now l = ended_stands before s word (test.NoWord a) now l
named_stops before s word (stop.Ended loaded.Started) now l = ended_stands before s word test.GaveUp now l
named_stops before s word (stop.Ended loaded.Uncertain) now l = ended_stands before s word test.GaveUp now l
named_stops before s word (stop.Ended loaded.MaybeStarted) now l = ended_stands before s word test.GaveUp now l
named_stops before s word (stop.Ended loaded.GaveUp) now l = ended_stands before s word test.GaveUp now l
named_stops before s word (stop.KeepFailed fault) now l = ended_stands before s word (test.CutOff TurnsOver) now l
named_stops before s word (stop.CutOff cut) now l = ended_stands before s word (test.CutOff cut) now l

named_stands : (options : MemoryOptions) (before : List ℕ) (word : Borrowed) (s after : Standing) (m now : Machine) (parts : List (List Item)) (lost : ℕ) → Lends before s word m →
    IsNamedStep options word s after parts → AreHonest m parts lost now → Stands before after now
named_stands options before word s after m now parts lost l t honest =
    let one : IsOnePart m now t.deposit_led.said = one_part m now parts t.deposit_led.said lost t.deposit_led.part honest in
    let d : Deposited m now word.address word.old t.stop = deposited options word.address word.old t.stop parts m now one.lost t.deposit_led l.ready one.honest in
    subst (λ (x : Standing). Stands before x now) (sym t.after_is)
    (named_stops before s word t.stop now (record { ready = d.ready; words = l.words; touches = l.touches; lent = lent_then before word word.old t.stop m now l.lent d; marks = l.marks }))

-- ---- behind a look around it

lent_on : (before : List ℕ) (word : Borrowed) (b : BusFound) (now : List ℕ) (next : Option ℕ) → IsLent before word now → AreMarks before word b → AtPlace before (on_from word next) b now
lent_on before word b now (Some next) lent marks = (lent, marks)
lent_on before word b now None lent marks = (lent, marks)

free_on : (word : Borrowed) (next : Option ℕ) (other : Option Borrowed) → other ≡ Some word → IsFree (on_from word next) other
free_on word (Some next) other is = is
free_on word None other is = tt

-- the word is lent already
remains_lent : (before : List ℕ) (word : Option Borrowed) (w : Borrowed) (now : List ℕ) → word ≡ Some w → IsLent before w now → Remains before word now
remains_lent before word w now is lent = subst (λ (x : Option Borrowed). Remains before x now) (sym is) (lent_remains before w now lent)

look_stops : (before : List ℕ) (s : Standing) (word : Borrowed) (stopped : LookStop) (now : Machine) → s.borrowed ≡ Some word → Lends before s word now → Stands before (by_look s word stopped) now
look_stops before s word (Ok looked_end.Complete) now is l = record { ready = l.ready; memory = remains_lent before s.borrowed word now.memory is l.lent; words = l.words; free = tt; touches = l.touches; at = (l.lent, l.marks) }
look_stops before s word (Ok (looked_end.NoWord gap)) now is l = record {
  ready = l.ready;
  memory = remains_lent before s.borrowed word now.memory is l.lent;
  words = l.words;
  free = free_on word (in_bus gap) s.borrowed is;
  touches = l.touches;
  at = lent_on before word s.bus now.memory (in_bus gap) l.lent l.marks;
}
look_stops before s word (Ok looked_end.GaveUp) now is l = ended_stands before s word test.GaveUp now l
look_stops before s word (Err cut) now is l = ended_stands before s word (test.CutOff cut) now l

look_stands : (options : MemoryOptions) (before : List ℕ) (word : Borrowed) (first : ℕ) (s after : Standing) (m now : Machine) (parts : List (List Item)) (lost : ℕ) → options.patience < 2 ^ 32 → IsAddress first → s.borrowed ≡ Some word → Lends before s word m →
    IsLookStep options word first s after parts → AreHonest m parts lost now → Stands before after now
look_stands options before word first s after m now parts lost long is lends l t honest =
    let one : IsOnePart m now t.look_led.said = one_part m now parts t.look_led.said lost t.look_led.part honest in
    let d : Looked m now word.address first t.last = looked options word.address first t.last t.stop parts m now one.lost long is t.look_led l.ready one.honest in
    let lent : IsLent before word now.memory = subst (IsLent before word) (sym d.memory) l.lent in
    let found : List ℕ = reading (mark word.old) t.last.addresses t.last.values in
    subst (λ (x : Standing). Stands before x now) (sym t.after_is)
    (look_stops before (with_marked s word t.last) word t.stop now lends (record {
      ready = d.ready;
      words = l.words;
      touches = l.touches;
      lent = lent;
      marks = record {
        marked = All-append (λ (a : ℕ). word_at before a ≡ mark word.old) s.bus.marked found l.marks.marked (marked_hold before word first m now t.last is l.lent d (mark word.old));
        returned = l.marks.returned;
      };
    }))

-- ---- and behind a second look

-- memory is what it was
record Again (before : List ℕ) (s : Standing) (word : Borrowed) (now : Machine) : Type 0 where
  pub ready : IsReadyMachine now
  pub words : AreTrue before s.words
  pub touches : s.bus.touches ≡ false
  pub same : now.memory ≡ before
  pub marks : AreMarks before word s.bus

again_ended : (before : List ℕ) (s : Standing) (word : Borrowed) (end : TestEnd) (now : Machine) → Again before s word now → Stands before (over s end None) now
again_ended before s word end now a = record { ready = a.ready; memory = a.same; words = a.words; free = tt; touches = a.touches; at = marks_apart before word s.bus a.marks }

again_on : (before : List ℕ) (word : Borrowed) (b : BusFound) (now : List ℕ) (next : Option ℕ) → now ≡ before → AreMarks before word b → AtPlace before (again_from word next) b now
again_on before word b now (Some next) same marks = (same, marks)
again_on before word b now None same marks = marks_apart before word b marks

free_again : (word : Borrowed) (next : Option ℕ) (other : Option Borrowed) → IsFree (again_from word next) other
free_again word (Some next) other = tt
free_again word None other = tt

second_look_stops : (before : List ℕ) (s : Standing) (word : Borrowed) (stopped : LookStop) (now : Machine) → Remains before s.borrowed now.memory → Again before s word now → Stands before (by_second_look s word stopped) now
second_look_stops before s word (Ok looked_end.Complete) now is a = again_ended before s word test.Tested now a
second_look_stops before s word (Ok (looked_end.NoWord gap)) now is a = record {
  ready = a.ready;
  memory = is;
  words = a.words;
  free = free_again word (in_bus gap) s.borrowed;
  touches = a.touches;
  at = again_on before word s.bus now.memory (in_bus gap) a.same a.marks;
}
second_look_stops before s word (Ok looked_end.GaveUp) now is a = again_ended before s word test.GaveUp now a
second_look_stops before s word (Err cut) now is a = again_ended before s word (test.CutOff cut) now a

second_look_stands : (options : MemoryOptions) (before : List ℕ) (word : Borrowed) (first : ℕ) (s after : Standing) (m now : Machine) (parts : List (List Item)) (lost : ℕ) → options.patience < 2 ^ 32 → IsAddress first → Remains before s.borrowed m.memory → Again before s word m →
    IsLookAgainStep options word first s after parts → AreHonest m parts lost now → Stands before after now
second_look_stands options before word first s after m now parts lost long is remains a t honest =
    let one : IsOnePart m now t.look_led.said = one_part m now parts t.look_led.said lost t.look_led.part honest in
    let d : Looked m now word.address first t.last = looked options word.address first t.last t.stop parts m now one.lost long is t.look_led a.ready one.honest in
    let found : List ℕ = reading word.old t.last.addresses t.last.values in
    subst (λ (x : Standing). Stands before x now) (sym t.after_is)
    (second_look_stops before (with_returned s word t.last) word t.stop now (subst (Remains before s.borrowed) (sym d.memory) remains) (record {
      ready = d.ready;
      words = a.words;
      touches = a.touches;
      same = d.memory ∙ a.same;
      marks = record {
        marked = a.marks.marked;
        returned = All-append (λ (x : ℕ). word_at before x ≡ word.old) s.bus.returned found a.marks.returned (returned_hold before word.address first m now t.last a.same d word.old);
      };
    }))

-- ---- all of it

-- what stands behind a step, and what comes next
record StandsWithin (options : MemoryOptions) (before : List ℕ) (s : Standing) (now : Machine) : Type 0 where
  pub stands : Stands before s now
  pub within : IsWithin options.to s.place
  pub are : AreWords s.words

named_within : (options : MemoryOptions) (before : List ℕ) (word : Borrowed) (s after : Standing) (m now : Machine) (parts : List (List Item)) (lost : ℕ) → IsLent before word m.memory × AreMarks before word s.bus →
    IsNamedStep options word s after parts → StandsWithin options before s m → AreHonest m parts lost now → StandsWithin options before after now
named_within options before word s after m now parts lost at t k honest = record {
  stands = named_stands options before word s after m now parts lost (record { ready = k.stands.ready; words = k.stands.words; touches = k.stands.touches; lent = at.0; marks = at.1 }) t honest;
  within = subst (λ (x : Standing). IsWithin options.to x.place) (sym t.after_is) (stopped_within options.to s word t.stop);
  are = subst AreWords (sym (ap (λ (x : Standing). x.words) t.after_is ∙ stopped_words s word t.stop)) k.are;
}

step_stands : (options : MemoryOptions) (before : List ℕ) (place : Place) (s after : Standing) (m now : Machine) (parts : List (List Item)) (lost : ℕ) → options.patience < 2 ^ 32 → IsAsked options → s.place ≡ place →
    IsStepAt options place s after parts → StandsWithin options before s m → AreHonest m parts lost now → StandsWithin options before after now
step_stands options before (Trying at) s after m now parts lost long asked is t k honest =
    let range : IsRange at options.to = subst (IsWithin options.to) is k.within in
    let none : s.borrowed ≡ None = subst (λ (place : Place). IsFree place s.borrowed) is k.stands.free in
    let unread : IsUnread s.bus = subst (λ (place : Place). AtPlace before place s.bus m.memory) is k.stands.at in
    record {
      stands = try_stands options before at s after m now parts lost long range none unread t k.stands honest;
      within = subst (λ (x : Standing). IsWithin options.to x.place) (sym t.after_is) (trial_within options.to s t.f (subst (λ n. IsRange n options.to) (sym t.tried.address) range));
      are = subst AreWords (sym (ap (λ (x : Standing). x.words) t.after_is ∙ trial_words options.to s t.f)) k.are;
    }
step_stands options before (Testing at) s after m now parts lost long asked is t k honest =
    let range : IsRange at options.to = subst (IsWithin options.to) is k.within in
    let none : s.borrowed ≡ None = subst (λ (place : Place). IsFree place s.borrowed) is k.stands.free in
    let unread : IsUnread s.bus = subst (λ (place : Place). AtPlace before place s.bus m.memory) is k.stands.at in
    let asked_for : AreAddresses t.last.addresses = test_asked options at t.last t.stop parts long asked.some range t.test_led in
    let reached : AreWords (behind_test options.to s t.last t.stop).words = test_words options.to s t.last t.stop k.are asked_for in
    record {
      stands = test_stands options before at s after m now parts lost long asked.some range none unread k.are t k.stands honest;
      within = subst (λ (x : Standing). IsWithin options.to x.place) (sym t.after_is)
          (then_within options.to options.every (behind_test options.to s t.last t.stop) reached (test_within options.to s t.last t.stop range.to_is));
      are = subst (λ (x : Standing). AreWords x.words) (sym t.after_is) (then_are options.every (behind_test options.to s t.last t.stop) reached);
    }
step_stands options before (Marking word place) s after m now parts lost long asked is (inr t) k honest =
    named_within options before word s after m now parts lost (subst (λ (place : Place). AtPlace before place s.bus m.memory) is k.stands.at) t k honest
step_stands options before (Looking word first) s after m now parts lost long asked is (inr t) k honest =
    named_within options before word s after m now parts lost (subst (λ (place : Place). AtPlace before place s.bus m.memory) is k.stands.at) t k honest
step_stands options before (Marking word place) s after m now parts lost long asked is (inl t) k honest =
    let at = subst (λ (place : Place). AtPlace before place s.bus m.memory) is k.stands.at in
    record {
      stands = mark_stands options before word place s after m now parts lost (record { ready = k.stands.ready; words = k.stands.words; touches = k.stands.touches; lent = at.0; marks = at.1 }) t honest;
      within = subst (λ (x : Standing). IsWithin options.to x.place) (sym t.after_is) (mark_within options.to place s word t.stop (subst (IsWithin options.to) is k.within));
      are = subst AreWords (sym (ap (λ (x : Standing). x.words) t.after_is ∙ mark_words place s word t.stop)) k.are;
    }
step_stands options before (Looking word first) s after m now parts lost long asked is (inl t) k honest =
    let at = subst (λ (place : Place). AtPlace before place s.bus m.memory) is k.stands.at in
    let within = subst (IsWithin options.to) is k.within in
    let lends : s.borrowed ≡ Some word = subst (λ (place : Place). IsFree place s.borrowed) is k.stands.free in
    record {
      stands = look_stands options before word first s after m now parts lost long within.1 lends (record { ready = k.stands.ready; words = k.stands.words; touches = k.stands.touches; lent = at.0; marks = at.1 }) t honest;
      within = subst (λ (x : Standing). IsWithin options.to x.place) (sym t.after_is) (look_within options.to s word t.last t.stop within.0);
      are = subst AreWords (sym (ap (λ (x : Standing). x.words) t.after_is ∙ look_words s word t.last t.stop)) k.are;
    }
step_stands options before (PuttingBack word) s after m now parts lost long asked is t k honest =
    let at = subst (λ (place : Place). AtPlace before place s.bus m.memory) is k.stands.at in
    record {
      stands = put_back_stands options before word s after m now parts lost (record { ready = k.stands.ready; words = k.stands.words; touches = k.stands.touches; lent = at.0; marks = at.1 }) t honest;
      within = subst (λ (x : Standing). IsWithin options.to x.place) (sym t.after_is) (put_back_within options.to s word t.stop);
      are = subst AreWords (sym (ap (λ (x : Standing). x.words) t.after_is ∙ put_back_words s word t.stop)) k.are;
    }
step_stands options before (LookingAgain word first) s after m now parts lost long asked is t k honest =
    let at = subst (λ (place : Place). AtPlace before place s.bus m.memory) is k.stands.at in
    record {
      stands = second_look_stands options before word first s after m now parts lost long (subst (IsWithin options.to) is k.within) k.stands.memory
          (record { ready = k.stands.ready; words = k.stands.words; touches = k.stands.touches; same = at.0; marks = at.1 }) t honest;
      within = subst (λ (x : Standing). IsWithin options.to x.place) (sym t.after_is) (second_look_within options.to s word t.last t.stop);
      are = subst AreWords (sym (ap (λ (x : Standing). x.words) t.after_is ∙ second_look_words s word t.last t.stop)) k.are;
    }
step_stands options before (Over end) s after m now parts lost long asked is t k honest =
    subst (λ (x : Standing). StandsWithin options before x now) (sym t.0)
    (subst (λ (x : Machine). StandsWithin options before s x) (sym (subst (λ list. AreHonest m list lost now) t.1 honest).0) k)

steps_stand : (n : ℕ) (options : MemoryOptions) (first last : Standing) (machine now : Machine) (parts : List (List Item)) (lost : ℕ) → options.patience < 2 ^ 32 → IsAsked options → StandsWithin options machine.memory first machine →
    AreSteps n options first last parts → AreHonest machine parts lost now → StandsWithin options machine.memory last now
steps_stand zero options first last machine now parts lost long asked k steps honest =
    subst (λ (x : Standing). StandsWithin options machine.memory x now) (sym steps.0)
    (subst (λ (x : Machine). StandsWithin options machine.memory first x) (sym (subst (λ list. AreHonest machine list lost now) steps.1 honest).0) k)
steps_stand (suc n) options first last machine now parts lost long asked k (between, front, more, steps, step, all) honest =
    let s = split machine now front more lost (subst (λ list. AreHonest machine list lost now) all honest) in
    let mid : StandsWithin options machine.memory between s.0 = steps_stand n options first between machine s.0 front s.1 long asked k steps s.3 in
    step_stands options machine.memory between.place between last s.0 now more s.2 long asked refl step mid s.4

pub believes : (options : MemoryOptions) (last : Standing) (parts : List (List Item)) → options.patience < 2 ^ 32 → IsAsked options → IsRow options (begun options.from) last parts → AreBelievable last parts
believes options last parts long asked row machine now lost ready honest =
    let k : StandsWithin options machine.memory (begun options.from) machine = record {
      stands = record { ready = ready; memory = refl; words = All-nil (λ (word : Word). IsTrueOf machine.memory word.address word.seen); free = refl; touches = refl; at = (refl, refl) };
      within = asked.range;
      are = All-nil (λ (word : Word). IsAddress word.address);
    } in
    let l : StandsWithin options machine.memory last now = steps_stand most_steps options (begun options.from) last machine now parts lost long asked k row honest in
    record { memory = l.stands.memory; words = l.stands.words; touches = l.stands.touches; same = sound last.place last.bus now.memory l.stands.at }
  where
    sound : (place : Place) (b : BusFound) (memory : List ℕ) → AtPlace machine.memory place b memory → same_words b ≡ []
    sound (Trying address) b memory at = unread_apart b at
    sound (Testing address) b memory at = unread_apart b at
    sound (Marking word place) b memory at = marks_apart machine.memory word b at.1
    sound (Looking word first) b memory at = marks_apart machine.memory word b at.1
    sound (PuttingBack word) b memory at = marks_apart machine.memory word b at.1
    sound (LookingAgain word first) b memory at = marks_apart machine.memory word b at.1
    sound (Over end) b memory at = at
