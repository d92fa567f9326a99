-- The world of a reading host beside the world of the loading host that does the same. A second look at a word the loading host takes for a first
-- one, so it keeps books of its own.
use Rattle.std.proofs.Common.{◌≡◌, ℕ, ◌+◌, ◌-◌, ◌*◌, ◌^◌, ◌<◌, ◌≤◌, Bool, true, false, ltb, nat_lt, ◌==◌, ◌||◌, if◌then◌else◌, min, List, [], ◌∷◌, length, get_or, Option, Some, None, unwrap_or, inl, inr, refl, arith, ap, sym, subst, ◌∙◌, length-take}
use Rattle.std.specs.Prelude.{◌⊎◌, option_to_list}
use Rattle.std.proofs.Math.Nat.{le-min, min-le_left, min-le_right}
use Rattle.std.proofs.lemmas.Bool.Decides.{nat_tests}
use Rattle.std.proofs.lemmas.List.{get_or-take, get_or_push, get_or_append_left, length_push}
use Rattle.octal.specs.Octal.{head}
use Rattle.tape_image.specs.Memory.{top_of}
use Rattle.tape_image.specs.Word.{WordValue, merged}
use Rattle.tape_image.specs.Plan.{IsPlan}
use Rattle.odt_machine.specs.Machine.{Machine, IsMachine, is_word, word_at}
use Rattle.odt_machine.specs.Laws.{is_running}
use Rattle.odt_machine.specs.declared.mode.Mode.{Mode}
use Rattle.odt_machine.specs.declared.mode.Mode.TheVariants.{Prompt, Opened}
use Rattle.host_core.specs.declared.answers.Reply.{Reply}
use Rattle.host_core.specs.declared.answers.Reply.TheVariants.{On, Over, Wrong}
use Rattle.host_core.specs.declared.answers.Reading.{Reading}
use Rattle.host_core.specs.declared.heard.Heard.TheVariants.{Got, Quiet as Silence}
use Rattle.host_core.specs.Answers.{resynchronise_reply, return_reply, digit_echo, reading_start, reading_rest}
use Rattle.host_core.specs.Core.{word_nr, begun as load_begun}
use Rattle.host_core.specs.Host.{IsHost, basis_of, PhaseFits}
use Rattle.host_core.proofs.Replies.{either, resynchronise_walk, return_walk, echo_walk, start_walk, rest_walk}
use Rattle.host_core.proofs.Turns.{begun_kept}
use Rattle.host_core.specs.PhaseTable.{Move}
use Rattle.line_world.specs.declared.event.Event.{Event}
use Rattle.line_world.specs.declared.event.Event.TheVariants.{Take, Hear, LoseDown, LoseUp, ChangeDown, ChangeUp, Quiet, Restart}
use Rattle.line_world.specs.Scene.{Scene, over as load_over, over_when, toll_of}
use Rattle.line_world.specs.Wire.{without_down, without_up, forgiven, heard, sent as sent_on}
use Rattle.line_world.specs.World.{happens as load_happens, renewing}
use Rattle.line_world.proofs.Stepped.{stepped as load_stepped}
use Rattle.line_world.specs.Opening.{opened as load_opened}
use Rattle.line_world.specs.Site.{Site, site, site_of, held_number, IsThere, last_digits, ground, prompt_from, reading as reading_of}
use Rattle.line_world.specs.Pending.{IsRemnant, RestFits}
use Rattle.line_world.specs.Invariant.{IsKept, InPhase}
use Rattle.line_world.specs.Safe.{OnlyImage}
use Rattle.line_world.proofs.Opening.{opening_kept}
use Rattle.line_world.proofs.Events.{kept_event, steps_event}
use Rattle.line_world.proofs.Explained.{never_foreign}
use Rattle.line_world.proofs.Stores.{same_or}
use Rattle.reading_core.specs.declared.care.Care.{Care}
use Rattle.reading_core.specs.declared.care.Care.TheVariants.{Once, Twice, TwiceWhereOther}
use Rattle.reading_core.specs.declared.phase.Phase.{Phase}
use Rattle.reading_core.specs.declared.phase.Phase.TheVariants.{Settle, Sync, Address, Slash, Before, Value, Close, Refused, Ended}
use Rattle.reading_core.specs.declared.phase.End.TheVariants.{Complete, NoWord}
use Rattle.reading_core.specs.declared.turn.Turn.{Turn}
use Rattle.reading_core.specs.declared.turn.Turn.TheVariants.{Listen, Key, Read, Again, Next, Stop, Stray, Timeout}
use Rattle.reading_core.specs.Addresses.{AreAddresses}
use Rattle.reading_core.specs.Reader.{Manner, Reader, address_under_way, begun_in, looks_twice, restarted}
use Rattle.reading_core.specs.ReadingTable.{ReaderStep, Target, ask, taken, turn_of, hears as hears_row, waits, synced, addressed, doubts, judged, questioned, reads, closed, refused, target_of}
use Rattle.line_world.specs.Scene.{wire_of, over}
use Rattle.line_world.specs.Happening.{takes, host_hears, times_out}
use Rattle.looking_law.specs.Inquiry.{Inquiry, happens, opened, reading}
use Rattle.looking_law.specs.Harmless.{HoldsRead}
use Rattle.looking_law.proofs.Saying.{plan_for, words_for, word_for, image_for, nr_for, length_for, is_plan, unchanged, merged_for}
use Rattle.looking_law.proofs.Loading.{core_for, move_for, move_is, next_for_turn, under_way_for, GoesOn, IsRight, IsWholeAnswer, foreign_for, ReadBefore, begun_for, restarted_for}
use Rattle.reading_core.specs.Foreign.{count_after, is_foreign, phase_for}
use borrow.Author.Tests.{eqb-true}

not_both : (b : Bool) → b ≡ true → b ≡ false → ⊥
not_both b e f = cc

-- the same world with a loading host at the end of the line
abbrev pub as_load : List ℕ → Inquiry → Scene
as_load memory w = record { machine = w.machine; core = core_for memory w.core; down = w.down; up = w.up; lost = w.lost; changed = false }

-- the world as the loading host keeps its books: it may have sent and lost another number of characters, since it looks at no word twice
abbrev pub booked : Inquiry → (sent lost : ℕ) → Inquiry
booked w sent lost = record { machine = w.machine; core = record w.core { sent = sent }; down = w.down; up = w.up; lost = lost; changed = false }

-- each number that was read is what memory holds at its address
abbrev Holds : List ℕ → Reader → Type 0
Holds memory r = (i : ℕ) → i < length r.values → get_or r.values i 0 ≡ word_at memory (get_or r.addresses i 0)

-- a `?` for a reading came of an address past the memory
abbrev RefusedIsPast : List ℕ → Reader → Phase → Type 0
RefusedIsPast memory r (Refused place) = (length r.values < length r.addresses) × (top_of memory ≤ address_under_way r)
RefusedIsPast memory r phase = Unit {0}

-- the loading host's invariant holds, by books of its own; of a host that looks at each word once they are the same
pub record IsBooked (memory : List ℕ) (w : Inquiry) : Type 0 where
  pub sent : ℕ
  pub lost : ℕ
  pub less : lost ≤ w.lost
  pub exact : looks_twice w.core.manner.care ≡ false → (sent ≡ w.core.sent) × (lost ≡ w.lost)
  pub kept : IsKept (as_load memory (booked w sent lost))

-- what lasts: memory is what it was, the loading host's invariant holds, and so do the numbers, also that of an earlier look
pub record IsMirrored (memory : List ℕ) (w : Inquiry) : Type 0 where
  pub same : w.machine.memory ≡ memory
  pub calm : w.changed ≡ false
  pub books : IsBooked memory w
  pub holds : Holds memory w.core
  pub earlier : ReadBefore w.core.earlier (word_at memory (address_under_way w.core))
  pub refused : RefusedIsPast memory w.core w.core.phase

-- ---- a number that is about to be read is the word's

-- the last character of a reading comes with nothing behind it
last_of : (c : ℕ) (up : List ℕ) (rest : List ℕ) → rest ≡ 32 ∷ [] → IsRemnant (c ∷ up) rest → c ∷ up ≡ rest
last_of c [] rest e part = elim (subst (λ xs. IsRemnant (c ∷ []) xs) e part) [
  | inl here ↦ ap (λ x. x ∷ []) here.0 ∙ sym e
  | inr there ↦ absurd there
]
last_of c (d ∷ up) rest e part = elim (subst (λ xs. IsRemnant (c ∷ d ∷ up) xs) e part) [
  | inl here ↦ absurd here.1
  | inr there ↦ absurd there
]

-- a reading with its six digits
whole_value : (t : Site) (v p : ℕ) (mode new : Mode) (c : ℕ) (up : List ℕ) → p ≡ 6 → RestFits new (last_digits (held_number t) (6 - p)) mode (c ∷ up) →
    (c ∷ up ≡ last_digits (held_number t) (6 - p) → v ≡ head (held_number t) p) → v ≡ held_number t
whole_value t v p mode new c up six fits value =
    let none : 6 - p ≡ 0 = omega (arith, six) in
    value (last_of c up (last_digits (held_number t) (6 - p)) (ap (last_digits (held_number t)) none) fits.1) ∙ ap (head (held_number t)) six

-- a number that is about to be read is what memory holds
abbrev IsHeld : List ℕ → Reader → Phase → ℕ → Type 0
IsHeld memory r (Value value place) c = 6 ≤ place → c ≡ 32 → value ≡ word_at memory (address_under_way r)
IsHeld memory r phase c = Unit {0}

reads_word : (memory : List ℕ) (w : Inquiry) (value place c : ℕ) (up : List ℕ) → w.machine.memory ≡ memory → ReadBefore w.core.earlier (word_at memory (address_under_way w.core)) →
    PhaseFits (phase_for (Value value place)) (basis_of (core_for memory w.core)) → InPhase (phase_for (Value value place)) (ground (as_load memory w)) (site (as_load memory w)) w.down (c ∷ up) w.core.patience w.core.spent (toll_of (as_load memory w)) →
    IsRight (target_of w.core) (Value value place) c (word_nr (words_for memory w.core.addresses) (length w.core.values)) × IsHeld memory w.core (Value value place) c
reads_word memory w v p c up same before fits live = (λ six blank. (ap (λ (x : WordValue). merged x v) is ∙ (merged_for memory (address_under_way w.core) v ∙ sym (held six)), subst (ReadBefore w.core.earlier) (sym (held six)) before), λ six blank. held six)
  where
    is : word_nr (words_for memory w.core.addresses) (length w.core.values) ≡ word_for memory (address_under_way w.core)
    is = nr_for memory w.core.addresses (length w.core.values) (subst (λ n. length w.core.values < n) (length_for memory w.core.addresses) fits.0)

    held : 6 ≤ p → v ≡ word_at memory (address_under_way w.core)
    held six =
        let number : v ≡ held_number (site (as_load memory w)) = whole_value (site (as_load memory w)) v p w.machine.mode _ c up (omega (arith, six, fits.1)) live.rest live.facts.2 in
        number ∙ (ap (λ (x : WordValue). word_at w.machine.memory x.address) is ∙ ap (λ m. word_at m (address_under_way w.core)) same)

-- ---- the numbers

-- a number that a turn takes, or is to read once more, is this one
abbrev Takes : Turn → ℕ → Type 0
Takes (Read value) x = value ≡ x
Takes (Again value) x = value ≡ x
Takes turn x = Unit {0}

sync_takes : (x place c : ℕ) → Takes (synced (resynchronise_reply place c)) x
sync_takes x place c = resynchronise_walk (λ r. Takes (synced r) x) place c tt (λ _ _. tt) (λ _. tt)

close_takes : (x place c : ℕ) → Takes (closed (return_reply place c)) x
close_takes x place c = return_walk (λ r. Takes (closed r) x) place c tt (λ _ _. tt) (λ _. tt)

refused_takes : (x address place c : ℕ) → Takes (refused address (return_reply place c)) x
refused_takes x address place c = return_walk (λ r. Takes (refused address r) x) place c tt (λ _ _. tt) (λ _. tt)

address_takes : (x address place c : ℕ) → Takes (addressed place (digit_echo address place c)) x
address_takes x address place c = echo_walk (λ e. Takes (addressed place e) x) address place c tt (λ _ _. tt) (λ _ _. tt)

questioned_takes : (x : ℕ) (twice : Bool) (address : ℕ) → Takes (questioned twice address) x
questioned_takes x true address = tt
questioned_takes x false address = tt

judged_takes : (x : ℕ) (earlier : Option ℕ) (doubted : Bool) (number : ℕ) → number ≡ x → Takes (judged earlier doubted number) x
judged_takes x None true number is = is
judged_takes x None false number is = is
judged_takes x (Some first) doubted number is = either (λ t. Takes t x) (number == first) _ _ (λ _. is) (λ _. tt)

before_takes : (x : ℕ) (t : Target) (c : ℕ) → Takes (reads t (reading_start c)) x
before_takes x t c = start_walk (λ reading. Takes (reads t reading) x) c tt tt (questioned_takes x (looks_twice t.care) t.address) (λ _ _. tt)

value_takes : (x : ℕ) (t : Target) (value place c : ℕ) → (6 ≤ place → c ≡ 32 → value ≡ x) → Takes (reads t (reading_rest value place c)) x
value_takes x t value place c right =
    rest_walk (λ reading. Takes (reads t reading) x) value place c tt (λ _ _ _. tt) (λ _ _ _. tt) (λ all blank. judged_takes x t.earlier (doubts t.care t.expected value) value (right all (eqb-true _ _ blank)))

silence_takes : (x : ℕ) (phase : Phase) → Takes (waits phase) x
silence_takes x Settle = tt
silence_takes x (Sync place) = tt
silence_takes x (Address place) = tt
silence_takes x Slash = tt
silence_takes x Before = tt
silence_takes x (Value value place) = tt
silence_takes x (Close place) = tt
silence_takes x (Refused place) = tt
silence_takes x (Ended end) = tt

-- what a phase knows beside the numbers goes on in the phase after a turn, and only a host that looks twice reads a number once more
abbrev GoesOnPast : List ℕ → Reader → Turn → Type 0
GoesOnPast memory r (Listen phase) = RefusedIsPast memory r phase
GoesOnPast memory r (Key key phase) = RefusedIsPast memory r phase
GoesOnPast memory r (Again value) = looks_twice r.manner.care ≡ true
GoesOnPast memory r turn = Unit {0}

-- the numbers, and what else a reader knows
record Knows (memory : List ℕ) (r : Reader) : Type 0 where
  pub holds : Holds memory r
  pub earlier : ReadBefore r.earlier (word_at memory (address_under_way r))
  pub refused : RefusedIsPast memory r r.phase

knows_if : (memory : List ℕ) (test : Bool) (a b : ReaderStep) → Knows memory a.next → Knows memory b.next → Knows memory (if test then a else b).next
knows_if memory true a b one other = one
knows_if memory false a b one other = other

knows_after : (memory : List ℕ) (r : Reader) (turn : Turn) → Takes turn (word_at memory (address_under_way r)) → GoesOnPast memory r turn → Knows memory r → Knows memory (taken r turn).next
knows_after memory r (Listen phase) t past k = record { holds = k.holds; earlier = k.earlier; refused = past }
knows_after memory r (Key key phase) t past k = record { holds = k.holds; earlier = k.earlier; refused = past }
knows_after memory r (Read value) t past k = record {
  holds = λ i low. elim (same_or i (length r.values)) [
    | inl same ↦ get_or_push r.values value 0 i (sym same) ∙ (t ∙ ap (λ k. word_at memory (get_or r.addresses k 0)) (sym same))
    | inr apart ↦
        let below : i < length r.values = omega (arith, low, length_push r.values value, apart) in
        get_or_append_left r.values (value ∷ []) 0 i below ∙ k.holds i below
  ];
  earlier = tt;
  refused = tt;
}
knows_after memory r (Again value) t past k = record { holds = k.holds; earlier = sym t; refused = tt }
knows_after memory r Next t past k =
    knows_if memory (nat_lt (length r.values) (length r.addresses)) _ _ (record { holds = k.holds; earlier = k.earlier; refused = tt }) (record { holds = k.holds; earlier = k.earlier; refused = tt })
knows_after memory r (Stop end) t past k = record { holds = k.holds; earlier = k.earlier; refused = tt }
knows_after memory r Stray t past k =
    knows_if memory (nat_lt r.spent r.patience) _ _ (record { holds = k.holds; earlier = tt; refused = tt }) (record { holds = k.holds; earlier = k.earlier; refused = tt })
knows_after memory r Timeout t past k =
    knows_if memory (nat_lt r.spent r.patience) _ _ (record { holds = k.holds; earlier = tt; refused = tt }) (record { holds = k.holds; earlier = k.earlier; refused = tt })

-- ---- what is heard

-- a character that is heard is right, a number that it completes is the word's, and what is known beside the numbers goes on
record IsOrdinary (memory : List ℕ) (r : Reader) (phase : Phase) (c : ℕ) : Type 0 where
  pub right : IsRight (target_of r) phase c (word_nr (words_for memory r.addresses) (length r.values))
  pub takes : Takes (hears_row (target_of r) phase c) (word_at memory (address_under_way r))
  pub past : GoesOnPast memory r (hears_row (target_of r) phase c)

-- a host that looks twice hears a `?` for a reading
abbrev Asks : Reader → Phase → ℕ → Type 0
Asks r phase c = (phase ≡ Before) × (c ≡ 63) × (looks_twice r.manner.care ≡ true)

-- it hears the end of a refusal
abbrev Ends : Phase → ℕ → Type 0
Ends phase c = (place : ℕ) × (phase ≡ Refused place) × (return_reply place c ≡ Over)

sync_past : (memory : List ℕ) (r : Reader) (place c : ℕ) → GoesOnPast memory r (synced (resynchronise_reply place c))
sync_past memory r place c = resynchronise_walk (λ reply. GoesOnPast memory r (synced reply)) place c tt (λ _ _. tt) (λ _. tt)

close_past : (memory : List ℕ) (r : Reader) (place c : ℕ) → GoesOnPast memory r (closed (return_reply place c))
close_past memory r place c = return_walk (λ reply. GoesOnPast memory r (closed reply)) place c tt (λ _ _. tt) (λ _. tt)

refused_past : (memory : List ℕ) (r : Reader) (address place c : ℕ) → RefusedIsPast memory r (Refused place) → GoesOnPast memory r (refused address (return_reply place c))
refused_past memory r address place c past = return_walk (λ reply. GoesOnPast memory r (refused address reply)) place c tt (λ _ _. past) (λ _. tt)

address_past : (memory : List ℕ) (r : Reader) (address place c : ℕ) → GoesOnPast memory r (addressed place (digit_echo address place c))
address_past memory r address place c = echo_walk (λ e. GoesOnPast memory r (addressed place e)) address place c tt (λ _ _. tt) (λ _ _. tt)

doubts_twice : (care : Care) (word : WordValue) (number : ℕ) → doubts care word number ≡ true → looks_twice care ≡ true
doubts_twice Once word number e = e
doubts_twice Twice word number e = refl
doubts_twice TwiceWhereOther word number e = refl

judged_past : (memory : List ℕ) (r : Reader) (earlier : Option ℕ) (doubted : Bool) (number : ℕ) → (doubted ≡ true → looks_twice r.manner.care ≡ true) → GoesOnPast memory r (judged earlier doubted number)
judged_past memory r None true number twice = twice refl
judged_past memory r None false number twice = tt
judged_past memory r (Some first) doubted number twice = either (GoesOnPast memory r) (number == first) _ _ (λ _. tt) (λ _. tt)

value_past : (memory : List ℕ) (r : Reader) (value place c : ℕ) → GoesOnPast memory r (reads (target_of r) (reading_rest value place c))
value_past memory r value place c =
    rest_walk (λ reading. GoesOnPast memory r (reads (target_of r) reading)) value place c tt (λ _ _ _. tt) (λ _ _ _. tt)
    (λ _ _. judged_past memory r r.earlier (doubts r.manner.care (target_of r).expected value) value (doubts_twice r.manner.care (target_of r).expected value))

question_past : (memory : List ℕ) (r : Reader) (twice : Bool) (c : ℕ) → (c == 63) ≡ true → IsWholeAnswer twice c → GoesOnPast memory r (questioned twice (address_under_way r))
question_past memory r false c is whole = tt
question_past memory r true c is (inl never) = absurd (cc never)
question_past memory r true c is (inr other) = absurd (not_both (c == 63) is other)

before_past : (memory : List ℕ) (r : Reader) (c : ℕ) → IsWholeAnswer (looks_twice r.manner.care) c → GoesOnPast memory r (reads (target_of r) (reading_start c))
before_past memory r c whole =
    either P (c == 32) _ _ (λ _. tt) (λ _. either P (c == 63) _ _ (λ is. question_past memory r (looks_twice r.manner.care) c is whole) (λ _. either P (c == 48 || c == 49) _ _ (λ _. tt) (λ _. tt)))
  where
    P : Reading → Type 0
    P reading = GoesOnPast memory r (reads (target_of r) reading)

-- either it is ordinary, or a host that looks twice hears of a refusal
abbrev Outcome : List ℕ → Reader → Phase → ℕ → Type 0
Outcome memory r phase c = IsOrdinary memory r phase c ⊎ (Asks r phase c ⊎ Ends phase c)

before_outcome : (memory : List ℕ) (r : Reader) (c : ℕ) (twice asked : Bool) → looks_twice r.manner.care ≡ twice → (c == 63) ≡ asked → Outcome memory r Before c
before_outcome memory r c false asked once is = inl (record { right = inl once; takes = before_takes _ (target_of r) c; past = before_past memory r c (inl once) })
before_outcome memory r c true false twice is = inl (record { right = inr is; takes = before_takes _ (target_of r) c; past = before_past memory r c (inr is) })
before_outcome memory r c true true twice is = inr (inl (refl, eqb-true _ _ is, twice))

goes_on : (reply other : Reply) → reply ≡ other → GoesOn other → GoesOn reply
goes_on reply other is on = subst GoesOn (sym is) on

refused_outcome : (memory : List ℕ) (r : Reader) (place c : ℕ) (reply : Reply) → return_reply place c ≡ reply → RefusedIsPast memory r (Refused place) → Outcome memory r (Refused place) c
refused_outcome memory r place c (On k) is past = inl (record { right = goes_on (return_reply place c) (On k) is tt; takes = refused_takes _ (address_under_way r) place c; past = refused_past memory r (address_under_way r) place c past })
refused_outcome memory r place c Over is past = inr (inr (place, refl, is))
refused_outcome memory r place c Wrong is past = inl (record { right = goes_on (return_reply place c) Wrong is tt; takes = refused_takes _ (address_under_way r) place c; past = refused_past memory r (address_under_way r) place c past })

outcome : (memory : List ℕ) (w : Inquiry) (phase : Phase) (c : ℕ) (up : List ℕ) → w.machine.memory ≡ memory → ReadBefore w.core.earlier (word_at memory (address_under_way w.core)) → RefusedIsPast memory w.core phase →
    PhaseFits (phase_for phase) (basis_of (core_for memory w.core)) → InPhase (phase_for phase) (ground (as_load memory w)) (site (as_load memory w)) w.down (c ∷ up) w.core.patience w.core.spent (toll_of (as_load memory w)) → Outcome memory w.core phase c
outcome memory w Settle c up same before past fits live = inl (record { right = tt; takes = tt; past = tt })
outcome memory w (Sync place) c up same before past fits live = inl (record { right = tt; takes = sync_takes _ place c; past = sync_past memory w.core place c })
outcome memory w (Address place) c up same before past fits live = inl (record { right = tt; takes = address_takes _ (address_under_way w.core) place c; past = address_past memory w.core (address_under_way w.core) place c })
outcome memory w Slash c up same before past fits live =
    inl (record { right = tt; takes = either (λ t. Takes t (word_at memory (address_under_way w.core))) (c == 47) _ _ (λ _. tt) (λ _. tt); past = either (GoesOnPast memory w.core) (c == 47) _ _ (λ _. tt) (λ _. tt) })
outcome memory w Before c up same before past fits live = before_outcome memory w.core c (looks_twice w.core.manner.care) (c == 63) refl refl
outcome memory w (Value value place) c up same before past fits live =
    let right = reads_word memory w value place c up same before fits live in
    inl (record { right = right.0; takes = value_takes _ (target_of w.core) value place c right.1; past = value_past memory w.core value place c })
outcome memory w (Close place) c up same before past fits live = inl (record { right = tt; takes = close_takes _ place c; past = close_past memory w.core place c })
outcome memory w (Refused place) c up same before past fits live = refused_outcome memory w.core place c (return_reply place c) refl past
outcome memory w (Ended end) c up same before past fits live = inl (record { right = tt; takes = tt; past = tt })

-- ---- the books

-- the world of a reader where no key is under way
abbrev quiet : Machine → Reader → List ℕ → ℕ → Inquiry
quiet m r up lost = record { machine = m; core = r; down = []; up = up; lost = lost; changed = false }

-- and behind a step of it
abbrev behind : Machine → List ℕ → ℕ → ReaderStep → Inquiry
behind m up lost a = over a.next (sent_on (record { machine = m; down = []; up = up; lost = lost }) (option_to_list a.key))

-- the loading host's world behind a step of it, at a line that has changed no character
abbrev load_behind : Scene → List ℕ → Move → Scene
load_behind w up step = load_over step.next (sent_on (heard (wire_of w) up) (option_to_list step.key))

still_calm : (begins : Bool) → (if begins then false else false) ≡ false
still_calm true = refl
still_calm false = refl

calmly : (w : Scene) (up : List ℕ) (step : Move) → w.changed ≡ false → IsKept (load_stepped w up step) → IsKept (load_behind w up step)
calmly w up step calm k =
    subst (λ b. IsKept (over_when b step.next (sent_on (heard (wire_of w) up) (option_to_list step.key))))
    (ap (λ hurt. if renewing step.key step.next.phase then false else hurt) calm ∙ still_calm (renewing step.key step.next.phase)) k

-- where the loading host's books may be kept behind its step, the reader's may
abbrev KeepsBooks : List ℕ → Machine → List ℕ → (lost real : ℕ) → (booked a : ReaderStep) → Type 0
KeepsBooks memory m up lost real booked a = IsKept (as_load memory (behind m up lost booked)) → IsBooked memory (behind m up real a)

books_if : (memory : List ℕ) (m : Machine) (up : List ℕ) (lost real : ℕ) (test : Bool) (b a b' a' : ReaderStep) →
    KeepsBooks memory m up lost real b a → KeepsBooks memory m up lost real b' a' → KeepsBooks memory m up lost real (if test then b else b') (if test then a else a')
books_if memory m up lost real true b a b' a' one other = one
books_if memory m up lost real false b a b' a' one other = other

-- a number that is not believed yet: the loading host counts its word, the reader does not
again_books : (memory : List ℕ) (m : Machine) (r : Reader) (value : ℕ) (up : List ℕ) (sent lost real : ℕ) → lost ≤ real → looks_twice r.manner.care ≡ true →
    IsKept (load_behind (as_load memory (quiet m (record r { sent = sent }) up lost)) up (next_for_turn memory (record r { sent = sent }) (Again value))) →
    IsBooked memory (behind m up real (taken r (Again value)))
again_books memory m r value up sent lost real less twice k = record {
  sent = 1 + 22 * length r.values + 23 * r.spent;
  lost = min lost (r.spent + 1);
  less = omega (arith, less, min-le_left lost (r.spent + 1));
  exact = λ once. absurd (not_both (looks_twice r.manner.care) twice once);
  kept = record {
    machine = k.machine;
    host = record {
      image = k.host.image;
      within = omega (arith, k.host.within);
      patient = k.host.patient;
      long = k.host.long;
      fits = omega arith;
      mark = tt;
      paid = omega arith;
    };
    one_way = k.one_way;
    few = k.few;
    words = λ i low. k.words i (omega (arith, low));
    running = k.running;
    at_start = k.at_start;
    cared = λ e. absurd (cc e);
    spent = le-min k.spent (omega arith);
    characters = omega (arith, min-le_right lost (r.spent + 1), ap length k.one_way.1);
    phase = record { key = k.phase.key; rest = k.phase.rest; paid = tt; facts = tt };
  };
}

-- the books of a host that looks at each word once
abbrev Exact : Reader → (sent lost real : ℕ) → Type 0
Exact r sent lost real = looks_twice r.manner.care ≡ false → (sent ≡ r.sent) × (lost ≡ real)

-- one character more was sent
one_more : (r : Reader) (sent lost real : ℕ) → Exact r sent lost real → looks_twice r.manner.care ≡ false → (sent + 1 ≡ r.sent + 1) × (lost ≡ real)
one_more r sent lost real exact once = (ap (λ n. n + 1) (exact once).0, (exact once).1)

books_after : (memory : List ℕ) (m : Machine) (r : Reader) (turn : Turn) (up : List ℕ) (sent lost real : ℕ) → lost ≤ real → Exact r sent lost real → GoesOnPast memory r turn →
    IsKept (load_behind (as_load memory (quiet m (record r { sent = sent }) up lost)) up (next_for_turn memory (record r { sent = sent }) turn)) → IsBooked memory (behind m up real (taken r turn))
books_after memory m r (Listen phase) up sent lost real less exact past k = record { sent = sent; lost = lost; less = less; exact = exact; kept = k }
books_after memory m r (Key key phase) up sent lost real less exact past k = record { sent = sent + 1; lost = lost; less = less; exact = one_more r sent lost real exact; kept = k }
books_after memory m r (Read value) up sent lost real less exact past k = record { sent = sent + 1; lost = lost; less = less; exact = one_more r sent lost real exact; kept = k }
books_after memory m r (Again value) up sent lost real less exact past k = again_books memory m r value up sent lost real less past k
books_after memory m r Next up sent lost real less exact past k =
    books_if memory m up lost real (nat_lt (length r.values) (length r.addresses)) _ _ _ _ (λ k. record { sent = sent + 1; lost = lost; less = less; exact = one_more r sent lost real exact; kept = k })
    (λ k. record { sent = sent; lost = lost; less = less; exact = exact; kept = k }) k
books_after memory m r (Stop end) up sent lost real less exact past k = record { sent = sent; lost = lost; less = less; exact = exact; kept = k }
books_after memory m r Stray up sent lost real less exact past k =
    books_if memory m up lost real (nat_lt r.spent r.patience) _ _ _ _ (λ k. record { sent = sent; lost = lost; less = less; exact = exact; kept = k }) (λ k. record { sent = sent; lost = lost; less = less; exact = exact; kept = k }) k
books_after memory m r Timeout up sent lost real less exact past k =
    books_if memory m up lost real (nat_lt r.spent r.patience) _ _ _ _ (λ k. record { sent = sent + 1; lost = lost; less = less; exact = one_more r sent lost real exact; kept = k })
    (λ k. record { sent = sent; lost = lost; less = less; exact = exact; kept = k }) k

-- ---- a refusal

no_word_at : (memory : List ℕ) (a : ℕ) → top_of memory ≤ a → is_word memory a ≡ false
no_word_at memory a past = grind (arith, nat_tests)

rest_fits : (mode : Mode) (up rest : List ℕ) → mode ≡ Prompt → IsRemnant up rest → RestFits Prompt rest mode up
rest_fits mode [] rest is part = tt
rest_fits mode (c ∷ up) rest is part = (is, part)

part_peel : (c : ℕ) (u rest : List ℕ) → IsRemnant (c ∷ u) rest → IsRemnant u rest
part_peel c [] rest h = tt
part_peel c (x ∷ u) [] h = absurd h
part_peel c (x ∷ u) (y ∷ rest) (inl h) = inr h.1
part_peel c (x ∷ u) (y ∷ rest) (inr h) = inr (part_peel c (x ∷ u) rest h)

-- behind the first character
part_behind : (c : ℕ) (u rest : List ℕ) → IsRemnant (c ∷ u) (c ∷ rest) → IsRemnant u rest
part_behind c u rest (inl h) = h.1
part_behind c u rest (inr h) = part_peel c u rest h

whole_behind : (c : ℕ) (u rest : List ℕ) → c ∷ u ≡ c ∷ rest → u ≡ rest
whole_behind c u rest e = cc e

-- the loading host ends at a `?`; the reader awaits what is left of the refusal, as of an answer to CR
asked_books : (memory : List ℕ) (m : Machine) (r : Reader) (up : List ℕ) (sent lost real : ℕ) → lost ≤ real → looks_twice r.manner.care ≡ true → m.memory ≡ memory → IsKept (as_load memory (quiet m (record r { sent = sent; phase = Before }) (63 ∷ up) lost)) →
    RefusedIsPast memory r (Refused 0) × IsBooked memory (quiet m (record r { phase = Refused 0 }) up real)
asked_books memory m r up sent lost real less twice same k =
    let after = kept_event (as_load memory (quiet m (record r { sent = sent; phase = Before }) (63 ∷ up) lost)) Hear k in
    let t : Site = site (as_load memory (quiet m (record r { sent = sent; phase = Before }) (63 ∷ up) lost)) in
    let two : Bool = m.style.two_returns in
    let none : is_word m.memory t.word.address ≡ false = no_word_at m.memory t.word.address after.phase.1 in
    let is : reading_of t ≡ 63 ∷ prompt_from two 0 = ap (λ b. if b then (if m.style.space_before then 32 ∷ last_digits (held_number t) 6 else last_digits (held_number t) 6) else 63 ∷ prompt_from two 0) none in
    let part : IsRemnant (63 ∷ up) (63 ∷ prompt_from two 0) = subst (IsRemnant (63 ∷ up)) is k.phase.rest.1 in
    let mode : m.mode ≡ Prompt = k.phase.rest.0 ∙ ap (λ b. if b then Opened t.word.address else Prompt) none in
    let paid : (up ≡ prompt_from two 0) ⊎ (r.spent < min lost (r.spent + 1)) = elim k.phase.paid [
      | inl whole ↦ inl (whole_behind 63 up (prompt_from two 0) (whole ∙ is))
      | inr more ↦ inr (le-min more (omega arith))
    ] in (
      (subst (λ n. length r.values < n) (length_for memory r.addresses) k.host.fits.0, subst (λ a. top_of memory ≤ a) (under_way_for memory r.addresses (length r.values)) (subst (λ x. top_of x ≤ t.word.address) same after.phase.1)),
      record {
        sent = 1 + 22 * length r.values + 23 * r.spent;
        lost = min lost (r.spent + 1);
        less = omega (arith, less, min-le_left lost (r.spent + 1));
        exact = λ once. absurd (not_both (looks_twice r.manner.care) twice once);
        kept = record {
          machine = k.machine;
          host = record {
            image = k.host.image;
            within = k.host.within;
            patient = k.host.patient;
            long = k.host.long;
            fits = omega arith;
            mark = tt;
            paid = omega arith;
          };
          one_way = tt;
          few = omega (arith, k.few);
          words = k.words;
          running = k.running;
          at_start = k.at_start;
          cared = λ e. absurd (cc e);
          spent = le-min k.spent (omega arith);
          characters = omega (arith, min-le_right lost (r.spent + 1), k.few);
          phase = record { key = tt; rest = rest_fits m.mode up (prompt_from two 0) mode (part_behind 63 up (prompt_from two 0) part); paid = paid; facts = tt };
        };
      },
    )

-- behind the whole refusal both have ended
ended_books : (memory : List ℕ) (m : Machine) (r : Reader) (place c : ℕ) (up : List ℕ) (sent lost real : ℕ) → lost ≤ real → Exact r sent lost real → m.memory ≡ memory → RefusedIsPast memory r (Refused place) →
    IsKept (as_load memory (quiet m (record r { sent = sent; phase = Refused place }) (c ∷ up) lost)) → IsBooked memory (quiet m (record r { phase = Ended (NoWord (address_under_way r)) }) up real)
ended_books memory m r place c up sent lost real less exact same past k = record {
  sent = sent;
  lost = lost;
  less = less;
  exact = exact;
  kept = record {
    machine = k.machine;
    host = record {
      image = k.host.image;
      within = k.host.within;
      patient = k.host.patient;
      long = k.host.long;
      fits = (subst (λ n. length r.values < n) (sym (length_for memory r.addresses)) past.0, sym (under_way_for memory r.addresses (length r.values)));
      mark = tt;
      paid = omega (arith, k.host.paid);
    };
    one_way = tt;
    few = omega (arith, k.few);
    words = k.words;
    running = k.running;
    at_start = k.at_start;
    cared = λ e. absurd (cc e);
    spent = k.spent;
    characters = omega (arith, k.characters);
    phase = (tt, subst (λ x. top_of x ≤ address_under_way r) (sym same) past.1);
  };
}

-- ---- the events

knows : (memory : List ℕ) (w : Inquiry) → IsMirrored memory w → Knows memory w.core
knows memory w k = record { holds = k.holds; earlier = k.earlier; refused = k.refused }

mirrored_by : (memory : List ℕ) (w : Inquiry) → w.machine.memory ≡ memory → w.changed ≡ false → IsBooked memory w → Knows memory w.core → IsMirrored memory w
mirrored_by memory w same calm books k = record { same = same; calm = calm; books = books; holds = k.holds; earlier = k.earlier; refused = k.refused }

-- the reader in this phase
abbrev in_phase : Reader → Phase → Reader
in_phase r phase = record r { phase = phase }

hears_ordinary : (memory : List ℕ) (m : Machine) (r : Reader) (c : ℕ) (up : List ℕ) (real : ℕ) → IsOrdinary memory r r.phase c → IsMirrored memory (quiet m r (c ∷ up) real) → IsMirrored memory (behind m up real (taken r (turn_of r (Got c))))
hears_ordinary memory m r c up real o k =
    let b : IsBooked memory (quiet m r (c ∷ up) real) = k.books in
    let before : Scene = as_load memory (booked (quiet m r (c ∷ up) real) b.sent b.lost) in
    let next : IsKept (load_behind before up (next_for_turn memory (record r { sent = b.sent }) (turn_of r (Got c)))) =
    subst (λ mv. IsKept (load_behind before up mv)) (move_is memory (record r { sent = b.sent }) (Got c) o.right) (calmly before up _ refl (kept_event before Hear b.kept)) in
    mirrored_by memory (behind m up real (taken r (turn_of r (Got c)))) k.same refl (books_after memory m r (turn_of r (Got c)) up b.sent b.lost real b.less b.exact o.past next) (knows_after memory r (turn_of r (Got c)) o.takes o.past (knows memory _ k))

hears_question : (memory : List ℕ) (m : Machine) (r : Reader) (c : ℕ) (up : List ℕ) (real : ℕ) → c ≡ 63 → looks_twice r.manner.care ≡ true → IsMirrored memory (quiet m (in_phase r Before) (c ∷ up) real) →
    IsMirrored memory (behind m up real (taken (in_phase r Before) (turn_of (in_phase r Before) (Got c))))
hears_question memory m r c up real is twice k =
    let b : IsBooked memory (quiet m (in_phase r Before) (c ∷ up) real) = k.books in
    let asked = asked_books memory m r up b.sent b.lost real b.less twice k.same (subst (λ x. IsKept (as_load memory (quiet m (record r { sent = b.sent; phase = Before }) (x ∷ up) b.lost))) is b.kept) in
    let turn : turn_of (in_phase r Before) (Got c) ≡ Listen (Refused 0) = ap (λ x. turn_of (in_phase r Before) (Got x)) is ∙ ap (λ test. questioned test (address_under_way r)) twice in
    subst (λ t. IsMirrored memory (behind m up real (taken (in_phase r Before) t))) (sym turn) (mirrored_by memory (quiet m (in_phase r (Refused 0)) up real) k.same refl asked.1 (record { holds = k.holds; earlier = k.earlier; refused = asked.0 }))

hears_refusal : (memory : List ℕ) (m : Machine) (r : Reader) (place c : ℕ) (up : List ℕ) (real : ℕ) → return_reply place c ≡ Over → IsMirrored memory (quiet m (in_phase r (Refused place)) (c ∷ up) real) →
    IsMirrored memory (behind m up real (taken (in_phase r (Refused place)) (turn_of (in_phase r (Refused place)) (Got c))))
hears_refusal memory m r place c up real is k =
    let b : IsBooked memory (quiet m (in_phase r (Refused place)) (c ∷ up) real) = k.books in
    let turn : turn_of (in_phase r (Refused place)) (Got c) ≡ Stop (NoWord (address_under_way r)) = ap (refused (address_under_way r)) is in
    subst (λ t. IsMirrored memory (behind m up real (taken (in_phase r (Refused place)) t))) (sym turn)
    (mirrored_by memory (quiet m (in_phase r (Ended (NoWord (address_under_way r)))) up real) k.same refl (ended_books memory m r place c up b.sent b.lost real b.less b.exact k.same k.refused b.kept) (record { holds = k.holds; earlier = k.earlier; refused = tt }))

-- the same of a reader whose phase is this
phased : (P : Reader → Type 0) (r : Reader) (phase : Phase) → r.phase ≡ phase → P r → P (in_phase r phase)
phased P r phase is h = subst (λ x. P (in_phase r x)) is h

back_from : (P : Reader → Type 0) (r : Reader) (phase : Phase) → r.phase ≡ phase → P (in_phase r phase) → P r
back_from P r phase is h = subst (λ x. P (in_phase r x)) (sym is) h

-- in such a world nothing is heard that no loss explains, so that a step is what the table's turn does
never_unexplained : (memory : List ℕ) (m : Machine) (r : Reader) (c : ℕ) (up : List ℕ) (real : ℕ) → IsMirrored memory (quiet m r (c ∷ up) real) → is_foreign (address_under_way r) r.phase (Got c) ≡ false
never_unexplained memory m r c up real k =
    let b : IsBooked memory (quiet m r (c ∷ up) real) = k.books in
    sym (foreign_for memory (record r { sent = b.sent }) c) ∙ never_foreign m (core_for memory (record r { sent = b.sent })) [] c up (record { count = b.lost; hurt = false }) refl b.kept

plain_step : (r : Reader) (c : ℕ) → is_foreign (address_under_way r) r.phase (Got c) ≡ false → ask r (Got c) ≡ taken r (turn_of r (Got c))
plain_step r c known = ap (λ foreign. taken (record r { foreign = count_after r.foreign foreign }) (turn_of r (Got c))) known

heard_mirrored : (memory : List ℕ) (m : Machine) (r : Reader) (c : ℕ) (up : List ℕ) (real : ℕ) → IsMirrored memory (quiet m r (c ∷ up) real) → IsMirrored memory (behind m up real (taken r (turn_of r (Got c))))
heard_mirrored memory m r c up real k =
    elim (outcome memory (booked (quiet m r (c ∷ up) real) k.books.sent k.books.lost) r.phase c up k.same k.earlier k.refused k.books.kept.host.fits k.books.kept.phase) [
      | inl o ↦ hears_ordinary memory m r c up real (record { right = o.right; takes = o.takes; past = o.past }) k
      | inr other ↦ elim other [
        | inl asks ↦
            back_from (λ x. IsMirrored memory (behind m up real (taken x (turn_of x (Got c))))) r Before asks.0
            (hears_question memory m r c up real asks.1 asks.2 (phased (λ x. IsMirrored memory (quiet m x (c ∷ up) real)) r Before asks.0 k))
        | inr ends ↦
            back_from (λ x. IsMirrored memory (behind m up real (taken x (turn_of x (Got c))))) r (Refused ends.0) ends.1
            (hears_refusal memory m r ends.0 c up real ends.2 (phased (λ x. IsMirrored memory (quiet m x (c ∷ up) real)) r (Refused ends.0) ends.1 k))
      ]
    ]

hearing_mirrored : (memory : List ℕ) (m : Machine) (r : Reader) (down up : List ℕ) (real : ℕ) → IsMirrored memory (record { machine = m; core = r; down = down; up = up; lost = real; changed = false }) →
    IsMirrored memory (unwrap_or (host_hears reading (record { machine = m; core = r; down = down; up = up; lost = real; changed = false }) up) (record { machine = m; core = r; down = down; up = up; lost = real; changed = false }))
hearing_mirrored memory m r down [] real k = k
hearing_mirrored memory m r (key ∷ down) (c ∷ up) real k = absurd (cc k.books.kept.one_way.1)
hearing_mirrored memory m r [] (c ∷ up) real k =
    subst (λ a. IsMirrored memory (behind m up real a)) (sym (plain_step r c (never_unexplained memory m r c up real k))) (heard_mirrored memory m r c up real k)

-- no turn at a silence leads on to the end of a refusal
silence_past : (memory : List ℕ) (r : Reader) (phase : Phase) → GoesOnPast memory r (waits phase)
silence_past memory r Settle = tt
silence_past memory r (Sync place) = tt
silence_past memory r (Address place) = tt
silence_past memory r Slash = tt
silence_past memory r Before = tt
silence_past memory r (Value value place) = tt
silence_past memory r (Close place) = tt
silence_past memory r (Refused place) = tt
silence_past memory r (Ended end) = tt

silence_mirrored : (memory : List ℕ) (m : Machine) (r : Reader) (down up : List ℕ) (real : ℕ) → IsMirrored memory (record { machine = m; core = r; down = down; up = up; lost = real; changed = false }) →
    IsMirrored memory (unwrap_or (times_out reading (record { machine = m; core = r; down = down; up = up; lost = real; changed = false }) down up) (record { machine = m; core = r; down = down; up = up; lost = real; changed = false }))
silence_mirrored memory m r [] [] real k =
    let b : IsBooked memory (quiet m r [] real) = k.books in
    let before : Scene = as_load memory (booked (quiet m r [] real) b.sent b.lost) in
    let next : IsKept (load_behind before [] (next_for_turn memory (record r { sent = b.sent }) (turn_of r Silence))) =
    subst (λ mv. IsKept (load_behind before [] mv)) (move_is memory (record r { sent = b.sent }) Silence tt) (calmly before [] _ refl (kept_event before Quiet b.kept)) in
    mirrored_by memory (behind m [] real (ask r Silence)) k.same refl (books_after memory m r (turn_of r Silence) [] b.sent b.lost real b.less b.exact (silence_past memory r r.phase) next) (knows_after memory r (turn_of r Silence) (silence_takes _ r.phase) (silence_past memory r r.phase) (knows memory _ k))
silence_mirrored memory m r (c ∷ down) up real k = k
silence_mirrored memory m r [] (c ∷ up) real k = k

taking_mirrored : (memory : List ℕ) (m : Machine) (r : Reader) (down up : List ℕ) (real : ℕ) → IsMirrored memory (record { machine = m; core = r; down = down; up = up; lost = real; changed = false }) →
    IsMirrored memory (unwrap_or (takes (record { machine = m; core = r; down = down; up = up; lost = real; changed = false }) down) (record { machine = m; core = r; down = down; up = up; lost = real; changed = false }))
taking_mirrored memory m r [] up real k = k
taking_mirrored memory m r (c ∷ down) up real k =
    let b : IsBooked memory (record { machine = m; core = r; down = c ∷ down; up = up; lost = real; changed = false }) = k.books in
    let before : Scene = as_load memory (booked (record { machine = m; core = r; down = c ∷ down; up = up; lost = real; changed = false }) b.sent b.lost) in
    let only : OnlyImage m.memory (image_for memory r.addresses) (load_happens before Take).machine.memory = (steps_event before Take b.kept).bytes in
    let same : (load_happens before Take).machine.memory ≡ memory = unchanged memory r.addresses (load_happens before Take).machine.memory b.kept.host.image (subst (λ x. OnlyImage x (image_for memory r.addresses) (load_happens before Take).machine.memory) k.same only) in
    record { same = same; calm = refl; books = record { sent = b.sent; lost = b.lost; less = b.less; exact = b.exact; kept = kept_event before Take b.kept }; holds = k.holds; earlier = k.earlier; refused = k.refused }

-- books of a world that lost one character more, if it did
losing_books : (memory : List ℕ) (w next wb nextb : Inquiry) (test : Bool) → (IsKept (as_load memory wb) → IsBooked memory w) → (IsKept (as_load memory nextb) → IsBooked memory next) →
    IsKept (unwrap_or (if test then Some (as_load memory nextb) else None) (as_load memory wb)) → IsBooked memory (unwrap_or (if test then Some next else None) w)
losing_books memory w next wb nextb true stays loses k = loses k
losing_books memory w next wb nextb false stays loses k = stays k

losing_mirrored : (memory : List ℕ) (w next : Inquiry) (test : Bool) → next.machine.memory ≡ memory → next.changed ≡ false → next.core ≡ w.core → IsMirrored memory w → IsBooked memory (unwrap_or (if test then Some next else None) w) → IsMirrored memory (unwrap_or (if test then Some next else None) w)
losing_mirrored memory w next true same calm is k books = mirrored_by memory next same calm books (subst (Knows memory) (sym is) (knows memory w k))
losing_mirrored memory w next false same calm is k books = k

less_one : (a b : ℕ) → a ≤ b → a + 1 ≤ b + 1
less_one a b le = omega (arith, le)

one_lost : (w : Inquiry) (sent lost : ℕ) → Exact w.core sent lost w.lost → looks_twice w.core.manner.care ≡ false → (sent ≡ w.core.sent) × (lost + 1 ≡ w.lost + 1)
one_lost w sent lost exact once = ((exact once).0, ap (λ n. n + 1) (exact once).1)

lost_down : (memory : List ℕ) (w : Inquiry) (n : ℕ) → w.changed ≡ false → IsMirrored memory w → IsMirrored memory (happens w (LoseDown n))
lost_down memory w n calm k =
    let b : IsBooked memory w = k.books in
    losing_mirrored memory w (over_when w.changed w.core (without_down (wire_of w) n)) (ltb n (length w.down)) k.same calm refl k
    (losing_books memory w (over_when w.changed w.core (without_down (wire_of w) n)) (booked w b.sent b.lost) (over (record w.core { sent = b.sent }) (without_down (wire_of (booked w b.sent b.lost)) n)) (ltb n (length w.down))
    (λ kept. record { sent = b.sent; lost = b.lost; less = b.less; exact = b.exact; kept = kept }) (λ kept. record { sent = b.sent; lost = b.lost + 1; less = less_one b.lost w.lost b.less; exact = one_lost w b.sent b.lost b.exact; kept = kept })
    (kept_event (as_load memory (booked w b.sent b.lost)) (LoseDown n) b.kept))

lost_up : (memory : List ℕ) (w : Inquiry) (n : ℕ) → w.changed ≡ false → IsMirrored memory w → IsMirrored memory (happens w (LoseUp n))
lost_up memory w n calm k =
    let b : IsBooked memory w = k.books in
    losing_mirrored memory w (over_when w.changed w.core (without_up (wire_of w) n)) (ltb n (length w.up)) k.same calm refl k
    (losing_books memory w (over_when w.changed w.core (without_up (wire_of w) n)) (booked w b.sent b.lost) (over (record w.core { sent = b.sent }) (without_up (wire_of (booked w b.sent b.lost)) n)) (ltb n (length w.up))
    (λ kept. record { sent = b.sent; lost = b.lost; less = b.less; exact = b.exact; kept = kept }) (λ kept. record { sent = b.sent; lost = b.lost + 1; less = less_one b.lost w.lost b.less; exact = one_lost w b.sent b.lost b.exact; kept = kept })
    (kept_event (as_load memory (booked w b.sent b.lost)) (LoseUp n) b.kept))

begun_past : (memory : List ℕ) (r : Reader) (done : Bool) → RefusedIsPast memory r (if done then Ended Complete else Settle)
begun_past memory r true = tt
begun_past memory r false = tt

restart_mirrored : (memory : List ℕ) (w : Inquiry) (kept : ℕ) → IsMirrored memory w → IsMirrored memory (happens w (Restart kept))
restart_mirrored memory w kept k =
    let b : IsBooked memory w = k.books in
    let next : Reader = restarted w.core kept in
    record {
      same = k.same;
      calm = refl;
      books = record {
        sent = 0;
        lost = 0;
        less = omega arith;
        exact = λ once. (refl, refl);
        kept = subst (λ core. IsKept (load_over core (forgiven (wire_of w)))) (restarted_for memory w.core kept) (kept_event (as_load memory (booked w b.sent b.lost)) (Restart kept) b.kept);
      };
      holds = λ i low.
          let less : i < min kept (length w.core.values) = subst (λ n. i < n) (length-take kept w.core.values) low in
          get_or-take kept w.core.values i 0 (omega (arith, less)) ∙ k.holds i (omega (arith, less, min-le_right kept (length w.core.values)));
      earlier = tt;
      refused = begun_past memory next (length next.values == length next.addresses);
    }

-- with a line that has changed no character
calm_event : (memory : List ℕ) (w : Inquiry) (event : Event) → IsMirrored memory (record w { changed = false }) → IsMirrored memory (happens (record w { changed = false }) event)
calm_event memory w Take k = taking_mirrored memory w.machine w.core w.down w.up w.lost k
calm_event memory w Hear k = hearing_mirrored memory w.machine w.core w.down w.up w.lost k
calm_event memory w (LoseDown n) k = lost_down memory (record w { changed = false }) n refl k
calm_event memory w (LoseUp n) k = lost_up memory (record w { changed = false }) n refl k
calm_event memory w (ChangeDown n c) k = k
calm_event memory w (ChangeUp n c) k = k
calm_event memory w Quiet k = silence_mirrored memory w.machine w.core w.down w.up w.lost k
calm_event memory w (Restart kept) k = restart_mirrored memory (record w { changed = false }) kept k

pub mirrored_event : (memory : List ℕ) (w : Inquiry) (event : Event) → IsMirrored memory w → IsMirrored memory (happens w event)
mirrored_event memory w event k =
    subst (λ b. IsMirrored memory (happens (record w { changed = b }) event)) (sym k.calm)
    (calm_event memory w event (subst (λ b. IsMirrored memory (record w { changed = b })) k.calm k))

-- ---- the count of what no loss explains

foreign_if : (n : ℕ) (test : Bool) (a b : ReaderStep) → a.next.foreign ≡ n → b.next.foreign ≡ n → (if test then a else b).next.foreign ≡ n
foreign_if n true a b one other = one
foreign_if n false a b one other = other

turn_counts : (r : Reader) (turn : Turn) → (taken r turn).next.foreign ≡ r.foreign
turn_counts r (Listen phase) = refl
turn_counts r (Key key phase) = refl
turn_counts r (Read value) = refl
turn_counts r (Again value) = refl
turn_counts r Next = foreign_if r.foreign (nat_lt (length r.values) (length r.addresses)) _ _ refl refl
turn_counts r (Stop end) = refl
turn_counts r Stray = foreign_if r.foreign (nat_lt r.spent r.patience) _ _ refl refl
turn_counts r Timeout = foreign_if r.foreign (nat_lt r.spent r.patience) _ _ refl refl

hearing_counts : (memory : List ℕ) (m : Machine) (r : Reader) (down up : List ℕ) (real : ℕ) → IsMirrored memory (record { machine = m; core = r; down = down; up = up; lost = real; changed = false }) →
    (unwrap_or (host_hears reading (record { machine = m; core = r; down = down; up = up; lost = real; changed = false }) up) (record { machine = m; core = r; down = down; up = up; lost = real; changed = false })).core.foreign ≡ r.foreign
hearing_counts memory m r down [] real k = refl
hearing_counts memory m r (key ∷ down) (c ∷ up) real k = absurd (cc k.books.kept.one_way.1)
hearing_counts memory m r [] (c ∷ up) real k =
    ap (λ (a : ReaderStep). a.next.foreign) (plain_step r c (never_unexplained memory m r c up real k)) ∙ turn_counts r (turn_of r (Got c))

silence_counts : (m : Machine) (r : Reader) (down up : List ℕ) (real : ℕ) →
    (unwrap_or (times_out reading (record { machine = m; core = r; down = down; up = up; lost = real; changed = false }) down up) (record { machine = m; core = r; down = down; up = up; lost = real; changed = false })).core.foreign ≡ r.foreign
silence_counts m r [] [] real = turn_counts r (waits r.phase)
silence_counts m r (c ∷ down) up real = refl
silence_counts m r [] (c ∷ up) real = refl

taking_counts : (m : Machine) (r : Reader) (down up : List ℕ) (real : ℕ) →
    (unwrap_or (takes (record { machine = m; core = r; down = down; up = up; lost = real; changed = false }) down) (record { machine = m; core = r; down = down; up = up; lost = real; changed = false })).core.foreign ≡ r.foreign
taking_counts m r [] up real = refl
taking_counts m r (c ∷ down) up real = refl

losing_counts : (w next : Inquiry) (test : Bool) → next.core ≡ w.core → (unwrap_or (if test then Some next else None) w).core.foreign ≡ w.core.foreign
losing_counts w next true is = ap (λ (r : Reader). r.foreign) is
losing_counts w next false is = refl

calm_counts : (memory : List ℕ) (w : Inquiry) (event : Event) → IsMirrored memory (record w { changed = false }) → (happens (record w { changed = false }) event).core.foreign ≡ w.core.foreign
calm_counts memory w Take k = taking_counts w.machine w.core w.down w.up w.lost
calm_counts memory w Hear k = hearing_counts memory w.machine w.core w.down w.up w.lost k
calm_counts memory w (LoseDown n) k = losing_counts (record w { changed = false }) (over_when false w.core (without_down (wire_of w) n)) (ltb n (length w.down)) refl
calm_counts memory w (LoseUp n) k = losing_counts (record w { changed = false }) (over_when false w.core (without_up (wire_of w) n)) (ltb n (length w.up)) refl
calm_counts memory w (ChangeDown n c) k = refl
calm_counts memory w (ChangeUp n c) k = refl
calm_counts memory w Quiet k = silence_counts w.machine w.core w.down w.up w.lost
calm_counts memory w (Restart kept) k = refl

pub event_counts : (memory : List ℕ) (w : Inquiry) (event : Event) → IsMirrored memory w → (happens w event).core.foreign ≡ w.core.foreign
event_counts memory w event k =
    subst (λ b. (happens (record w { changed = b }) event).core.foreign ≡ w.core.foreign) (sym k.calm)
    (calm_counts memory w event (subst (λ b. IsMirrored memory (record w { changed = b })) k.calm k))

-- of a host that looks at each word once the books are the world's
pub once_kept : (memory : List ℕ) (w : Inquiry) → IsMirrored memory w → looks_twice w.core.manner.care ≡ false → IsKept (as_load memory w)
once_kept memory w k once =
    let same = k.books.exact once in
    subst (λ sent. IsKept (as_load memory (booked w sent w.lost))) same.0 (subst (λ lost. IsKept (as_load memory (booked w k.books.sent lost))) same.1 k.books.kept)

-- ---- the beginning

pub opened_mirrored : (m : Machine) (manner : Manner) (addresses values waiting : List ℕ) (patience : ℕ) → IsMachine m → is_running m.mode ≡ false → AreAddresses addresses → length values ≤ length addresses → length waiting ≤ 32 → patience < 2 ^ 32 →
    HoldsRead m.memory (begun_in manner addresses values patience) → IsMirrored m.memory (opened m (begun_in manner addresses values patience) waiting)
opened_mirrored m manner addresses values waiting patience machine stopped are within few long read =
    let plan : IsPlan (plan_for m.memory addresses) = is_plan m.memory addresses machine.wide are in
    let host : IsHost (load_begun (plan_for m.memory addresses) (length values) false patience) =
    begun_kept (plan_for m.memory addresses) (length values) false patience plan (rw (length_for m.memory addresses) within) long (λ e. absurd (cc e)) in
    let words : ((i : ℕ) → i < length values → IsThere (site_of (load_opened m (load_begun (plan_for m.memory addresses) (length values) false patience) waiting) i)) =
    λ i low.
    let is : word_nr (words_for m.memory addresses) i ≡ word_for m.memory (get_or addresses i 0) = nr_for m.memory addresses i (omega (arith, low, within)) in (
      ap (λ (x : WordValue). is_word m.memory x.address) is ∙ read.lies i low,
      ap (λ (x : WordValue). merged x (word_at m.memory x.address)) is ∙ (merged_for m.memory (get_or addresses i 0) (word_at m.memory (get_or addresses i 0)) ∙ ap (λ (x : WordValue). word_at m.memory x.address) (sym is)),
    ) in
    record {
      same = refl;
      calm = refl;
      books = record {
        sent = 0;
        lost = 0;
        less = omega arith;
        exact = λ once. (refl, refl);
        kept = subst (λ core. IsKept (load_opened m core waiting)) (begun_for m.memory manner addresses values patience)
            (opening_kept m (plan_for m.memory addresses) (length values) patience waiting machine host few stopped words);
      };
      holds = read.holds;
      earlier = tt;
      refused = begun_past m.memory (begun_in manner addresses values patience) (length values == length addresses);
    }
