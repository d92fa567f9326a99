-- What a run of the world says of a reading host that heard an honest line.
use Rattle.std.specs.Prelude.{option_to_list}
use Rattle.std.proofs.Common.{◌≡◌, ℕ, ◌+◌, ◌==◌, ◌≤◌, Bool, false, List, [], ◌∷◌, ◌++◌, length, Option, Some, None, refl, arith, ap, sym, subst, ◌∙◌}
use Rattle.odt_machine.specs.declared.mode.Mode.{Mode}
use Rattle.odt_machine.specs.declared.mode.Mode.TheVariants.{Prompt, Number, Opened, Typing, Running}
use Rattle.odt_machine.specs.Laws.{is_running}
use Rattle.odt_machine.specs.Machine.{Machine}
use Rattle.host_core.specs.declared.heard.Heard.{Heard}
use Rattle.line_world.specs.Invariant.{RunsWith}
use Rattle.line_world.specs.Wire.{Wire}
use Rattle.host_devices.specs.declared.item.Item.{Item}
use Rattle.host_devices.specs.declared.item.Item.TheVariants.{Sent, Heard as Came}
use Rattle.host_devices.specs.Dialogue.{said, keys_of}
use Rattle.honest_line.specs.Moves.{Passes}
use Rattle.honest_line.specs.Honest.{resting}
use Rattle.honest_line.proofs.Wires.{passes_lost}
use Rattle.reading_core.specs.Reader.{Reader}
use Rattle.reading_core.specs.Invariant.{IsReader}
use Rattle.reading_core.specs.Laws.{led, replay}
use Rattle.reading_core.specs.ReadingTable.{ask}
use Rattle.line_world.specs.Scene.{over}
use Rattle.looking_law.specs.Inquiry.{Inquiry}
use Rattle.looking_law.specs.Harmless.{HoldsRead, HasCause, IsHarmless, OnlyLook}
use Rattle.looking_law.specs.Belief.{dialogue, MayLook, IsReadyMachine, IsTrueReading, HonestReadingsAreTrue, ReadingsHearNothingForeign, ReadingsLeaveItReady, UnsaidReadingsAreTrue}
use Rattle.looking_law.proofs.Harmless.{events_count, mirrored_events, harmless}
use Rattle.looking_law.proofs.Looks.{events_look}
use Rattle.looking_law.proofs.Mirrors.{IsMirrored, opened_mirrored}
use Rattle.looking_law.proofs.Events.{Leads, dialogue_leads}

-- ---- the beginning

begin_mirrored : (r : Reader) (machine : Machine) (waiting : List ℕ) → IsReader r → MayLook r machine → length waiting ≤ 32 → IsMirrored machine.memory (over r (resting machine waiting 0))
begin_mirrored r machine waiting is may few =
    subst (λ q. IsMirrored machine.memory (over q (resting machine waiting 0))) (sym may.begun)
    (opened_mirrored machine r.manner r.addresses r.values waiting r.patience may.console may.stopped is.asked is.within few is.long (record { lies = may.read.lies; holds = may.read.holds }))

-- ---- the run

pub run_mirrored : (memory : List ℕ) (w next : Inquiry) (typing : List ℕ) → IsMirrored memory w → Leads w typing next → IsMirrored memory next
run_mirrored memory w next typing k run = subst (IsMirrored memory) run.world (mirrored_events memory w run.events k)

run_counts : (memory : List ℕ) (w next : Inquiry) (typing : List ℕ) → IsMirrored memory w → Leads w typing next → next.core.foreign ≡ w.core.foreign
run_counts memory w next typing k run = subst (λ (x : Inquiry). x.core.foreign ≡ w.core.foreign) run.world (events_count memory w run.events k)

run_true : (memory : List ℕ) (w next : Inquiry) (typing : List ℕ) → IsMirrored memory w → w.core.foreign ≡ 0 → Leads w typing next → IsTrueReading memory next.core next.machine.memory typing next.lost
run_true memory w next typing k none run =
    let fine : IsHarmless memory next = harmless memory next (run_mirrored memory w next typing k run) (run_counts memory w next typing k run ∙ none) in
    record {
      same = fine.same;
      read = subst (λ m. HoldsRead m next.core) (sym fine.same) fine.read;
      looks = subst (OnlyLook false) run.keys_are (events_look false w run.events (λ e. absurd (cc e)));
      spent = fine.spent;
      foreign = fine.foreign;
      cause = subst (λ m. HasCause next.core.phase m next.core.patience next.lost) (sym fine.same) fine.cause;
    }

-- ---- the keys of a dialogue

keys_of_said : (key : Option ℕ) (items : List Item) → keys_of (said key ++ items) ≡ option_to_list key ++ keys_of items
keys_of_said None items = refl
keys_of_said (Some key) items = refl

pub keys_of-dialogue : (things : List Heard) (r : Reader) → keys_of (dialogue r things) ≡ replay r things
keys_of-dialogue [] r = refl
keys_of-dialogue (what ∷ things) r =
    keys_of_said (ask r what).key (dialogue (ask r what).next things) ∙ ap (λ more. option_to_list (ask r what).key ++ more) (keys_of-dialogue things (ask r what).next)

keys_of_more : (items : List Item) (key : ℕ) → keys_of (items ++ Sent key ∷ []) ≡ keys_of items ++ key ∷ []
keys_of_more [] key = refl
keys_of_more (Sent c ∷ items) key = ap (λ more. c ∷ more) (keys_of_more items key)
keys_of_more (Came what ∷ items) key = keys_of_more items key

-- ---- the whole dialogue

dialogue_true : (r : Reader) (things : List Heard) (machine : Machine) (waiting : List ℕ) (end : Wire) → IsReader r → MayLook r machine → length waiting ≤ 32 → Passes (resting machine waiting 0) (dialogue r things) end →
    IsTrueReading machine.memory (led r things) end.machine.memory (keys_of (dialogue r things)) end.lost
dialogue_true r things machine waiting end is may few passes =
    subst (λ keys. IsTrueReading machine.memory (led r things) end.machine.memory keys end.lost) (sym (keys_of-dialogue things r))
    (run_true machine.memory (over r (resting machine waiting 0)) (over (led r things) end) (replay r things) (begin_mirrored r machine waiting is may few) (ap (λ (x : Reader). x.foreign) may.begun)
    (dialogue_leads things r (resting machine waiting 0) end passes))

pub honest_are_true : HonestReadingsAreTrue
honest_are_true r things is machine now lost may honest =
    subst (λ n. IsTrueReading machine.memory (led r things) now.memory (keys_of (dialogue r things)) n) (honest.lost_is ∙ more lost)
    (subst (λ (m : Machine). IsTrueReading machine.memory (led r things) m.memory (keys_of (dialogue r things)) honest.end.lost) honest.machine_is
    (dialogue_true r things machine honest.waiting honest.end is may honest.few honest.passes))
  where
    more : (n : ℕ) → n ≡ n + 0
    more n = omega arith

pub hear_nothing_foreign : ReadingsHearNothingForeign
hear_nothing_foreign r things machine now lost is may honest = (honest_are_true r things is machine now lost may honest).foreign

-- ---- what a dialogue leaves

pub dialogue_mirrored : (r : Reader) (things : List Heard) (machine : Machine) (waiting : List ℕ) (end : Wire) → IsReader r → MayLook r machine → length waiting ≤ 32 → Passes (resting machine waiting 0) (dialogue r things) end →
    IsMirrored machine.memory (over (led r things) end)
dialogue_mirrored r things machine waiting end is may few passes =
    run_mirrored machine.memory (over r (resting machine waiting 0)) (over (led r things) end) (replay r things) (begin_mirrored r machine waiting is may few)
    (dialogue_leads things r (resting machine waiting 0) end passes)

pub stopped_with : (mode : Mode) → RunsWith false mode → is_running mode ≡ false
stopped_with Prompt runs = refl
stopped_with (Number v n) runs = refl
stopped_with (Opened a) runs = refl
stopped_with (Typing a v n) runs = refl
stopped_with (Running p) runs = absurd (cc runs)

pub leave_ready : ReadingsLeaveItReady
leave_ready r things machine now lost is may honest =
    let left : IsMirrored machine.memory (over (led r things) honest.end) = dialogue_mirrored r things machine honest.waiting honest.end is may honest.few honest.passes in
    subst IsReadyMachine honest.machine_is record { console = left.books.kept.machine; stopped = stopped_with honest.end.machine.mode left.books.kept.running }

-- ---- the dialogue without its last key

looks_front : (slash : Bool) (keys more : List ℕ) → OnlyLook slash (keys ++ more) → OnlyLook slash keys
looks_front slash [] more h = tt
looks_front slash (c ∷ keys) more h = (h.0, looks_front (c == 47) keys more h.1)

unsaid_true : (before : List ℕ) (next : Reader) (now typing : List ℕ) (key lost : ℕ) → IsTrueReading before next now (typing ++ key ∷ []) (1 + lost) → IsTrueReading before next now typing (lost + 1)
unsaid_true before next now typing key lost t =
    subst (λ n. IsTrueReading before next now typing n) (turned lost)
    record { same = t.same; read = t.read; looks = looks_front false typing (key ∷ []) t.looks; spent = t.spent; foreign = t.foreign; cause = t.cause }
  where
    turned : (n : ℕ) → 1 + n ≡ n + 1
    turned n = omega arith

pub unsaid_are_true : UnsaidReadingsAreTrue
unsaid_are_true r things items key reads is machine now lost may honest =
    unsaid_true machine.memory (led r things) now.memory (keys_of items) key lost
    (subst (λ keys. IsTrueReading machine.memory (led r things) now.memory keys (1 + lost)) (ap keys_of is ∙ keys_of_more items key)
    (subst (λ n. IsTrueReading machine.memory (led r things) now.memory (keys_of (dialogue r things)) (1 + n)) honest.lost_is
    (subst (λ (m : Machine). IsTrueReading machine.memory (led r things) m.memory (keys_of (dialogue r things)) (1 + honest.end.lost)) honest.machine_is
    (dialogue_true r things machine honest.waiting (record honest.end { lost = 1 + honest.end.lost }) reads may honest.few
    (subst (λ list. Passes (resting machine honest.waiting 0) list (record honest.end { lost = 1 + honest.end.lost })) (sym is) (passes_lost items key (resting machine honest.waiting 0) honest.end honest.passes))))))
