-- What lasts beside the loading host's world does no harm.
use Rattle.std.proofs.Common.{◌≡◌, ℕ, ◌<◌, ◌≤◌, true, false, List, [], ◌∷◌, length, refl, arith, ap, sym, subst, ◌∙◌}
use Rattle.odt_machine.specs.Machine.{is_word}
use Rattle.tape_image.specs.Memory.{top_of}
use Rattle.tape_image.specs.Word.{WordValue}
use Rattle.line_world.specs.declared.event.Event.{Event}
use Rattle.host_core.specs.Core.{word_nr}
use Rattle.line_world.specs.Site.{site, ground}
use Rattle.line_world.specs.Invariant.{InPhase}
use Rattle.line_world.specs.Scene.{toll_of}
use Rattle.reading_core.specs.declared.phase.Phase.{Phase}
use Rattle.reading_core.specs.declared.phase.Phase.TheVariants.{Settle, Sync, Address, Slash, Before, Value, Close, Refused, Ended}
use Rattle.reading_core.specs.declared.phase.End.TheVariants.{Complete, GaveUp, NoWord}
use Rattle.reading_core.specs.Foreign.{phase_for}
use Rattle.reading_core.specs.Reader.{Manner, begun_in}
use Rattle.looking_law.specs.Inquiry.{Inquiry, happens, after, opened}
use Rattle.looking_law.specs.Harmless.{HoldsRead, HasCause, IsHarmless, ReadingsDoNoHarm}
use Rattle.looking_law.proofs.Saying.{words_for, nr_for, length_for}
use Rattle.looking_law.proofs.Looks.{events_look}
use Rattle.looking_law.proofs.Mirrors.{IsBooked, IsMirrored, as_load, booked, event_counts, mirrored_event, opened_mirrored}

pub mirrored_events : (memory : List ℕ) (w : Inquiry) (events : List Event) → IsMirrored memory w → IsMirrored memory (after w events)
mirrored_events memory w [] k = k
mirrored_events memory w (event ∷ events) k = mirrored_events memory (happens w event) events (mirrored_event memory w event k)

pub events_count : (memory : List ℕ) (w : Inquiry) (events : List Event) → IsMirrored memory w → (after w events).core.foreign ≡ w.core.foreign
events_count memory w [] k = refl
events_count memory w (event ∷ events) k = events_count memory (happens w event) events (mirrored_event memory w event k) ∙ event_counts memory w event k

cause_of : (memory : List ℕ) (w : Inquiry) (phase : Phase) (real : ℕ) → w.lost ≤ real → w.machine.memory ≡ memory → InPhase (phase_for phase) (ground (as_load memory w)) (site (as_load memory w)) w.down w.up w.core.patience w.core.spent (toll_of (as_load memory w)) →
    HasCause phase memory w.core.patience real
cause_of memory w (Ended Complete) real less same h = tt
cause_of memory w (Ended GaveUp) real less same h = omega (arith, h.1, less)
cause_of memory w (Ended (NoWord a)) real less same h = subst (λ m. top_of m ≤ a) same h.1
cause_of memory w Settle real less same h = tt
cause_of memory w (Sync place) real less same h = tt
cause_of memory w (Address place) real less same h = tt
cause_of memory w Slash real less same h = tt
cause_of memory w Before real less same h = tt
cause_of memory w (Value value place) real less same h = tt
cause_of memory w (Close place) real less same h = tt
cause_of memory w (Refused place) real less same h = tt

pub harmless : (memory : List ℕ) (w : Inquiry) → IsMirrored memory w → w.core.foreign ≡ 0 → IsHarmless memory w
harmless memory w k none =
    let b : IsBooked memory w = k.books in
    record {
      same = k.same;
      read = record {
        lies = λ i low.
            let within : i < length w.core.addresses = omega (arith, low, b.kept.host.within, length_for memory w.core.addresses) in
            ap (λ (x : WordValue). is_word memory x.address) (sym (nr_for memory w.core.addresses i within)) ∙ subst (λ m. is_word m (word_nr (words_for memory w.core.addresses) i).address ≡ true) k.same (b.kept.words i low).0;
        holds = k.holds;
      };
      spent = omega (arith, b.kept.spent, b.less);
      foreign = none;
      cause = cause_of memory (booked w b.sent b.lost) w.core.phase w.lost b.less k.same b.kept.phase;
    }

none_read : (memory : List ℕ) (manner : Manner) (addresses : List ℕ) (patience : ℕ) → HoldsRead memory (begun_in manner addresses [] patience)
none_read memory manner addresses patience = record { lies = λ i low. absurd (omega (arith, low)); holds = λ i low. absurd (omega (arith, low)) }

pub do_no_harm : ReadingsDoNoHarm
do_no_harm machine manner addresses waiting patience events is stopped are few long =
    let w : Inquiry = opened machine (begun_in manner addresses [] patience) waiting in
    let opens = opened_mirrored machine manner addresses [] waiting patience is stopped are (omega arith) few long (none_read machine.memory manner addresses patience) in (
      harmless machine.memory (after w events) (mirrored_events machine.memory w events opens) (events_count machine.memory w events opens),
      events_look false w events (λ e. absurd (cc e)),
    )
