-- What one line adds to a progress.
use Rattle.std.proofs.Common.{◌≡◌, ◌↔◌, ℕ, ◌+◌, ◌<◌, List, take, drop, Some, arith, ap, sym, ◌∙◌, length-drop, length-take-le, take-append-drop, inl, inr}
use Rattle.tape_image.specs.Plan.{PlanValue}
use Rattle.host_core.specs.declared.progress.Progress.{Progress}
use Rattle.load_record.specs.declared.version.Version.{Version}
use Rattle.load_record.specs.Reading.{HoldsCount, Adds, against}

-- a progress with so many words more
abbrev further : Progress → ℕ → Progress
further before count = record { verified = before.verified + count; going = before.going }

-- a line that holds some words adds them, and nothing else
pub adds_words : (version : Version) (plan : PlanValue) (line : List ℕ) (before : Progress) (count : ℕ)
    → HoldsCount version line (drop before.verified plan.words) count → 0 < count
    → (after : Progress) → (Some (further before count) ≡ Some after) ↔ Adds (against version plan) line before after
adds_words version plan line before count h some after =
    let next = drop before.verified plan.words in (
      λ e. inl record {
        words = take count next;
        later = drop count next;
        next = sym (take-append-drop count next);
        holds = h.holds some;
        after_is = let same : further before count ≡ after = cc in sym same ∙ ap (further before) (sym (length-take-le count next h.few));
      },
      λ adds. elim adds [
        | inl w ↦ ap Some (ap (further before) (h.only w.words w.later w.next w.holds) ∙ sym w.after_is)
        | inr m ↦ absurd (let l = length-drop before.verified plan.words in let f = h.few in let a = m.due.all in omega arith)
      ],
    )
