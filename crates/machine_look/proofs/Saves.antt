-- What a save comes to, by its course.
use Rattle.std.proofs.Common.{◌≡◌, ℕ, ◌<◌, Bool, true, false, List, ◌++◌, refl, arith, sym, subst, ◌∙◌, length-append}
use Rattle.std.specs.Prelude.{if◌then◌else◌, None, Some}
use Rattle.std.proofs.lemmas.List.Elements.{All-append}
use Rattle.std.specs.Io.KnownBytes.{Keeps}
use Rattle.console_lines.specs.Console.{ConsoleTold}
use Rattle.reading_core.specs.Addresses.{IsRange}
use Rattle.machine_look.specs.declared.look_fault.LookFault.{LookFault}
use Rattle.machine_look.specs.declared.reading_blocks.Course.{Course}
use Rattle.machine_look.specs.declared.reading_blocks.Course.TheVariants.{HeldUp as WasHeldUp, Read as WasRead}
use Rattle.machine_look.specs.declared.save_end.SaveEnd.{SaveEnd}
use Rattle.machine_look.specs.declared.save_report.SaveCounts.{SaveCounts}
use Rattle.machine_look.specs.Behind.{Saving}
use Rattle.machine_look.specs.Course.{HasRoomForCounts, IsCourse, IsClosedWhere, IsTapeClosed, IsUnclosed, closing_text, counts_of, end_of}
use Rattle.tape_shelf.specs.FoundPart.{FillBlocks}
use Rattle.machine_look.specs.LookFault.{IsSaveFault}
use Rattle.machine_look.specs.Save.{HeldUp, IsOver, LeftInPart, SaveTold, Shelved, TakesUp, console_of, has_all, counts_read}
use Rattle.machine_look.specs.SaveReport.{save_end}
use Rattle.machine_look.specs.Trust.{are_trusted}
use Rattle.tape_shelf.specs.SavedSteps.{adds, full}
use Rattle.tape_shelf.specs.SavedTape.{last_text}
use Rattle.tape_shelf.specs.Shelf.{ShelfStep}
use Rattle.tape_shelf.specs.ShelfAt.{ShelfAt}
use Rattle.tape_shelf.specs.ShelfTold.{AreDone, HasDone}
use Rattle.machine_look.proofs.Faults.{done_behind, not_closed, saved_steps}
use Rattle.machine_look.proofs.SavedMemory.{few_numbers, range_low, tape_of}

module _ (saving : Saving) (mid mid' : ShelfAt) where
  pub room_for_counts : (before after : ConsoleTold) (course : Course) → IsRange saving.options.range.from saving.options.range.to → FillBlocks saving.options.range saving.found
      → IsCourse saving (record { shelf = mid; console = before }) (record { shelf = mid'; console = after }) course → HasRoomForCounts saving.options saving.found course
  room_for_counts before after (WasHeldUp looked) range fill h = tt
  room_for_counts before after (WasRead looks last stop) range fill h =
      let few = few_numbers saving.options.range saving.found last fill.within h.0.addresses h.0.kept in (
        omega (arith, h.0.patience, h.0.looked.paid),
        omega (arith, few, length-append saving.found last.values, range_low saving.options.range range),
      )

  module _ (before after : SaveTold) (taking : List ShelfStep) (folder : List ℕ) (takes : TakesUp saving.options.range before.shelf.left saving.found taking) (opened : List ℕ → Type 0) (taken : AreDone folder taking before.shelf mid.told) (is_open : mid.is_opened_as folder) where
    pub not_concluded : (course : Course) (fault : LookFault) → IsCourse saving (record { shelf = mid; console = console_of before }) (record { shelf = mid'; console = console_of after }) course
        → IsUnclosed (closing_text saving course) mid' (record { told = after.shelf; is_opened_as = opened }) fault → Keeps before.out after.out → IsSaveFault saving.options before after fault
    not_concluded (WasHeldUp looked) fault h unclosed same = absurd unclosed
    not_concluded (WasRead looks last stop) fault h unclosed same =
        let added = h.2 folder is_open in by added (has_all stop (are_trusted saving.options.care looks last)) refl unclosed
      where
        by : (mid'.is_opened_as folder × AreDone folder (adds saving.options.range.from (saving.found ++ last.values) (full (saving.found ++ last.values))) mid.told mid'.told) → (all : Bool) → has_all stop (are_trusted saving.options.care looks last) ≡ all
            → IsUnclosed (if all then Some (last_text saving.options.range.from (saving.found ++ last.values) saving.options.start) else None) mid' (record { told = after.shelf; is_opened_as = opened }) fault
            → IsSaveFault saving.options before after fault
        by added true all is =
            not_closed saving.options before after mid.told mid' opened folder stop (record { found = saving.found; taking = taking; taken_up = takes; looks = looks; last = last; read = h.0 }) all fault added.0 taken added.1 is same
        by added false all is = absurd is

    pub concluded : (course : Course) (done : SaveCounts × SaveEnd) → IsRange saving.options.range.from saving.options.range.to → saving.options.start < 65536 → FillBlocks saving.options.range saving.found
        → IsCourse saving (record { shelf = mid; console = console_of before }) (record { shelf = mid'; console = console_of after }) course
        → done.0 ≡ counts_of saving course → done.1 ≡ end_of saving.options.care course → IsTapeClosed saving course mid' (record { told = after.shelf; is_opened_as = opened }) → IsOver saving.options before after done.0 done.1
    concluded (WasHeldUp looked) done range begins fill h counted ended closed =
        subst (λ c. IsOver saving.options before after c done.1) (sym counted) (subst (λ e. IsOver saving.options before after (counts_of saving (WasHeldUp looked)) e) (sym ended) (HeldUp (record {
          found = saving.found;
          taking = taking;
          taken_up = takes;
          looked = looked;
          held = h.0;
          untouched = (folder, subst (λ s. AreDone folder taking before.shelf s) (sym (closed ∙ h.1)) taken);
        })))
    concluded (WasRead looks last stop) done range begins fill h counted ended closed =
        subst (λ c. IsOver saving.options before after c done.1) (sym counted)
        (subst (λ e. IsOver saving.options before after (counts_of saving (WasRead looks last stop)) e) (sym ended) (by (h.2 folder is_open) (has_all stop (are_trusted saving.options.care looks last)) refl closed))
      where
        by : (mid'.is_opened_as folder × AreDone folder (adds saving.options.range.from (saving.found ++ last.values) (full (saving.found ++ last.values))) mid.told mid'.told) → (all : Bool) → has_all stop (are_trusted saving.options.care looks last) ≡ all
            → IsClosedWhere all saving.options.range.from (saving.found ++ last.values) saving.options.start mid' (record { told = after.shelf; is_opened_as = opened })
            → IsOver saving.options before after (counts_read saving.options saving.found looks last) (save_end stop (are_trusted saving.options.care looks last))
        by added true all closed =
            let few = few_numbers saving.options.range saving.found last fill.within h.0.addresses h.0.kept in
            Shelved (record {
              stop = stop;
              read = record { found = saving.found; taking = taking; taken_up = takes; looks = looks; last = last; read = h.0 };
              end = h.1;
              all = all;
              tape = tape_of saving.options (saving.found ++ last.values) range begins few (All-append (λ n. n < 65536) saving.found last.values fill.small h.0.kept.numbers);
              is_put = saved_steps taking folder saving.options.range.from saving.options.start (saving.found ++ last.values) before.shelf mid.told mid'.told after.shelf taken added.1 (closed folder added.0);
            })
        by added false all same =
            LeftInPart (record {
              stop = stop;
              read = record { found = saving.found; taking = taking; taken_up = takes; looks = looks; last = last; read = h.0 };
              end = h.1;
              not_all = all;
              is_left = subst (λ s. HasDone (taking ++ adds saving.options.range.from (saving.found ++ last.values) (full (saving.found ++ last.values))) before.shelf s) (sym same)
                  (done_behind taking _ folder before.shelf mid.told mid'.told taken added.1);
            })
