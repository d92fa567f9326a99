-- How a life is opened.
use Rattle.std.proofs.Common.{◌≡◌, ◌↔◌, ℕ, Bool, false, IsTrue, List, [], ◌∷◌, Ok, ap, subst, ◌∙◌}
use Rattle.tape_values.specs.Told.{IsAsTold}
use Rattle.tape_image.specs.Plan.{PlanValue}
use Rattle.host_core.specs.declared.progress.Progress.{Progress}
use Rattle.host_core.specs.Core.{Core, begun_by}
use Rattle.load_record.specs.declared.version.Version.TheVariants.{Second}
use Rattle.load_record.specs.RecordText.{record_text}
use Rattle.load_record.specs.Reading.{Says}
use Rattle.machine_load.specs.Asked.{task, ◌⇒◌}
use Rattle.machine_load.specs.Load.{SurroundingsTold, Asks, IsOpened, KeepsRecord, words_taken}
use Rattle.machine_load.specs.RecordDisk.{DiskAsked, IsReadOn, old_text}
use Rattle.machine_load.specs.Step.{RecordRead}
use Rattle.record_file.specs.OldRecord.{HoldsNoRecord, MayBecome}
use Rattle.record_file.specs.declared.old_record.Writable.{Writable}
use Rattle.request_values.specs.declared.options.LoadOptions.{LoadOptions}

-- a record was read, its text looked at, and what it says taken; and it was compared with the record of the words that the core counts
pub opens : (plan shown_plan : PlanValue) (options : LoadOptions) (before between : SurroundingsTold) (how : Writable) (text shown : List ℕ) (said : Progress) (first : Core) (verified : ℕ) (may_begin : Bool)
    → Asks before between (RecordRead how ∷ []) → KeepsRecord before between → IsAsTold before.record_text text
    → DiskAsked before.disk between.disk (IsReadOn (old_text text how)) → IsAsTold before.left (old_text text how) → shown ≡ text
    → (HoldsNoRecord shown → ⊥) → Says plan shown (Ok said) → first ≡ begun_by options.careful plan (words_taken options.recheck said) said.going options.patience
    → shown_plan ≡ first.plan → verified ≡ first.verified → (IsTrue may_begin ↔ MayBecome how text (record_text Second shown_plan verified false))
    → IsOpened (task plan options) (before ⇒ between) first may_begin
opens plan shown_plan options before between how text shown said first verified may_begin read same told there left is ours says core_is plan_is verified_is means = record {
  how = how;
  read_first = read;
  record_read = same;
  opening = record {
    said = said;
    opened = record {
      text = text;
      is_record = told;
      is_ours = subst (λ t. HoldsNoRecord t → ⊥) is ours;
      says = subst (λ t. Says plan t (Ok said)) is says;
    };
    core_is = core_is;
  };
  read_there = there;
  is_left = left;
  is_known =
      subst (λ (p : PlanValue). IsTrue may_begin ↔ MayBecome how text (record_text Second p first.verified false)) (plan_is ∙ ap (λ (core : Core). core.plan) core_is)
      (subst (λ n. IsTrue may_begin ↔ MayBecome how text (record_text Second shown_plan n false)) verified_is means);
}
