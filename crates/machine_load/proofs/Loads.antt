-- A load, by its opening, its life and what came of its report.
use Rattle.std.proofs.Common.{◌≡◌, ◌∙◌, ◌⊎◌, Bool, [], ◌∷◌, Option, Some, None, Result, Ok, Err, IfOk, IfErr, IsSome, is_some, option_map, refl, sym, subst, inl, inr}
use Rattle.std.specs.Io.KnownBytes.{Appends}
use Rattle.byte_io.specs.Output.{WritesAllBut}
use Rattle.console_lines.specs.Dialling.{asked_once}
use Rattle.host_core.specs.Core.{Core}
use Rattle.host_devices.specs.Devices.{LineTold, line_told}
use Rattle.host_devices.specs.Told.{Gains}
use Rattle.machine_load.specs.declared.beginning.BegunLife.{BegunLife}
use Rattle.machine_load.specs.declared.fault.LoadFault.{LoadFault}
use Rattle.machine_load.specs.declared.lived.Lived.{Lived}
use Rattle.machine_load.specs.declared.going_on.GoneOn.{GoneOn}
use Rattle.machine_load.specs.declared.outcome.Outcome.{Outcome}
use Rattle.machine_load.specs.declared.stubs.Stubs.{Stubs}
use Rattle.machine_load.specs.Asked.{LoadTask, Opened, opened_as, ◌⇒◌, Change}
use Rattle.machine_load.specs.Beginning.{IsBegunLife}
use Rattle.machine_load.specs.Called.{asked_by}
use Rattle.machine_load.specs.Driving.{IsDrivenOn}
use Rattle.machine_load.specs.GivenBack.{IsGivenBack}
use Rattle.machine_load.specs.Load.{Asks, IsHeldUp, IsIdleLife, IsLived, IsLoad, IsNeverBegun, IsOpened, finish_report, going_on}
use Rattle.machine_load.specs.Looks.{behind_looks}
use Rattle.machine_load.specs.GoneOn.{course_behind}
use Rattle.machine_load.specs.Parts.{ArePartsOver, held}
use Rattle.machine_load.specs.RecordDisk.{DiskAsked, IsBegunOn, begun_text}
use Rattle.machine_load.specs.Reporting.{IsLifeReported, IsLifeUnreported}
use Rattle.machine_load.specs.Scene.{IsLoaded, IsNotLoaded, LoadTells, Scene, finish_told}
use Rattle.machine_load.specs.Step.{RecordGivenBack}
use Rattle.machine_load.proofs.Begun.{never_begun}
use Rattle.machine_load.proofs.Driving.{asked_untold}
use Rattle.host_devices.proofs.Told.{gains_join}

-- a life was opened
pub record IsOpenedIn (task : LoadTask) (scenes : Change Scene) (first : Core) (writable : Bool) : Type 0 where
  pub opened : IsOpened task (scenes.before.setting.around ⇒ scenes.after.setting.around) first writable
  pub lines : scenes.after.setting.lines ≡ scenes.before.setting.lines
  pub asked : scenes.after.asked ≡ scenes.before.asked
  pub call : scenes.after.call ≡ scenes.before.call

-- the life of a load was lived, and was not reported yet
pub record IsLivedIn {L K : Type 0} (tells : LoadTells L K) (task : LoadTask) (scenes : Change Scene) (lived : Lived L) : Type 0 where
  pub load : IsLoad (IsDrivenOn tells.keeper) task (scenes.before.setting.around ⇒ scenes.after.setting.around) (finish_told tells.line lived)
  pub line : IsSome lived.line ⊎ IsNeverBegun lived.end
  pub lines : scenes.after.setting.lines ≡ scenes.before.setting.lines
  pub asked : Gains scenes.before.asked scenes.after.asked (asked_by scenes.before.call lived.line)

-- a line that tells something is there
told_is : {L : Type 0} (told : L → LineTold) (line : Option L) (line' : LineTold) → option_map told line ≡ Some line' → IsSome line
told_is told (Some line) line' is = refl
told_is told None line' is = absurd (cc is)

module _ {L K : Type 0} (tells : LoadTells L K) (task : LoadTask) (before opened after : Scene) (first : Core) (writable : Bool)
    (opens : IsOpenedIn task (before ⇒ opened) first writable) where
  abbrev life : Opened
  life = opened_as first task.options.fast writable

  load_of : (lived : Lived L) → IsLived (IsDrivenOn tells.keeper) life (opened.setting.around ⇒ after.setting.around) (finish_told tells.line lived)
      → IsLoad (IsDrivenOn tells.keeper) task (before.setting.around ⇒ after.setting.around) (finish_told tells.line lived)
  load_of lived is = record { first = first; writable = writable; between = opened.setting.around; opened = opens.opened; life = is }

  -- it was over before it began, or its looks held it up
  pub over : (lived : Lived L)
      → IsIdleLife life (opened.setting.around ⇒ after.setting.around) (finish_told tells.line lived) ⊎ IsHeldUp life (opened.setting.around ⇒ after.setting.around) (finish_told tells.line lived)
      → after.setting.lines ≡ opened.setting.lines → Gains opened.asked after.asked (asked_by opened.call lived.line)
      → IsLivedIn tells task (before ⇒ after) lived
  over lived (inl idle) lines asked = record {
    load = load_of lived (inl idle);
    line = inr (never_begun _ _ _ _ _ _ opens.opened.opening idle.over);
    lines = lines ∙ opens.lines;
    asked = rw (opens.asked, opens.call) at asked;
  }
  over lived (inr held_up) lines asked = record {
    load = load_of lived (inr (inl held_up));
    line = inl (told_is (line_told tells.line) lived.line held_up.first_looks.behind held_up.has_line);
    lines = lines ∙ opens.lines;
    asked = rw (opens.asked, opens.call) at asked;
  }

  -- or its record was begun, and it was driven
  pub driven : (begun : BegunLife L K) (between : Scene) (stubs : Option Stubs) (gone : GoneOn) (line : L) (keeper : K)
      → IsBegunLife tells life (opened.setting.around ⇒ between.setting.around) begun → is_some stubs ≡ task.options.fast
      → ArePartsOver tells.keeper.calls (course_behind begun.first stubs gone) (held (line_told tells.line begun.line) begun.keeper) (held (line_told tells.line line) keeper)
      → Asks between.setting.around after.setting.around (RecordGivenBack ∷ []) → after.setting.around.record_text ≡ tells.keeper.text keeper
      → after.setting.around.disk ≡ between.setting.around.disk → after.setting.lines ≡ opened.setting.lines → Gains opened.asked after.asked (asked_once opened.call)
      → IsLivedIn tells task (before ⇒ after) (record { core = gone.core; end = gone.end; looks = Some begun.looks; stubs = stubs; again = gone.again; line = Some line })
  driven begun between stubs gone line keeper is stubs_asked parts given_back left disk_same lines asked =
      let lived : Lived L = record { core = gone.core; end = gone.end; looks = Some begun.looks; stubs = stubs; again = gone.again; line = Some line } in
      let on : IsDrivenOn tells.keeper (going_on begun.first task.options.fast (line_told tells.line begun.line)) (is.between ⇒ after.setting.around) (finish_told tells.line lived) = record {
        asked = gains_join _ _ _ _ _ is.record_begun given_back;
        begun_there = subst (λ disk. DiskAsked is.between.disk disk (IsBegunOn (begun_text begun.first.plan begun.first.verified))) (sym disk_same) is.begun_there;
        stubs_asked = stubs_asked;
        line' = line_told tells.line line;
        has_line = refl;
        keeper = begun.keeper;
        begun_so = is.begun_so;
        keeper' = keeper;
        parts = parts;
        left = left;
      } in record {
        load = load_of lived (inr (inr (record {
          between = is.between;
          first_looks = is.first_looks;
          all_stand = is.all_stand;
          driven = subst (λ told. IsDrivenOn tells.keeper (going_on (behind_looks first is.first_looks.looks) task.options.fast told) (is.between ⇒ after.setting.around) (finish_told tells.line lived)) is.line_is
              (subst (λ (core : Core). IsDrivenOn tells.keeper (going_on core task.options.fast (line_told tells.line begun.line)) (is.between ⇒ after.setting.around) (finish_told tells.line lived)) is.first_is on);
        })));
        line = inl refl;
        lines = lines ∙ opens.lines;
        asked = rw (opens.asked, opens.call) at asked;
      }

-- ---- its report

module _ {L K : Type 0} (tells : LoadTells L K) (task : LoadTask) (before between after : Scene) (lived : Lived L)
    (is : IsLivedIn tells task (before ⇒ between) lived) (out_same : between.setting.out ≡ before.setting.out) where
  reported : (outcome : Outcome L) → IsLifeReported tells.line lived (between ⇒ after) outcome → IsLoaded tells task (before ⇒ after) outcome
  reported outcome told = subst (IsLoaded tells task (before ⇒ after)) (sym told.outcome_is) (record {
    reported = record {
      looks = lived.looks;
      stubs = lived.stubs;
      again = lived.again;
      last = lived.core;
      load = subst (λ around. IsLoad (IsDrivenOn tells.keeper) task (before.setting.around ⇒ around) (finish_told tells.line lived)) (sym told.nothing_asked.around_same) is.load;
      marked_is = refl;
      reported = subst (λ out. Appends out after.setting.out (finish_report (finish_told tells.line lived))) out_same told.reported;
      line_kept = told.lines_kept ∙ is.lines;
    };
    stubs = refl;
    line = is.line;
    asked = subst (λ asked. Gains before.asked asked (asked_by before.call lived.line)) (sym told.nothing_asked.asked_same) is.asked;
  })

  cut_short : (why : LoadFault) → IsLifeUnreported tells.line lived (between ⇒ after) why → IsNotLoaded tells.keeper task (before ⇒ after) why
  cut_short why untold = subst (IsNotLoaded tells.keeper task (before ⇒ after)) (sym untold.fault_is) (record {
    fault = record {
      finish = finish_told tells.line lived;
      load = subst (λ around. IsLoad (IsDrivenOn tells.keeper) task (before.setting.around ⇒ around) (finish_told tells.line lived)) (sym untold.nothing_asked.around_same) is.load;
      marked_is = refl;
      given_back = subst (λ lines. IsGivenBack lines after.setting.lines (finish_told tells.line lived).line) is.lines untold.given_back;
      missing = untold.reported.0;
      reported = subst (λ out. WritesAllBut out after.setting.out (finish_report (finish_told tells.line lived)) untold.reported.0) out_same untold.reported.1;
    };
    asked = subst (λ asked. Gains before.asked asked [] ⊎ Gains before.asked asked (asked_once before.call)) (sym untold.nothing_asked.asked_same)
        (asked_untold before.call lived.line before.asked between.asked is.asked);
  })

  pub answered : (result : Result (Outcome L) LoadFault) → IfOk result (IsLifeReported tells.line lived (between ⇒ after)) → IfOk result (IsLoaded tells task (before ⇒ after))
  answered (Ok outcome) told = reported outcome told
  answered (Err why) told = tt

  pub answered_in_vain : (result : Result (Outcome L) LoadFault) → IfErr result (IsLifeUnreported tells.line lived (between ⇒ after)) → IfErr result (IsNotLoaded tells.keeper task (before ⇒ after))
  answered_in_vain (Ok outcome) untold = tt
  answered_in_vain (Err why) untold = cut_short why untold
