-- Reports that fail, and the loads that they are of.
use Rattle.std.proofs.Common.{◌≡◌, ℕ, Bool, true, List, Option, None, Result, Ok, Err, IfErr, IfOk, IsErrAnd, [], ◌∷◌, ◌∙◌, inr, inl, refl, sym, subst, ap}
use Rattle.std.proofs.KnownBytes.{Keeps-refl}
use Rattle.host_devices.specs.Devices.{LineTold}
use Rattle.machine_load.specs.Step.{Connected, begin_step}
use Rattle.host_devices.specs.Told.{Gains}
use Rattle.host_devices.proofs.Told.{gains_join, gains_none}
use Rattle.machine_load.specs.declared.looks.Looks.{Looks}
use Rattle.machine_load.specs.GivenBack.{GivesLooked}
use Rattle.machine_load.specs.Looks.{AreLooks, AreLooksAt, IsSampled, behind_looks, ended_by, highest_of, unfinished_at, vouched_for}
use Rattle.reading_core.specs.Reader.{Reader, begun_in}
use Rattle.reading_core.specs.declared.phase.End.TheVariants.{Complete, GaveUp, NoWord}
use Rattle.looking_engine.specs.Stopping.{LookStop}
use Rattle.sample_looks.specs.declared.finding.Finding.{Finding}
use Rattle.sample_looks.specs.declared.finding.Finding.TheVariants.{AllStand, Stale, Unfinished}
use Rattle.sample_looks.specs.Finding.{IsFound}
use Rattle.sample_looks.specs.Samples.{BeginWith}
use Rattle.tape_image.specs.Word.{WordValue}
use Rattle.host_core.specs.Core.{Core}
use Rattle.machine_load.specs.Load.{HowItGoesOn, SurroundingsTold, Asks, IsOpened, KeepsRecord}
use Rattle.machine_load.specs.Asked.{LoadTask, Opened, opened_as, ◌⇒◌}
use Rattle.machine_load.specs.Called.{IsAskedBefore}
use Rattle.machine_load.specs.Driving.{KeeperTells, IsDrivenOn}
use Rattle.machine_load.specs.RecordDisk.{DiskAsked, IsNotBegunOn, begun_text}
use Rattle.machine_load.specs.Scene.{Scene, IsNotLoaded}
use Rattle.machine_load.specs.LoadFault.{IsLoadFault, IsOpeningFault, IsBeginningFault, fault_of_record, gone}
use Rattle.record_file.specs.RecordFault.{IsUnbegun}
use Rattle.tape_image.specs.Plan.{PlanValue}
use Rattle.record_file.specs.declared.record_fault.RecordFault.{RecordFault}
use Rattle.record_file.specs.declared.record_fault.RecordFault.TheVariants as why
use Rattle.machine_load.specs.declared.fault.LoadFault.{LoadFault}
use Rattle.machine_load.specs.declared.fault.LoadFault.TheVariants.{ReadRecord, RecordInUse, Record, WriteOutput, Memory}
use Rattle.console_lines.specs.Dialling.{Call, LineRequest}

-- a life that does not open
pub of_opening : (GoesSo : HowItGoesOn) (task : LoadTask) (before after : SurroundingsTold) (lines lines' : Option (List LineTold)) (out : Option (List ℕ)) (fault : LoadFault)
    → IsOpeningFault task.plan before after fault → KeepsRecord before after → lines' ≡ lines
    → IsLoadFault GoesSo task (record { around = before; lines = lines; out = out } ⇒ record { around = after; lines = lines'; out = out }) fault
of_opening GoesSo task before after lines lines' out (WriteOutput marked) fails same unsaid = absurd fails
of_opening GoesSo task before after lines lines' out other fails same unsaid =
    inl (record { is_so = fails; record_same = same; nothing_said = unsaid; nothing_reported = Keeps-refl out })

-- nothing was asked for a line then
pub asked_unopened : (plan : PlanValue) (before after : SurroundingsTold) (fault : LoadFault) (call : Call) (asked asked' : Option (List LineRequest))
    → IsOpeningFault plan before after fault → asked' ≡ asked → IsAskedBefore call asked asked' fault
asked_unopened plan before after ReadRecord call asked asked' fails same = subst (λ x. Gains asked x []) (sym same) (gains_none asked)
asked_unopened plan before after RecordInUse call asked asked' fails same = subst (λ x. Gains asked x []) (sym same) (gains_none asked)
asked_unopened plan before after (Record why) call asked asked' fails same = subst (λ x. Gains asked x []) (sym same) (gains_none asked)
asked_unopened plan before after Memory call asked asked' fails same = inl (subst (λ x. Gains asked x []) (sym same) (gains_none asked))
asked_unopened plan before after other call asked asked' fails same = absurd fails

-- an opened life comes to no beginning, before anything is reported
pub of_beginning : (GoesSo : HowItGoesOn) (task : LoadTask) (before between after : SurroundingsTold) (lines lines' : Option (List LineTold)) (out : Option (List ℕ)) (first : Core) (may_begin : Bool)
    (fault : LoadFault) → IsOpened task (before ⇒ between) first may_begin → IsBeginningFault (opened_as first task.options.fast may_begin) (gone between lines ⇒ gone after lines') fault
    → IsLoadFault GoesSo task (record { around = before; lines = lines; out = out } ⇒ record { around = after; lines = lines'; out = out }) fault
of_beginning GoesSo task before between after lines lines' out first may_begin (WriteOutput marked) opened fails = absurd fails
of_beginning GoesSo task before between after lines lines' out first may_begin other opened fails =
    inr (record { first = first; may_begin = may_begin; between = between; opened = opened; is_so = fails; nothing_reported = Keeps-refl out })

-- a life that has looked, and whose record is not begun
pub behind_looks_fault : (life : Opened) (before between after : SurroundingsTold) (lines lines' : Option (List LineTold)) (why : RecordFault) → IsUnbegun why → life.writable ≡ true
    → Asks before between (Connected ∷ []) → Asks between after (begin_step {A = Unit {0}} (Err why) ∷ []) → GivesLooked life lines lines'
    → DiskAsked before.disk after.disk (IsNotBegunOn (begun_text life.first.plan life.first.verified))
    → IsBeginningFault life (gone before lines ⇒ gone after lines') (fault_of_record why)
behind_looks_fault life before between after lines lines' why.Write is may connected fails given disk =
    inr (may, record { asked = gains_join _ _ _ _ _ connected fails; not_begun_there = disk; looked = given })
behind_looks_fault life before between after lines lines' why.Memory is may connected fails given disk =
    inr (may, record { asked = gains_join _ _ _ _ _ connected fails; not_begun_there = disk; looked = given })
behind_looks_fault life before between after lines lines' other is may connected fails given disk = absurd is

-- the text with which the record of a life is begun behind looks that found that all words stand
pub same_text : (first behind : Core) (looks : Looks) → behind ≡ behind_looks first looks → looks.finding ≡ AllStand → begun_text behind.plan behind.verified ≡ begun_text first.plan first.verified
same_text first behind looks is stand =
    ap (λ (core : Core). begun_text core.plan core.verified) is ∙ ap (λ finding. begun_text first.plan (vouched_for first.verified finding)) stand

-- ---- looks

-- samples of a life's words were looked at, and the highest where it is asked for
pub looked_first : (first : Core) (asked : Bool) (samples shown : List WordValue) (reader : Reader) (looks : Looks) (before after : LineTold) → IsSampled first asked samples reader → shown ≡ samples → AreLooksAt shown reader.addresses reader.manner reader.patience looks (before ⇒ after)
    → AreLooks first asked looks before after
looked_first first asked samples shown reader looks before after sampled same looked = record {
  samples = samples;
  of_record = sampled.of_record;
  rise = sampled.rise;
  looked = subst (λ (r : Reader). AreLooksAt samples r.addresses r.manner r.patience looks (before ⇒ after)) sampled.begins (subst (λ list. AreLooksAt list reader.addresses reader.manner reader.patience looks (before ⇒ after)) same looked);
}

-- the host that is to look there, at its beginning, with the samples in front
pub begins_looking : (first : Core) (asked : Bool) (samples shown : List WordValue) (reader : Reader) → IsSampled first asked samples reader → shown ≡ samples → (reader ≡ begun_in reader.manner reader.addresses [] reader.patience) × BeginWith shown reader.addresses
begins_looking first asked samples shown reader sampled same = (
  subst (λ (r : Reader). r ≡ begun_in r.manner r.addresses [] r.patience) (sym sampled.begins) refl,
  subst (λ list. BeginWith list reader.addresses) (sym same) (highest_of first asked, ap (λ (r : Reader). r.addresses) sampled.begins),
)

whole : (stop : LookStop) → unfinished_at stop ≡ None → stop ≡ Ok Complete
whole (Ok Complete) free = refl
whole (Ok GaveUp) free = absurd (cc free)
whole (Ok (NoWord address)) free = absurd (cc free)
whole (Err cut) free = absurd (cc free)

-- looks that let a life go on found that all words stand
pub all_stand : (samples : List WordValue) (numbers : List ℕ) (stop : LookStop) (finding : Finding) → IsFound samples numbers stop finding → ended_by finding stop ≡ None → finding ≡ AllStand
all_stand samples numbers stop AllStand found free = refl
all_stand samples numbers stop (Stale address) found free = absurd (cc free)
all_stand samples numbers stop Unfinished found free = absurd (found.0 (whole stop free))

-- what is known of the error that a result has is known of the result
pub error_is : {T E : Type 0} (r : Result T E) (error : E) (P : E → Type 0) → IsErrAnd r (λ e. e ≡ error) → P error → IfErr r P
error_is (Ok x) error P is h = tt
error_is (Err e) error P is h = subst P (sym is) h

-- a result with an error says nothing of a value
pub no_value : {T E : Type 0} (r : Result T E) (error : E) (P : T → Type 0) → IsErrAnd r (λ e. e ≡ error) → IfOk r P
no_value (Ok x) error P is = absurd is
no_value (Err e) error P is = tt

-- all that is said of a load that came to nothing
pub not_loaded : {T K : Type 0} (r : Result T LoadFault) (keeper : KeeperTells K) (task : LoadTask) (before after : Scene)
    → IfErr r (IsLoadFault (IsDrivenOn keeper) task (before.setting ⇒ after.setting))
    → IfErr r (IsAskedBefore before.call before.asked after.asked) → IfErr r (IsNotLoaded keeper task (before ⇒ after))
not_loaded (Ok x) keeper task before after fault asked = tt
not_loaded (Err why) keeper task before after fault asked = record { fault = fault; asked = asked }
