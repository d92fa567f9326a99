use Rattle.std.proofs.Common.{◌∙◌, refl, rules, subst, sym}
use Rattle.host_devices.specs.Devices.{line_told}
use Rattle.machine_load.specs.Asked.{opened_as, task, ◌⇒◌}
use Rattle.machine_load.specs.Beginning.{IsBeginning, SendsFew, asked_to_begin}
use Rattle.machine_load.specs.declared.beginning.Beginning.TheVariants.{Begun}
use Rattle.machine_load.specs.Called.{IsAskedBefore}
use Rattle.machine_load.specs.Driving.{IsDrivenOn}
use Rattle.machine_load.specs.LoadFault.{IsBeginningFault, IsLoadFault, gone}
use Rattle.machine_load.specs.Parts.{held}
use Rattle.machine_load.specs.Scene.{around_of, gone_of, keeper_of, scene, tells_of}
use Rattle.host_devices.specs.Told.{Gains}
use Rattle.machine_load.proofs.Faults.{asked_unopened, error_is, not_loaded, of_beginning, of_opening}
use Rattle.machine_load.proofs.Loads.{answered, answered_in_vain, driven, over}
use Rattle.machine_load.proofs.loading.load.Goals as goal

pub returns-in_err-first-clause-err : goal.returns-in_err-first-clause-err
returns-in_err-first-clause-err g c =
    let keeper = keeper_of g.S.Surroundings g.S.Keeper.Keep in
    let asked = task c.args.plan c.args.options in
    let before = scene g.S.Surroundings g.W.Write c.args.around.now c.args.out.now in
    let after = scene g.S.Surroundings g.W.Write c.first_life.new.around c.args.out.now in
    not_loaded c.from_residual.result keeper asked before after
    (error_is c.from_residual.result c.in_err-first.field-0.0
    (IsLoadFault (IsDrivenOn keeper) asked (before.setting ⇒ after.setting))
    c.from_residual.ensures.1
    (of_opening (IsDrivenOn keeper) asked before.setting.around after.setting.around _ _ _ c.in_err-first.field-0.0 c.in_err-first.ensures.fault
    c.first_life.ensures.same c.first_life.ensures.lines))
    (error_is c.from_residual.result c.in_err-first.field-0.0 (IsAskedBefore before.call before.asked after.asked) c.from_residual.ensures.1
    (asked_unopened c.args.plan before.setting.around after.setting.around c.in_err-first.field-0.0 before.call before.asked after.asked c.in_err-first.ensures.fault
    c.first_life.ensures.asked))

pub returns-in_err-lived-clause-err : goal.returns-in_err-lived-clause-err
returns-in_err-lived-clause-err g c =
    let keeper = keeper_of g.S.Surroundings g.S.Keeper.Keep in
    let asked = task c.args.plan c.args.options in
    let before = scene g.S.Surroundings g.W.Write c.args.around.now c.args.out.now in
    let after = scene g.S.Surroundings g.W.Write c.begin.new.around c.args.out.now in
    not_loaded c.from_residual-in_err-lived.result keeper asked before after
    (error_is c.from_residual-in_err-lived.result c.in_err-lived.field-0.0
    (IsLoadFault (IsDrivenOn keeper) asked (before.setting ⇒ after.setting))
    c.from_residual-in_err-lived.ensures.1
    (of_beginning (IsDrivenOn keeper) asked _ (around_of g.S.Surroundings c.first_life.new.around) _ _ _ _ _
    _ c.in_err-lived.field-0.0 c.in_ok-first.ensures.opened
    (subst (λ lines. IsBeginningFault (opened_as c.in_ok-first.first c.args.options.fast c.in_ok-first.writable) (gone (around_of g.S.Surroundings c.first_life.new.around) lines ⇒ gone_of g.S.Surroundings c.begin.new.around) c.in_err-lived.field-0.0)
    c.first_life.ensures.lines c.in_err-lived.ensures.fault)))
    (search rules)

pub report-requires : goal.report-requires
report-requires g c = record { few = subst SendsFew c.in-Over.is c.in_ok-lived.ensures.few }

pub returns-in-Over : goal.returns-in-Over
returns-in-Over g c =
    let tells = tells_of g.S.Surroundings g.S.Line.Line g.S.Keeper.Keep in
    let asked = task c.args.plan c.args.options in
    let before = scene g.S.Surroundings g.W.Write c.args.around.now c.args.out.now in
    let opened = scene g.S.Surroundings g.W.Write c.first_life.new.around c.args.out.now in
    let between = scene g.S.Surroundings g.W.Write c.begin.new.around c.args.out.now in
    let after = scene g.S.Surroundings g.W.Write c.report.new.around c.report.new.out in
    let life = opened_as c.in_ok-first.first c.args.options.fast c.in_ok-first.writable in
    let is = over tells asked before opened between c.in_ok-first.first c.in_ok-first.writable
    (record {
      opened = c.in_ok-first.ensures.opened;
      lines = c.first_life.ensures.lines;
      asked = c.first_life.ensures.asked;
      call = c.first_life.ensures.call;
    })
    c.in-Over.lived
    (subst (IsBeginning tells life (opened.setting.around ⇒ between.setting.around)) c.in-Over.is (c.in_ok-lived.ensures.begun))
    c.in_ok-lived.ensures.lines
    (subst (λ beginning. Gains opened.asked between.asked (asked_to_begin opened.call beginning)) c.in-Over.is c.in_ok-lived.ensures.asked) in
    record {
      ok = answered tells asked before between after c.in-Over.lived is refl c.report.result c.report.ensures.ok;
      err = answered_in_vain tells asked before between after c.in-Over.lived is refl c.report.result c.report.ensures.err;
    }

pub go_on-gone-requires-clause-room : goal.go_on-gone-requires-clause-room
go_on-gone-requires-clause-room g c =
    let is : IsBeginning (tells_of g.S.Surroundings g.S.Line.Line g.S.Keeper.Keep) (opened_as c.in_ok-first.first c.args.options.fast c.in_ok-first.writable)
    (around_of g.S.Surroundings c.first_life.new.around ⇒ around_of g.S.Surroundings c.begin.new.around) (Begun c.in-Begun.begun) =
    subst (IsBeginning (tells_of g.S.Surroundings g.S.Line.Line g.S.Keeper.Keep) (opened_as c.in_ok-first.first c.args.options.fast c.in_ok-first.writable)
    (around_of g.S.Surroundings c.first_life.new.around ⇒ around_of g.S.Surroundings c.begin.new.around)) c.in-Begun.is (c.in_ok-lived.ensures.begun) in
    is.room_is

pub returns : goal.returns
returns g c =
    let tells = tells_of g.S.Surroundings g.S.Line.Line g.S.Keeper.Keep in
    let asked = task c.args.plan c.args.options in
    let before = scene g.S.Surroundings g.W.Write c.args.around.now c.args.out.now in
    let opened = scene g.S.Surroundings g.W.Write c.first_life.new.around c.args.out.now in
    let begun = scene g.S.Surroundings g.W.Write c.begin.new.around c.args.out.now in
    let between = scene g.S.Surroundings g.W.Write c.end_record.new.self c.args.out.now in
    let after = scene g.S.Surroundings g.W.Write c.report-2.new.around c.report-2.new.out in
    let life = opened_as c.in_ok-first.first c.args.options.fast c.in_ok-first.writable in
    let stubs = c.bring_stubs-stubs.result in
    let is = driven tells asked before opened between c.in_ok-first.first c.in_ok-first.writable
    (record {
      opened = c.in_ok-first.ensures.opened;
      lines = c.first_life.ensures.lines;
      asked = c.first_life.ensures.asked;
      call = c.first_life.ensures.call;
    })
    c.in-Begun.begun begun stubs c.go_on-gone.result c.go_on-gone.new.line c.go_on-gone.new.keeper
    (subst (IsBeginning tells life (opened.setting.around ⇒ begun.setting.around)) c.in-Begun.is (c.in_ok-lived.ensures.begun))
    c.bring_stubs-stubs.ensures.asked
    (record {
      between = held (line_told g.S.Line.Line c.bring_stubs-stubs.new.line) c.bring_stubs-stubs.new.keeper;
      stubs = c.bring_stubs-stubs.ensures.brought;
      stubs_kept = c.bring_stubs-stubs.ensures.kept;
      rest = c.go_on-gone.ensures.gone;
    })
    c.end_record.ensures.step c.end_record.ensures.text c.end_record.ensures.disk (c.end_record.ensures.lines ∙ c.in_ok-lived.ensures.lines)
    (rw (sym c.end_record.ensures.asked) at (subst (λ beginning. Gains opened.asked begun.asked (asked_to_begin opened.call beginning)) c.in-Begun.is c.in_ok-lived.ensures.asked)) in
    record {
      ok = answered tells asked before between after _ is refl c.report-2.result c.report-2.ensures.ok;
      err = answered_in_vain tells asked before between after _ is refl c.report-2.result c.report-2.ensures.err;
    }
