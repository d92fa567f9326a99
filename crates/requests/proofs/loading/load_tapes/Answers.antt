use Rattle.std.proofs.Common.{◌≡◌, ◌∙◌, Some, None, IfOk, IfErr, inl, refl, ap, option_map, sym, subst}
use Rattle.console_lines.specs.Path.{call_of, call_to}
use Rattle.endings.specs.Held.{Held}
use Rattle.input_files.specs.Intake.{intake}
use Rattle.machine_load.specs.Driving.{IsDrivenOn, in_memory, on_disk}
use Rattle.machine_load.specs.Load.{HowItGoesOn}
use Rattle.machine_load.specs.RecordDisk.{RecordDisk}
use Rattle.machine_load.proofs.Driving.{kept_on_disk}
use Rattle.record_file.specs.DiskRecord.{HasBegun}
use Rattle.record_file.specs.Known.{known_of}
use Rattle.request_values.specs.Change.{◌⇒◌}
use Rattle.requests.specs.Asked.{asked_of, system_told}
use Rattle.requests.specs.Loading.{IsLoadFailure, IsLoadOver, IsRecordLetGo, first_record, goes_on_in, planned_load, scene_at}
use Rattle.requests.specs.Moment.{intake_at, moment}
use Rattle.requests.specs.Planning.{IsPlanned}
use Rattle.requests.proofs.Loaded.{first_is, going_so, same_held, tapes_loaded, tapes_unloaded}
use Rattle.requests.proofs.Consoles.{at_output}
use Rattle.requests.proofs.loading.load_tapes.Goals as goal
use Rattle.requests.proofs.loading.load_tapes.Goals.{in-Some, in-None}

pub returns-in-Err-clause-err : goal.returns-in-Err-clause-err
returns-in-Err-clause-err g c = rw (← c.system.view_is) (inl (refl, c.in-Err.ensures.err))

pub returns : goal.returns
returns g c =
    let inside = c.system.inside in
    let asked = g.K.Consoles.Consoles.asked in
    let lines = g.K.Consoles.Consoles.lines in
    let disk = g.K.Disk.Disk.asked in
    let written = g.K.Disk.File.DiskFile.written in
    let holds = g.K.Disk.Disk.holds in
    let names = c.args.names.now in
    let request = c.args.request in
    let plan = c.in-Ok.plan in
    let opened' = g.K.Inputs.InputFiles.opened c.plan_tapes.new.inputs in
    let before = moment g.K.Disk.Disk.holds (system_told (asked_of (g.K.Inputs.InputFiles.opened inside.inputs) (disk inside.disk) (asked inside.consoles) (lines inside.consoles)) inside.disk) c.args.streams.now in
    let planned = subst (λ (h : Held). IsPlanned names (intake_at before) (intake opened' h) plan) (sym c.streams.view_is) c.in-Ok.ensures.ok in
    let same_out = ap (λ (h : Held). h.out) c.streams.view_is ∙ c.in-Ok.ensures.same_out in
    let quiet = ap (λ (h : Held). h.err) c.streams.view_is ∙ c.plan_tapes.ensures.quiet in
    let started = c.starting-plan.result in
    let same = c.starting-plan.ensures.value in
    rw (← c.system.view_is) (elim c.match-request.branch [
      | in-Some w ↦
          let load = w.load_plan-outcome in
          let consoles' = load.new.around.consoles in
          let held : Held = record {
            input = g.R.Read.remaining c.streams.inside.input;
            out = g.W.Write.contents load.new.out;
            unread = g.W.Output.unread load.new.out;
            err = g.E.FaultOutput.said c.streams.inside.err;
          } in
          let after = moment g.K.Disk.Disk.holds (system_told (asked_of opened' (disk w.close-disk.result) (asked consoles') (lines consoles')) w.close-disk.result) held in
          let planned' : IsPlanned names (intake_at before) (intake_at after) plan = record { held = planned.held; opened = planned.opened; is_so = planned.is_so } in
          let old = w.new-records.result in
          let new = load.new.around.records in
          let first : RecordDisk = record { asked = disk old.disk; name = old.name.now; known = option_map (known_of written) old.held; holds = holds old.disk old.name.now } in
          let last : RecordDisk = record { asked = disk new.disk; name = new.name.now; known = option_map (known_of written) new.held; holds = holds new.disk new.name.now } in
          let made = w.new-records.ensures in
          let is_first = first_is request.record w.in-Some.name before first w.in-Some.is (ap disk made.disk) made.name made.held
          (same_held holds old.disk inside.disk old.name.now w.in-Some.name.now made.disk made.name) in
          let let_go = subst (λ file. IsRecordLetGo file (Some last) (before ⇒ after)) (sym w.in-Some.is) w.close-disk.ensures.asked in
          let goes : HowItGoesOn = IsDrivenOn (record on_disk { begins = λ keeper plan k. HasBegun g.K.Disk.File.Write.contents plan k keeper }) in
          let planned_so = going_so (planned_load started request) goes in
          let call' = call_of load.new.around.dial in
          let said = at_output same_out
          (record { asked = asked inside.consoles; call = call_to request.line.now request.quiet_ms; lines = lines inside.consoles; out = held.out })
          (record { asked = asked consoles'; call = call'; lines = lines consoles'; out = held.out }) in
          rw (w.result-is, w.streams-inside-is, w.new-system.ensures) (record {
            ok = tapes_loaded names request before after plan planned' started same (Some first) (Some last) is_first let_go call' goes
                (λ going around finish h. subst (λ file. goes_on_in file going around finish) (sym w.in-Some.is) (kept_on_disk g.K.Disk.File.Write.contents going around finish h)) load.result
                (said (λ x y. IfOk load.result (IsLoadOver planned_so (scene_at x (Some first) ⇒ scene_at y (Some last)))) load.ensures.ok);
            err = tapes_unloaded names request before after plan planned' started same (Some first) (Some last) is_first let_go call' goes
                (λ going around finish h. subst (λ file. goes_on_in file going around finish) (sym w.in-Some.is) (kept_on_disk g.K.Disk.File.Write.contents going around finish h)) load.result
                (said (λ x y. IfErr load.result (IsLoadFailure planned_so (scene_at x (Some first) ⇒ scene_at y (Some last)))) load.ensures.err);
            quiet = quiet;
          })
      | in-None w ↦
          let load = w.load_plan-outcome-in-None in
          let consoles' = load.new.around.consoles in
          let held : Held = record {
            input = g.R.Read.remaining c.streams.inside.input;
            out = g.W.Write.contents load.new.out;
            unread = g.W.Output.unread load.new.out;
            err = g.E.FaultOutput.said c.streams.inside.err;
          } in
          let after = moment g.K.Disk.Disk.holds (system_told (asked_of opened' (disk inside.disk) (asked consoles') (lines consoles')) inside.disk) held in
          let planned' : IsPlanned names (intake_at before) (intake_at after) plan = record { held = planned.held; opened = planned.opened; is_so = planned.is_so } in
          let is_first = subst (λ file. None ≡ first_record file before) (sym w.in-None.is) refl in
          let let_go = subst (λ file. IsRecordLetGo file None (before ⇒ after)) (sym w.in-None.is) refl in
          let goes : HowItGoesOn = IsDrivenOn in_memory in
          let planned_so = going_so (planned_load started request) goes in
          let call' = call_of load.new.around.dial in
          let said = at_output same_out
          (record { asked = asked inside.consoles; call = call_to request.line.now request.quiet_ms; lines = lines inside.consoles; out = held.out })
          (record { asked = asked consoles'; call = call'; lines = lines consoles'; out = held.out }) in
          rw (w.result-is, w.streams-inside-is, w.new-system-in-None.ensures) (record {
            ok = tapes_loaded names request before after plan planned' started same None None is_first let_go call' goes
                (λ going around finish h. subst (λ file. goes_on_in file going around finish) (sym w.in-None.is) h) load.result
                (said (λ x y. IfOk load.result (IsLoadOver planned_so (scene_at x None ⇒ scene_at y None))) load.ensures.ok);
            err = tapes_unloaded names request before after plan planned' started same None None is_first let_go call' goes
                (λ going around finish h. subst (λ file. goes_on_in file going around finish) (sym w.in-None.is) h) load.result
                (said (λ x y. IfErr load.result (IsLoadFailure planned_so (scene_at x None ⇒ scene_at y None))) load.ensures.err);
            quiet = quiet;
          })
    ])
