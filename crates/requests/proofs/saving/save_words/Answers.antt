use Rattle.std.proofs.Common.{◌≡◌, IfOk, IfErr, refl, ap, option_map, subst}
use Rattle.std.proofs.lemmas.Result.{IfOk-weaker, IfErr-weaker}
use Rattle.console_lines.specs.Path.{call_to}
use Rattle.endings.specs.Held.{Held}
use Rattle.tape_shelf.specs.ShelfDisk.{part_name, room_of}
use Rattle.machine_look.specs.Save.{save_told}
use Rattle.tape_shelf.specs.ShelfTold.{ShelfTold}
use Rattle.request_values.specs.Change.{◌⇒◌}
use Rattle.requests.specs.Asked.{asked_of, system_told}
use Rattle.requests.specs.Moment.{TakesNoInput, console_at, moment}
use Rattle.requests.specs.Saving.{IsSaveFailure, IsSaveOver, shelf_at}
use Rattle.requests.proofs.Saved.{new_is, same_left, shelf_on}
use Rattle.requests.proofs.Consoles.{at_output}
use Rattle.requests.proofs.saving.save_words.Goals as goal

pub returns : goal.returns
returns g c =
    let inside = c.system.inside in
    let asked = g.K.Consoles.Consoles.asked in
    let lines = g.K.Consoles.Consoles.lines in
    let disk = g.K.Disk.Disk.asked in
    let room = option_map (room_of g.K.Disk.File.Write.contents) in
    let opened = g.K.Inputs.InputFiles.opened inside.inputs in
    let on = c.save_on-outcome in
    let consoles' = on.new.consoles in
    let held : Held = record {
      input = g.R.Read.remaining c.streams.inside.input;
      out = g.W.Write.contents on.new.out;
      unread = g.W.Output.unread on.new.out;
      err = g.E.FaultOutput.said c.streams.inside.err;
    } in
    let before = moment g.K.Disk.Disk.holds (system_told (asked_of opened (disk inside.disk) (asked inside.consoles) (lines inside.consoles)) inside.disk) c.args.streams.now in
    let after = moment g.K.Disk.Disk.holds (system_told (asked_of opened (disk c.close.result) (asked consoles') (lines consoles')) c.close.result) held in
    let save = c.args.request in
    let look = save.look in
    let said = at_output (ap (λ (h : Held). h.out) c.streams.view_is)
    (record { asked = asked inside.consoles; call = call_to look.line.now look.quiet_ms; lines = lines inside.consoles; out = held.out })
    (record { asked = asked consoles'; call = call_to look.line.now look.quiet_ms; lines = lines consoles'; out = held.out }) in
    let fresh = c.new-shelf in
    let kept = on.new.shelf in
    let holds = g.K.Disk.Disk.holds in
    let left = holds fresh.result.disk (part_name fresh.result.name.now) in
    let shelf : ShelfTold = shelf_on (disk kept.disk) kept.name.now (room kept.part) (holds kept.disk (part_name kept.name.now)) in
    let first : ShelfTold = shelf_on (disk fresh.result.disk) fresh.result.name.now (room fresh.result.part) left in
    let is_new : first ≡ shelf_at save.file before =
    new_is save.file (disk inside.disk) _ _ _ _ _ (ap disk fresh.ensures.disk) fresh.ensures.name (ap room fresh.ensures.room)
    (same_left holds fresh.result.disk inside.disk fresh.result.name.now save.file.now fresh.ensures.disk fresh.ensures.name) in
    let no_input : TakesNoInput (before ⇒ after) = record { no_file = refl; nothing_read = ap (λ (h : Held). h.input) c.streams.view_is } in
    rw (← c.system.view_is, c.new-system.ensures) (record {
      ok = IfOk-weaker on.result _ _ (λ status is. record { shelf = shelf; saved = is; let_go = c.close.ensures.asked; no_input = no_input })
          (subst (λ s. IfOk on.result (IsSaveOver save (save_told s (console_at look before) ⇒ save_told shelf (console_at look after)))) is_new
          (said (λ x y. IfOk on.result (IsSaveOver save (save_told first x ⇒ save_told shelf y))) on.ensures.ok));
      err = IfErr-weaker on.result _ _ (λ failure is. record { shelf = shelf; failed = is; let_go = c.close.ensures.asked; no_input = no_input })
          (subst (λ s. IfErr on.result (IsSaveFailure save (save_told s (console_at look before) ⇒ save_told shelf (console_at look after)))) is_new
          (said (λ x y. IfErr on.result (IsSaveFailure save (save_told first x ⇒ save_told shelf y))) on.ensures.err));
      quiet = ap (λ (h : Held). h.err) c.streams.view_is;
    })
