use Rattle.std.proofs.Common.{inl}
use Rattle.console_lines.specs.Console.{console_told}
use Rattle.machine_look.specs.Save.{SaveTold, save_told}
use Rattle.request_values.specs.Change.{Change, ◌⇒◌}
use Rattle.requests.specs.Moment.{call_for}
use Rattle.requests.proofs.Saved.{saved, unsaved}
use Rattle.requests.proofs.saving.save_on.Goals as goal

pub returns-in-Ok : goal.returns-in-Ok
returns-in-Ok g c =
    let request = c.args.request in
    let tells = console_told g.C.Consoles g.W.Write (call_for request.look) in
    let last = c.save-saved.new in
    let told : Change SaveTold = save_told (g.S.Shelf.told c.args.shelf.now) (tells c.args.consoles.now c.args.out.now) ⇒ save_told (g.S.Shelf.told last.shelf) (tells last.consoles last.out) in
    record {
      ok = saved request told c.in-Ok.end c.in-Ok.ensures.ok c.after_save.result c.after_save.ensures.status;
      err = unsaved request told c.in-Ok.end c.in-Ok.ensures.ok c.after_save.result c.after_save.ensures.failure;
    }

pub returns-in-Err-clause-err : goal.returns-in-Err-clause-err
returns-in-Err-clause-err g c = inl (record { fault = c.in-Err.fault; is_so = c.in-Err.ensures.err; is_called = c.failure.ensures })
