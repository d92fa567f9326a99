use Rattle.std.proofs.Common.{IfOk, IfErr, inl, inr, refl, sym, subst}
use Rattle.std.proofs.lemmas.Result.{IfOk-weaker, IfErr-weaker}
use Rattle.request_values.specs.Change.{◌⇒◌}
use Rattle.requests.specs.Asked.{asked_of, system_told}
use Rattle.requests.specs.Making.{AreWordsUnmade, IsNotPutOn, IsPutOn}
use Rattle.requests.specs.Moment.{moment}
use Rattle.requests.specs.Saving.{new_shelf}
use Rattle.tape_shelf.specs.ShelfDisk.{part_name}
use Rattle.requests.proofs.making.make_words.Goals as goal

pub returns-in-Ok : goal.returns-in-Ok
returns-in-Ok g c =
    let inside = c.system.inside in
    let disk = g.K.Disk.Disk.asked in
    let make = c.args.make in
    let put = c.put_on-disk in
    let shelf = new_shelf make.file (disk inside.disk) (g.K.Disk.Disk.holds inside.disk (part_name make.file.now)) in
    let asked = disk put.result.0 in
    let text = c.in-Ok.text.items in
    let made = c.in-Ok.ensures.ok in
    let nothing_printed = c.in-Ok.ensures.same_out in
    rw (← c.system.view_is, c.new-system.ensures) (record {
      ok = IfOk-weaker put.result.1 _ _
          (λ status is. record { text = text; made = made; put = is; no_console = record { for_lines = refl; lines = refl }; nothing_printed = nothing_printed })
          (subst (λ t. IfOk put.result.1 (IsPutOn make.file t shelf asked)) c.deref.ensures.value put.ensures.ok);
      err = IfErr-weaker put.result.1 _ _
          (λ failure is. inr (record { text = text; made = made; not_put = is; no_console = record { for_lines = refl; lines = refl }; nothing_printed = nothing_printed }))
          (subst (λ t. IfErr put.result.1 (IsNotPutOn make.file t shelf asked)) c.deref.ensures.value put.ensures.err);
      quiet = c.tape_of_words.ensures.quiet;
    })

pub returns-in-Err-clause-err : goal.returns-in-Err-clause-err
returns-in-Err-clause-err g c =
    let inside = c.system.inside in
    let asked = g.K.Consoles.Consoles.asked inside.consoles in
    let lines = g.K.Consoles.Consoles.lines inside.consoles in
    let before = moment g.K.Disk.Disk.holds (system_told (asked_of (g.K.Inputs.InputFiles.opened inside.inputs) (g.K.Disk.Disk.asked inside.disk) asked lines) inside.disk) c.args.streams.now in
    let held = c.tape_of_words.new.streams in
    rw (← c.system.view_is) (subst (λ s. AreWordsUnmade c.args.make (before ⇒ moment g.K.Disk.Disk.holds s held) c.in-Err.failure) (sym c.new-system-in-Err.ensures)
    (inl (record { unmade = c.in-Err.ensures.err; nobody = refl; nothing_printed = c.in-Err.ensures.same_out })))
