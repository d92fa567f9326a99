use Rattle.std.proofs.Common.{◌≡◌, ◌∙◌, ℕ, List, sym, subst}
use Rattle.std.specs.Io.KnownBytes.{Appends}
use Rattle.std.proofs.KnownBytes.{Keeps-refl}
use Rattle.byte_io.specs.Output.{WritesAllBut}
use Rattle.console_lines.specs.Console.{console_told}
use Rattle.machine_look.specs.Behind.{Saving}
use Rattle.machine_look.specs.Course.{HasRoomForCounts, IsCourse, IsTapeClosed, IsUnclosed, closing_text, counts_of}
use Rattle.machine_look.specs.declared.look_fault.LookFault.TheVariants.{WriteOutput}
use Rattle.machine_look.specs.LookFault.{IsReadFault, IsSaveFault}
use Rattle.machine_look.specs.Save.{SaveTold, console_of, save_at, save_told}
use Rattle.tape_shelf.specs.ShelfAt.{ShelfAt, shelf_at}
use Rattle.tape_shelf.proofs.OnShelf.{error_is}
use Rattle.machine_look.proofs.Faults.{not_read}
use Rattle.machine_look.proofs.Saves.{concluded, not_concluded, room_for_counts}
use Rattle.console_lines.specs.Path.{call_of}
use Rattle.machine_look.proofs.saving.save.Goals as goal

pub returns-in_err-course-clause-err : goal.returns-in_err-course-clause-err
returns-in_err-course-clause-err g c =
    let before : SaveTold = save_told (g.S.Shelf.told c.args.shelf.now) (console_told g.C.Consoles g.W.Write (call_of c.args.dial) c.args.consoles.now c.args.out.now) in
    let after : SaveTold = save_told (g.S.Shelf.told c.read_over.new.shelf) (console_told g.C.Consoles g.W.Write (call_of c.args.dial) c.read_over.new.consoles c.args.out.now) in
    let saving : Saving = record { options = c.args.options; found = c.in_ok-found.found.items } in
    let taken = c.in_ok-found.ensures.taken in
    let mid : ShelfAt = shelf_at g.S.Shelf c.take_up.new.shelf in
    error_is c.from_residual-in_err-course.result c.in_err-course.field-0.0 (IsSaveFault c.args.options before after) c.from_residual-in_err-course.ensures.1
    (not_read saving taken.0 before after mid (g.S.Shelf.is_opened_as c.read_over.new.shelf) taken.2 c.in_err-course.field-0.0 taken.1 taken.3 taken.4
    (subst (λ (f : List ℕ). IsReadFault (record { options = c.args.options; found = f }) (save_at g.S.Shelf g.C.Consoles (call_of c.args.dial) c.take_up.new.shelf c.args.consoles.now)
    (save_at g.S.Shelf g.C.Consoles (call_of c.args.dial) c.read_over.new.shelf c.read_over.new.consoles) c.in_err-course.field-0.0) c.deref-2.ensures.value c.in_err-course.ensures.fault)
    (Keeps-refl (g.W.Write.contents c.args.out.now)))

pub conclude-requires-clause-room : goal.conclude-requires-clause-room
conclude-requires-clause-room g c =
    let before : SaveTold = save_told (g.S.Shelf.told c.args.shelf.now) (console_told g.C.Consoles g.W.Write (call_of c.args.dial) c.args.consoles.now c.args.out.now) in
    let after : SaveTold = save_told (g.S.Shelf.told c.read_over.new.shelf) (console_told g.C.Consoles g.W.Write (call_of c.args.dial) c.read_over.new.consoles c.args.out.now) in
    let saving : Saving = record { options = c.args.options; found = c.in_ok-found.found.items } in
    let mid : ShelfAt = shelf_at g.S.Shelf c.take_up.new.shelf in
    let mid' : ShelfAt = shelf_at g.S.Shelf c.read_over.new.shelf in
    let course = subst (λ (f : List ℕ). IsCourse (record { options = c.args.options; found = f }) (save_at g.S.Shelf g.C.Consoles (call_of c.args.dial) c.take_up.new.shelf c.args.consoles.now)
    (save_at g.S.Shelf g.C.Consoles (call_of c.args.dial) c.read_over.new.shelf c.read_over.new.consoles) c.in_ok-course.course) c.deref-2.ensures.value c.in_ok-course.ensures.course in
    subst (λ (f : List ℕ). HasRoomForCounts c.args.options f c.in_ok-course.course) (sym c.deref-3.ensures.value)
    (room_for_counts saving mid mid' (console_of before) (console_of after) c.in_ok-course.course c.args.options.range.in_order c.in_ok-found.ensures.found course)

pub returns-in_err-counts-clause-err : goal.returns-in_err-counts-clause-err
returns-in_err-counts-clause-err g c =
    let before : SaveTold = save_told (g.S.Shelf.told c.args.shelf.now) (console_told g.C.Consoles g.W.Write (call_of c.args.dial) c.args.consoles.now c.args.out.now) in
    let after : SaveTold = save_told (g.S.Shelf.told c.conclude.new.shelf) (console_told g.C.Consoles g.W.Write (call_of c.args.dial) c.read_over.new.consoles c.args.out.now) in
    let saving : Saving = record { options = c.args.options; found = c.in_ok-found.found.items } in
    let taken = c.in_ok-found.ensures.taken in
    let mid : ShelfAt = shelf_at g.S.Shelf c.take_up.new.shelf in
    let mid' : ShelfAt = shelf_at g.S.Shelf c.read_over.new.shelf in
    let course = subst (λ (f : List ℕ). IsCourse (record { options = c.args.options; found = f }) (save_at g.S.Shelf g.C.Consoles (call_of c.args.dial) c.take_up.new.shelf c.args.consoles.now)
    (save_at g.S.Shelf g.C.Consoles (call_of c.args.dial) c.read_over.new.shelf c.read_over.new.consoles) c.in_ok-course.course) c.deref-2.ensures.value c.in_ok-course.ensures.course in
    let unclosed = subst (λ (f : List ℕ). IsUnclosed (closing_text (record { options = c.args.options; found = f }) c.in_ok-course.course) mid' (shelf_at g.S.Shelf c.conclude.new.shelf) c.in_err-counts.field-0.0) c.deref-3.ensures.value c.in_err-counts.ensures.fault in
    error_is c.from_residual-in_err-counts.result c.in_err-counts.field-0.0 (IsSaveFault c.args.options before after) c.from_residual-in_err-counts.ensures.1
    (not_concluded saving mid mid' before after taken.0 taken.2 taken.1 (g.S.Shelf.is_opened_as c.conclude.new.shelf) taken.4 taken.3 c.in_ok-course.course c.in_err-counts.field-0.0 course unclosed (Keeps-refl (g.W.Write.contents c.args.out.now)))

pub returns-in_err-write_and_flush-clause-err : goal.returns-in_err-write_and_flush-clause-err
returns-in_err-write_and_flush-clause-err g c =
    let before : SaveTold = save_told (g.S.Shelf.told c.args.shelf.now) (console_told g.C.Consoles g.W.Write (call_of c.args.dial) c.args.consoles.now c.args.out.now) in
    let after : SaveTold = save_told (g.S.Shelf.told c.conclude.new.shelf) (console_told g.C.Consoles g.W.Write (call_of c.args.dial) c.read_over.new.consoles c.write_and_flush.new.out) in
    let saving : Saving = record { options = c.args.options; found = c.in_ok-found.found.items } in
    let taken = c.in_ok-found.ensures.taken in
    let mid : ShelfAt = shelf_at g.S.Shelf c.take_up.new.shelf in
    let mid' : ShelfAt = shelf_at g.S.Shelf c.read_over.new.shelf in
    let course = subst (λ (f : List ℕ). IsCourse (record { options = c.args.options; found = f }) (save_at g.S.Shelf g.C.Consoles (call_of c.args.dial) c.take_up.new.shelf c.args.consoles.now)
    (save_at g.S.Shelf g.C.Consoles (call_of c.args.dial) c.read_over.new.shelf c.read_over.new.consoles) c.in_ok-course.course) c.deref-2.ensures.value c.in_ok-course.ensures.course in
    let counted = subst (λ (f : List ℕ). c.in_ok-counts.counts ≡ counts_of (record { options = c.args.options; found = f }) c.in_ok-course.course) c.deref-3.ensures.value c.in_ok-counts.ensures.counted in
    let closed = subst (λ (f : List ℕ). IsTapeClosed (record { options = c.args.options; found = f }) c.in_ok-course.course mid' (shelf_at g.S.Shelf c.conclude.new.shelf)) c.deref-3.ensures.value c.in_ok-counts.ensures.closed in
    let over = concluded saving mid mid' before after taken.0 taken.2 taken.1 (g.S.Shelf.is_opened_as c.conclude.new.shelf) taken.4 taken.3 c.in_ok-course.course (c.in_ok-counts.counts, c.in_ok-counts.end) c.args.options.range.in_order c.conclude.ensures.fits
    c.in_ok-found.ensures.found course counted c.in_ok-counts.ensures.ended closed in
    let text = c.deref-4.ensures.0 ∙ c.save_report.ensures in
    error_is c.from_residual-in_err-write_and_flush.result WriteOutput (IsSaveFault c.args.options before after) c.from_residual-in_err-write_and_flush.ensures.1 (record {
      counts = c.in_ok-counts.counts;
      end = c.in_ok-counts.end;
      over = over;
      missing = c.in_err-write_and_flush.ensures.err.0;
      reported = subst (λ t. WritesAllBut (g.W.Write.contents c.args.out.now) (g.W.Write.contents c.write_and_flush.new.out) t c.in_err-write_and_flush.ensures.err.0) text c.in_err-write_and_flush.ensures.err.1;
    })

pub returns-clause-ok : goal.returns-clause-ok
returns-clause-ok g c =
    let before : SaveTold = save_told (g.S.Shelf.told c.args.shelf.now) (console_told g.C.Consoles g.W.Write (call_of c.args.dial) c.args.consoles.now c.args.out.now) in
    let after : SaveTold = save_told (g.S.Shelf.told c.conclude.new.shelf) (console_told g.C.Consoles g.W.Write (call_of c.args.dial) c.read_over.new.consoles c.write_and_flush.new.out) in
    let saving : Saving = record { options = c.args.options; found = c.in_ok-found.found.items } in
    let taken = c.in_ok-found.ensures.taken in
    let mid : ShelfAt = shelf_at g.S.Shelf c.take_up.new.shelf in
    let mid' : ShelfAt = shelf_at g.S.Shelf c.read_over.new.shelf in
    let course = subst (λ (f : List ℕ). IsCourse (record { options = c.args.options; found = f }) (save_at g.S.Shelf g.C.Consoles (call_of c.args.dial) c.take_up.new.shelf c.args.consoles.now)
    (save_at g.S.Shelf g.C.Consoles (call_of c.args.dial) c.read_over.new.shelf c.read_over.new.consoles) c.in_ok-course.course) c.deref-2.ensures.value c.in_ok-course.ensures.course in
    let counted = subst (λ (f : List ℕ). c.in_ok-counts.counts ≡ counts_of (record { options = c.args.options; found = f }) c.in_ok-course.course) c.deref-3.ensures.value c.in_ok-counts.ensures.counted in
    let closed = subst (λ (f : List ℕ). IsTapeClosed (record { options = c.args.options; found = f }) c.in_ok-course.course mid' (shelf_at g.S.Shelf c.conclude.new.shelf)) c.deref-3.ensures.value c.in_ok-counts.ensures.closed in
    let text = c.deref-4.ensures.0 ∙ c.save_report.ensures in
    record {
      counts = c.in_ok-counts.counts;
      over = concluded saving mid mid' before after taken.0 taken.2 taken.1 (g.S.Shelf.is_opened_as c.conclude.new.shelf) taken.4 taken.3 c.in_ok-course.course (c.in_ok-counts.counts, c.in_ok-counts.end) c.args.options.range.in_order c.conclude.ensures.fits
          c.in_ok-found.ensures.found course counted c.in_ok-counts.ensures.ended closed;
      reported = subst (Appends (g.W.Write.contents c.args.out.now) (g.W.Write.contents c.write_and_flush.new.out)) text c.in_ok-write_and_flush.ensures.ok;
    }
