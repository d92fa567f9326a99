use Rattle.std.proofs.Common.{◌≡◌, ◌++◌, ◌∙◌, List, Some, None, true, ℕ, ap, subst, sym}
use Rattle.tape_shelf.proofs.OnShelf.{error_is}
use Rattle.std.specs.Prelude.{IfErr, if◌then◌else◌}
use Rattle.tape_shelf.specs.ShelfAt.{shelf_at}
use Rattle.tape_shelf.specs.SavedTape.{last_text}
use Rattle.machine_look.specs.Behind.{Saving}
use Rattle.machine_look.specs.Course.{IsUnclosed, closing_text}
use Rattle.machine_look.specs.LookFault.{IsKeepFault}
use Rattle.machine_look.specs.Save.{has_all}
use Rattle.machine_look.specs.Trust.{are_trusted}
use Rattle.machine_look.specs.declared.reading_blocks.Course.{Course}
use Rattle.machine_look.proofs.saving.conclude.Goals as goal

-- the tape that can't be closed is that of the numbers that were found and read
pub returns-in_err-close-in-Read-clause-fault : goal.returns-in_err-close-in-Read-clause-fault
returns-in_err-close-in-Read-clause-fault g c =
    let saving : Saving = record { options = c.args.options; found = c.args.found.now } in
    let before = shelf_at g.S.Shelf c.args.shelf.now in
    let after = shelf_at g.S.Shelf c.close.new.shelf in
    let kept : IsKeepFault (last_text c.args.options.range.from (c.args.found.now ++ c.in-Read.core.values) c.args.options.start) before after c.in_err-close-in-Read.field-0.0 =
    subst (λ (numbers : List ℕ). IsKeepFault (last_text c.args.options.range.from (c.args.found.now ++ numbers) c.args.options.start) before after c.in_err-close-in-Read.field-0.0) c.values-numbers.ensures.value c.in_err-close-in-Read.ensures.fault in
    let all : has_all c.in-Read.stop (are_trusted c.args.options.care c.in-Read.looks c.in-Read.core) ≡ true = ap (has_all c.in-Read.stop) (sym c.are_trusted-trusted.ensures) ∙ (sym c.has_all.ensures ∙ c.if-has_all.true) in
    let text : List ℕ = last_text c.args.options.range.from (c.args.found.now ++ c.in-Read.core.values) c.args.options.start in
    subst (λ (course : Course). IfErr c.from_residual.result (IsUnclosed (closing_text saving course) before after)) (sym c.in-Read.is)
    (subst (λ test. IfErr c.from_residual.result (IsUnclosed (if test then Some text else None) before after)) (sym all)
    (error_is c.from_residual.result c.in_err-close-in-Read.field-0.0 (IsKeepFault (last_text c.args.options.range.from (c.args.found.now ++ c.in-Read.core.values) c.args.options.start) before after) c.from_residual.ensures.1 kept))
