use Rattle.std.proofs.Common.{◌≡◌, ◌+◌, ◌*◌, ◌<◌, ℕ, List, [], ◌∷◌, ◌++◌, length, ap, sym, subst, ◌∙◌, arith, length-append}
use Rattle.machine_look.specs.LookFault.{IsKeepFault, fault_of_shelf}
use Rattle.tape_shelf.specs.SavedTape.{last_text}
use Rattle.tape_shelf.specs.Shelf.{Put}
use Rattle.tape_shelf.specs.ShelfAt.{shelf_at}
use Rattle.tape_shelf.specs.ShelfTold.{AreDone}
use Rattle.machine_look.proofs.Faults.{closes_long, not_put}
use Rattle.tape_shelf.proofs.Added.{done_one, last_behind}
use Rattle.tape_shelf.proofs.OnShelf.{error_is}
use Rattle.machine_look.proofs.saving.close.Goals as goal

pub returns-in_err-put-clause-fault : goal.returns-in_err-put-clause-fault
returns-in_err-put-clause-fault g c =
    let numbers : List ℕ = c.args.found.now ++ c.args.numbers.now in
    let from = c.args.options.range.from in
    let text : c.deref.result.now ≡ last_text from numbers c.args.options.start =
    c.deref.ensures.0 ∙ (c.last_text.ensures ∙ last_behind from (c.from.result + 2 * length c.args.found.now) c.args.found.now c.args.numbers.now c.args.options.start c.requires.whole (ap (λ f. f + 2 * length c.args.found.now) c.from.ensures.value)) in
    error_is c.from_residual.result (fault_of_shelf c.in_err-put.field-0.0)
    (IsKeepFault (last_text from numbers c.args.options.start) (shelf_at g.S.Shelf c.args.shelf.now) (shelf_at g.S.Shelf c.put.new.self))
    c.from_residual.ensures.1
    (not_put (last_text from numbers c.args.options.start) c.deref.result.now c.in_err-put.field-0.0 (shelf_at g.S.Shelf c.args.shelf.now) (shelf_at g.S.Shelf c.put.new.self)
    text c.in_err-put.ensures.fault c.in_err-put.ensures.done)

pub returns-clause-ok : goal.returns-clause-ok
returns-clause-ok g c folder opened =
    let numbers : List ℕ = c.args.found.now ++ c.args.numbers.now in
    let from = c.args.options.range.from in
    let text : c.deref.result.now ≡ last_text from numbers c.args.options.start =
    c.deref.ensures.0 ∙ (c.last_text.ensures ∙ last_behind from (c.from.result + 2 * length c.args.found.now) c.args.found.now c.args.numbers.now c.args.options.start c.requires.whole (ap (λ f. f + 2 * length c.args.found.now) c.from.ensures.value)) in
    let long : 0 < length numbers = omega (arith, c.if-found-numbers-eq0.false, length-append c.args.found.now c.args.numbers.now) in
    subst (λ steps. AreDone folder steps (g.S.Shelf.told c.args.shelf.now) (g.S.Shelf.told c.put.new.self)) (sym (closes_long from numbers c.args.options.start long))
    (subst (λ t. AreDone folder (Put t ∷ []) (g.S.Shelf.told c.args.shelf.now) (g.S.Shelf.told c.put.new.self)) text
    (done_one folder (Put c.deref.result.now) (g.S.Shelf.told c.args.shelf.now) (g.S.Shelf.told c.put.new.self) (c.in_ok-put.ensures.done folder opened)))
