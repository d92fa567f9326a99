use Rattle.std.proofs.Common.{◌%◌, Some, sym, ap, ◌∙◌}
use Rattle.std.specs.FinMap.{get}
use Rattle.tape_image.specs.Image.{Image}
use Rattle.tape_image.specs.Pages.{byte_in_page}
use Rattle.tape_image.proofs.Tables.{get-slot, get-no_slot}
use Rattle.tape_image.proofs.pages.Pages.byte_at.Goals as goal

pub returns-in_err-get : goal.returns-in_err-get
returns-in_err-get c =
    c.from_residual.ensures
    ∙ sym (get-no_slot c.self.inside.table.items c.deref.result.now c.args.self.now c.args.address c.deref.ensures.value c.self.invariant c.self.view_is c.in_err-get.ensures.lookup.3)

pub returns-in_err-page : goal.returns-in_err-page
returns-in_err-page c =
    c.from_residual-in_err-page.ensures
    ∙ ap (λ slot. byte_in_page (Some slot) (c.args.address % 512)) c.in_err-page.ensures.value
    ∙ sym (get-slot c.self.inside.table.items c.deref.result.now c.in_ok-get.field-0.now c.args.self.now c.args.address c.deref.ensures.value c.self.invariant c.self.view_is c.in_ok-get.ensures.lookup.3.0 c.in_ok-get.ensures.lookup.1)

pub returns : goal.returns
returns c =
    c.byte_at.ensures
    ∙ ap (λ (page : Image). get page (c.args.address % 512)) c.deref-2.ensures
    ∙ ap (λ slot. byte_in_page (Some slot) (c.args.address % 512)) c.in_ok-page.ensures.value
    ∙ sym (get-slot c.self.inside.table.items c.deref.result.now c.in_ok-get.field-0.now c.args.self.now c.args.address c.deref.ensures.value c.self.invariant c.self.view_is c.in_ok-get.ensures.lookup.3.0 c.in_ok-get.ensures.lookup.1)
