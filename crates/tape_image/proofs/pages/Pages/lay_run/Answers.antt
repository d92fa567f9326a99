use Rattle.std.proofs.Common.{◌≡◌, ℕ, Some, ap, ◌∙◌}
use Rattle.std.specs.Global.{Box}
use Rattle.std.specs.FinMap.{get, get-empty}
use Rattle.std.specs.Ordering.{nat_cmp}
use Rattle.tape_image.specs.Image.{Image}
use Rattle.tape_image.specs.Pages.{byte_in_page}
use Rattle.tape_image.proofs.Tables.{IsLaid-table}
use Rattle.tape_image.proofs.pages.Pages.lay_run.Goals as goal
use Rattle.tape_image.proofs.pages.Pages.lay_run.Goals.{in-Some, in-None+in_ok-page-in-None}

pub returns : goal.returns
returns c =
    let was : ((r : ℕ) → get c.match-take.page.value r ≡ byte_in_page (Some c.index_mut.result.now) r) =
    elim c.match-take.branch [
      | in-Some w ↦ λ r. ap (λ (page : Box Image). get page.value r) w.page-is ∙ ap (λ o. byte_in_page (Some o) r) w.in-Some.ensures.value
      | in-None+in_ok-page-in-None w ↦ λ r.
          ap (λ (page : Box Image). get page.value r) w.page-is
          ∙ ap (λ (image : Image). get image r) (w.in_ok-page-in-None.ensures.ok ∙ w.empty.ensures)
          ∙ get-empty nat_cmp r
          ∙ ap (λ o. byte_in_page (Some o) r) w.in-None.ensures.value
    ] in
    IsLaid-table c.self.inside.table.items c.args.number c.args.offset c.args.run.now c.index_mut.result.now c.take.new.self
    (record c.match-take.page { value = c.lay.new.self }) c.deref_mut.result.now c.args.self.now c.requires.page c.requires.within c.self.invariant c.self.view_is
    c.index_mut.ensures.value (λ r. ap (λ (image : Image). get image r) c.deref_mut.ensures.value ∙ was r) c.lay.ensures
