use Rattle.std.proofs.Common.{sym, ap, ◌∙◌}
use Rattle.std.specs.FinMap.{get}
use Rattle.tape_image.specs.Image.{Image}
use Rattle.tape_image.proofs.PageBytes.{get-page}
use Rattle.tape_image.proofs.page.Page.byte_at.Goals as goal

pub returns : goal.returns
returns c =
    c.then_some.ensures ∙ sym (get-page c.self.inside.marks c.self.inside.bytes c.args.offset c.self.told.0)
    ∙ ap (λ (image : Image). get image c.args.offset) c.self.view_is
