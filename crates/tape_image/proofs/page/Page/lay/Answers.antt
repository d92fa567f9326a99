use Rattle.std.proofs.Common.{◌+◌, ◌-◌, length, arith}
use Rattle.tape_image.proofs.PageBytes.{IsLaid-run}
use Rattle.tape_image.proofs.page.Page.lay.Goals as goal

pub returns : goal.returns
returns c =
    IsLaid-run c.self.inside.marks c.fill.new.self c.self.inside.bytes c.copy_from_slice.new.self c.args.run.now c.args.offset
    (c.args.offset + length c.args.run.now - c.args.offset) c.args.self.now (omega arith) (omega arith)
    c.self.told.0 c.self.told.1 c.self.view_is (c.fill.ensures.after (λ y e. e)) c.copy_from_slice.ensures.after
