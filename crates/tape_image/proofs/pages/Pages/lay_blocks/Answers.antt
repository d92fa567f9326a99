use Rattle.std.proofs.Common.{ap, ◌∙◌, subst}
use Rattle.tape_values.specs.Block.{BlockValue, block_at}
use Rattle.tape_image.specs.Image.{byte_in}
use Rattle.tape_image.specs.Pages.{IsLaid}
use Rattle.tape_image.proofs.Laying.{IsLaid-block}
use Rattle.tape_image.proofs.pages.Pages.lay_blocks.Goals as goal

pub loop-block-preserved : goal.loop-block-preserved
loop-block-preserved c =
    IsLaid-block c.args.blocks.now c.loop-block.block-index c.block-item.result c.args.self.now c.loop-block.self c.lay.new.self c.loop-block-test.true c.block-item.is c.loop-block.invariant
    (subst (λ (block : BlockValue). IsLaid (byte_in block) c.loop-block.self c.lay.new.self) (ap (block_at c.block.inside.address) c.deref.ensures.value ∙ c.block.view_is) c.in_ok-lay.ensures)
