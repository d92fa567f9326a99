use Rattle.std.proofs.Common.{take}
use Rattle.tape_image.specs.Image.{byte_at}
use Rattle.tape_image.specs.Pages.{IsLaid}
use Rattle.tape_image.proofs.pages.Pages.lay_blocks.Given as goal

-- the blocks so far are laid
abbrev pub invariant-loop-block : goal.invariant-loop-block
invariant-loop-block l = IsLaid (byte_at (take l.block-index l.blocks)) l.fn.self l.self
