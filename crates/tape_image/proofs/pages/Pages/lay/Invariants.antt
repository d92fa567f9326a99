use Rattle.std.proofs.Common.{◌*◌, ◌-◌, take}
use Rattle.tape_values.specs.Block.{block_at}
use Rattle.tape_image.specs.Image.{byte_in}
use Rattle.tape_image.specs.Pages.{IsLaid}
use Rattle.tape_image.proofs.pages.Pages.lay.Given as goal

-- the bytes below the page's first address are laid
abbrev pub invariant-loop-number : goal.invariant-loop-number
invariant-loop-number l = IsLaid (byte_in (block_at l.fn.address (take (512 * l.number - l.fn.address) l.bytes))) l.fn.self l.self
