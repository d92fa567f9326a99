use Rattle.std.proofs.Common.{ap, ◌∙◌}
use Rattle.tape_image.specs.Image.{image_below}
use Rattle.tape_image.specs.Pages.{byte_in_table}
use Rattle.tape_image.proofs.Tables.{table-replicate}
use Rattle.tape_image.proofs.pages.Pages.new.Goals as goal

pub returns : goal.returns
returns c = ap (λ table. image_below (byte_in_table table) 57344) c.loop.invariant ∙ table-replicate c.loop.counter 57344
