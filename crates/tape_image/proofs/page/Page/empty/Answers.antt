use Rattle.std.proofs.Common.{replicate}
use Rattle.tape_image.proofs.PageBytes.{page-unmarked}
use Rattle.tape_image.proofs.page.Page.empty.Goals as goal

pub returns : goal.returns
returns c = page-unmarked 512 512 (replicate 512 0)
