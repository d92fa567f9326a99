use Rattle.std.proofs.Common.{rules}
use Rattle.tape_blocks.proofs.input.FromErrorFromIoError.from.Goals as goal

pub returns : goal.returns
returns c = search rules
