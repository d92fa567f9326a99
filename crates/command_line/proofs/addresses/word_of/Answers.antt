use Rattle.command_line.proofs.Exact.{low_number}
use Rattle.command_line.proofs.addresses.word_of.Goals as goal

pub returns-in-Some : goal.returns-in-Some
returns-in-Some c = low_number c.args.text.now c.in-Some.address c.in-Some.ensures c.if-address.true
