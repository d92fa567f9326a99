use Rattle.command_line.specs.Addresses.{IsEvenText}
use Rattle.command_line.proofs.Exact.{passed}
use Rattle.command_line.proofs.addresses.given_start.Goals as goal

pub returns-in-Some : goal.returns-in-Some
returns-in-Some c = passed c.in-Some.start (IsEvenText c.args.text.now) c.in-Some.ensures
