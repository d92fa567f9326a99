use Rattle.command_line.specs.Addresses.{IsOctalText}
use Rattle.command_line.proofs.Exact.{passed, refused}
use Rattle.command_line.proofs.addresses.any_start.Goals as goal

pub returns-in-Some : goal.returns-in-Some
returns-in-Some c = passed c.in-Some.start (IsOctalText c.args.text.now) c.in-Some.ensures

pub returns-in-None : goal.returns-in-None
returns-in-None c = refused c.invalid_value.result (IsOctalText c.args.text.now) c.in-None.ensures
