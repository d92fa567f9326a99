use Rattle.command_line.proofs.Exact.{given_start}
use Rattle.command_line.proofs.addresses.saved_start_of.Goals as goal

pub returns-in-Some : goal.returns-in-Some
returns-in-Some c = given_start c.any_start.result c.in-Some.text.now _ c.in-Some.ensures c.any_start.ensures
