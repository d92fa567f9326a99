use Rattle.command_line.proofs.Exact.{even_number, no_number, odd_number}
use Rattle.command_line.proofs.addresses.even.Goals as goal

pub returns-in-Some : goal.returns-in-Some
returns-in-Some c = even_number c.args.text.now c.in-Some.number c.in-Some.ensures c.if-number-eq0.true

pub returns-in_default : goal.returns-in_default
returns-in_default c = odd_number c.args.text.now c.in-Some.number c.in-Some.ensures c.if-number-eq0.false

pub returns-in_default-2 : goal.returns-in_default-2
returns-in_default-2 c = no_number c.args.text.now c.in_default.ensures
