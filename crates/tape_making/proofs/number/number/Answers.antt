use Rattle.std.proofs.Common.{length}
use Rattle.tape_making.proofs.Numbers.{number_found, number_none, some_by}
use Rattle.tape_making.proofs.number.number.Goals as goal

pub returns-clause-found : goal.returns-clause-found
returns-clause-found c =
    number_found c.args.text.now c.padded.result c.read_oct6.result c.read_oct6.ensures.exact c.padded.ensures (some_by (length c.args.text.now) c.if-is_empty.ensures) c.if-text-gt-MOST_DIGITS.false

pub returns-clause-none : goal.returns-clause-none
returns-clause-none c = number_none c.args.text.now c.padded.result c.read_oct6.result c.read_oct6.ensures.exact c.padded.ensures
