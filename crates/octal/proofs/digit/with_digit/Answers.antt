use Rattle.std.proofs.Common.{rules}
use Rattle.octal.proofs.digit.with_digit.Goals as goal

pub returns-in-48-to-55 : goal.returns-in-48-to-55
returns-in-48-to-55 c = search rules
