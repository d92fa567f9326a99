use Rattle.std.proofs.Common.{rules}
use Rattle.requests.proofs.ending.after_test.Goals as goal

pub returns-in-NotTrusted : goal.returns-in-NotTrusted
returns-in-NotTrusted c = search rules
