use Rattle.std.proofs.Common.{arith}
use Rattle.std.proofs.lemmas.Grind.{elements}
use Rattle.load_record.proofs.version.Version.of_header.Goals as goal

pub returns-in-76 : goal.returns-in-76
returns-in-76 c = grind (arith, elements) steps 2000000

pub returns-in-76-2 : goal.returns-in-76-2
returns-in-76-2 c = grind (arith, elements) steps 2000000
