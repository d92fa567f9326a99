use Rattle.std.proofs.Common.{rules}
use Rattle.odt_machine.proofs.machine.Odt.fits.Goals as goal

pub returns-then-digits-ge1 : goal.returns-then-digits-ge1
returns-then-digits-ge1 c = search rules
