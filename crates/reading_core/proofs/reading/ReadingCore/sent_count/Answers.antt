use Rattle.std.proofs.Common.{subst}
use Rattle.reading_core.specs.Invariant.{IsReader}
use Rattle.reading_core.proofs.Lives.{keeps_bound, within_largest}
use Rattle.reading_core.proofs.reading.ReadingCore.sent_count.Goals as goal

pub returns-clause-later : goal.returns-clause-later
returns-clause-later c = keeps_bound c.args.self.now (subst IsReader c.self.view_is c.self.invariant.0)

pub returns-clause-most : goal.returns-clause-most
returns-clause-most c = within_largest _ c.self.invariant.0
