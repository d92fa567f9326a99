use Rattle.std.proofs.Common.{subst}
use Rattle.line_world.specs.Invariant.{IsKept}
use Rattle.line_world.proofs.Tame.{tame_of}
use Rattle.line_world.proofs.world.World.core.Goals as goal

pub returns-clause-tame : goal.returns-clause-tame
returns-clause-tame c = tame_of c.args.self.now (subst IsKept c.self.view_is c.self.invariant)
