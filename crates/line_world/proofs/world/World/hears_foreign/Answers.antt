use Rattle.std.proofs.Common.{subst, ◌∙◌, rules}
use Rattle.line_world.specs.Invariant.{IsKept}
use Rattle.line_world.proofs.Explained.{next_explained}
use Rattle.line_world.proofs.world.World.hears_foreign.Goals as goal

pub returns-in-Some-clause-value : goal.returns-in-Some-clause-value
returns-in-Some-clause-value c = search rules

pub returns-in-Some-clause-honest : goal.returns-in-Some-clause-honest
returns-in-Some-clause-honest c = λ unchanged. returns-in-Some-clause-value c ∙ next_explained c.args.self.now.machine c.args.self.now.core c.args.self.now.down c.args.self.now.up (record { count = c.args.self.now.lost; hurt = c.args.self.now.changed }) unchanged (subst IsKept c.self.view_is c.self.invariant)
