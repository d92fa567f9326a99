use Rattle.std.proofs.Common.{rules}
use Rattle.line_world.proofs.NewLives.{kept_restart}
use Rattle.line_world.proofs.world.World.restart.Goals as goal

pub invariant_of-self : goal.invariant_of-self
invariant_of-self c =
    let w = c.self.inside in
    rw c.restart.ensures.begun (kept_restart w.odt w.core w.down.items w.up.items (record { count = w.lost; hurt = w.changed }) c.args.kept c.self.invariant)

pub returns-clause-world : goal.returns-clause-world
returns-clause-world c = search rules
