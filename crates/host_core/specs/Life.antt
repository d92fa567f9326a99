-- How a host's fields make a core.
use Rattle.std.specs.Prelude.{ℕ, Bool}
use Rattle.tape_image.specs.Plan.{PlanValue}
use Rattle.host_core.specs.declared.life.LifeState.{LifeState}
use Rattle.host_core.specs.Core.{Core}

-- the core with this care, plan and patience, in the middle of a life
abbrev pub core_of : Bool → PlanValue → ℕ → LifeState → Core
core_of careful plan patience life = record {
  careful = careful;
  plan = plan;
  verified = life.progress.verified;
  going = life.progress.going;
  patience = patience;
  spent = life.spent;
  sent = life.sent;
  phase = life.phase;
}
