-- What is asked of a load.
use Rattle.std.specs.Prelude.{Bool}
use Rattle.tape_image.specs.Plan.{PlanValue}
use Rattle.host_core.specs.Core.{Core}
use Rattle.request_values.specs.declared.options.LoadOptions.{LoadOptions}
pub use Rattle.request_values.specs.Change.{Change, ◌⇒◌}

-- a plan, and how it is to be loaded
pub record LoadTask : Type 0 where
  pub plan : PlanValue
  pub options : LoadOptions

abbrev pub task : PlanValue → LoadOptions → LoadTask
task plan options = record { plan = plan; options = options }

-- a life as its record opens it: its host, whether stubs are asked for, and whether its own record may be begun
pub record Opened : Type 0 where
  pub first : Core
  pub fast : Bool
  pub writable : Bool

abbrev pub opened_as : Core → Bool → Bool → Opened
opened_as first fast writable = record { first = first; fast = fast; writable = writable }
