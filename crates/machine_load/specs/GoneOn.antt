-- How a life went on behind its stubs.
use Rattle.std.specs.Prelude.{Option}
use Rattle.host_core.specs.Core.{Core}
use Rattle.machine_load.specs.declared.going_on.GoneOn.{GoneOn}
use Rattle.machine_load.specs.declared.stubs.Stubs.{Stubs}
use Rattle.machine_load.specs.Parts.{Course}

-- the course of a life that went on so behind these stubs
abbrev pub course_behind : Core → Option Stubs → GoneOn → Course
course_behind first stubs gone = record { first = first; stubs = stubs; again = gone.again; core = gone.core; end = gone.end }
