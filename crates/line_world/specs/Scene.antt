-- The world: a host and a machine, with a queue of characters in each direction.
use Rattle.std.specs.Prelude.{ℕ, Bool, false, List}
use Rattle.odt_machine.specs.Machine.{Machine}
use Rattle.host_core.specs.Core.{Core}
use Rattle.line_world.specs.Wire.{Wire}

-- the whole world of a host of some kind: a machine, the host, the keys under way (`down`), the answers under way (`up`), how many characters the line
-- has lost or changed in this life, and whether it has changed one in this attempt at a word
pub record World (H : Type 0) : Type 0 where
  pub machine : Machine
  pub core : H
  pub down : List ℕ
  pub up : List ℕ
  pub lost : ℕ
  pub changed : Bool

-- a world without its host
abbrev pub wire_of : {H : Type 0} → World H → Wire
wire_of w = record { machine = w.machine; down = w.down; up = w.up; lost = w.lost }

-- a host at the end of a line that has changed a character in this attempt, or has not
abbrev pub over_when : {H : Type 0} → Bool → H → Wire → World H
over_when changed core x = record { machine = x.machine; core = core; down = x.down; up = x.up; lost = x.lost; changed = changed }

-- one that has not
abbrev pub over : {H : Type 0} → H → Wire → World H
over core x = over_when false core x

-- what the line did to characters: how many it lost or changed in this life, and whether it changed one in this attempt
pub record Toll : Type 0 where
  pub count : ℕ
  pub hurt : Bool

-- the same of a world
abbrev pub toll_of : {H : Type 0} → World H → Toll
toll_of w = record { count = w.lost; hurt = w.changed }

-- the world of the loading host
abbrev pub Scene : Type 0
Scene = World Core
