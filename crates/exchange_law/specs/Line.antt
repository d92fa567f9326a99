-- A line at whose end a station stands.
use Rattle.std.specs.Prelude.{◌≡◌, ℕ, List, ◌∷◌, ◌++◌}
use Rattle.host_devices.specs.declared.item.Item.{Item}
use Rattle.line_world.specs.Wire.{Line, Any, Moving, Times}
use Rattle.honest_line.specs.Moves.{Passing}
use Rattle.exchange_law.specs.Station.{Meets, Program, Station}

abbrev pub Link : Type 0
Link = Line Station

-- the station takes the first character under way, and answers
pub record Takes (program : Program) (x y : Link) : Type 0 where
  pub c : ℕ
  pub rest : List ℕ
  pub first : x.down ≡ c ∷ rest
  pub station' : Station
  pub answer : List ℕ
  pub meets : Meets program x.machine.stub x.machine.odt c station' answer
  pub now : y ≡ record { machine = station'; down = rest; up = x.up ++ answer; lost = x.lost }

-- one move
abbrev pub Moves : Program → Link → Link → Type 0
Moves program x y = Moving (Takes program) x y

-- so many moves, one after another
abbrev pub MovesTimes : Program → ℕ → Link → Link → Type 0
MovesTimes program n x y = Times (Moves program) n x y

-- any number of moves
abbrev pub MovesOn : Program → Link → Link → Type 0
MovesOn program x y = Any (Moves program) x y

-- a list passes over it
abbrev pub Passes : Program → Link → List Item → Link → Type 0
Passes program x items y = Passing (Moves program) x items y
