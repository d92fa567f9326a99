-- Honest lines: what was sent and heard came about over a machine, with some characters lost.
use Rattle.std.specs.Prelude.{◌≡◌, ℕ, ◌+◌, ◌≤◌, List, [], ◌++◌, length}
use Rattle.odt_machine.specs.Machine.{Machine}
use Rattle.line_world.specs.Wire.{Wire, most_waiting}
use Rattle.host_devices.specs.declared.item.Item.{Item}
use Rattle.honest_line.specs.Moves.{Passes}

-- a line at rest: no key is under way; so many characters were lost so far
abbrev pub resting : Machine → List ℕ → ℕ → Wire
resting machine waiting lost = record { machine = machine; down = []; up = waiting; lost = lost }

-- the list passes from a machine and its waiting answers to another such pair, no key is under way before or after it, and so many characters are lost
abbrev pub Moved : Machine → List ℕ → List Item → ℕ → Machine → List ℕ → Type 0
Moved machine waiting items lost machine' left = Passes (resting machine waiting 0) items (resting machine' left lost)

-- the list is honest from one machine to another, with so many characters lost: some answers may wait at first, and anything may be under way at the end
pub record IsHonest (machine : Machine) (items : List Item) (lost : ℕ) (machine' : Machine) : Type 0 where
  pub waiting : List ℕ
  pub few : length waiting ≤ most_waiting
  pub end : Wire
  pub passes : Passes (resting machine waiting 0) items end
  pub machine_is : end.machine ≡ machine'
  pub lost_is : end.lost ≡ lost

-- moves join: a list and then another from where the first ends are one list, with the losses of both
abbrev pub MovesJoin : Type 0
MovesJoin =
    (a b c : Machine) (first second third : List ℕ) (items more : List Item) (lost lost_more : ℕ) →
    Moved a first items lost b second → Moved b second more lost_more c third → Moved a first (items ++ more) (lost + lost_more) c third

-- a list that passed from few waiting answers is honest
abbrev pub MovedIsHonest : Type 0
MovedIsHonest =
    (a b : Machine) (first second : List ℕ) (items : List Item) (lost : ℕ) →
    length first ≤ most_waiting → Moved a first items lost b second → IsHonest a items lost b
