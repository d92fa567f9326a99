-- A line, whatever stands at its end, and what happens to it by itself: one definition for each world, and for a line whose host is elsewhere.
use Rattle.std.specs.Prelude.{◌≡◌, ℕ, zero, suc, ◌+◌, ◌<◌, ◌⊎◌, ◌==◌, ◌&&◌, not, Bool, List, ◌++◌, length, slice_set}
use Rattle.std.specs.List.{remove}
use Rattle.odt_machine.specs.Machine.{Machine}
use Rattle.odt_machine.specs.KeyTable.{Taken}
use Rattle.host_core.specs.Console.{carriage_return, slash, go}

-- what stands at its end (`machine`), the characters under way to it (`down`) and from it (`up`), and how many the line has lost
pub record Line (M : Type 0) : Type 0 where
  pub machine : M
  pub down : List ℕ
  pub up : List ℕ
  pub lost : ℕ

-- after the character at place k on its way to the machine was lost
abbrev pub without_down : {M : Type 0} → Line M → ℕ → Line M
without_down x k = record x { down = remove x.down k; lost = x.lost + 1 }

-- after the character at place k on its way from it was lost
abbrev pub without_up : {M : Type 0} → Line M → ℕ → Line M
without_up x k = record x { up = remove x.up k; lost = x.lost + 1 }

-- after the character at place k on its way to the machine was changed into c
abbrev pub changed_down : {M : Type 0} → Line M → ℕ → ℕ → Line M
changed_down x k c = record x { down = slice_set x.down k c; lost = x.lost + 1 }

-- after the character at place k on its way from it was changed into c
abbrev pub changed_up : {M : Type 0} → Line M → ℕ → ℕ → Line M
changed_up x k c = record x { up = slice_set x.up k c; lost = x.lost + 1 }

-- a key that stores nothing, opens nothing and starts nothing
abbrev pub is_harmless : ℕ → Bool
is_harmless c = not (c == carriage_return) && (not (c == slash) && not (c == go))

-- a key may be changed into another one that is harmless, where no character was changed in this attempt
abbrev pub may_change : Bool → ℕ → ℕ → Bool
may_change changed old c = not changed && (is_harmless c && not (c == old))

-- after the first of `up` was heard, of which `rest` is left
abbrev pub heard : {M : Type 0} → Line M → List ℕ → Line M
heard x rest = record x { up = rest }

-- after these characters were sent: they stand at the end of `down`
abbrev pub sent : {M : Type 0} → Line M → List ℕ → Line M
sent x keys = record x { down = x.down ++ keys }

-- losses are counted from here
abbrev pub forgiven : {M : Type 0} → Line M → Line M
forgiven x = record x { lost = 0 }

-- the line loses a character on its way to the machine
abbrev pub LosesDown : {M : Type 0} → Line M → Line M → Type 0
LosesDown x y = (k : ℕ) × (k < length x.down) × (y ≡ without_down x k)

-- the line loses a character on its way from it
abbrev pub LosesUp : {M : Type 0} → Line M → Line M → Type 0
LosesUp x y = (k : ℕ) × (k < length x.up) × (y ≡ without_up x k)

-- one move, where the machine takes characters in this way: it takes one, or one is lost
abbrev pub Moving : {M : Type 0} → (Line M → Line M → Type 0) → Line M → Line M → Type 0
Moving Takes x y = Takes x y ⊎ (LosesDown x y ⊎ LosesUp x y)

-- so many steps of a kind, one after another
abbrev pub Times : {M : Type 0} → (Line M → Line M → Type 0) → ℕ → Line M → Line M → Type 0
Times Step zero x y = y ≡ x
Times {M} Step (suc n) x y = (z : Line M) × Step x z × Times Step n z y

-- any number of them
abbrev pub Any : {M : Type 0} → (Line M → Line M → Type 0) → Line M → Line M → Type 0
Any Step x y = (n : ℕ) × Times Step n x y

-- a line at whose end a machine with ODT stands
abbrev pub Wire : Type 0
Wire = Line Machine

-- the most answer characters that may wait for a host at its beginning; in a world no more ever wait. Three of the longest answers have room, and
-- a few characters of noise (this project's choice)
abbrev pub most_waiting : ℕ
most_waiting = 32

-- after ODT took the first of `down`, of which `rest` is left: its answer stands at the end of `up`
abbrev pub with_answer : Wire → List ℕ → Taken → Wire
with_answer x rest t = record x { machine = record x.machine { mode = t.mode; memory = t.memory }; down = rest; up = x.up ++ t.answer }
