-- The console's serial line unit: a receiver and a transmitter of one character each (DEC's Microcomputer Processor Handbook, the serial line unit).
use Rattle.std.specs.Prelude.{ℕ, ◌%◌, Bool, true, false, if◌then◌else◌, List, [], ◌∷◌, ◌++◌}

-- The receiver: whether a character has come that was not fetched yet (bit 7 of 177560), and the one that came last (177562). The transmitter:
-- whether it takes a character (bit 7 of 177564), and the one that it was given last (177566). And two notes that no program sees: all characters
-- that were fetched, and all that have left
pub record Console : Type 0 where
  pub done : Bool
  pub came : ℕ
  pub ready : Bool
  pub leaving : ℕ
  pub fetched : List ℕ
  pub gone : List ℕ

-- a status register, of which bit 7 alone is described
abbrev pub status : Bool → ℕ
status on = if on then 0o200 else 0

-- the character that came is fetched: the receiver is done with it
abbrev pub after_fetch : Console → Console
after_fetch c = if c.done then record c { done = false; fetched = c.fetched ++ c.came ∷ [] } else c

-- the transmitter is given a character, of eight bits
abbrev pub given : Console → ℕ → Console
given c character = record c { ready = false; leaving = character % 256 }

-- a character arrives, over one that was not fetched if there is such: that one is lost
abbrev pub arrived : Console → ℕ → Console
arrived c character = record c { done = true; came = character % 256 }

-- the transmitter's character has left, and it takes the next one
abbrev pub left : Console → Console
left c = if c.ready then c else record c { ready = true; gone = c.gone ++ c.leaving ∷ [] }
