-- No address so far has a byte.
use Rattle.std.proofs.Common.{◌≡◌, ◌<◌, ◌≤◌, ℕ, None}
use Rattle.tape_making.specs.MadeTape.{byte_on}
use Rattle.tape_making.proofs.tape.next_byte.Given as goal

abbrev pub invariant-loop-address : goal.invariant-loop-address
invariant-loop-address l = (a : ℕ) → l.at ≤ a → a < l.address → byte_on l.bytes a ≡ None
