-- The last gap of the bank so far.
use Rattle.std.proofs.Common.{◌≡◌, take}
use Rattle.memory_report.specs.Words.{gap_in}
use Rattle.memory_report.proofs.bank.gap_in.Given as goal

abbrev pub invariant-loop-gap : goal.invariant-loop-gap
invariant-loop-gap l = l.found ≡ gap_in (take l.gap-index l.gaps) l.fn.bank
