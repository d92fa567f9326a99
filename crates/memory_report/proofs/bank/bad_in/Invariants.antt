-- The count of the words so far.
use Rattle.std.proofs.Common.{◌≡◌, ◌≤◌, take}
use Rattle.memory_report.specs.Words.{bad_in}
use Rattle.memory_report.proofs.bank.bad_in.Given as goal

abbrev pub invariant-loop-word : goal.invariant-loop-word
invariant-loop-word l = (l.count ≡ bad_in (take l.word-index l.words) l.fn.bank) × (l.count ≤ l.word-index)
