-- The count of the words so far.
use Rattle.std.proofs.Common.{◌≡◌, ◌≤◌, take}
use Rattle.memory_report.specs.Words.{tested_in}
use Rattle.memory_report.proofs.bank.tested_in.Given as goal

abbrev pub invariant-loop-word : goal.invariant-loop-word
invariant-loop-word l = (l.count ≡ tested_in (take l.word-index l.words) l.fn.bank) × (l.count ≤ l.word-index)
