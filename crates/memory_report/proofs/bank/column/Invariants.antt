-- What was seen in the words so far.
use Rattle.std.proofs.Common.{◌≡◌, take}
use Rattle.memory_report.specs.Words.{column}
use Rattle.memory_report.proofs.bank.column.Given as goal

abbrev pub invariant-loop-word : goal.invariant-loop-word
invariant-loop-word l = l.seen ≡ column (take l.word-index l.words) l.fn.bank l.fn.bit
