-- The words so far, and behind them the rest of the table, are the stub's.
use Rattle.std.proofs.Common.{◌≡◌, ◌++◌, drop}
use Rattle.stub.specs.Words.{stub_words, table}
use Rattle.stub.proofs.words.stub_words.Given as goal

abbrev pub invariant-loop-stretch : goal.invariant-loop-stretch
invariant-loop-stretch l = l.words.items ++ table (drop l.stretch-index l.stretches) ≡ stub_words l.fn.place l.stretches
