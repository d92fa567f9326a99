-- The words so far.
use Rattle.std.proofs.Common.{◌≡◌, ◌++◌, take}
use Rattle.machine_memory.specs.Words.{words_of}
use Rattle.machine_memory.proofs.words.push_words.Given as goal

abbrev pub invariant-loop-place : goal.invariant-loop-place
invariant-loop-place l = l.words.items ≡ l.initial.words.items ++ words_of l.addresses (take l.place l.seen)
