-- The addresses and words so far are those of the words before this one.
use Rattle.std.proofs.Common.{◌≡◌, take}
use Rattle.reading_core.specs.Addresses.{addresses_of}
use Rattle.reading_core.proofs.reading.ReadingCore.of_plan.Given as goal

abbrev pub invariant-loop-word : goal.invariant-loop-word
invariant-loop-word l = (l.addresses.items ≡ addresses_of (take l.word-index l.words)) × (l.expected.items ≡ take l.word-index l.words)
