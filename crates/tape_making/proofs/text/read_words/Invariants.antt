use Rattle.tape_making.proofs.Readings.{IsReadTo}
use Rattle.tape_making.proofs.text.read_words.Given as goal

abbrev pub invariant-loop-index : goal.invariant-loop-index
invariant-loop-index l = IsReadTo l.text l.index l.sheet
