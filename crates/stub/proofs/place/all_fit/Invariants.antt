-- The stretches that are left decide.
use Rattle.std.proofs.Common.{◌≡◌, drop}
use Rattle.tape_values.specs.Block.{top}
use Rattle.stub.specs.Decoder.{all_fit}
use Rattle.stub.proofs.place.all_fit.Given as goal

abbrev pub invariant-loop-stretch : goal.invariant-loop-stretch
invariant-loop-stretch l = all_fit l.fn.place l.fn.until top (drop l.stretch-index l.stretches) ≡ all_fit l.fn.place l.fn.until top l.stretches
