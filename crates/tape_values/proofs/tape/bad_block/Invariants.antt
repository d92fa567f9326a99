-- the blocks looked at so far are good
use Rattle.std.proofs.Common.{take}
use Rattle.std.specs.Prelude.{All}
use Rattle.tape_values.specs.Block.{IsBlock, HoldsBytes}
use Rattle.tape_values.proofs.tape.bad_block.Given as goal

abbrev pub invariant-loop-number : goal.invariant-loop-number
invariant-loop-number l = record {
  good : All IsBlock (take l.number l.blocks);
  of_bytes : All HoldsBytes (take l.number l.blocks);
}
