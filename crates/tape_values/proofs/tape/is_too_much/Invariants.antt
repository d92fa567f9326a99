-- the length is that of the blocks counted so far
use Rattle.std.proofs.Common.{◌≡◌, ◌≤◌, take}
use Rattle.tape_values.specs.Tape.{tape_limit, written_length}
use Rattle.tape_values.proofs.tape.is_too_much.Given as goal

abbrev pub invariant-loop-block : goal.invariant-loop-block
invariant-loop-block l = record {
  counted : l.length ≡ written_length (take l.block-index l.blocks);
  within : l.length ≤ tape_limit;
}
