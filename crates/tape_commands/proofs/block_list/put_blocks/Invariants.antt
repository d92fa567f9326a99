-- The lines so far are those of the blocks so far.
use Rattle.std.proofs.Common.{◌≡◌, ◌++◌, take}
use Rattle.tape_commands.specs.BlockList.{block_lines}
use Rattle.tape_commands.proofs.block_list.put_blocks.Given as goal

abbrev pub invariant-loop-index : goal.invariant-loop-index
invariant-loop-index l = l.list.items ≡ l.initial.list.items ++ block_lines 1 (take l.index l.tape.blocks) l.places
