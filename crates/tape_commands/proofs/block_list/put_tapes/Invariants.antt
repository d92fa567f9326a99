-- The lines so far are those of the tapes so far.
use Rattle.std.proofs.Common.{◌≡◌, ◌++◌, take}
use Rattle.tape_commands.specs.BlockList.{tape_lines}
use Rattle.tape_commands.proofs.block_list.put_tapes.Given as goal

abbrev pub invariant-loop-place : goal.invariant-loop-place
invariant-loop-place l = l.list.items ≡ l.initial.list.items ++ tape_lines l.several 1 (take l.place l.taken.tapes.items) l.taken.layouts.items
