use Rattle.std.proofs.Common.{rules, ◌<◌, length}
use Rattle.tape_commands.proofs.BlockLines.{next_tape}
use Rattle.tape_commands.proofs.block_list.put_tapes.Goals as goal

pub loop-place-preserved : goal.loop-place-preserved
loop-place-preserved c =
    let within : c.loop-place.place < length c.args.taken.now.tapes.items = search rules in
    next_tape c.args.several c.args.taken.now.tapes.items c.args.taken.now.layouts.items c.loop-place.place c.index.result.now c.index-in-loop-place.result.now
    c.args.list.now.items c.loop-place.list.items c.put_heading.new.list.items c.put_blocks.new.list.items c.deref.result.now within c.requires
    c.index.ensures c.index-in-loop-place.ensures c.loop-place.invariant c.in_ok-put_heading.ensures c.deref.ensures.value c.in_ok-put_blocks.ensures
