use Rattle.tape_commands.proofs.BlockLines.{range_is}
use Rattle.tape_commands.proofs.block_list.put_range.Goals as goal

pub returns : goal.returns
returns c =
    range_is _ _ _ _ c.args.lowest c.args.highest c.in_ok-extend_from_slice.ensures.items c.in_ok-put_addresses.ensures c.in_ok-extend_from_slice-2.ensures.items
