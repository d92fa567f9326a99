use Rattle.std.proofs.Common.{rules, ◌≡◌, ◌∙◌, length, ap}
use Rattle.std.proofs.lemmas.Result.{on_ok_weaker}
use Rattle.tape_values.specs.Block.{BlockValue}
use Rattle.tape_commands.proofs.BlockLines.{extent_is}
use Rattle.tape_commands.proofs.block_list.put_extent.Goals as goal

pub returns : goal.returns
returns c =
    let size : c.len.result ≡ length c.block.inside.bytes.items = search rules in
    on_ok_weaker c.put_decimal.result
    (extent_is c.args.block.now _ _ _ _ _ _ _ (ap (λ (b : BlockValue). b.address) c.block.view_is) c.last_address.ensures
    (size ∙ ap (λ (b : BlockValue). length b.bytes) c.block.view_is) c.in_ok-put_addresses.ensures c.in_ok-extend_from_slice.ensures.items)
    c.put_decimal.ensures
