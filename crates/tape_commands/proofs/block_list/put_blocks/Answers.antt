use Rattle.std.proofs.Common.{rules, ◌≡◌, ◌<◌, ◌∙◌, length, get_or, ap, refl, subst}
use Rattle.std.proofs.lemmas.Option.{slice_get_past, slice_get_read}
use Rattle.tape_commands.proofs.BlockLines.{next_block, no_block}
use Rattle.tape_commands.proofs.block_list.put_blocks.Goals as goal
use Rattle.tape_commands.proofs.block_list.put_blocks.Goals.{in-Some+in_ok-put_block, in_default}

pub loop-index-preserved : goal.loop-index-preserved
loop-index-preserved c =
    let within : c.loop-index.index < length c.args.tape.now.blocks = search rules in
    elim c.match-get.branch [
      | in-Some+in_ok-put_block w ↦
          let at = w.in-Some.ensures.lookup in
          next_block c.args.tape.now.blocks c.args.places.now c.loop-index.index w.index-blocks-index.result w.in-Some.place.now c.args.list.now.items
          c.loop-index.list.items c.match-get.list.items within
          (subst (λ bs. w.index-blocks-index.result ≡ get_or bs c.loop-index.index w.index-blocks-index.result) c.blocks-blocks.ensures.value w.index-blocks-index.is)
          (slice_get_read c.args.places.now (length c.args.places.now) c.loop-index.index w.in-Some.place.now refl at.3.0 at.1) c.loop-index.invariant
          (ap (λ v. v.items) w.list-is ∙ w.in_ok-put_block.ensures)
      | in_default w ↦
          no_block c.args.tape.now.blocks c.args.places.now c.loop-index.index c.args.list.now.items c.loop-index.list.items c.match-get.list.items
          (slice_get_past c.args.places.now c.loop-index.index w.in_default.ensures.lookup.3) c.loop-index.invariant (ap (λ v. v.items) w.list-is)
    ]
