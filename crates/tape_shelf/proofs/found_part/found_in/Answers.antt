use Rattle.std.proofs.Common.{◌≡◌, length, inl, refl, rules}
use Rattle.tape_shelf.specs.SavedTape.{room_for}
use Rattle.tape_shelf.proofs.FoundBlocks.{found_none}
use Rattle.tape_shelf.proofs.found_part.found_in.Goals as goal

pub returns-then-is_blank-clause-found : goal.returns-then-is_blank-clause-found
returns-then-is_blank-clause-found c =
    let long : length c.args.text.now ≡ room_for c.args.range = search rules in
    let blank = c.if-is_blank.ensures.0 refl in
    ((long, inl blank), found_none c.args.range c.args.text.now c.new.result.items c.new.ensures.items blank)
