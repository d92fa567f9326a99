use Rattle.tape_shelf.proofs.OnShelf.{filled_with, not_filled, room_lost, room_made, still}
use Rattle.tape_shelf.proofs.new_file.make_filled.Goals as goal

pub returns-then-has_name-clause-made : goal.returns-then-has_name-clause-made
returns-then-has_name-clause-made g c dir opened = room_made _ _ _ _ _ _ _ c.in-Ok.ensures.asked (c.in-Some.ensures.asked dir opened) c.if-has_name.ensures.asked

pub returns-then-has_name-clause-filled : goal.returns-then-has_name-clause-filled
returns-then-has_name-clause-filled g c dir opened =
    still _ _ _ _ c.if-has_name.ensures.asked (filled_with _ _ _ _ _ _ c.in-Ok.ensures.fresh (c.in-Some.ensures.asked dir opened).1 c.in-Some.ensures.filled)

pub returns-then-has_name-clause-fresh : goal.returns-then-has_name-clause-fresh
returns-then-has_name-clause-fresh g c = still _ _ _ _ c.if-has_name.ensures.asked c.in-Some.ensures.fresh

pub returns-else-has_name-clause-not_made : goal.returns-else-has_name-clause-not_made
returns-else-has_name-clause-not_made g c dir opened = room_lost _ _ _ _ _ _ _ c.in-Ok.ensures.asked (c.in-Some.ensures.asked dir opened) c.if-has_name.ensures.asked

pub returns-in-None-clause-not_made : goal.returns-in-None-clause-not_made
returns-in-None-clause-not_made g c dir opened = not_filled _ _ _ _ _ _ c.in-Ok.ensures.asked (c.in-None.ensures.failed dir opened) c.let_go.ensures.asked

pub returns-in-Err-clause-not_made : goal.returns-in-Err-clause-not_made
returns-in-Err-clause-not_made g c dir opened = c.in-Err.ensures.failed
