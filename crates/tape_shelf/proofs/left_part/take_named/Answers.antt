use Rattle.tape_shelf.proofs.OnShelf.{held_untaken, read_untaken}
use Rattle.tape_shelf.proofs.left_part.take_named.Goals as goal

pub returns-in-Err-read_left-clause-failed : goal.returns-in-Err-read_left-clause-failed
returns-in-Err-read_left-clause-failed g c = held_untaken _ _ _ _ _ c.in-Err-read_left.ensures.soon c.in-Ok.ensures.asked c.in-Err-read_left.ensures.failed

pub returns-in-Err-open_left-clause-failed : goal.returns-in-Err-open_left-clause-failed
returns-in-Err-open_left-clause-failed g c =
    let there = c.in-Err-open_left.ensures.refused in
    held_untaken _ _ _ _ _ (λ write. absurd (cc (there, write))) c.in-Ok.ensures.asked
    (read_untaken _ _ _ _ _ c.in-Ok-read_left.ensures.asked there c.in-Err-open_left.ensures.failed)
