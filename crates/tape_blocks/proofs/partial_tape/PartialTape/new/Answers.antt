use Rattle.tape_blocks.specs.Layout.ArePlaced.{None}
use Rattle.tape_blocks.proofs.partial_tape.PartialTape.new.Goals as goal

pub returns-clause-places : goal.returns-clause-places
returns-clause-places c = rw (c.new.ensures.items, c.new-2.ensures.items) None
