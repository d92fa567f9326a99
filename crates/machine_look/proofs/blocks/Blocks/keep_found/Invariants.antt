-- The numbers so far came, and each full block of them is on the shelf.
use Rattle.std.proofs.Common.{◌≡◌, take}
use Rattle.tape_shelf.specs.ShelfAt.{shelf_at}
use Rattle.machine_look.specs.Adding.{HasAdded, blocks_at}
use Rattle.machine_look.proofs.blocks.Blocks.keep_found.Given as goal

abbrev pub invariant-loop-number : goal.invariant-loop-number
invariant-loop-number g l = record {
  added : HasAdded l.fn.self.from (take l.number-index l.found) (shelf_at g.S.Shelf l.fn.self.shelf.now) (blocks_at l.self.from l.self.numbers.items (shelf_at g.S.Shelf l.self.shelf.now) l.self.shelf.ghost_name);
  same : l.self.shelf.ghost_name ≡ l.fn.self.shelf.ghost_name;
}
