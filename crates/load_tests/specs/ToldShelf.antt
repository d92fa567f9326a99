-- What a shelf in memory tells.
use Rattle.std.specs.Prelude.{List, map, Some, None}
use Rattle.tape_shelf.specs.Shelf as shelf
use Rattle.tape_shelf.specs.ShelfTold.{ShelfTold}
use Rattle.tape_shelf.specs.declared.shelf.ShelfFault.TheVariants.{PartIsThere}
use Rattle.load_tests.specs.declared.shelf_note.ShelfNote.{ShelfNote}
use Rattle.load_tests.specs.declared.shelf_note.ShelfNote.TheVariants.{Reserved, NotResumed, Added, Put}

abbrev pub step_of : ShelfNote → shelf.ShelfStep
step_of (Reserved length) = shelf.Reserve length
step_of NotResumed = shelf.NotResumed PartIsThere
step_of (Added text) = shelf.Add text.items
step_of (Put text) = shelf.Put text.items

-- these steps were done on it, its tape goes on no disk, and what was left there it does not tell
abbrev pub noted : List ShelfNote → ShelfTold
noted notes = record { steps = Some (map step_of notes); disk = None; left = None }
