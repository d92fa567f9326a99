-- What a save asks of its shelf (this project's own).
use Rattle.std.specs.Prelude.{ℕ, zero, suc, ◌/◌, List, [], ◌∷◌, ◌++◌, length}
use Rattle.tape_values.specs.Block.{data_block}
use Rattle.tape_shelf.specs.SavedTape.{block_words, last_text, saved_block}
use Rattle.tape_shelf.specs.declared.shelf.ShelfFault.{ShelfFault}
use Rattle.tape_shelf.specs.Shelf.{ShelfStep, Add, NotAdded, Put, NotPut}

-- how many full blocks numbers make
abbrev pub full : List ℕ → ℕ
full numbers = length numbers / block_words

-- the first n blocks of the tape of the numbers that stand from an address on are added, one after another
unfoldable pub adds : ℕ → List ℕ → ℕ → List ShelfStep
adds from numbers zero = []
adds from numbers (suc n) = adds from numbers n ++ Add (data_block (saved_block from numbers n)) ∷ []

-- the first n were added, and the next one could not be
abbrev pub not_all_added : ℕ → List ℕ → ℕ → List ShelfStep
not_all_added from numbers n = adds from numbers n ++ NotAdded (data_block (saved_block from numbers n)) ∷ []

-- the tape is closed, where there are numbers
abbrev pub closes : ℕ → List ℕ → ℕ → List ShelfStep
closes from [] start = []
closes from (number ∷ numbers) start = Put (last_text from (number ∷ numbers) start) ∷ []

-- what is done for the tape of numbers: each full block is added, and then it is closed
abbrev pub puts : ℕ → List ℕ → ℕ → List ShelfStep
puts from numbers start = adds from numbers (full numbers) ++ closes from numbers start

-- each full block was added, and then it could not be closed
abbrev pub not_put : ℕ → List ℕ → ℕ → ShelfFault → List ShelfStep
not_put from numbers start fault = adds from numbers (full numbers) ++ NotPut (last_text from numbers start) fault ∷ []
