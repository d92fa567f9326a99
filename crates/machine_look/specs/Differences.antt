-- Where memory differs from a plan (this project's own).
use Rattle.std.specs.Prelude.{ℕ, ◌==◌, if◌then◌else◌, List, [], ◌∷◌, ◌++◌}
use Rattle.tape_image.specs.Word.{WordValue, merged}
use Rattle.machine_look.specs.declared.difference.Difference.{Difference}

-- the difference between a word and the number that was read at its address, if there is one: the number does not stand
-- under the word's mask, so that laying the word over it changes it
abbrev pub difference : WordValue → ℕ → List Difference
difference word now = if merged word now == now then [] else record { word = word; now = now } ∷ []

-- the differences between words and the numbers that were read at the first of their addresses, in their order
abbrev pub differences : List WordValue → List ℕ → List Difference
differences [] numbers = []
differences (word ∷ words) [] = []
differences (word ∷ words) (now ∷ numbers) = difference word now ++ differences words numbers
