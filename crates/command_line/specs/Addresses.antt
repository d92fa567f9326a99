-- Addresses on the command line (this project's own).
use Rattle.std.specs.Prelude.{◌≡◌, ℕ, ◌<◌, ◌≤◌, ◌-◌, ◌%◌, List, ◌++◌, length, replicate}
use Rattle.octal.specs.Octal.{IsOct6}
use Rattle.tape_values.specs.Block.{top}

-- the text is a number in one to six octal digits
pub record IsOctalText (text : List ℕ) (number : ℕ) : Type 0 where
  pub some : 1 ≤ length text
  pub octal : IsOct6 number (replicate (6 - length text) 48 ++ text)

-- the text is an even number
pub record IsEvenText (text : List ℕ) (number : ℕ) : Type 0 where
  pub number_is : IsOctalText text number
  pub even : number % 2 ≡ 0

-- the text is the address of a word of memory, so that it is below 160000, too
pub record IsWordText (text : List ℕ) (address : ℕ) : Type 0 where
  pub address_is : IsEvenText text address
  pub below_top : address < top
