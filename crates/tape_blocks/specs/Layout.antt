-- How a tape lies in the text that it was read from.
use Rattle.std.specs.Prelude.{◌≡◌, ℕ, List, [], ◌∷◌, ◌++◌, length}
use Rattle.tape_values.specs.Block.{BlockValue, data_block}
use Rattle.tape_values.specs.Tape.{TapeValue}
use Rattle.tape_blocks.specs.Standing.{IsReadTo}
use Rattle.tape_blocks.specs.declared.layout.Layout.{Layout}

-- each of the blocks begins at its place of the text: up to there stand the blocks before it, with bytes 00 between them
pub data ArePlaced (text : List ℕ) : List BlockValue → List ℕ → Type 0 where
  None : ArePlaced text [] []
  OneMore : (blocks : List BlockValue) (places : List ℕ) (b : BlockValue) (place : ℕ) (rest : List ℕ) → ArePlaced text blocks places
      → IsReadTo text blocks place (data_block b ++ rest) → ArePlaced text (blocks ++ b ∷ []) (places ++ place ∷ [])

-- a tape lies so in its text
pub record IsLaidOut (text : List ℕ) (tape : TapeValue) (layout : Layout) : Type 0 where
  pub size_is : layout.size ≡ length text
  pub placed : ArePlaced text tape.blocks layout.places.items
