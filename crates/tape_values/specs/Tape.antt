-- Absolute loader tapes: a relation between a text, a list of blocks and a start address.
use Rattle.std.specs.Prelude.{◌≡◌, ℕ, ◌+◌, ◌<◌, ◌≤◌, ◌^◌, List, [], ◌∷◌, ◌++◌, length, map, sum_by, All, refl}
use Rattle.std.specs.Coded.{Coded, code_by, coded×, coded_list, coded_ℕ}
use Rattle.tape_values.specs.Block.{BlockValue, block_code, data_block, transfer_block, IsBlock, HoldsBytes}

-- the blocks of a tape in their order, and its start address
pub record TapeValue : Type 0 where
  pub blocks : List BlockValue
  pub start : ℕ

-- a tape is stored as the pair of its fields
abbrev pub tape_code : Coded TapeValue
tape_code =
    code_by (List BlockValue × ℕ) (coded× (coded_list block_code) coded_ℕ) (λ t. (t.blocks, t.start))
    (λ p. record { blocks = p.0; start = p.1 }) (λ _. refl)

-- what stands before the transfer block: bytes 00 and data blocks
pub data Piece : Type 0 where
  blank : Piece
  block : BlockValue → Piece

-- the pieces joined
abbrev pub text_of : List Piece → List ℕ
text_of [] = []
text_of (blank ∷ pieces) = 0 ∷ text_of pieces
text_of (block b ∷ pieces) = data_block b ++ text_of pieces

-- the blocks among the pieces, in order
abbrev pub blocks_of : List Piece → List BlockValue
blocks_of [] = []
blocks_of (blank ∷ pieces) = blocks_of pieces
blocks_of (block b ∷ pieces) = b ∷ blocks_of pieces

-- the most bytes that a tape may have: 2 to the 20th, which is more than eighteen times what memory holds, so that a tape may lay many
-- addresses down more than once, and yet has an end (this project's choice)
abbrev pub tape_limit : ℕ
tape_limit = 1048576

-- a text begins with these pieces, all of them allowed, and then goes on with the rest
pub record IsFront (text : List ℕ) (pieces : List Piece) (rest : List ℕ) : Type 0 where
  pub joined : text ≡ text_of pieces ++ rest
  pub allowed : All IsBlock (blocks_of pieces)

-- the text of a tape: pieces that hold these blocks, and then the transfer block of the start
pub record IsTape (text : List ℕ) (blocks : List BlockValue) (start : ℕ) : Type 0 where
  pub pieces : List Piece
  pub front : IsFront text pieces (transfer_block start)
  pub all_used : blocks_of pieces ≡ blocks
  pub within : length text ≤ tape_limit

-- the one text of a tape with no byte 00 between its blocks
abbrev pub plain_text : TapeValue → List ℕ
plain_text tape = text_of (map block tape.blocks) ++ transfer_block tape.start

-- the length in bytes of the plain text
abbrev pub written_length : List BlockValue → ℕ
written_length blocks = 7 + sum_by (λ b. 7 + length b.bytes) blocks

-- what holds of every tape
pub record IsSound (tape : TapeValue) : Type 0 where
  pub each_block : All IsBlock tape.blocks
  pub each_byte : All HoldsBytes tape.blocks
  pub within : written_length tape.blocks ≤ tape_limit
  pub start_word : tape.start < 2 ^ 16
