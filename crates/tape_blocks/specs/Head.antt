-- What stands at the head of a text: a byte 00, a block, the beginning of one, or none of these.
use Rattle.std.specs.Prelude.{◌≡◌, ℕ, ◌+◌, ◌<◌, ◌≤◌, ◌^◌, List, ◌∷◌, ◌++◌, length, take, drop, Some, None, Option}
use Rattle.tape_values.specs.Block.{BlockValue, IsBlock, HoldsBytes, block_at, data_block, transfer_block}
use Rattle.tape_blocks.specs.Refusal.{first_fault, tests_of, count_of}
use Rattle.tape_blocks.specs.declared.fault.Fault.{Fault}
use Rattle.tape_blocks.specs.declared.head.Head.{Head}
use Rattle.tape_blocks.specs.declared.head.Head.TheVariants.{Part, Data, Transfer}

-- no piece begins the text
pub record NoPiece (text : List ℕ) : Type 0 where
  pub no_blank : (rest : List ℕ) → text ≡ 0 ∷ rest → ⊥
  pub no_block : (b : BlockValue) (rest : List ℕ) → IsBlock b → text ≡ data_block b ++ rest → ⊥

-- neither a piece nor a transfer block begins the text, and this is the first fault of the block at place s
pub record IsFaulty (s : ℕ) (missing : Fault) (text : List ℕ) (fault : Fault) : Type 0 where
  pub no_piece : NoPiece text
  pub no_transfer : (start : ℕ) (rest : List ℕ) → text ≡ transfer_block start ++ rest → ⊥
  pub first : first_fault (length text) missing (tests_of s text) ≡ Some fault

-- whatever a missing byte means, this is the first fault: the block is wrong in bytes that are there
abbrev pub IsFaultyBlock : ℕ → List ℕ → Fault → Type 0
IsFaultyBlock s text fault = (missing : Fault) → IsFaulty s missing text fault

-- whatever a missing byte means, it is the first fault: the text is the beginning of a block, and no more
abbrev pub IsWanting : ℕ → List ℕ → Type 0
IsWanting s text = (missing : Fault) → IsFaulty s missing text missing

-- the block that begins the text at place s, or the beginning of one
abbrev pub IsHead : ℕ → List ℕ → Head → Type 0
IsHead s text Part = IsWanting s text
IsHead s text (Data address bytes) =
    let b = block_at address bytes.now in IsBlock b × HoldsBytes b × (text ≡ data_block b ++ drop (7 + length bytes.now) text)
IsHead s text (Transfer start) = (start < 2 ^ 16) × (text ≡ transfer_block start ++ drop 7 text)

-- a text in two: up to six bytes of a header, and what follows a whole one
pub record IsSplit (header body : List ℕ) : Type 0 where
  pub at_most : length header ≤ 6
  pub whole : 0 < length body → length header ≡ 6

-- the mark or the count of the header is wrong, in bytes that are there
abbrev pub FailsHeader : ℕ → List ℕ → Fault → Type 0
FailsHeader s header fault = (missing : Fault) → first_fault (length header) missing (take 3 (tests_of s header)) ≡ Some fault

-- a header that is right as far as it is there, with its count
pub record HasCount (s : ℕ) (header : List ℕ) (count : ℕ) : Type 0 where
  pub there : 4 ≤ length header
  pub count_is : count ≡ count_of header
  pub enough : 6 ≤ count
  pub passes : (missing : Fault) → first_fault (length header) missing (take 3 (tests_of s header)) ≡ None

-- a header that is right as far as it is there: before the count is there, or with it
abbrev pub SaysCount : ℕ → List ℕ → Option ℕ → Type 0
SaysCount s header None =
    (length header < 4) × ((missing : Fault) → first_fault (length header) missing (take 3 (tests_of s header)) ≡ Some missing)
SaysCount s header (Some count) = HasCount s header count
