-- The passes of looks that find where memory ends (this project's choice).
use Rattle.std.specs.Prelude.{◌≡◌, ℕ, zero, suc, ◌+◌, ◌-◌, ◌*◌, ◌%◌, ◌≤◌, List, [], ◌∷◌, length, vec_capacity, Some, Ok}
use Rattle.tape_values.specs.Block.{top}
use Rattle.host_devices.specs.declared.item.Item.{Item}
use Rattle.reading_core.specs.declared.phase.End.TheVariants.{Complete, NoWord}
use Rattle.reading_core.specs.Reader.{Reader, begun, ended}
use Rattle.looking_engine.specs.Stopping.{LookStop, TellsEnd}
use Rattle.looking_engine.specs.Inquired.{Inquired, inquiry}
use Rattle.machine_probe.specs.declared.memory_end.Limits.{Limits}
use Rattle.machine_probe.specs.declared.memory_end.PassEnd.{PassEnd}
use Rattle.machine_probe.specs.declared.memory_end.PassEnd.TheVariants.{Lacking, Over}
use Rattle.machine_probe.specs.declared.pieces.Pieces.{Pieces}
use Rattle.machine_probe.specs.declared.room.Room.{Room}
use Rattle.machine_probe.specs.declared.search.Search.{Search}
use Rattle.machine_probe.specs.declared.search.Search.TheVariants.{Ends, Stopped}

-- the last word of each of n pieces of so many bytes, one piece after another from an address on
unfoldable pub last_words : (from bytes n : ℕ) → List ℕ
last_words from bytes zero = []
last_words from bytes (suc n) = (from + (bytes - 2)) ∷ last_words (from + bytes) bytes n

-- pieces of whole words in what can be memory, from an address on
pub record ArePieces (from : ℕ) (pieces : Pieces) : Type 0 where
  pub even : from % 2 ≡ 0
  pub whole : pieces.bytes % 2 ≡ 0
  pub some : 2 ≤ pieces.bytes
  pub below : from + pieces.bytes * pieces.count ≤ top

-- room for a pass over these pieces
pub record IsRoom (pieces : Pieces) (room : Room) : Type 0 where
  pub no_address : room.addresses.items ≡ []
  pub no_number : room.numbers.items ≡ []
  pub addresses : pieces.count ≤ vec_capacity room.addresses
  pub numbers : pieces.count ≤ vec_capacity room.numbers

-- all that can be memory in 28 pieces of 4000 (octal) bytes, one of these in 32 pieces of 100, and one of those word by word
abbrev pub three_passes : List Pieces
three_passes = record { bytes = 0o4000; count = 28 } ∷ record { bytes = 0o100; count = 32 } ∷ record { bytes = 2; count = 32 } ∷ []

-- how many mishaps the host survives in a pass, and the most turns of it
abbrev pub limits : (patience turns : ℕ) → Limits
limits patience turns = record { patience = patience; turns = turns }

-- a pass over pieces that stand from an address on
pub record Pass : Type 0 where
  pub limits : Limits
  pub from : ℕ
  pub pieces : Pieces

-- the pass that has these limits, from there on, over these pieces
abbrev pub pass_over : Limits → ℕ → Pieces → Pass
pass_over limits from pieces = record { limits = limits; from = from; pieces = pieces }

-- its reader, as it begins: of the pieces' last words
abbrev pub reader_of : Pass → Reader
reader_of pass = begun (last_words pass.from pass.pieces.bytes pass.pieces.count) [] pass.limits.patience

-- a pass is a reading, from its beginning to where it stopped, with what was said of it
pub record IsPass (pass : Pass) (stop : LookStop) (last : Reader) (said : List Item) : Type 0 where
  pub inquired : Inquired pass.limits.turns (inquiry (reader_of pass) last (Some stop)) (Some []) (Some said)
  pub end : TellsEnd stop (ended last.phase)

-- behind the last piece whose last word was read
abbrev pub found : ℕ → Pieces → Reader → ℕ
found from pieces last = from + pieces.bytes * length last.values

-- what a pass that stopped so and found memory up to an address comes to
abbrev pub passed : LookStop → ℕ → PassEnd
passed (Ok (NoWord address)) found = Lacking found
passed (Ok Complete) found = Over (Ends found)
passed stop found = Over (Stopped stop)

-- a pass came to this, with what was said of it, and so many characters that no loss explains
pub record CameTo (pass : Pass) (end : PassEnd) (changed : ℕ) (said : List Item) : Type 0 where
  pub stop : LookStop
  pub last : Reader
  pub is_pass : IsPass pass stop last said
  pub end_is : end ≡ passed stop (found pass.from pass.pieces last)
  pub changed_is : changed ≡ last.foreign

-- what is ahead of a search: from which address on its passes go, and the limits of each
pub record Ahead : Type 0 where
  pub limits : Limits
  pub from : ℕ

-- the passes that have these limits, from there on
abbrev pub ahead : Limits → ℕ → Ahead
ahead limits from = record { limits = limits; from = from }

-- passes over these pieces came to this, with how many characters no loss explains in all, and what was said in each. Where none is left, memory
-- ends; a pass ends the search; or a piece lacked its last word, and the passes that are left go over that piece
pub data Searches : List Pieces → Ahead → Search → ℕ → List (List Item) → Type 0 where
  NoPassLeft : (at : Ahead) → Searches [] at (Ends at.from) 0 []
  LastPass : (pieces : Pieces) (passes : List Pieces) (at : Ahead) (search : Search) (changed : ℕ) (said : List Item)
      → CameTo (pass_over at.limits at.from pieces) (Over search) changed said → Searches (pieces ∷ passes) at search changed (said ∷ [])
  OnePassMore : (pieces : Pieces) (passes : List Pieces) (at : Ahead) (search : Search) (from changed later : ℕ) (said : List Item) (parts : List (List Item))
      → CameTo (pass_over at.limits at.from pieces) (Lacking from) changed said → Searches passes (ahead at.limits from) search later parts
      → Searches (pieces ∷ passes) at search (changed + later) (said ∷ parts)
