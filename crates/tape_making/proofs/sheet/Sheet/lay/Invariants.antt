-- The bytes so far are laid over what the sheet had.
use Rattle.std.proofs.Common.{◌≡◌, ℕ, length, take, get_or, None}
use Rattle.std.specs.Option.{option_or}
use Rattle.tape_values.specs.Block.{block_at, top}
use Rattle.tape_image.specs.Image.{byte_in}
use Rattle.tape_making.proofs.sheet.Sheet.lay.Given as goal

abbrev pub invariant-loop-offset : goal.invariant-loop-offset
invariant-loop-offset l = record {
  size : length l.self.bytes.items ≡ top;
  laid : (a : ℕ) → get_or l.self.bytes.items a None ≡ option_or (byte_in (block_at l.first (take l.offset l.byte-items)) a) (get_or l.initial.self.bytes.items a None);
}
