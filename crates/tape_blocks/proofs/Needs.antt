-- How many bytes a tape has at least behind what was read of it.
use Rattle.std.proofs.Common.{◌≡◌, ℕ, ◌+◌, ◌≤◌, List, [], ◌∷◌, ◌++◌, length, arith, sym, ap, ◌∙◌, append_assoc, length-append}
use Rattle.tape_values.specs.Block.{BlockValue, data_block, transfer_block}
use Rattle.tape_values.specs.Tape.{Piece, text_of, IsTape}
use Rattle.tape_values.specs.Tape.Piece.{blank, block}
use Rattle.tape_blocks.specs.Refusal.{count_of}
use Rattle.tape_blocks.specs.Standing.{IsReadTo}
use Rattle.tape_values.proofs.Pieces.{length-framed}
use Rattle.tape_blocks.proofs.FirstBlock.{framed-states}
use Rattle.tape_blocks.proofs.Fronts.{comparison, transfer-no_piece}
use Rattle.tape_blocks.proofs.Longer.{blank_before, same_count}

-- what stands behind the pieces that were read, to the tape's end
pub record Behind (part more : List ℕ) (start : ℕ) : Type 0 where
  pub pieces : List Piece
  pub joined : part ++ more ≡ text_of pieces ++ transfer_block start

pub behind : (fed more part : List ℕ) (blocks bs : List BlockValue) (place start : ℕ) → IsReadTo fed blocks place part
    → IsTape (fed ++ more) bs start → Behind part more start
behind fed more part blocks bs place start r t =
    let e = comparison t.pieces r.pieces (transfer_block start) (part ++ more) r.front.allowed (transfer-no_piece start [])
    (sym t.front.joined ∙ ap (λ x. x ++ more) r.front.joined ∙ append_assoc (text_of r.pieces) part more) in
    record { pieces = e.more; joined = e.rest }

-- the transfer block at least
pub seven : (part more : List ℕ) (start : ℕ) → Behind part more start → 7 ≤ length part + length more
seven part more start b =
    let l = sym (length-append part more) ∙ ap length b.joined ∙ length-append (text_of b.pieces) (transfer_block start) in
    let f = length-framed start [] in
    omega arith

-- the block under way, where it is no transfer block, and then the transfer block at least
block_and_seven : (pieces : List Piece) (part more : List ℕ) (start : ℕ) → part ++ more ≡ text_of pieces ++ transfer_block start
    → ((rest : List ℕ) → part ≡ 0 ∷ rest → ⊥) → 4 ≤ length part → (count_of part ≡ 6 → ⊥) → count_of part + 8 ≤ length part + length more
block_and_seven [] part more start e no_blank there other =
    let c : count_of (part ++ more) ≡ 6 = (framed-states start [] [] (part ++ more) e).count in
    absurd (other (sym (same_count part more there) ∙ c))
block_and_seven (blank ∷ ps) part more start e no_blank there other =
    let b = blank_before part more (text_of ps ++ transfer_block start) (omega arith) e in
    absurd (no_blank b.0 b.1)
block_and_seven (block d ∷ ps) part more start e no_blank there other =
    let joined = e ∙ append_assoc (data_block d) (text_of ps) (transfer_block start) in
    let c : count_of (part ++ more) ≡ 6 + length d.bytes = (framed-states d.address d.bytes (text_of ps ++ transfer_block start) (part ++ more) joined).count in
    let same : count_of (part ++ more) ≡ count_of part = same_count part more there in
    let l = sym (length-append part more) ∙ ap length joined ∙ length-append (data_block d) (text_of ps ++ transfer_block start) in
    let k = length-append (text_of ps) (transfer_block start) in
    let f = length-framed d.address d.bytes in
    let g = length-framed start [] in
    omega arith

pub block_too : (part more : List ℕ) (start : ℕ) → Behind part more start
    → ((rest : List ℕ) → part ≡ 0 ∷ rest → ⊥) → 4 ≤ length part → (count_of part ≡ 6 → ⊥) → count_of part + 8 ≤ length part + length more
block_too part more start b no_blank there other = block_and_seven b.pieces part more start b.joined no_blank there other
