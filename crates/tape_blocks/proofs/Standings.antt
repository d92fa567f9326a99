-- How far a text was read: pieces that begin it, their blocks, and what stands behind them.
use Rattle.std.proofs.Common.{◌≡◌, ℕ, ◌+◌, ◌<◌, ◌≤◌, ◌^◌, List, [], ◌∷◌, ◌++◌, length, take, arith, ◌∙◌, sym, ap, subst, append_assoc, append-nil, length-append, All, refl, sum_by, min}
use Rattle.std.proofs.lemmas.List.{length-take}
use Rattle.std.proofs.lemmas.List.Elements.{All-nil, All-append, All-cons}
use Rattle.tape_values.specs.Block.{BlockValue, IsBlock, HoldsBytes, data_block, transfer_block}
use Rattle.tape_values.specs.Tape.{Piece, text_of, blocks_of, IsFront, IsTape, tape_limit}
use Rattle.tape_values.specs.Tape.Piece.{blank, block}
use Rattle.tape_blocks.specs.Refusal.{IsRefused, missing_fault}
use Rattle.tape_blocks.specs.Head.{IsFaulty}
use Rattle.tape_blocks.specs.Standing.{IsReadTo, EndsTape}
use Rattle.tape_blocks.specs.declared.fault.Fault.{Fault}
use Rattle.tape_values.proofs.Pieces.{text_of-append, blocks_of-append, filled, length-framed}
use Rattle.tape_blocks.proofs.FirstBlock.{take_seam}
use Rattle.tape_blocks.proofs.Readings.{refused, take_within}

pub IsReadTo-start : (text : List ℕ) → IsReadTo text [] 0 text
IsReadTo-start text = record {
  pieces = [];
  front = record { joined = refl; allowed = All-nil IsBlock };
  all_used = refl;
  ends = refl;
  each_byte = All-nil HoldsBytes;
}

-- more bytes behind
pub IsReadTo-grow : (text more : List ℕ) (blocks : List BlockValue) (at : ℕ) (rest : List ℕ) → IsReadTo text blocks at rest
    → IsReadTo (text ++ more) blocks at (rest ++ more)
IsReadTo-grow text more blocks at rest r = record {
  pieces = r.pieces;
  front = record {
    joined = ap (λ x. x ++ more) r.front.joined ∙ append_assoc (text_of r.pieces) rest more;
    allowed = r.front.allowed;
  };
  all_used = r.all_used;
  ends = r.ends;
  each_byte = r.each_byte;
}

-- one more piece, of this text and these blocks
piece_more : (text : List ℕ) (at n : ℕ) (blocks new : List BlockValue) (piece : Piece) (rest behind : List ℕ) → IsReadTo text blocks at rest
    → length (text_of (piece ∷ [])) ≡ n → blocks_of (piece ∷ []) ≡ new → rest ≡ text_of (piece ∷ []) ++ behind
    → All IsBlock new → All HoldsBytes new → IsReadTo text (blocks ++ new) (at + n) behind
piece_more text at n blocks new piece rest behind r l b e ok bytes = record {
  pieces = r.pieces ++ piece ∷ [];
  front = record {
    joined = r.front.joined ∙ ap (λ x. text_of r.pieces ++ x) e
        ∙ sym (append_assoc (text_of r.pieces) (text_of (piece ∷ [])) behind)
        ∙ ap (λ x. x ++ behind) (sym (text_of-append r.pieces (piece ∷ [])));
    allowed = subst (All IsBlock) (ap (λ x. blocks_of r.pieces ++ x) (sym b) ∙ sym (blocks_of-append r.pieces (piece ∷ [])))
        (All-append IsBlock (blocks_of r.pieces) new r.front.allowed ok);
  };
  all_used = blocks_of-append r.pieces (piece ∷ []) ∙ ap (λ x. x ++ blocks_of (piece ∷ [])) r.all_used ∙ ap (λ x. blocks ++ x) b;
  ends = ap length (text_of-append r.pieces (piece ∷ [])) ∙ length-append (text_of r.pieces) (text_of (piece ∷ []))
      ∙ ap (λ x. x + length (text_of (piece ∷ []))) r.ends ∙ ap (λ x. at + x) l;
  each_byte = All-append HoldsBytes blocks new r.each_byte bytes;
}

pub IsReadTo-blank : (text : List ℕ) (at : ℕ) (blocks : List BlockValue) (rest behind : List ℕ) → IsReadTo text blocks at rest
    → rest ≡ 0 ∷ behind → IsReadTo text blocks (at + 1) behind
IsReadTo-blank text at blocks rest behind r e =
    subst (λ bs. IsReadTo text bs (at + 1) behind) (append-nil blocks)
    (piece_more text at 1 blocks [] blank rest behind r refl refl e (All-nil IsBlock) (All-nil HoldsBytes))

pub IsReadTo-data : (text : List ℕ) (at : ℕ) (blocks : List BlockValue) (b : BlockValue) (rest behind : List ℕ) → IsReadTo text blocks at rest
    → IsBlock b → HoldsBytes b → rest ≡ data_block b ++ behind
    → IsReadTo text (blocks ++ b ∷ []) (at + (7 + length b.bytes)) behind
IsReadTo-data text at blocks b rest behind r ok bytes e =
    let l : length (text_of (block b ∷ [])) ≡ 7 + length b.bytes = ap length (append-nil (data_block b)) ∙ length-framed b.address b.bytes in
    piece_more text at (7 + length b.bytes) blocks (b ∷ []) (block b) rest behind r l refl
    (e ∙ ap (λ x. x ++ behind) (sym (append-nil (data_block b))))
    (All-cons IsBlock b [] ok (All-nil IsBlock)) (All-cons HoldsBytes b [] bytes (All-nil HoldsBytes))

pub IsReadTo-length : (text : List ℕ) (at : ℕ) (blocks : List BlockValue) (rest : List ℕ) → IsReadTo text blocks at rest → length text ≡ at + length rest
IsReadTo-length text at blocks rest r =
    let l = ap length r.front.joined ∙ length-append (text_of r.pieces) rest in
    let p = r.ends in
    omega arith

-- behind the pieces stands a transfer block, and nothing else
pub IsReadTo-transfer : (text : List ℕ) (at : ℕ) (blocks : List BlockValue) (start : ℕ) → IsReadTo text blocks at (transfer_block start)
    → at + 7 ≤ tape_limit → start < 2 ^ 16 → EndsTape text blocks (at + 7) start
IsReadTo-transfer text at blocks start r limit word =
    let l : length text ≡ at + 7 = IsReadTo-length text at blocks (transfer_block start) r ∙ ap (λ n. at + n) (length-framed start []) in
    let p : length (text_of r.pieces) ≡ at = r.ends in
    let fill : sum_by (λ b. 7 + length b.bytes) blocks ≤ at =
    subst (λ bs. sum_by (λ b. 7 + length b.bytes) bs ≤ at) r.all_used
    (subst (λ k. sum_by (λ b. 7 + length b.bytes) (blocks_of r.pieces) ≤ k) p (filled r.pieces)) in
    record {
      length_is = l;
      is_tape = record {
        pieces = r.pieces;
        front = r.front;
        all_used = r.all_used;
        within = omega arith;
      };
      sound = record {
        each_block = subst (All IsBlock) r.all_used r.front.allowed;
        each_byte = r.each_byte;
        within = omega arith;
        start_word = word;
      };
    }

-- the same where the text goes on, and is the beginning of an input
pub ends_before : (input text : List ℕ) (at : ℕ) (blocks : List BlockValue) (rest behind : List ℕ) (start : ℕ) → text ≡ take tape_limit input
    → IsReadTo text blocks at rest → rest ≡ transfer_block start ++ behind → (at + 7 ≤ length input) × IsTape (take (at + 7) input) blocks start
ends_before input text at blocks rest behind start is r e =
    let t : length text ≡ min tape_limit (length input) = ap length is ∙ length-take tape_limit input in
    let l : length text ≡ at + length rest = IsReadTo-length text at blocks rest r in
    let d : length rest ≡ 7 + length behind =
    ap length e ∙ length-append (transfer_block start) behind ∙ ap (λ n. n + length behind) (length-framed start []) in
    let front : List ℕ = text_of r.pieces ++ transfer_block start in
    let p : length (text_of r.pieces) ≡ at = r.ends in
    let n : at + 7 ≡ length front = omega (arith, length-append (text_of r.pieces) (transfer_block start), length-framed start []) in
    let joined : text ≡ front ++ behind =
    r.front.joined ∙ ap (λ x. text_of r.pieces ++ x) e ∙ sym (append_assoc (text_of r.pieces) (transfer_block start) behind) in
    let within : at + 7 ≤ length input = omega arith in
    let limited : at + 7 ≤ tape_limit = omega arith in
    let taken : length (take (at + 7) input) ≡ min (at + 7) (length input) = length-take (at + 7) input in (
      within,
      record {
        pieces = r.pieces;
        front = record {
          joined = take_within (at + 7) tape_limit input limited within ∙ ap (take (at + 7)) (sym is ∙ joined) ∙ take_seam (at + 7) front behind n;
          allowed = r.front.allowed;
        };
        all_used = r.all_used;
        within = omega arith;
      },
    )

-- what stands behind the pieces within the limit has a fault
pub IsReadTo-fault : (input text : List ℕ) (at : ℕ) (blocks : List BlockValue) (rest : List ℕ) (fault : Fault) → text ≡ take tape_limit input
    → IsReadTo text blocks at rest → IsFaulty at (missing_fault input at) rest fault → IsRefused input fault.at fault.why
IsReadTo-fault input text at blocks rest fault is r f =
    refused input r.pieces rest fault (subst (λ x. IsFront x r.pieces rest) is r.front)
    (subst (λ n. IsFaulty n (missing_fault input n) rest fault) (sym r.ends) f)
