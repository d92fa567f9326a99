-- The plain text of a tape is a tape.
use Rattle.std.proofs.Common.{◌≡◌, ℕ, ◌+◌, List, [], ◌∷◌, ◌++◌, length, map, arith, ◌∙◌, sym, ap, subst, refl, length-append, sum_by, All, ◌↔◌}
use Rattle.std.proofs.lemmas.List.Sums.{sum_by-cons}
use Rattle.tape_values.specs.Block.{BlockValue, IsBlock, data_block, transfer_block}
use Rattle.tape_values.specs.Tape.{TapeValue, Piece, text_of, blocks_of, IsTape, IsSound, plain_text, written_length}
use Rattle.tape_values.specs.Tape.Piece.{blank, block}
use Rattle.tape_values.proofs.Pieces.{filled, length-framed}

blocks_of-blocks : (bs : List BlockValue) → blocks_of (map block bs) ≡ bs
blocks_of-blocks [] = refl
blocks_of-blocks (b ∷ bs) = ap (λ l. b ∷ l) (blocks_of-blocks bs)

length-blocks : (bs : List BlockValue) → length (text_of (map block bs)) ≡ sum_by (λ b. 7 + length b.bytes) bs
length-blocks [] = refl
length-blocks (b ∷ bs) =
    let h = length-blocks bs in
    let s = sum_by-cons (λ x. 7 + length x.bytes) b bs in
    let l = length-append (data_block b) (text_of (map block bs)) in
    let f = length-framed b.address b.bytes in
    omega arith

pub length-plain_text : (tape : TapeValue) → length (plain_text tape) ≡ written_length tape.blocks
length-plain_text tape =
    let h = length-blocks tape.blocks in
    let l = length-append (text_of (map block tape.blocks)) (transfer_block tape.start) in
    let f = length-framed tape.start [] in
    omega arith

pub plain_text-tape : (tape : TapeValue) → IsSound tape → IsTape (plain_text tape) tape.blocks tape.start
plain_text-tape tape s = record {
  pieces = map block tape.blocks;
  front = record { joined = refl; allowed = subst (All IsBlock) (sym (blocks_of-blocks tape.blocks)) s.each_block };
  all_used = blocks_of-blocks tape.blocks;
  within = let l = length-plain_text tape in let w = s.within in omega arith;
}

-- pieces that fill no more than their blocks are their blocks
only_blocks : (ps : List Piece) → length (text_of ps) ≡ sum_by (λ b. 7 + length b.bytes) (blocks_of ps) → ps ≡ map block (blocks_of ps)
only_blocks [] e = refl
only_blocks (blank ∷ ps) e = absurd (let h = filled ps in omega arith)
only_blocks (block b ∷ ps) e =
    let s = sum_by-cons (λ x. 7 + length x.bytes) b (blocks_of ps) in
    let l = length-append (data_block b) (text_of ps) in
    let f = length-framed b.address b.bytes in
    ap (λ l. block b ∷ l) (only_blocks ps (omega arith))

plain_by_length : (text : List ℕ) (blocks : List BlockValue) (start : ℕ) → IsTape text blocks start → length text ≡ written_length blocks
    → text ≡ plain_text (record { blocks = blocks; start = start })
plain_by_length text blocks start t e =
    let l = ap length t.front.joined ∙ length-append (text_of t.pieces) (transfer_block start) in
    let f = length-framed start [] in
    let same : written_length (blocks_of t.pieces) ≡ written_length blocks = ap written_length t.all_used in
    t.front.joined ∙ ap (λ ps. text_of ps ++ transfer_block start) (only_blocks t.pieces (omega arith) ∙ ap (map block) t.all_used)

-- a text of a tape is the plain one exactly where it has its length
pub plain-length : (tape : TapeValue) (n : ℕ) → n ≡ written_length tape.blocks → (text : List ℕ) → IsTape text tape.blocks tape.start
    → (text ≡ plain_text tape) ↔ (length text ≡ n)
plain-length tape n is text t =
    (λ e. ap length e ∙ length-plain_text tape ∙ sym is, λ e. plain_by_length text tape.blocks tape.start t (e ∙ is))
