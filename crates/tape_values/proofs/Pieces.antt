-- The pieces of a tape's text, and how long they are.
use Rattle.std.proofs.Common.{◌≡◌, ℕ, ◌+◌, ◌≤◌, List, [], ◌∷◌, ◌++◌, length, arith, refl, sym, ap, ◌∙◌, append_assoc, length-append, sum_by}
use Rattle.std.proofs.lemmas.List.Sums.{sum_by-cons}
use Rattle.tape_values.specs.Block.{checksum, counted, framed, data_block}
use Rattle.tape_values.specs.Tape.{Piece, text_of, blocks_of}
use Rattle.tape_values.specs.Tape.Piece.{blank, block}

pub length-framed : (a : ℕ) (bs : List ℕ) → length (framed a bs) ≡ 7 + length bs
length-framed a bs = omega (arith, length-append bs (checksum (counted a bs) ∷ []))

pub text_of-append : (ps qs : List Piece) → text_of (ps ++ qs) ≡ text_of ps ++ text_of qs
text_of-append [] qs = refl
text_of-append (blank ∷ ps) qs = ap (λ l. 0 ∷ l) (text_of-append ps qs)
text_of-append (block b ∷ ps) qs =
    ap (λ l. data_block b ++ l) (text_of-append ps qs) ∙ sym (append_assoc (data_block b) (text_of ps) (text_of qs))

pub blocks_of-append : (ps qs : List Piece) → blocks_of (ps ++ qs) ≡ blocks_of ps ++ blocks_of qs
blocks_of-append [] qs = refl
blocks_of-append (blank ∷ ps) qs = blocks_of-append ps qs
blocks_of-append (block b ∷ ps) qs = ap (λ l. b ∷ l) (blocks_of-append ps qs)

-- the blocks among the pieces fill no more than the pieces
pub filled : (ps : List Piece) → sum_by (λ b. 7 + length b.bytes) (blocks_of ps) ≤ length (text_of ps)
filled [] = omega arith
filled (blank ∷ ps) = let h = filled ps in omega arith
filled (block b ∷ ps) =
    let h = filled ps in
    let s = sum_by-cons (λ x. 7 + length x.bytes) b (blocks_of ps) in
    let l = length-append (data_block b) (text_of ps) in
    let f = length-framed b.address b.bytes in
    omega arith
