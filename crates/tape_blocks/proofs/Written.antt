-- What is written of a tape is read again.
use Rattle.std.proofs.Common.{◌≡◌, ℕ, ◌+◌, ◌<◌, List, [], ◌∷◌, ◌++◌, length, map, take, arith, ◌∙◌, sym, ap, subst, length-append, append-nil, get_or, Ok}
use Rattle.std.proofs.lemmas.List.{take_more, map-append}
use Rattle.tape_values.specs.Block.{BlockValue, data_block}
use Rattle.tape_values.specs.Tape.{TapeValue, text_of, IsTape, IsSound, plain_text}
use Rattle.tape_values.specs.Tape.Piece.{block}
use Rattle.tape_values.proofs.Pieces.{text_of-append}
use Rattle.tape_values.proofs.Plain.{plain_text-tape}
use Rattle.tape_blocks.specs.Reading.{IsReading}
use Rattle.tape_blocks.proofs.FirstBlock.{take_seam}

-- whatever follows it
pub read_again : (tape : TapeValue) (text more : List ℕ) (n : ℕ) → IsSound tape → text ≡ plain_text tape → n ≡ length text
    → IsReading (text ++ more) (Ok (tape, n))
read_again tape text more n s e l =
    let a = length-append text more in
    let t : take n (text ++ more) ≡ plain_text tape = take_seam n text more l ∙ e in
    (omega arith, subst (λ x. IsTape x tape.blocks tape.start) (sym t) (plain_text-tape tape s))

-- one more block in the text
pub text_of-push : (bs : List BlockValue) (i : ℕ) (b : BlockValue) → i < length bs → b ≡ get_or bs i b
    → text_of (map block (take (i + 1) bs)) ≡ text_of (map block (take i bs)) ++ data_block b
text_of-push bs i b h e =
    ap (λ l. text_of (map block l)) (take_more bs i b h ∙ ap (λ x. take i bs ++ x ∷ []) (sym e))
    ∙ ap text_of (map-append block (take i bs) (b ∷ []))
    ∙ text_of-append (map block (take i bs)) (block b ∷ [])
    ∙ ap (λ t. text_of (map block (take i bs)) ++ t) (append-nil (data_block b))
