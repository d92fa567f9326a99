-- Lists of pieces that begin one text: the one whose text goes on with no piece extends the other.
use Rattle.std.proofs.Common.{◌≡◌, ℕ, List, [], ◌∷◌, ◌++◌, length, arith, refl, sym, ap, ◌∙◌, append_assoc, append-nil, All, length-append}
use Rattle.std.proofs.lemmas.List.Elements.{All-head, All-tail}
use Rattle.tape_values.specs.Block.{BlockValue, IsBlock, data_block, transfer_block, block_at}
use Rattle.tape_values.specs.Tape.{Piece, text_of, blocks_of, IsTape}
use Rattle.tape_values.specs.Tape.Piece.{blank, block}
use Rattle.tape_blocks.specs.Head.{NoPiece}
use Rattle.tape_blocks.proofs.Framing.{one_block, not_transfer}

same_block : (b d : BlockValue) → b.address ≡ d.address → b.bytes ≡ d.bytes → b ≡ d
same_block b d a bs = ap (λ x. block_at x b.bytes) a ∙ ap (λ x. block_at d.address x) bs

-- what the first list has beyond the second
pub record Extends (ps qs : List Piece) (x y : List ℕ) : Type 0 where
  pub more : List Piece
  pub pieces : ps ≡ qs ++ more
  pub rest : y ≡ text_of more ++ x

pub comparison :
    (ps qs : List Piece) (x y : List ℕ) → All IsBlock (blocks_of qs) → NoPiece x
    → text_of ps ++ x ≡ text_of qs ++ y → Extends ps qs x y
comparison ps [] x y ok n e = record { more = ps; pieces = refl; rest = sym e }
comparison [] (blank ∷ qs) x y ok n e = absurd (n.no_blank _ e)
comparison [] (block b ∷ qs) x y ok n e =
    absurd (n.no_block b (text_of qs ++ y) (All-head IsBlock b (blocks_of qs) ok) (e ∙ append_assoc (data_block b) (text_of qs) y))
comparison (blank ∷ ps) (blank ∷ qs) x y ok n e =
    let t : text_of ps ++ x ≡ text_of qs ++ y = cc in
    let r = comparison ps qs x y ok n t in
    record { more = r.more; pieces = ap (λ l. blank ∷ l) r.pieces; rest = r.rest }
comparison (blank ∷ ps) (block b ∷ qs) x y ok n e = absurd (cc e)
comparison (block b ∷ ps) (blank ∷ qs) x y ok n e = absurd (cc e)
comparison (block b ∷ ps) (block d ∷ qs) x y ok n e =
    let t : data_block b ++ (text_of ps ++ x) ≡ data_block d ++ (text_of qs ++ y) =
    sym (append_assoc (data_block b) (text_of ps) x) ∙ e ∙ append_assoc (data_block d) (text_of qs) y in
    let s = one_block b.address d.address b.bytes d.bytes (text_of ps ++ x) (text_of qs ++ y) t in
    let same : b ≡ d = same_block b d s.addresses s.bytes in
    let r = comparison ps qs x y (All-tail IsBlock d (blocks_of qs) ok) n s.rests in
    let p : block b ∷ ps ≡ block d ∷ (qs ++ r.more) =
    ap (λ v. block v ∷ ps) same ∙ ap (λ l. block d ∷ l) r.pieces in
    record { more = r.more; pieces = p; rest = r.rest }

-- two fronts that both go on with no piece
pub record SameFront (ps qs : List Piece) (x y : List ℕ) : Type 0 where
  pub pieces : ps ≡ qs
  pub rests : x ≡ y

no_longer : (ps qs : List Piece) (more others : List Piece) → ps ≡ qs ++ more → qs ≡ ps ++ others → length more ≡ 0
no_longer ps qs more others e f =
    let m = ap length e ∙ length-append qs more in
    let n = ap length f ∙ length-append ps others in
    omega arith

same_more : (ps qs more : List Piece) (x y : List ℕ) → length more ≡ 0 → ps ≡ qs ++ more → y ≡ text_of more ++ x → SameFront ps qs x y
same_more ps qs [] x y l p r = record { pieces = p ∙ append-nil qs; rests = sym r }
same_more ps qs (m ∷ more) x y l p r = absurd (omega arith)

pub same_front :
    (ps qs : List Piece) (x y : List ℕ) → All IsBlock (blocks_of ps) → All IsBlock (blocks_of qs) → NoPiece x → NoPiece y
    → text_of ps ++ x ≡ text_of qs ++ y → SameFront ps qs x y
same_front ps qs x y oks okt n m e =
    let a = comparison ps qs x y okt n e in
    let b = comparison qs ps y x oks m (sym e) in
    same_more ps qs a.more x y (no_longer ps qs a.more b.more a.pieces b.pieces) a.pieces a.rest

-- a transfer block ends the pieces
pub transfer-no_piece : (start : ℕ) (rest : List ℕ) → NoPiece (transfer_block start ++ rest)
transfer-no_piece start rest = record {
  no_blank = λ z e. cc e;
  no_block = λ b z ok e. not_transfer b start rest z ok e;
}

-- where a tape begins a text, and a second tape too, they are one
pub record SameTape (bs cs : List BlockValue) (s t : ℕ) (x y : List ℕ) : Type 0 where
  pub blocks : bs ≡ cs
  pub starts : s ≡ t
  pub rests : x ≡ y

same_tape : (ps qs : List Piece) (s t : ℕ) (x y : List ℕ) → All IsBlock (blocks_of ps) → All IsBlock (blocks_of qs)
    → text_of ps ++ (transfer_block s ++ x) ≡ text_of qs ++ (transfer_block t ++ y)
    → SameTape (blocks_of ps) (blocks_of qs) s t x y
same_tape ps qs s t x y oks okt e =
    let f = same_front ps qs _ _ oks okt (transfer-no_piece s x) (transfer-no_piece t y) e in
    let b = one_block s t [] [] x y f.rests in
    record { blocks = ap blocks_of f.pieces; starts = b.addresses; rests = b.rests }

pub one_tape_begins :
    (text other x y : List ℕ) (bs cs : List BlockValue) (s t : ℕ) → IsTape text bs s → IsTape other cs t
    → text ++ x ≡ other ++ y → SameTape bs cs s t x y
one_tape_begins text other x y bs cs s t a b e =
    let p : text_of a.pieces ++ (transfer_block s ++ x) ≡ text ++ x =
    sym (append_assoc (text_of a.pieces) (transfer_block s) x) ∙ ap (λ l. l ++ x) (sym a.front.joined) in
    let q : other ++ y ≡ text_of b.pieces ++ (transfer_block t ++ y) =
    ap (λ l. l ++ y) b.front.joined ∙ append_assoc (text_of b.pieces) (transfer_block t) y in
    let r = same_tape a.pieces b.pieces s t x y a.front.allowed b.front.allowed (p ∙ e ∙ q) in
    record { blocks = sym a.all_used ∙ r.blocks ∙ b.all_used; starts = r.starts; rests = r.rests }
