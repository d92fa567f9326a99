-- An input says one thing: a tape that begins it, or its one refusal.
use Rattle.std.proofs.Common.{◌≡◌, ℕ, ◌≤◌, min, List, ◌++◌, length, take, drop, arith, ◌∙◌, sym, ap, subst, append_assoc, length-append, length-drop, Some, Result, Ok, Err, inl, ◌⊎◌}
use Rattle.std.proofs.lemmas.List.{length-take, take-append-drop, take-append-le}
use Rattle.tape_values.specs.Block.{BlockValue, transfer_block}
use Rattle.tape_values.specs.Tape.{TapeValue, Piece, text_of, IsFront, IsTape, tape_limit}
use Rattle.tape_blocks.specs.Refusal.{IsRefused, first_fault, missing_fault, tests_of, fault_at}
use Rattle.tape_blocks.specs.Head.{IsFaulty, NoPiece}
use Rattle.tape_blocks.specs.Reading.{IsReading}
use Rattle.tape_blocks.specs.declared.fault.Fault.{Fault}
use Rattle.tape_blocks.specs.declared.fault.Why.{Why}
use Rattle.tape_blocks.specs.declared.fault.ReadError.{ReadError}
use Rattle.tape_blocks.specs.declared.fault.ReadError.TheVariants.{Tape, Memory}
use Rattle.tape_blocks.proofs.Framing.{same_length}
use Rattle.tape_values.proofs.Pieces.{text_of-append}
use Rattle.tape_blocks.proofs.Fronts.{comparison, same_front, transfer-no_piece, one_tape_begins}

some_same : {X : Type 0} {x y : X} → Some x ≡ Some y → x ≡ y
some_same e = cc e

-- a front is never longer than one behind which no piece stands
no_longer_front :
    (text : List ℕ) (ps qs : List Piece) (x y : List ℕ) → NoPiece x → IsFront text ps x → IsFront text qs y
    → length (text_of qs) ≤ length (text_of ps)
no_longer_front text ps qs x y n f g =
    let e = comparison ps qs x y g.allowed n (sym f.joined ∙ g.joined) in
    let l = ap (λ p. length (text_of p)) e.pieces ∙ ap length (text_of-append qs e.more) ∙ length-append (text_of qs) (text_of e.more) in
    omega arith

-- a tape within the first bytes of a text, where a front with no piece behind it begins the text
transfer_behind :
    (text : List ℕ) (ps : List Piece) (rest : List ℕ) (k : ℕ) (bs : List BlockValue) (start : ℕ)
    → IsFront text ps rest → NoPiece rest → IsTape (take k text) bs start → rest ≡ transfer_block start ++ drop k text
transfer_behind text ps rest k bs start f n t =
    let e : text ≡ text_of t.pieces ++ (transfer_block start ++ drop k text) =
    sym (take-append-drop k text) ∙ ap (λ x. x ++ drop k text) t.front.joined
    ∙ append_assoc (text_of t.pieces) (transfer_block start) (drop k text) in
    let s = same_front ps t.pieces rest (transfer_block start ++ drop k text) f.allowed t.front.allowed n
    (transfer-no_piece start (drop k text)) (sym f.joined ∙ e) in
    s.rests

-- a fault behind a front is the refusal of the input
pub refused :
    (input : List ℕ) (ps : List Piece) (rest : List ℕ) (fault : Fault) → IsFront (take tape_limit input) ps rest
    → IsFaulty (length (text_of ps)) (missing_fault input (length (text_of ps))) rest fault → IsRefused input fault.at fault.why
refused input ps rest fault f e = record {
  no_tape = λ k bs start t. e.no_transfer start _ (transfer_behind _ ps rest k bs start f e.no_piece t);
  pieces = ps;
  rest = rest;
  front = record { is_front = f; longest = λ qs y g. no_longer_front _ ps qs rest y e.no_piece f g };
  first = e.first;
}

-- a refusal is the only one
one_refusal :
    (input : List ℕ) (at place : ℕ) (why reason : Why) → IsRefused input at why → IsRefused input place reason
    → fault_at at why ≡ fault_at place reason
one_refusal input at place why reason a b =
    let x : ℕ = length (text_of a.pieces) in
    let y : ℕ = length (text_of b.pieces) in
    let le : y ≤ x = a.front.longest b.pieces b.rest b.front.is_front in
    let ge : x ≤ y = b.front.longest a.pieces a.rest a.front.is_front in
    let n : x ≡ y = omega arith in
    let s = same_length (text_of a.pieces) (text_of b.pieces) a.rest b.rest n (sym a.front.is_front.joined ∙ b.front.is_front.joined) in
    some_same (sym a.first ∙ ap (λ k. first_fault (length a.rest) (missing_fault input k) (tests_of k a.rest)) n
    ∙ ap (λ r. first_fault (length r) (missing_fault input y) (tests_of y r)) s.rests ∙ b.first)

pub take_within : (k n : ℕ) (input : List ℕ) → k ≤ n → k ≤ length input → take k input ≡ take k (take n input)
take_within k n input h w =
    let l : length (take n input) ≡ min n (length input) = length-take n input in
    ap (take k) (sym (take-append-drop n input)) ∙ take-append-le k (take n input) (drop n input) (omega arith)

-- what begins with a tape is not refused
pub tape-not_refused :
    (input : List ℕ) (k : ℕ) (bs : List BlockValue) (start at : ℕ) (why : Why) → k ≤ length input → IsTape (take k input) bs start
    → IsRefused input at why → ⊥
tape-not_refused input k bs start at why w t r =
    let l = length-take k input in
    let b : length (take k input) ≤ tape_limit = t.within in
    let h : k ≤ tape_limit = omega arith in
    r.no_tape k bs start (subst (λ x. IsTape x bs start) (take_within k tape_limit input h w) t)

abbrev tape_of : List BlockValue → ℕ → TapeValue
tape_of bs s = record { blocks = bs; start = s }

one_length : (input : List ℕ) (k j : ℕ) → k ≤ length input → j ≤ length input → drop k input ≡ drop j input → k ≡ j
one_length input k j w v e =
    let l = length-drop k input in
    let m = length-drop j input in
    let n = ap length e in
    omega arith

-- an input says one thing
pub one_answer :
    (input : List ℕ) (a b : Result (TapeValue × ℕ) ReadError) → IsReading input a → IsReading input b → a ≡ b
one_answer input (Ok (t, k)) (Ok (u, j)) (w, a) (v, b) =
    let r = one_tape_begins _ _ (drop k input) (drop j input) t.blocks u.blocks t.start u.start a b
    (take-append-drop k input ∙ sym (take-append-drop j input)) in
    let same : t ≡ u = ap (λ bs. tape_of bs t.start) r.blocks ∙ ap (λ s. tape_of u.blocks s) r.starts in
    ap (λ x. Ok (x, k)) same ∙ ap (λ n. Ok (u, n)) (one_length input k j w v r.rests)
one_answer input (Ok (t, k)) (Err (Tape f)) a b = absurd (tape-not_refused input k t.blocks t.start f.at f.why a.0 a.1 b)
one_answer input (Ok a) (Err Memory) r s = absurd s
one_answer input (Err Memory) b r s = absurd r
one_answer input (Err (Tape f)) (Ok (t, k)) a b = absurd (tape-not_refused input k t.blocks t.start f.at f.why b.0 b.1 a)
one_answer input (Err (Tape f)) (Err (Tape g)) a b = ap (λ x. Err (Tape x)) (one_refusal input f.at g.at f.why g.why a b)
one_answer input (Err (Tape f)) (Err Memory) r s = absurd s

-- a reading that is answered is the only one
pub complete :
    (input : List ℕ) (result said : Result (TapeValue × ℕ) ReadError) → result ≡ said → IsReading input said
    → (answer : Result (TapeValue × ℕ) ReadError) → IsReading input answer → (result ≡ answer) ⊎ (result ≡ Err Memory)
complete input result said e r answer a = inl (e ∙ one_answer input said answer r a)
