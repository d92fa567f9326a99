-- Reading on: what stands behind the bytes that were read, with those of a step behind them.
use Rattle.std.proofs.Common.{◌≡◌, ℕ, ◌+◌, ◌-◌, ◌<◌, ◌≤◌, ◌^◌, List, [], ◌∷◌, ◌++◌, length, take, drop, arith, ◌∙◌, sym, ap, subst, append_assoc, append-nil, length-append, nat_lt, true, refl, slice_index, inl, inr}
use Rattle.std.proofs.lemmas.Bool.{cases_lt, lt-ltb}
use Rattle.std.proofs.lemmas.List.{take-append-le, take_all, nil_from_length}
use Rattle.std.proofs.Math.Seq.{take-append-add}
use Rattle.tape_values.specs.Block.{BlockValue, IsBlock, HoldsBytes, data_block, transfer_block}
use Rattle.tape_values.specs.Tape.{tape_limit}
use Rattle.tape_blocks.specs.Refusal.{IsRefused, missing_fault, fault_at}
use Rattle.tape_blocks.specs.Head.{IsFaulty, IsFaultyBlock, IsWanting, IsSplit}
use Rattle.tape_blocks.specs.Standing.{IsReadTo, EndsTape, IsRefusedForGood}
use Rattle.tape_blocks.specs.declared.fault.Fault.{Fault}
use Rattle.tape_blocks.specs.declared.fault.Why.TheVariants.{TooLong}
use Rattle.tape_blocks.proofs.FirstBlock.{take_seam}
use Rattle.tape_blocks.proofs.Longer.{faulty_longer}
use Rattle.tape_blocks.proofs.Standings.{IsReadTo-grow, IsReadTo-blank, IsReadTo-data, IsReadTo-transfer, IsReadTo-fault, IsReadTo-length}

-- no byte is the beginning of a block
wants_empty : (s : ℕ) → IsWanting s []
wants_empty s = λ m. record {
  no_piece = record { no_blank = λ rest e. cc e; no_block = λ b rest ok e. cc e };
  no_transfer = λ start rest e. cc e;
  first = refl;
}

pub wants_nothing : (s : ℕ) (part : List ℕ) → part ≡ [] → IsWanting s part
wants_nothing s part e = subst (IsWanting s) (sym e) (wants_empty s)

pub no_part : (header body : List ℕ) → IsSplit header body → header ≡ [] → header ++ body ≡ []
no_part header body split none =
    let l : length header ≡ 0 = ap length none in
    let b : body ≡ [] = nil_from_length body (elim (cases_lt 0 (length body)) [
      | inl some ↦ let whole : length header ≡ 6 = split.whole some in absurd (omega arith)
      | inr empty ↦ omega arith
    ]) in
    ap (λ x. x ++ body) none ∙ b

pub step_blank : (fed t part : List ℕ) (blocks : List BlockValue) (place : ℕ) → IsReadTo fed blocks place part → part ++ t ≡ 0 ∷ []
    → IsReadTo (fed ++ t) blocks (place + 1) []
step_blank fed t part blocks place r e =
    IsReadTo-blank (fed ++ t) place blocks (part ++ t) [] (IsReadTo-grow fed t blocks place part r) e

pub step_data : (fed t part : List ℕ) (blocks : List BlockValue) (place : ℕ) (b : BlockValue) → IsReadTo fed blocks place part
    → IsBlock b → HoldsBytes b → part ++ t ≡ data_block b → IsReadTo (fed ++ t) (blocks ++ b ∷ []) (place + (7 + length b.bytes)) []
step_data fed t part blocks place b r ok bytes e =
    IsReadTo-data (fed ++ t) place blocks b (part ++ t) [] (IsReadTo-grow fed t blocks place part r) ok bytes (e ∙ sym (append-nil (data_block b)))

pub step_transfer : (fed t part : List ℕ) (blocks : List BlockValue) (place start : ℕ) → IsReadTo fed blocks place part
    → part ++ t ≡ transfer_block start → place + 7 ≤ tape_limit → start < 2 ^ 16 → EndsTape (fed ++ t) blocks (place + 7) start
step_transfer fed t part blocks place start r e limit word =
    IsReadTo-transfer (fed ++ t) place blocks start
    (subst (IsReadTo (fed ++ t) blocks place) e (IsReadTo-grow fed t blocks place part r)) limit word

-- a longer list, cut at the limit
cut : (text more : List ℕ) → length text ≤ tape_limit → take tape_limit (text ++ more) ≡ text ++ take (tape_limit - length text) more
cut text more h =
    let n : tape_limit ≡ length text + (tape_limit - length text) = omega arith in
    ap (λ k. take k (text ++ more)) n ∙ take-append-add text more (tape_limit - length text)

pub step_fault : (fed t part : List ℕ) (blocks : List BlockValue) (place : ℕ) (fault : Fault) → IsReadTo fed blocks place part
    → place + length (part ++ t) ≤ tape_limit → IsFaultyBlock place (part ++ t) fault → IsRefusedForGood (fed ++ t) fault
step_fault fed t part blocks place fault r limit h = λ more.
    let text : List ℕ = fed ++ t in
    let input : List ℕ = text ++ more in
    let kept : List ℕ = take (tape_limit - length text) more in
    let g : IsReadTo text blocks place (part ++ t) = IsReadTo-grow fed t blocks place part r in
    let l : length text ≡ place + length (part ++ t) = IsReadTo-length text place blocks (part ++ t) g in
    IsReadTo-fault input (text ++ kept) place blocks ((part ++ t) ++ kept) fault (sym (cut text more (omega arith)))
    (IsReadTo-grow text kept blocks place (part ++ t) g)
    (faulty_longer place (part ++ t) kept fault h (missing_fault input place))

-- refused for good, and so with more behind
pub good_longer : (text more : List ℕ) (fault : Fault) → IsRefusedForGood text fault → IsRefusedForGood (text ++ more) fault
good_longer text more fault h = λ behind.
    subst (λ x. IsRefused x fault.at fault.why) (sym (append_assoc text more behind)) (h (more ++ behind))

pub too_long : (input : List ℕ) (s : ℕ) → tape_limit < length input → missing_fault input s ≡ fault_at tape_limit TooLong
too_long input s h = let over : nat_lt tape_limit (length input) ≡ true = lt-ltb tape_limit (length input) h in rw over refl

-- the tape goes on behind its last place
pub step_too_long : (fed left part : List ℕ) (blocks : List BlockValue) (place : ℕ) → IsReadTo fed blocks place part → IsWanting place part
    → place + length part ≡ tape_limit → 0 < length left → IsRefusedForGood (fed ++ left) (fault_at tape_limit TooLong)
step_too_long fed left part blocks place r wanting full some = λ more.
    let input : List ℕ = (fed ++ left) ++ more in
    let l : length fed ≡ place + length part = IsReadTo-length fed place blocks part r in
    let a = length-append fed left in
    let b = length-append (fed ++ left) more in
    let same : fed ≡ take tape_limit input =
    sym (take_all tape_limit fed (omega arith))
    ∙ sym (ap (take tape_limit) (append_assoc fed left more) ∙ take-append-le tape_limit fed (left ++ more) (omega arith)) in
    let m : missing_fault input place ≡ fault_at tape_limit TooLong = too_long input place (omega arith) in
    IsReadTo-fault input fed place blocks part (fault_at tape_limit TooLong) same r
    (subst (λ x. IsFaulty place (missing_fault input place) part x) m (wanting (missing_fault input place)))

-- what stands first in a text, and is just as long as a block
pub front_is : (n : ℕ) (block text : List ℕ) → text ≡ block ++ drop n text → n ≡ length block → take n text ≡ block
front_is n block text e l = ap (take n) e ∙ take_seam n block (drop n text) l

-- and is no longer than the text
pub front_fits : (n : ℕ) (block text : List ℕ) → text ≡ block ++ drop n text → n ≡ length block → n ≤ length text
front_fits n block text e l = let k = ap length e ∙ length-append block (drop n text) in omega arith

-- behind no part
pub alone : (part t : List ℕ) → part ≡ [] → part ++ t ≡ t
alone part t e = ap (λ x. x ++ t) e

-- the first byte of a text
pub first_byte : (text : List ℕ) (x : ℕ) → 0 < length text → slice_index text 0 ≡ x → take 1 text ≡ x ∷ []
first_byte [] x h e = absurd (omega arith)
first_byte (y ∷ text) x h e = ap (λ z. z ∷ []) e

-- the same reading under other names
pub same_read : (a b : List ℕ) (bs cs : List BlockValue) (n m : ℕ) (x y : List ℕ) → a ≡ b → bs ≡ cs → n ≡ m → x ≡ y → IsReadTo a bs n x → IsReadTo b cs m y
same_read a b bs cs n m x y e f g h r =
    subst (λ t. IsReadTo t cs m y) e (subst (λ t. IsReadTo a t m y) f (subst (λ t. IsReadTo a bs t y) g (subst (IsReadTo a bs n) h r)))

pub split_nothing : (header body : List ℕ) → header ≡ [] → body ≡ [] → IsSplit header body
split_nothing header body e f =
    let h : length header ≡ 0 = ap length e in
    let b : length body ≡ 0 = ap length f in
    record { at_most = omega arith; whole = λ some. absurd (omega arith) }
