-- A block under way that comes to its end.
use Rattle.std.proofs.Common.{◌≡◌, ℕ, ◌+◌, ◌-◌, ◌/◌, ◌%◌, ◌<◌, ◌≤◌, List, [], ◌∷◌, ◌++◌, length, take, drop, arith, sym, ap, ◌∙◌, append-nil, length-append, inl, inr}
use Rattle.std.proofs.lemmas.Bool.{cases_lt}
use Rattle.std.proofs.lemmas.List.{nil_from_length}
use Rattle.tape_values.specs.Block.{framed, counted, checksum}
use Rattle.tape_blocks.specs.Refusal.{count_of}
use Rattle.tape_blocks.specs.Head.{IsSplit}
use Rattle.tape_values.proofs.Pieces.{length-framed}
use Rattle.tape_blocks.proofs.FirstBlock.{framed-states, take_seam}
use Rattle.tape_blocks.proofs.Framing.{same_length}
use Rattle.tape_blocks.proofs.Longer.{same_count}

-- a part grows to a whole header at most, and then to a whole block at most
pub record GrowsTo (part t : List ℕ) : Type 0 where
  pub header : length part < 6 → length part + length t ≤ 6
  pub block : 6 ≤ length part → length part + length t ≤ count_of part + 1

-- so a block that stands first in it fills it
pub just_block : (a : ℕ) (bs part t : List ℕ) → GrowsTo part t → part ++ t ≡ framed a bs ++ drop (7 + length bs) (part ++ t) → part ++ t ≡ framed a bs
just_block a bs part t g e =
    let whole : List ℕ = part ++ t in
    let l : length whole ≡ length part + length t = length-append part t in
    let k : length whole ≡ length (framed a bs) + length (drop (7 + length bs) whole) = ap length e ∙ length-append (framed a bs) (drop (7 + length bs) whole) in
    let f : length (framed a bs) ≡ 7 + length bs = length-framed a bs in
    let c : count_of whole ≡ 6 + length bs = (framed-states a bs (drop (7 + length bs) whole) whole e).count in
    elim (cases_lt (length part) 6) [
      | inl short ↦ let h = g.header short in absurd (omega arith)
      | inr there ↦
          let h = g.block there in
          let same : count_of whole ≡ count_of part = same_count part t (omega arith) in
          let none : drop (7 + length bs) whole ≡ [] = nil_from_length (drop (7 + length bs) whole) (omega arith) in
          e ∙ ap (λ x. framed a bs ++ x) none ∙ append-nil (framed a bs)
    ]

-- what stands behind the header of a whole block
pub record IsWholeBody (body bs : List ℕ) : Type 0 where
  pub length_is : length body ≡ length bs + 1
  pub bytes : take (length body - 1) body ≡ bs

pub whole_body : (header body : List ℕ) (a : ℕ) (bs : List ℕ) → IsSplit header body → header ++ body ≡ framed a bs → IsWholeBody body bs
whole_body header body a bs split e =
    let l : length header + length body ≡ 7 + length bs = sym (length-append header body) ∙ ap length e ∙ length-framed a bs in
    let most : length header ≤ 6 = split.at_most in
    let six : length header ≡ 6 = split.whole (omega arith) in
    let s = same_length header (1 ∷ 0 ∷ (6 + length bs) % 256 ∷ (6 + length bs) / 256 ∷ a % 256 ∷ a / 256 ∷ []) body
    (bs ++ checksum (counted a bs) ∷ []) six e in
    record {
      length_is = omega arith;
      bytes = ap (take (length body - 1)) s.rests ∙ take_seam (length body - 1) bs (checksum (counted a bs) ∷ []) (omega arith);
    }
