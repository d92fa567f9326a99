-- Each text of bytes has a head: a byte 00, a data block, a transfer block or a fault.
use Rattle.std.proofs.Common.{◌≡◌, ℕ, ◌+◌, ◌<◌, ◌≤◌, ◌^◌, ◌⊎◌, inl, inr, zero, suc, List, [], ◌∷◌, ◌++◌, length, take, drop, arith, ap, ◌∙◌, sym, subst, slice_index, All, Option, Some, None, refl}
use Rattle.std.proofs.lemmas.List.{nil_from_length}
use Rattle.std.proofs.lemmas.List.Elements.{All-from_get_or, All-take, All-drop}
use Rattle.tape_values.specs.Block.{BlockValue, IsBlock, HoldsBytes, block_at, data_block, framed, transfer_block, top}
use Rattle.tape_blocks.specs.Refusal.{first_fault, tests_of, address_of, count_of, fault_at}
use Rattle.tape_blocks.specs.Head.{IsFaulty}
use Rattle.tape_blocks.specs.declared.fault.Fault.{Fault}
use Rattle.tape_blocks.specs.declared.fault.Why.TheVariants.{PastTop}
use Rattle.tape_blocks.proofs.FirstBlock.{IsFramed, passes_framed, framed_text, data_of, length-data_of}
use Rattle.tape_blocks.proofs.Faults.{faulty_frame, faulty_end}

-- each number of the list is a byte
abbrev pub AreBytes : List ℕ → Type 0
AreBytes text = (i : ℕ) → slice_index text i < 256

-- the block that begins a text and passes the tests of its frame
pub record IsFramedAs (text : List ℕ) (address : ℕ) (bytes : List ℕ) : Type 0 where
  pub joined : text ≡ framed address bytes ++ drop (7 + length bytes) text
  pub word : address < 2 ^ 16
  pub each_byte : All (λ b. b < 2 ^ 8) bytes

pub framed_as : (text : List ℕ) (address : ℕ) (bytes : List ℕ) → AreBytes text → IsFramed text → address ≡ address_of text
    → bytes ≡ data_of text → IsFramedAs text address bytes
framed_as text address bytes are f a d = record {
  joined = framed_text text are f
      ∙ sym (ap (λ x. framed x bytes ++ drop (7 + length bytes) text) a ∙ ap (λ x. framed (address_of text) x ++ drop (7 + length x) text) d);
  word = omega (arith, a, are 4, are 5);
  each_byte = subst (All (λ b. b < 2 ^ 8)) (sym d)
      (All-take (λ b. b < 2 ^ 8) _ _ (All-drop (λ b. b < 2 ^ 8) 6 text (All-from_get_or (λ b. b < 2 ^ 8) text 0 (λ i _. are i))));
}

pub data Headed (s : ℕ) (m : Fault) (text : List ℕ) : Type 0 where
  blank_head : text ≡ 0 ∷ drop 1 text → Headed s m text
  data_head : (b : BlockValue) → IsBlock b → HoldsBytes b → text ≡ data_block b ++ drop (7 + length b.bytes) text → Headed s m text
  transfer_head : (start : ℕ) → start < 2 ^ 16 → text ≡ transfer_block start ++ drop 7 text → Headed s m text
  faulty_head : (f : Fault) → IsFaulty s m text f → Headed s m text

begins_blank : (text : List ℕ) → (text ≡ 0 ∷ drop 1 text) ⊎ ((rest : List ℕ) → text ≡ 0 ∷ rest → ⊥)
begins_blank [] = inr (λ rest e. cc e)
begins_blank (zero ∷ text) = inl refl
begins_blank (suc n ∷ text) = inr (λ rest e. let h : ◌≡◌ {A = ℕ} (suc n) 0 = cc e in omega arith)

two : (o : Option Fault) → (o ≡ None) ⊎ ((f : Fault) × (o ≡ Some f))
two None = inl refl
two (Some f) = inr (f, refl)

pub at_most : (a b : ℕ) → (a ≤ b) ⊎ (b < a)
at_most a b = grind arith

framed_head : (s : ℕ) (m : Fault) (text : List ℕ) → AreBytes text → ((rest : List ℕ) → text ≡ 0 ∷ rest → ⊥)
    → first_fault (length text) m (take 4 (tests_of s text)) ≡ None → Headed s m text
framed_head s m text are blank e =
    let f = passes_framed s m text e in
    let g = framed_as text (address_of text) (data_of text) are f refl refl in
    let l : 6 + length (data_of text) ≡ count_of text = length-data_of text f in
    elim (at_most (length (data_of text)) 0) [
      | inl none ↦ transfer_head (address_of text) g.word
          (subst (λ bs. text ≡ framed (address_of text) bs ++ drop (7 + length bs) text) (nil_from_length (data_of text) (omega arith)) g.joined)
      | inr some ↦ elim (at_most (address_of text + length (data_of text)) top) [
        | inl below ↦ data_head (block_at (address_of text) (data_of text)) (record { not_empty = some; below_top = below }) g.each_byte g.joined
        | inr past ↦ faulty_head (fault_at (s + 4) PastTop) (faulty_end s m text blank e f (omega arith) (omega arith))
      ]
    ]

pub head_of : (s : ℕ) (m : Fault) (text : List ℕ) → AreBytes text → Headed s m text
head_of s m text are =
    elim (begins_blank text) [
      | inl e ↦ blank_head e
      | inr blank ↦ elim (two (first_fault (length text) m (take 4 (tests_of s text)))) [
        | inl e ↦ framed_head s m text are blank e
        | inr h ↦ faulty_head h.0 (faulty_frame s m h.0 text blank h.1)
      ]
    ]
