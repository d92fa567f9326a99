-- What follows for a text from the first fault that the tests give.
use Rattle.std.proofs.Common.{◌≡◌, ℕ, ◌+◌, ◌-◌, ◌<◌, ◌≤◌, List, [], ◌∷◌, length, take, drop, arith, ◌∙◌, Option, Some, None, false, nat_le}
use Rattle.std.proofs.lemmas.Bool.{le-ltb, cond-false, lt-leb}
use Rattle.tape_values.specs.Block.{top}
use Rattle.tape_blocks.specs.Refusal.{Test, tests_of, first_fault, count_of, address_of, fault_at}
use Rattle.tape_blocks.specs.Head.{IsFaulty}
use Rattle.tape_blocks.specs.declared.fault.Fault.{Fault}
use Rattle.tape_blocks.specs.declared.fault.Why.TheVariants.{PastTop}
use Rattle.tape_blocks.proofs.FirstBlock.{IsFramed, framed-states, framed_passes, first_fault-append_some, first_fault-append_none}

none_some : {X : Type 0} (o : Option X) (x : X) → o ≡ None → o ≡ Some x → ⊥
none_some o x n s = cc (n, s)

-- the mark, the count or the sum is wrong, or one of them is not there
pub faulty_frame :
    (s : ℕ) (m f : Fault) (text : List ℕ) → ((rest : List ℕ) → text ≡ 0 ∷ rest → ⊥)
    → first_fault (length text) m (take 4 (tests_of s text)) ≡ Some f → IsFaulty s m text f
faulty_frame s m f text blank e = record {
  no_piece = record {
    no_blank = blank;
    no_block = λ b rest ok t. none_some _ _ (framed_passes s m text (framed-states b.address b.bytes rest text t).is_framed) e;
  };
  no_transfer = λ start rest t. none_some _ _ (framed_passes s m text (framed-states start [] rest text t).is_framed) e;
  first = first_fault-append_some (length text) m f (take 4 (tests_of s text)) (drop 4 (tests_of s text)) e;
}

pub past_top : (n : ℕ) (m : Fault) (t : Test) → t.needs ≤ n → t.passes ≡ false → first_fault n m (t ∷ []) ≡ Some t.fault
past_top n m t h e = cond-false _ _ _ (le-ltb n t.needs h) ∙ cond-false _ _ _ e

-- a data block that is right but for its end
pub faulty_end :
    (s : ℕ) (m : Fault) (text : List ℕ) → ((rest : List ℕ) → text ≡ 0 ∷ rest → ⊥)
    → first_fault (length text) m (take 4 (tests_of s text)) ≡ None → IsFramed text
    → 6 < count_of text → top < address_of text + (count_of text - 6) → IsFaulty s m text (fault_at (s + 4) PastTop)
faulty_end s m text blank e f more past = record {
  no_piece = record {
    no_blank = blank;
    no_block = λ b rest ok t.
        let st = framed-states b.address b.bytes rest text t in
        let c : count_of text ≡ 6 + length b.bytes = st.count in
        let a : address_of text ≡ b.address = st.address_is in
        let below : b.address + length b.bytes ≤ top = ok.below_top in
        omega arith;
  };
  no_transfer = λ start rest t. let c : count_of text ≡ 6 = (framed-states start [] rest text t).count in omega arith;
  first =
      let t : Test = record { needs = count_of text + 1; passes = nat_le (address_of text + (count_of text - 6)) top; fault = fault_at (s + 4) PastTop } in
      first_fault-append_none (length text) m (take 4 (tests_of s text)) (t ∷ []) e
      ∙ past_top (length text) m t f.whole (lt-leb _ _ past);
}
