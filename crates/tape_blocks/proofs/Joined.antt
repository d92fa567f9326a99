-- A text that is a header and what follows it: what the header says, the text says.
use Rattle.std.proofs.Common.{◌≡◌, ◌==◌, ℕ, ◌+◌, ◌-◌, ◌%◌, ◌<◌, ◌≤◌, List, [], ◌∷◌, ◌++◌, length, take, drop, arith, refl, sym, ap, ◌∙◌, Bool, false, true, Option, Some, None, sum, length-append, append-nil, subst, inl, inr}
use Rattle.std.proofs.lemmas.Bool.{cases_lt, eq-eqb, eqb-true}
use Rattle.std.proofs.lemmas.List.{nil_from_length, get_or_append_left}
use Rattle.std.proofs.lemmas.List.Sums.{sum_by-append}
use Rattle.std.proofs.Math.Seq.{get_or-append_right, take-append-add, drop-append_seam}
use Rattle.tape_values.specs.Block.{top}
use Rattle.tape_blocks.specs.Refusal.{Test, tests_of, first_fault, count_of, address_of, fault_at}
use Rattle.tape_blocks.specs.Head.{IsFaultyBlock, IsWanting, IsSplit, HasCount, SaysCount, FailsHeader}
use Rattle.tape_blocks.specs.declared.fault.Fault.{Fault}
use Rattle.tape_blocks.specs.declared.fault.Why.TheVariants.{BadSum, PastTop}
use Rattle.tape_blocks.proofs.FirstBlock.{passes_framed, data_of, first_fault-append_some, first_fault-append_none, first_fault-pass}
use Rattle.tape_blocks.proofs.Faults.{faulty_frame, faulty_end, past_top}
use Rattle.tape_blocks.proofs.Heads.{AreBytes, IsFramedAs, framed_as}
use Rattle.tape_blocks.proofs.Longer.{SameTests-take, same_tests, same_count, same_address, first_fault-stays, lacks}

bytes_join : (xs ys : List ℕ) → AreBytes xs → AreBytes ys → AreBytes (xs ++ ys)
bytes_join xs ys a b = λ i.
    elim (cases_lt i (length xs)) [
      | inl here ↦ let e = get_or_append_left xs ys 0 i here in let h = a i in omega arith
      | inr there ↦ let e = get_or-append_right xs ys i 0 there in let h = b (i - length xs) in omega arith
    ]

-- a header with its count, and what follows it
pub record IsCounted (s : ℕ) (header body : List ℕ) (count : ℕ) : Type 0 where
  pub split : IsSplit header body
  pub says : HasCount s header count

-- what the tests of a header say whatever a missing byte means, those of the text do
header_stays : (s : ℕ) (header body : List ℕ) (o : Option Fault) → ((m : Fault) → first_fault (length header) m (take 3 (tests_of s header)) ≡ o)
    → (m : Fault) → first_fault (length (header ++ body)) m (take 3 (tests_of s (header ++ body))) ≡ o
header_stays s header body o all =
    first_fault-stays (length header) (length (header ++ body)) o (take 3 (tests_of s header)) (take 3 (tests_of s (header ++ body)))
    (omega (arith, length-append header body))
    (SameTests-take 3 (length header) (tests_of s header) (tests_of s (header ++ body)) (same_tests s header body)) all

-- the fourth test
abbrev sum_test : ℕ → List ℕ → Test
sum_test s text =
    record { needs = count_of text + 1; passes = sum (take (count_of text + 1) text) % 256 == 0; fault = fault_at s BadSum }

abbrev NoBlank : List ℕ → Type 0
NoBlank text = (rest : List ℕ) → text ≡ 0 ∷ rest → ⊥

pub header_fails : (s : ℕ) (header body : List ℕ) (f : Fault) → NoBlank (header ++ body) → FailsHeader s header f → IsFaultyBlock s (header ++ body) f
header_fails s header body f blank fails = λ m.
    let text : List ℕ = header ++ body in
    faulty_frame s m f text blank
    (first_fault-append_some (length text) m f (take 3 (tests_of s text)) (sum_test s text ∷ []) (header_stays s header body (Some f) fails m))

pub header_short : (s : ℕ) (header body : List ℕ) → NoBlank (header ++ body) → IsSplit header body → SaysCount s header None → IsWanting s (header ++ body)
header_short s header body blank split says = λ m.
    let less : length header < 4 = says.0 in
    let none : body ≡ [] = nil_from_length body (elim (cases_lt 0 (length body)) [
      | inl some ↦ let whole : length header ≡ 6 = split.whole some in absurd (omega arith)
      | inr empty ↦ omega arith
    ]) in
    let same : header ++ body ≡ header = ap (λ x. header ++ x) none ∙ append-nil header in
    faulty_frame s m m (header ++ body) blank
    (subst (λ text. first_fault (length text) m (take 4 (tests_of s text)) ≡ Some m) (sym same)
    (first_fault-append_some (length header) m m (take 3 (tests_of s header)) (sum_test s header ∷ []) (says.1 m)))

-- what is known where the count is there
counted-tests : (s : ℕ) (header body : List ℕ) (count : ℕ) → IsCounted s header body count → (m : Fault)
    → first_fault (length (header ++ body)) m (take 4 (tests_of s (header ++ body)))
    ≡ first_fault (length (header ++ body)) m (sum_test s (header ++ body) ∷ [])
counted-tests s header body count c m =
    let text : List ℕ = header ++ body in
    first_fault-append_none (length text) m (take 3 (tests_of s text)) (sum_test s text ∷ []) (header_stays s header body None c.says.passes m)

count_is : (s : ℕ) (header body : List ℕ) (count : ℕ) → IsCounted s header body count → count ≡ count_of (header ++ body)
count_is s header body count c = c.says.count_is ∙ sym (same_count header body c.says.there)

pub body_short : (s : ℕ) (header body : List ℕ) (count : ℕ) → NoBlank (header ++ body) → IsCounted s header body count
    → length body ≤ count - 6 → IsWanting s (header ++ body)
body_short s header body count blank c short = λ m.
    let enough : 6 ≤ count = c.says.enough in
    let text : List ℕ = header ++ body in
    let most : length header ≤ 6 = c.split.at_most in
    let same : count ≡ count_of text = count_is s header body count c in
    let l : length text ≡ length header + length body = length-append header body in
    faulty_frame s m m text blank
    (counted-tests s header body count c m ∙ lacks (length text) m (sum_test s text) [] (omega arith))

-- the block is whole
pub record IsWhole (s : ℕ) (header body : List ℕ) (count : ℕ) : Type 0 where
  pub counted : IsCounted s header body count
  pub whole : count < 6 + length body

six : (s : ℕ) (header body : List ℕ) (count : ℕ) → IsWhole s header body count → length header ≡ 6
six s header body count w =
    let more : count < 6 + length body = w.whole in
    let enough : 6 ≤ count = w.counted.says.enough in
    w.counted.split.whole (omega arith)

whole_length : (s : ℕ) (header body : List ℕ) (count : ℕ) → IsWhole s header body count → count_of (header ++ body) + 1 ≤ length (header ++ body)
whole_length s header body count w =
    let a = six s header body count w in
    let more : count < 6 + length body = w.whole in
    let same : count ≡ count_of (header ++ body) = count_is s header body count w.counted in
    omega (arith, length-append header body)

two_sums : (a b : ℕ) → (a % 256 + b % 256) % 256 ≡ (a + b) % 256
two_sums a b = omega arith

block_sum : (s : ℕ) (header body : List ℕ) (count : ℕ) → IsWhole s header body count
    → (sum header % 256 + sum (take (count - 6 + 1) body) % 256) % 256 ≡ sum (take (count_of (header ++ body) + 1) (header ++ body)) % 256
block_sum s header body count w =
    let a : length header ≡ 6 = six s header body count w in
    let enough : 6 ≤ count = w.counted.says.enough in
    let same : count ≡ count_of (header ++ body) = count_is s header body count w.counted in
    let n : count_of (header ++ body) + 1 ≡ length header + (count - 6 + 1) = omega arith in
    two_sums (sum header) (sum (take (count - 6 + 1) body))
    ∙ ap (λ k. k % 256) (sym (ap (λ k. sum (take k (header ++ body))) n
    ∙ ap sum (take-append-add header body (count - 6 + 1)) ∙ sum_by-append (λ x. x) header (take (count - 6 + 1) body)))

not_true : (b : Bool) → (b ≡ true → ⊥) → b ≡ false
not_true true h = absurd (h refl)
not_true false h = refl

pub bad_sum : (s : ℕ) (header body : List ℕ) (count : ℕ) → NoBlank (header ++ body) → IsWhole s header body count
    → ((sum header % 256 + sum (take (count - 6 + 1) body) % 256) % 256 ≡ 0 → ⊥) → IsFaultyBlock s (header ++ body) (fault_at s BadSum)
bad_sum s header body count blank w wrong = λ m.
    let text : List ℕ = header ++ body in
    faulty_frame s m (fault_at s BadSum) text blank
    (counted-tests s header body count w.counted m
    ∙ past_top (length text) m (sum_test s text) (whole_length s header body count w)
    (not_true _ (λ e. wrong (block_sum s header body count w ∙ eqb-true _ _ e))))

-- all four tests of the frame pass
frame_right : (s : ℕ) (header body : List ℕ) (count : ℕ) → IsWhole s header body count
    → (sum header % 256 + sum (take (count - 6 + 1) body) % 256) % 256 ≡ 0
    → (m : Fault) → first_fault (length (header ++ body)) m (take 4 (tests_of s (header ++ body))) ≡ None
frame_right s header body count w right m =
    let text : List ℕ = header ++ body in
    counted-tests s header body count w.counted m
    ∙ first_fault-pass (length text) m (sum_test s text) [] (record {
      there = whole_length s header body count w;
      good = eq-eqb _ _ (sym (block_sum s header body count w) ∙ right);
    })

data_is : (s : ℕ) (header body : List ℕ) (count : ℕ) → IsWhole s header body count → take (count - 6) body ≡ data_of (header ++ body)
data_is s header body count w =
    let a : length header ≡ 6 = six s header body count w in
    ap (λ k. take (k - 6) body) (count_is s header body count w.counted)
    ∙ ap (take (count_of (header ++ body) - 6)) (sym (ap (λ k. drop k (header ++ body)) (sym a) ∙ drop-append_seam header body))

address_in : (s : ℕ) (header body : List ℕ) (count : ℕ) → IsWhole s header body count → address_of header ≡ address_of (header ++ body)
address_in s header body count w =
    let a : length header ≡ 6 = six s header body count w in
    sym (same_address header body (omega arith))

-- the data block in front, but for its end
pub framed_block : (s : ℕ) (header body : List ℕ) (count address : ℕ) → AreBytes header → AreBytes body → IsWhole s header body count
    → (sum header % 256 + sum (take (count - 6 + 1) body) % 256) % 256 ≡ 0 → address ≡ address_of header
    → IsFramedAs (header ++ body) address (take (count - 6) body)
framed_block s header body count address are_header are_body w right a =
    framed_as (header ++ body) address (take (count - 6) body) (bytes_join header body are_header are_body)
    (passes_framed s (fault_at s BadSum) (header ++ body) (frame_right s header body count w right (fault_at s BadSum)))
    (a ∙ address_in s header body count w) (data_is s header body count w)

-- a data block that ends above the top
pub past_end : (s : ℕ) (header body : List ℕ) (count address : ℕ) → NoBlank (header ++ body) → IsWhole s header body count
    → (sum header % 256 + sum (take (count - 6 + 1) body) % 256) % 256 ≡ 0 → address ≡ address_of header
    → 6 < count → top < address + (count - 6) → IsFaultyBlock s (header ++ body) (fault_at (s + 4) PastTop)
past_end s header body count address blank w right a more past = λ m.
    let text : List ℕ = header ++ body in
    let same : count ≡ count_of text = count_is s header body count w.counted in
    let there : address ≡ address_of text = a ∙ address_in s header body count w in
    let e = frame_right s header body count w right m in
    faulty_end s m text blank e (passes_framed s m text e) (omega arith) (omega arith)
