-- What the tests of a block say of its bytes, and what the bytes of a block say of its tests.
use Rattle.std.proofs.Common.{◌≡◌, ℕ, ◌+◌, ◌-◌, ◌*◌, ◌/◌, ◌%◌, ◌<◌, ◌≤◌, List, [], ◌∷◌, ◌++◌, length, take, drop, arith, refl, sym, ap, ◌∙◌, append_assoc, Bool, true, false, cond, Option, Some, None, slice_index, sum, length-append, get_or, suc}
use Rattle.std.proofs.lemmas.Bool.{eqb-true, eq-eqb, ltb-false, le-ltb, leb-true, le-leb, cond-true, cond-false}
use Rattle.std.proofs.lemmas.List.{length-take, length-drop, drop-drop, take-append-drop}
use Rattle.std.proofs.lemmas.List.Sums.{sum_by_push}
use Rattle.std.proofs.Math.Seq.{take-append_seam, drop-cons}
use Rattle.tape_values.specs.Block.{checksum, counted, framed}
use Rattle.tape_values.proofs.Pieces.{length-framed}
use Rattle.tape_blocks.specs.Refusal.{Test, tests_of, first_fault, count_of, address_of, fault_at}
use Rattle.tape_blocks.specs.declared.fault.Fault.{Fault}
use Rattle.tape_blocks.specs.declared.fault.Why.TheVariants.{Stray}

-- a test passes at so many bytes
pub record Passes (n : ℕ) (t : Test) : Type 0 where
  pub there : t.needs ≤ n
  pub good : t.passes ≡ true

pub first_fault-pass : (n : ℕ) (m : Fault) (t : Test) (ts : List Test) → Passes n t → first_fault n m (t ∷ ts) ≡ first_fault n m ts
first_fault-pass n m t ts p = cond-false _ _ _ (le-ltb n t.needs p.there) ∙ cond-true _ _ _ p.good

-- the first test passes, and no later one has a fault
pub record Passed (n : ℕ) (m : Fault) (t : Test) (ts : List Test) : Type 0 where
  pub here : Passes n t
  pub later : first_fault n m ts ≡ None

record Chosen (a b : Bool) (rest : Option Fault) : Type 0 where
  enough : a ≡ false
  passes : b ≡ true
  none : rest ≡ None

chosen : (a b : Bool) (rest : Option Fault) (m f : Fault) → cond a (Some m) (cond b rest (Some f)) ≡ None → Chosen a b rest
chosen true b rest m f e = absurd (cc e)
chosen false true rest m f e = record { enough = refl; passes = refl; none = e }
chosen false false rest m f e = absurd (cc e)

pub passed : (n : ℕ) (m : Fault) (t : Test) (ts : List Test) → first_fault n m (t ∷ ts) ≡ None → Passed n m t ts
passed n m t ts e =
    let c = chosen _ _ _ m t.fault e in
    record { here = record { there = ltb-false n t.needs c.enough; good = c.passes }; later = c.none }

same_fault :
    (a b : Bool) (r q : Option Fault) (m f g : Fault) → (r ≡ Some g → q ≡ Some g)
    → cond a (Some m) (cond b r (Some f)) ≡ Some g → cond a (Some m) (cond b q (Some f)) ≡ Some g
same_fault true b r q m f g h e = e
same_fault false true r q m f g h e = h e
same_fault false false r q m f g h e = e

pub first_fault-append_some : (n : ℕ) (m f : Fault) (ts us : List Test) → first_fault n m ts ≡ Some f → first_fault n m (ts ++ us) ≡ Some f
first_fault-append_some n m f [] us e = absurd (cc e)
first_fault-append_some n m f (t ∷ ts) us e =
    same_fault _ _ (first_fault n m ts) (first_fault n m (ts ++ us)) m t.fault f (first_fault-append_some n m f ts us) e

pub first_fault-append_none : (n : ℕ) (m : Fault) (ts us : List Test) → first_fault n m ts ≡ None → first_fault n m (ts ++ us) ≡ first_fault n m us
first_fault-append_none n m [] us e = refl
first_fault-append_none n m (t ∷ ts) us e =
    let p = passed n m t ts e in
    first_fault-pass n m t (ts ++ us) p.here ∙ first_fault-append_none n m ts us p.later

-- the mark, the count and the sum of the block that begins a text are right
pub record IsFramed (text : List ℕ) : Type 0 where
  pub mark : slice_index text 0 ≡ 1
  pub second : slice_index text 1 ≡ 0
  pub enough : 6 ≤ count_of text
  pub whole : count_of text + 1 ≤ length text
  pub sums : sum (take (count_of text + 1) text) % 256 ≡ 0

abbrev row : ℕ → ℕ → List ℕ → Test
row k s text = get_or (tests_of s text) k (record { needs = 0; passes = true; fault = fault_at 0 Stray })

abbrev frame_tests : ℕ → List ℕ → List Test
frame_tests s text = take 4 (tests_of s text)

pub framed_passes : (s : ℕ) (m : Fault) (text : List ℕ) → IsFramed text → first_fault (length text) m (take 4 (tests_of s text)) ≡ None
framed_passes s m text f =
    let n : ℕ = length text in
    let w : count_of text + 1 ≤ n = f.whole in
    let e : 6 ≤ count_of text = f.enough in
    first_fault-pass n m (row 0 s text) (drop 1 (frame_tests s text)) (record { there = omega arith; good = eq-eqb _ _ f.mark })
    ∙ first_fault-pass n m (row 1 s text) (drop 2 (frame_tests s text)) (record { there = omega arith; good = eq-eqb _ _ f.second })
    ∙ first_fault-pass n m (row 2 s text) (drop 3 (frame_tests s text)) (record { there = omega arith; good = le-leb _ _ f.enough })
    ∙ first_fault-pass n m (row 3 s text) [] (record { there = f.whole; good = eq-eqb _ _ f.sums })

pub passes_framed : (s : ℕ) (m : Fault) (text : List ℕ) → first_fault (length text) m (take 4 (tests_of s text)) ≡ None → IsFramed text
passes_framed s m text e =
    let n : ℕ = length text in
    let a = passed n m (row 0 s text) (drop 1 (frame_tests s text)) e in
    let b = passed n m (row 1 s text) (drop 2 (frame_tests s text)) a.later in
    let c = passed n m (row 2 s text) (drop 3 (frame_tests s text)) b.later in
    let d = passed n m (row 3 s text) [] c.later in
    record {
      mark = eqb-true _ _ a.here.good;
      second = eqb-true _ _ b.here.good;
      enough = leb-true _ _ c.here.good;
      whole = d.here.there;
      sums = eqb-true _ _ d.here.good;
    }

-- a block that begins a text, in what the tests look at
pub record States (text : List ℕ) (address : ℕ) (bytes : List ℕ) : Type 0 where
  pub count : count_of text ≡ 6 + length bytes
  pub address_is : address_of text ≡ address
  pub is_framed : IsFramed text

number_back : (n : ℕ) → n % 256 + 256 * (n / 256) ≡ n
number_back n = omega arith

sum_checked : (total : ℕ) → (total + (256 - total % 256) % 256) % 256 ≡ 0
sum_checked total = omega arith

pub take_seam : (n : ℕ) (xs z : List ℕ) → n ≡ length xs → take n (xs ++ z) ≡ xs
take_seam n xs z e = ap (λ k. take k (xs ++ z)) e ∙ take-append_seam xs z

sum_framed : (xs : List ℕ) → sum (xs ++ checksum xs ∷ []) % 256 ≡ 0
sum_framed xs = ap (λ n. n % 256) (sum_by_push (λ x. x) xs (checksum xs)) ∙ sum_checked (sum xs)

framed_is : (a : ℕ) (bs z text : List ℕ) → text ≡ framed a bs ++ z → count_of text ≡ 6 + length bs → slice_index text 0 ≡ 1 → slice_index text 1 ≡ 0 → IsFramed text
framed_is a bs z text e count m0 m1 =
    let l : length (framed a bs) ≡ 7 + length bs = length-framed a bs in
    let ls : length text ≡ length (framed a bs) + length z = ap length e ∙ length-append (framed a bs) z in
    let n : count_of text + 1 ≡ length (framed a bs) = omega arith in
    let whole : take (count_of text + 1) text ≡ framed a bs =
    ap (λ t. take (count_of text + 1) t) e ∙ take_seam (count_of text + 1) (framed a bs) z n in
    record {
      mark = m0;
      second = m1;
      enough = omega arith;
      whole = omega arith;
      sums = ap (λ t. sum t % 256) whole ∙ sum_framed (counted a bs);
    }

pub framed-states : (a : ℕ) (bs z text : List ℕ) → text ≡ framed a bs ++ z → States text a bs
framed-states a bs z text e =
    let count : count_of text ≡ 6 + length bs = ap count_of e ∙ number_back (6 + length bs) in
    record {
      count = count;
      address_is = ap address_of e ∙ number_back a;
      is_framed = framed_is a bs z text e count (ap (λ t. slice_index t 0) e) (ap (λ t. slice_index t 1) e);
    }

-- the bytes before the data are those of the numbers read from them
number_again : (low high : ℕ) → low < 256 → (low + 256 * high) % 256 ≡ low
number_again low high h = omega arith

high_again : (low high : ℕ) → low < 256 → (low + 256 * high) / 256 ≡ high
high_again low high h = omega arith

checksum_again : (total last : ℕ) → last < 256 → (total + last) % 256 ≡ 0 → last ≡ (256 - total % 256) % 256
checksum_again total last h e = omega arith

-- the data of the block that begins a text
abbrev pub data_of : List ℕ → List ℕ
data_of text = take (count_of text - 6) (drop 6 text)

same_header :
    (a b c d e f g h i j k l : ℕ) (t u : List ℕ) → a ≡ g → b ≡ h → c ≡ i → d ≡ j → e ≡ k → f ≡ l → t ≡ u
    → a ∷ b ∷ c ∷ d ∷ e ∷ f ∷ t ≡ g ∷ h ∷ i ∷ j ∷ k ∷ l ∷ u
same_header a b c d e f g h i j k l t u ag bh ci dj ek fl tu = cc

header_split :
    (text : List ℕ) → 6 < length text
    → text ≡ slice_index text 0 ∷ slice_index text 1 ∷ slice_index text 2 ∷ slice_index text 3 ∷ slice_index text 4 ∷ slice_index text 5 ∷ drop 6 text
header_split text h =
    drop-cons text 0 0 (omega arith) ∙ ap (λ t. slice_index text 0 ∷ t)
    (drop-cons text 1 0 (omega arith) ∙ ap (λ t. slice_index text 1 ∷ t)
    (drop-cons text 2 0 (omega arith) ∙ ap (λ t. slice_index text 2 ∷ t)
    (drop-cons text 3 0 (omega arith) ∙ ap (λ t. slice_index text 3 ∷ t)
    (drop-cons text 4 0 (omega arith) ∙ ap (λ t. slice_index text 4 ∷ t) (drop-cons text 5 0 (omega arith))))))

pub length-data_of : (text : List ℕ) → IsFramed text → 6 + length (data_of text) ≡ count_of text
length-data_of text f =
    let e : 6 ≤ count_of text = f.enough in
    let w : count_of text + 1 ≤ length text = f.whole in
    let l = length-take (count_of text - 6) (drop 6 text) in
    let d = length-drop 6 text in
    omega arith

-- behind the header: the data, the last byte and the rest
behind_header : (text : List ℕ) → IsFramed text
    → drop 6 text ≡ data_of text ++ (slice_index text (count_of text) ∷ drop (suc (count_of text)) text)
behind_header text f =
    let n : ℕ = count_of text - 6 in
    let e : 6 ≤ count_of text = f.enough in
    let w : count_of text + 1 ≤ length text = f.whole in
    let m : 6 + n ≡ count_of text = omega arith in
    let d : drop n (drop 6 text) ≡ drop (count_of text) text = drop-drop n 6 text ∙ ap (λ k. drop k text) m in
    sym (take-append-drop n (drop 6 text))
    ∙ ap (λ t. data_of text ++ t) (d ∙ drop-cons text (count_of text) 0 (omega arith))

-- with any last byte
with_last : (text : List ℕ) → ((i : ℕ) → slice_index text i < 256) → IsFramed text
    → text ≡ counted (address_of text) (data_of text) ++ (slice_index text (count_of text) ∷ drop (suc (count_of text)) text)
with_last text bytes f =
    let l : 6 + length (data_of text) ≡ count_of text = length-data_of text f in
    let w : count_of text + 1 ≤ length text = f.whole in
    let e : 6 ≤ count_of text = f.enough in
    let c0 : slice_index text 2 ≡ (6 + length (data_of text)) % 256 =
    sym (number_again _ _ (bytes 2)) ∙ ap (λ k. k % 256) (sym l) in
    let c1 : slice_index text 3 ≡ (6 + length (data_of text)) / 256 =
    sym (high_again _ _ (bytes 2)) ∙ ap (λ k. k / 256) (sym l) in
    header_split text (omega arith)
    ∙ same_header _ _ _ _ _ _ _ _ _ _ _ _ _ _ f.mark f.second c0 c1
    (sym (number_again _ _ (bytes 4))) (sym (high_again _ _ (bytes 4))) (behind_header text f)

-- a text whose first block passes the tests begins with the block of its address and its data
pub framed_text : (text : List ℕ) → ((i : ℕ) → slice_index text i < 256) → IsFramed text
    → text ≡ framed (address_of text) (data_of text) ++ drop (7 + length (data_of text)) text
framed_text text bytes f =
    let l : 6 + length (data_of text) ≡ count_of text = length-data_of text f in
    let front : List ℕ = counted (address_of text) (data_of text) in
    let last : ℕ = slice_index text (count_of text) in
    let rest : List ℕ = drop (suc (count_of text)) text in
    let joined : text ≡ (front ++ last ∷ []) ++ rest =
    with_last text bytes f ∙ sym (append_assoc front (last ∷ []) rest) in
    let n : count_of text + 1 ≡ length (front ++ last ∷ []) = omega (arith, length-append (data_of text) (last ∷ [])) in
    let whole : take (count_of text + 1) text ≡ front ++ last ∷ [] =
    ap (λ t. take (count_of text + 1) t) joined ∙ take_seam (count_of text + 1) (front ++ last ∷ []) rest n in
    let total : (sum front + last) % 256 ≡ 0 =
    sym (ap (λ k. k % 256) (ap sum whole ∙ sum_by_push (λ x. x) front last)) ∙ f.sums in
    let same : last ≡ checksum front = checksum_again (sum front) last (bytes (count_of text)) total in
    let from : suc (count_of text) ≡ 7 + length (data_of text) = omega arith in
    joined ∙ ap (λ k. (front ++ k ∷ []) ++ rest) same ∙ ap (λ k. framed (address_of text) (data_of text) ++ drop k text) from
