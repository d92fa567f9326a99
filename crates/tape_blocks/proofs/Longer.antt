-- What the tests say of a text whatever a missing byte means, they say of it with more behind.
use Rattle.std.proofs.Common.{◌≡◌, ◌==◌, ℕ, ◌+◌, ◌-◌, ◌%◌, ◌<◌, ◌≤◌, zero, suc, List, [], ◌∷◌, ◌++◌, length, take, drop, arith, refl, sym, ap, ◌∙◌, Bool, true, false, cond, nat_le, Option, Some, None, slice_index, get_or, sum, length-append, inl, inr, ◌⊎◌}
use Rattle.std.proofs.lemmas.Bool.{cases_lt, lt-ltb, le-ltb, cond-true, cond-false, leb-true}
use Rattle.std.proofs.lemmas.List.{take-append-le, take-append-drop, get_or_append_left}
use Rattle.std.proofs.Math.Seq.{take-append_seam}
use Rattle.tape_values.specs.Block.{framed, top}
use Rattle.tape_blocks.specs.Refusal.{Test, tests_of, first_fault, count_of, address_of, fault_at}
use Rattle.tape_blocks.specs.Head.{IsFaultyBlock, IsWanting}
use Rattle.tape_blocks.specs.declared.fault.Fault.{Fault}
use Rattle.tape_blocks.specs.declared.fault.Why.TheVariants.{Stray, BadMark, BadCount, BadSum, PastTop}
use Rattle.tape_values.proofs.Pieces.{length-framed}
use Rattle.tape_blocks.proofs.FirstBlock.{framed-states, framed_passes, passes_framed, passed, first_fault-append_some}

-- the tests of a text beside those of a longer one: the same as far as the bytes that they need are there and they pass
abbrev SameTests : ℕ → List Test → List Test → Type 0
SameTests n [] [] = Unit {0}
SameTests n [] (u ∷ us) = ⊥
SameTests n (t ∷ ts) [] = ⊥
SameTests n (t ∷ ts) (u ∷ us) = t.needs ≤ n → (u ≡ t) × (t.passes ≡ true → SameTests n ts us)

some_same : {X : Type 0} {x y : X} → Some x ≡ Some y → x ≡ y
some_same e = cc e

-- no answer is each fault
not_each : (o : Option Fault) → ((m : Fault) → Some m ≡ o) → ⊥
not_each o all =
    let e : fault_at 0 Stray ≡ fault_at 1 Stray = some_same (all (fault_at 0 Stray) ∙ sym (all (fault_at 1 Stray))) in
    let n : ◌≡◌ {A = ℕ} 0 1 = ap (λ f. f.at) e in
    omega arith

chosen_stays :
    (b : Bool) (r q : Fault → Option Fault) (f : Fault) (o : Option Fault) → ((m : Fault) → cond b (r m) (Some f) ≡ o)
    → (b ≡ true → ((m : Fault) → r m ≡ o) → (m : Fault) → q m ≡ o) → (m : Fault) → cond b (q m) (Some f) ≡ o
chosen_stays true r q f o all more m = more refl all m
chosen_stays false r q f o all more m = all m

past_needs : (n : ℕ) (m : Fault) (t : Test) (ts : List Test) → t.needs ≤ n → first_fault n m (t ∷ ts) ≡ cond t.passes (first_fault n m ts) (Some t.fault)
past_needs n m t ts h = cond-false _ _ _ (le-ltb n t.needs h)

pub lacks : (n : ℕ) (m : Fault) (t : Test) (ts : List Test) → n < t.needs → first_fault n m (t ∷ ts) ≡ Some m
lacks n m t ts h = cond-true _ _ _ (lt-ltb n t.needs h)

-- what does not hang on a missing byte stays
pub first_fault-stays :
    (n k : ℕ) (o : Option Fault) (ts us : List Test) → n ≤ k → SameTests n ts us → ((m : Fault) → first_fault n m ts ≡ o)
    → (m : Fault) → first_fault k m us ≡ o
first_fault-stays n k o [] [] le same all m = all m
first_fault-stays n k o [] (u ∷ us) le same all m = absurd same
first_fault-stays n k o (t ∷ ts) [] le same all m = absurd same
first_fault-stays n k o (t ∷ ts) (u ∷ us) le same all m =
    elim (cases_lt n t.needs) [
      | inl short ↦ absurd (not_each o (λ x. sym (lacks n x t ts short) ∙ all x))
      | inr there ↦
          let s = same there in
          ap (λ x. first_fault k m (x ∷ us)) s.0
          ∙ past_needs k m t us (omega arith)
          ∙ chosen_stays t.passes (λ x. first_fault n x ts) (λ x. first_fault k x us) t.fault o
          (λ x. sym (past_needs n x t ts there) ∙ all x)
          (λ passes rest. first_fault-stays n k o ts us le (s.1 passes) rest) m
    ]

pub SameTests-take : (k n : ℕ) (ts us : List Test) → SameTests n ts us → SameTests n (take k ts) (take k us)
SameTests-take zero n ts us same = tt
SameTests-take (suc k) n [] [] same = tt
SameTests-take (suc k) n [] (u ∷ us) same = absurd same
SameTests-take (suc k) n (t ∷ ts) [] same = absurd same
SameTests-take (suc k) n (t ∷ ts) (u ∷ us) same = λ there. let s = same there in (s.0, λ passes. SameTests-take k n ts us (s.1 passes))

-- tests that a longer text passes: the shorter one passes them too, or a byte is missing
first_fault-before :
    (n k : ℕ) (ts us : List Test) → SameTests n ts us → ((m : Fault) → first_fault k m us ≡ None)
    → ((m : Fault) → first_fault n m ts ≡ Some m) ⊎ ((m : Fault) → first_fault n m ts ≡ None)
first_fault-before n k [] [] same none = inr (λ m. refl)
first_fault-before n k [] (u ∷ us) same none = absurd same
first_fault-before n k (t ∷ ts) [] same none = absurd same
first_fault-before n k (t ∷ ts) (u ∷ us) same none =
    elim (cases_lt n t.needs) [
      | inl short ↦ inl (λ m. lacks n m t ts short)
      | inr there ↦
          let s = same there in
          let p : t.passes ≡ true = ap (λ x. x.passes) (sym s.0) ∙ (passed k (fault_at 0 Stray) u us (none (fault_at 0 Stray))).here.good in
          let on : (m : Fault) → first_fault n m (t ∷ ts) ≡ first_fault n m ts = λ m. past_needs n m t ts there ∙ cond-true _ _ _ p in
          elim (first_fault-before n k ts us (s.1 p) (λ m. (passed k m u us (none m)).later)) [
            | inl missing ↦ inl (λ m. on m ∙ missing m)
            | inr passes ↦ inr (λ m. on m ∙ passes m)
          ]
    ]

same_index : (text more : List ℕ) (i : ℕ) → i < length text → slice_index (text ++ more) i ≡ slice_index text i
same_index text more i h = get_or_append_left text more 0 i h

pub same_count : (text more : List ℕ) → 4 ≤ length text → count_of (text ++ more) ≡ count_of text
same_count text more h =
    let a = same_index text more 2 (omega arith) in
    let b = same_index text more 3 (omega arith) in
    omega arith

pub same_address : (text more : List ℕ) → 6 ≤ length text → address_of (text ++ more) ≡ address_of text
same_address text more h =
    let a = same_index text more 4 (omega arith) in
    let b = same_index text more 5 (omega arith) in
    omega arith

abbrev test : ℕ → Bool → Fault → Test
test n b f = record { needs = n; passes = b; fault = f }

abbrev row : ℕ → ℕ → List ℕ → Test
row k s text = get_or (tests_of s text) k (test 0 true (fault_at 0 Stray))

pub same_tests : (s : ℕ) (text more : List ℕ) → SameTests (length text) (tests_of s text) (tests_of s (text ++ more))
same_tests s text more =
    let n : ℕ = length text in
    λ h1. (
      ap (λ x. test 1 (x == 1) (fault_at s Stray)) (same_index text more 0 (omega arith)),
      λ mark.
          λ h2. (
            ap (λ x. test 2 (x == 0) (fault_at (s + 1) BadMark)) (same_index text more 1 (omega arith)),
            λ second.
                λ h3. let c = same_count text more h3 in (
                  ap (λ x. test 4 (nat_le 6 x) (fault_at (s + 2) BadCount)) c,
                  λ enough. let least : 6 ≤ count_of text = leb-true _ _ enough in
                      λ h4. (
                        ap (λ x. test (x + 1) (sum (take (x + 1) (text ++ more)) % 256 == 0) (fault_at s BadSum)) c
                            ∙ ap (λ x. test (count_of text + 1) (sum x % 256 == 0) (fault_at s BadSum)) (take-append-le (count_of text + 1) text more h4),
                        λ sums.
                            λ h5. (
                              ap (λ x. test (x + 1) (nat_le (address_of (text ++ more) + (x - 6)) top) (fault_at (s + 4) PastTop)) c
                                  ∙ ap (λ x. test (count_of text + 1) (nat_le (x + (count_of text - 6)) top) (fault_at (s + 4) PastTop))
                                  (same_address text more (omega arith)),
                              λ below. tt,
                            ),
                      ),
                ),
          ),
    )

-- the first byte of a longer text
pub blank_before : (text more rest : List ℕ) → 0 < length text → text ++ more ≡ 0 ∷ rest → (behind : List ℕ) × (text ≡ 0 ∷ behind)
blank_before [] more rest h e = absurd (omega arith)
blank_before (x ∷ text) more rest h e = let z : x ≡ 0 = cc in (text, ap (λ y. y ∷ text) z)

-- a list that begins a text, and is no longer than the text's own front
front_before : (xs ys rest more : List ℕ) → length xs ≤ length ys → xs ++ rest ≡ ys ++ more → ys ≡ xs ++ drop (length xs) ys
front_before xs ys rest more h e =
    let t : take (length xs) ys ≡ xs =
    sym (take-append-le (length xs) ys more h) ∙ ap (take (length xs)) (sym e) ∙ take-append_seam xs rest in
    sym (take-append-drop (length xs) ys) ∙ ap (λ x. x ++ drop (length xs) ys) t

-- a block that begins a longer text begins the text itself, where that has no byte missing
block_before : (s a : ℕ) (bs text more rest : List ℕ) (f : Fault) → ((m : Fault) → first_fault (length text) m (tests_of s text) ≡ Some f)
    → text ++ more ≡ framed a bs ++ rest → (behind : List ℕ) × (text ≡ framed a bs ++ behind)
block_before s a bs text more rest f all e =
    let st = framed-states a bs rest (text ++ more) e in
    let count : count_of (text ++ more) ≡ 6 + length bs = st.count in
    elim (first_fault-before (length text) (length (text ++ more)) (take 4 (tests_of s text)) (take 4 (tests_of s (text ++ more)))
    (SameTests-take 4 (length text) (tests_of s text) (tests_of s (text ++ more)) (same_tests s text more)) (λ m. framed_passes s m (text ++ more) st.is_framed)) [
      | inl missing ↦ absurd (not_each (Some f) (λ m.
          sym (first_fault-append_some (length text) m m (take 4 (tests_of s text)) (drop 4 (tests_of s text)) (missing m)) ∙ all m))
      | inr passes ↦
          let g = passes_framed s f text (passes f) in
          let enough : 6 ≤ count_of text = g.enough in
          let whole : count_of text + 1 ≤ length text = g.whole in
          let same : count_of (text ++ more) ≡ count_of text = same_count text more (omega arith) in
          (drop (length (framed a bs)) text, front_before (framed a bs) text rest more (omega (arith, length-framed a bs)) (sym e))
    ]

-- a fault that does not hang on a missing byte stays, whatever follows
pub faulty_longer : (s : ℕ) (text more : List ℕ) (f : Fault) → IsFaultyBlock s text f → IsFaultyBlock s (text ++ more) f
faulty_longer s text more f h =
    let all : (m : Fault) → first_fault (length text) m (tests_of s text) ≡ Some f = λ m. (h m).first in
    let some : 0 < length text = elim (cases_lt 0 (length text)) [
      | inl there ↦ there
      | inr none ↦ absurd (not_each (Some f) (λ m. sym (lacks (length text) m (row 0 s text) (drop 1 (tests_of s text)) (omega arith)) ∙ all m))
    ] in
    λ m. record {
      no_piece = record {
        no_blank = λ rest e. let b = blank_before text more rest some e in (h f).no_piece.no_blank b.0 b.1;
        no_block = λ b rest ok e. let x = block_before s b.address b.bytes text more rest f all e in (h f).no_piece.no_block b x.0 ok x.1;
      };
      no_transfer = λ start rest e. let x = block_before s start [] text more rest f all e in (h f).no_transfer start x.0 x.1;
      first = first_fault-stays (length text) (length (text ++ more)) (Some f) (tests_of s text) (tests_of s (text ++ more))
          (omega (arith, length-append text more)) (same_tests s text more) all m;
    }

-- a test before the missing byte passes
pub record Wants (n : ℕ) (t : Test) (ts : List Test) : Type 0 where
  pub passes : t.passes ≡ true
  pub later : (m : Fault) → first_fault n m ts ≡ Some m

chosen_wants : (b : Bool) (r : Fault → Option Fault) (f : Fault) → ((m : Fault) → cond b (r m) (Some f) ≡ Some m) → (b ≡ true) × ((m : Fault) → r m ≡ Some m)
chosen_wants true r f all = (refl, all)
chosen_wants false r f all = absurd (not_each (Some f) (λ m. sym (all m)))

wants : (n : ℕ) (t : Test) (ts : List Test) → ((m : Fault) → first_fault n m (t ∷ ts) ≡ Some m) → t.needs ≤ n → Wants n t ts
wants n t ts all h =
    let c = chosen_wants t.passes (λ m. first_fault n m ts) t.fault (λ m. sym (past_needs n m t ts h) ∙ all m) in
    record { passes = c.0; later = c.1 }

-- the beginning of a block whose count is there
pub record WantsBlock (text : List ℕ) : Type 0 where
  pub enough : 6 ≤ count_of text
  pub short : length text ≤ count_of text

pub wants_block : (s : ℕ) (text : List ℕ) → IsWanting s text → 4 ≤ length text → WantsBlock text
wants_block s text h there =
    let n : ℕ = length text in
    let a = wants n (row 0 s text) (drop 1 (tests_of s text)) (λ m. (h m).first) (omega arith) in
    let b = wants n (row 1 s text) (drop 2 (tests_of s text)) a.later (omega arith) in
    let c = wants n (row 2 s text) (drop 3 (tests_of s text)) b.later there in
    let enough : 6 ≤ count_of text = leb-true _ _ c.passes in
    record {
      enough = enough;
      short = elim (cases_lt n (count_of text + 1)) [
        | inl less ↦ omega arith
        | inr whole ↦
            let d = wants n (row 3 s text) (drop 4 (tests_of s text)) c.later whole in
            let e = wants n (row 4 s text) [] d.later whole in
            absurd (not_each None (λ m. sym (e.later m)))
      ];
    }
