-- The forms of a script's lines: what a line that none of them fits lacks, and the parts of one that fits.
use Rattle.std.proofs.Common.{◌≡◌, ℕ, ◌+◌, ⊎_elim, List, [], ◌∷◌, ◌++◌, length, take, drop, get_or, Option, Some, None, IfSome, IfNone, MatchOption, arith, ap, sym, refl, ◌∙◌, subst, codes, Bool, true, false, eqb, Bor, IsTrue, ◌↔◌}
use Rattle.std.proofs.lemmas.List.{append_cancel_left, take_at, drop_at, get_or_at, drop_more, take-append-drop, length-append, append_assoc}
use Rattle.std.proofs.lemmas.Slice.Eq.{strip_prefix_is}
use Rattle.std.proofs.lemmas.Bool.{false≢true}
use Rattle.std.proofs.lemmas.Bool.Decides.{Decides-eqb}
use Rattle.std.specs.Cmp.Lexicographic.{pointwise}
use Rattle.octal.specs.Octal.{IsOct6}
use Rattle.loss_scripts.specs.Line.{IsNumber, HasNumber, field, IsPut, IsCounted}

-- a text has one number
one_number : (text : List ℕ) (m n : ℕ) → IsNumber text m → IsNumber text n → m ≡ n
one_number text m n a b = sym a.value ∙ b.value

-- behind a keyword stands no number, so the line has none
pub without_number : (text keyword rest : List ℕ) (low high : ℕ) → text ≡ keyword ++ rest → ((n : ℕ) → IsNumber rest n → ⊥) → (n : ℕ) → HasNumber text (field keyword low high) n → ⊥
without_number text keyword rest low high here none n has =
    let same = append_cancel_left keyword has.rest rest (sym has.spelled ∙ here) in
    none n (subst (λ r. IsNumber r n) same has.number)

-- the number behind the keyword is the one that is there
pub that_number : (text keyword rest : List ℕ) (low high m n : ℕ) → text ≡ keyword ++ rest → IsNumber rest m → HasNumber text (field keyword low high) n → n ≡ m
that_number text keyword rest low high m n here is has =
    let same = append_cancel_left keyword has.rest rest (sym has.spelled ∙ here) in
    one_number rest n m (subst (λ r. IsNumber r n) same has.number) is

-- what a test that failed says
pub other : {P : Type 0} (test : Bool) → (IsTrue test ↔ P) → test ≡ false → P → ⊥
other test is off p = false≢true (sym off ∙ is.1 p)

pub not_counted : (o : Option ℕ) (text alone counted : List ℕ) → (text ≡ alone → ⊥) → IfNone o ((n : ℕ) → HasNumber text (field counted 1 1000000) n → ⊥) → IfNone o ((n : ℕ) → IsCounted text alone counted n → ⊥)
not_counted (Some x) text alone counted not_alone none = none
not_counted None text alone counted not_alone none = λ n h. ⊎_elim (λ once. not_alone once.0) (none n) h

-- the parts of a line that puts a word: six characters, a space, six characters
pub record HasWords (rest : List ℕ) (address value : ℕ) : Type 0 where
  pub length : length rest ≡ 13
  pub space : get_or rest 6 0 ≡ 32
  pub address_is : IsOct6 address (take 6 rest)
  pub value_is : IsOct6 value (drop 7 rest)

pub put_parts : (text rest : List ℕ) (address value : ℕ) → text ≡ codes "put " ++ rest → IsPut text address value → HasWords rest address value
put_parts text rest address value here put =
    let same : rest ≡ put.first ++ 32 ∷ put.second = append_cancel_left (codes "put ") rest (put.first ++ 32 ∷ put.second) (sym here ∙ put.spelled) in
    let six = put.where_to.six in
    let front : take 6 rest ≡ put.first = ap (take 6) same ∙ take_at put.first (32 ∷ put.second) 6 six in
    let back : drop 7 rest ≡ put.second = ap (drop 7) (same ∙ sym (append_assoc put.first (32 ∷ []) put.second)) ∙ drop_at (put.first ++ 32 ∷ []) put.second 7 (omega (arith, length-append put.first (32 ∷ []), six)) in
    record {
      length = omega (arith, ap length same, length-append put.first (32 ∷ put.second), six, put.what.six);
      space = ap (λ r. get_or r 6 0) same ∙ get_or_at put.first 32 put.second 0 6 six;
      address_is = subst (IsOct6 address) (sym front) put.where_to;
      value_is = subst (IsOct6 value) (sym back) put.what;
    }

pub parts_put : (text rest : List ℕ) (address value : ℕ) → text ≡ codes "put " ++ rest → HasWords rest address value → IsPut text address value
parts_put text rest address value here parts = record {
  first = take 6 rest;
  second = drop 7 rest;
  spelled = here ∙ ap (λ r. codes "put " ++ r) (sym (take-append-drop 6 rest) ∙ ap (λ r. take 6 rest ++ r) (drop_more rest 6 0 (omega (arith, parts.length)) ∙ ap (λ c. c ∷ drop 7 rest) parts.space));
  where_to = parts.address_is;
  what = parts.value_is;
}

-- what stands behind a keyword, by std's test of a prefix
pub rest_is : (s p : List ℕ) (r : Option (Bor (List ℕ)))
    → MatchOption r (pointwise eqb (take (length p) s) p ≡ false) (λ x. (pointwise eqb (take (length p) s) p ≡ true) × (x.now ≡ drop (length p) s) × (length x.now + length p ≡ length s))
    → IfSome r (λ x. s ≡ p ++ x.now) × IfNone r ((rest : List ℕ) → s ≡ p ++ rest → ⊥)
rest_is s p None h = (tt, strip_prefix_is Decides-eqb s p None h)
rest_is s p (Some x) h = (strip_prefix_is Decides-eqb s p (Some x) h, tt)

-- a text of six characters, character by character
pub six_characters : (text : List ℕ) → length text ≡ 6
    → get_or text 0 0 ∷ get_or text 1 0 ∷ get_or text 2 0 ∷ get_or text 3 0 ∷ get_or text 4 0 ∷ get_or text 5 0 ∷ [] ≡ text
six_characters (a ∷ b ∷ c ∷ d ∷ e ∷ f ∷ []) six = refl
six_characters text six = absurd (omega arith)
