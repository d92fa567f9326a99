-- What the values of a run line say, from either side: a text whose values were counted begins with those values, and the text of a run is counted whole.
use Rattle.std.specs.Prelude.{if◌then◌else◌}
use Rattle.std.proofs.Common.{◌≡◌, ℕ, ◌+◌, ◌*◌, ◌≤◌, Bool, true, false, cond, ◌&&◌, nat_lt, nat_eq, List, [], ◌∷◌, ◌++◌, length, take, drop, arith, ap, sym, refl, ◌∙◌, subst, ◌==◌, length-append, rules, zero-add, zero, suc, take_at, take-append-drop, length-take-le, ◌⊎◌, inl, inr, Some, None}
use Rattle.std.specs.List.{slice_get, starts_with}
use Rattle.std.proofs.lemmas.Slice.Eq.{starts_is}
use Rattle.std.proofs.lemmas.Bool.{false≢true}
use Rattle.std.proofs.lemmas.Bool.Decides.{Decides-eqb}
use Rattle.octal.specs.Octal.{octal_text}
use Rattle.tape_image.specs.Word.{WordValue}
use Rattle.load_record.specs.declared.run.OpenRun.{OpenRun}
use Rattle.load_record.specs.declared.version.Version.{Version}
use Rattle.load_record.specs.declared.version.Version.TheVariants.{First, Second}
use Rattle.load_record.specs.Lines.{value_text, values_text, run_text, run_at, longer, goes_on, is_full, GoOn, IsRun}
use Rattle.load_record.specs.Reading.{IsLongestHeldFront, BeginsWithValues, BeginsWithRun, HoldsTorn}

-- how many words a run line has once each of the next words is added whose value stands next in the text, counted as the code does
abbrev pub values_held : OpenRun → List WordValue → List ℕ → ℕ
values_held run [] text = run.count
values_held run (w ∷ ws) text = if goes_on run w && starts_with nat_eq text (value_text w) then values_held (longer run) ws (drop 7 text) else run.count

-- how many of the next words a torn piece holds, counted as the code does
abbrev pub torn_words : Version → List WordValue → List ℕ → ℕ
torn_words First next torn = 0
torn_words Second [] torn = 0
torn_words Second (w ∷ ws) torn = if starts_with nat_eq torn (octal_text w.address) then values_held (run_at w.address) (w ∷ ws) (drop 6 torn) else 0

-- both sides of a test that passed
both : (a b : Bool) → (a && b) ≡ true → (a ≡ true) × (b ≡ true)
both true b e = (refl, e)
both false b e = absurd (cc e)

-- a text begins with another where the test passes, and passes it where it does
pub begins : (text front : List ℕ) → starts_with nat_eq text front ≡ true → text ≡ front ++ drop (length front) text
begins text front on = (starts_is Decides-eqb text front (starts_with nat_eq text front) refl).0 on

pub begins_with : (front rest : List ℕ) → starts_with nat_eq (front ++ rest) front ≡ true
begins_with front rest = (starts_is Decides-eqb (front ++ rest) front (starts_with nat_eq (front ++ rest) front) refl).1 rest refl

-- what was counted: so many next words go on the run, and the text begins with their values
pub record Counted (run : OpenRun) (next : List WordValue) (text : List ℕ) : Type 0 where
  pub words : List WordValue
  pub later : List WordValue
  pub left : List ℕ
  pub next_is : next ≡ words ++ later
  pub go_on : GoOn run words
  pub text_is : text ≡ values_text words ++ left
  pub count_is : values_held run next text ≡ run.count + length words

none_counted : (run : OpenRun) (next : List WordValue) (text : List ℕ) → values_held run next text ≡ run.count → Counted run next text
none_counted run next text e = record {
  words = [];
  later = next;
  left = text;
  next_is = refl;
  go_on = tt;
  text_is = refl;
  count_is = omega arith;
}

one_counted : (run : OpenRun) (w : WordValue) (ws : List WordValue) (text : List ℕ)
    → (goes_on run w && starts_with nat_eq text (value_text w)) ≡ true → Counted (longer run) ws (drop 7 text) → Counted run (w ∷ ws) text
one_counted run w ws text on rest =
    let passed = both (goes_on run w) (starts_with nat_eq text (value_text w)) on in
    let here : values_held run (w ∷ ws) text ≡ values_held (longer run) ws (drop 7 text) = ap (λ t. cond t (values_held (longer run) ws (drop 7 text)) run.count) on in
    record {
      words = w ∷ rest.words;
      later = rest.later;
      left = rest.left;
      next_is = ap (λ l. w ∷ l) rest.next_is;
      go_on = (passed.0, rest.go_on);
      text_is = begins text (value_text w) passed.1 ∙ ap (λ l. value_text w ++ l) rest.text_is;
      count_is = let more = rest.count_is in omega arith;
    }

counted : (run : OpenRun) (next : List WordValue) (text : List ℕ) → Counted run next text
counted run [] text = none_counted run [] text refl
counted run (w ∷ ws) text =
    elim (goes_on run w && starts_with nat_eq text (value_text w))
    as (λ t. (goes_on run w && starts_with nat_eq text (value_text w)) ≡ t → Counted run (w ∷ ws) text) [
      | true ↦ (λ on. one_counted run w ws text on (counted (longer run) ws (drop 7 text)))
      | false ↦ (λ off. none_counted run (w ∷ ws) text (ap (λ t. cond t (values_held (longer run) ws (drop 7 text)) run.count) off))
    ] refl

-- no more are counted than come next
held_few : (run : OpenRun) (next : List WordValue) (text : List ℕ) → values_held run next text ≤ run.count + length next
held_few run next text =
    let c = counted run next text in
    let n = c.count_is in let e = ap length c.next_is ∙ length-append c.words c.later in omega arith

-- values that go on a run are counted, whatever follows where no value does
values_counted : (run : OpenRun) (words later : List WordValue) → GoOn run words → values_held run (words ++ later) (values_text words) ≡ run.count + length words
values_counted run [] [] go = sym (search arith)
values_counted run [] (w ∷ later) go =
    let none : (goes_on run w && starts_with nat_eq [] (value_text w)) ≡ false = search rules in
    ap (λ t. cond t (values_held (longer run) later []) run.count) none ∙ sym (search arith)
values_counted run (w ∷ words) later go =
    let on : (goes_on run w && starts_with nat_eq (value_text w ++ values_text words) (value_text w)) ≡ true =
    ap (λ t. t && starts_with nat_eq (value_text w ++ values_text words) (value_text w)) go.0 ∙ begins_with (value_text w) (values_text words) in
    let more = values_counted (longer run) words later go.1 in
    ap (λ t. cond t (values_held (longer run) (words ++ later) (values_text words)) run.count) on ∙ more ∙ (omega arith)

length-values_text : (words : List WordValue) → length (values_text words) ≡ 7 * length words
length-values_text [] = refl
length-values_text (w ∷ words) = let more = length-values_text words in omega arith

-- the first word of a run is full
run_begins_full : (w : WordValue) (ws : List WordValue) → IsRun (w ∷ ws) → is_full w ≡ true
run_begins_full w ws run =
    let on = both (w.address == w.address) (nat_lt 0 16 && is_full w) run.0 in
    (both (nat_lt 0 16) (is_full w) on.1).1

pub length-run_text : (words : List WordValue) → IsRun words → length (run_text words) ≡ 6 + 7 * length words
length-run_text [] run = absurd run
length-run_text (w ∷ words) run = let more = length-values_text words in omega arith

-- what a torn piece holds: so many next words make a run, with whose text the piece begins
pub record Torn (next : List WordValue) (torn : List ℕ) (count : ℕ) : Type 0 where
  pub words : List WordValue
  pub later : List WordValue
  pub left : List ℕ
  pub next_is : next ≡ words ++ later
  pub run : IsRun words
  pub torn_is : torn ≡ run_text words ++ left
  pub count_is : count ≡ length words

torn_values : (w : WordValue) (ws : List WordValue) (torn : List ℕ) (count : ℕ) (words later : List WordValue) (left : List ℕ)
    → torn ≡ octal_text w.address ++ drop 6 torn → w ∷ ws ≡ words ++ later → GoOn (run_at w.address) words
    → drop 6 torn ≡ values_text words ++ left → count ≡ length words → (count ≡ 0) ⊎ Torn (w ∷ ws) torn count
torn_values w ws torn count [] later left front next go text n = inl n
torn_values w ws torn count (v ∷ words) later left front next go text n =
    let same : w ≡ v = cc in
    inr record {
      words = v ∷ words;
      later = later;
      left = left;
      next_is = next;
      run = subst (λ (x : WordValue). GoOn (run_at x.address) (v ∷ words)) same go;
      torn_is = front ∙ ap (λ l. octal_text w.address ++ l) text ∙ ap (λ (x : WordValue). octal_text x.address ++ (values_text (v ∷ words) ++ left)) same;
      count_is = n;
    }

-- what was counted in a torn piece stands there
pub torn : (next : List WordValue) (torn : List ℕ) → (torn_words Second next torn ≡ 0) ⊎ Torn next torn (torn_words Second next torn)
torn [] text = inl refl
torn (w ∷ ws) text =
    elim (starts_with nat_eq text (octal_text w.address))
    as (λ t. starts_with nat_eq text (octal_text w.address) ≡ t → (cond t (values_held (run_at w.address) (w ∷ ws) (drop 6 text)) 0 ≡ 0) ⊎ Torn (w ∷ ws) text (cond t (values_held (run_at w.address) (w ∷ ws) (drop 6 text)) 0)) [
      | true ↦ (λ on. let c = counted (run_at w.address) (w ∷ ws) (drop 6 text) in
          torn_values w ws text (values_held (run_at w.address) (w ∷ ws) (drop 6 text)) c.words c.later c.left (begins text (octal_text w.address) on) c.next_is c.go_on c.text_is (c.count_is ∙ zero-add _))
      | false ↦ (λ off. inl refl)
    ] refl

-- the text of a run is counted whole
pub run_counted : (words later : List WordValue) → IsRun words → torn_words Second (words ++ later) (run_text words) ≡ length words
run_counted [] later run = absurd run
run_counted (w ∷ words) later run =
    ap (λ t. cond t (values_held (run_at w.address) (w ∷ (words ++ later)) (values_text (w ∷ words))) 0) (begins_with (octal_text w.address) (values_text (w ∷ words)))
    ∙ values_counted (run_at w.address) (w ∷ words) later run ∙ zero-add _

-- a torn piece holds no more words than are left
torn_few : (next : List WordValue) (text : List ℕ) → torn_words Second next text ≤ length next
torn_few next text =
    elim (torn next text) [ inl none ↦ omega arith | inr t ↦ (let e = ap length t.next_is ∙ length-append t.words t.later in let n = t.count_is in omega arith) ]

-- ---- the front that is counted is the longest one

-- of two counts of the longest front neither is the larger
longest_most : (Holds : List WordValue → Type 0) (next : List WordValue) (a b : ℕ) → IsLongestHeldFront Holds next a → IsLongestHeldFront Holds next b → a ≤ b
longest_most Holds next zero b one other = omega arith
longest_most Holds next (suc a) b one other =
    let many = other.most (take (suc a) next) (drop (suc a) next) (sym (take-append-drop (suc a) next)) (one.holds (omega arith)) in
    let n = length-take-le (suc a) next one.few in omega arith

pub one_longest : (Holds : List WordValue → Type 0) (next : List WordValue) (a b : ℕ) → IsLongestHeldFront Holds next a → IsLongestHeldFront Holds next b → a ≡ b
one_longest Holds next a b one other =
    let few = longest_most Holds next a b one other in
    let many = longest_most Holds next b a other one in omega arith

-- values that go on a run are counted, whatever follows
values_least : (run : OpenRun) (words later : List WordValue) (rest : List ℕ) → GoOn run words → run.count + length words ≤ values_held run (words ++ later) (values_text words ++ rest)
values_least run [] later rest go = let c = counted run later rest in let n = c.count_is in omega arith
values_least run (w ∷ words) later rest go =
    let on : (goes_on run w && starts_with nat_eq (value_text w ++ (values_text words ++ rest)) (value_text w)) ≡ true =
    ap (λ t. t && starts_with nat_eq (value_text w ++ (values_text words ++ rest)) (value_text w)) go.0 ∙ begins_with (value_text w) (values_text words ++ rest) in
    let here : values_held run (w ∷ (words ++ later)) (values_text (w ∷ words) ++ rest) ≡ values_held (longer run) (words ++ later) (values_text words ++ rest) =
    ap (λ t. cond t (values_held (longer run) (words ++ later) (values_text words ++ rest)) run.count) on in
    let more = values_least (longer run) words later rest go.1 in omega arith

values_longest : (address : ℕ) (next : List WordValue) (text : List ℕ) → IsLongestHeldFront (BeginsWithValues address text) next (values_held (run_at address) next text)
values_longest address next text =
    let c = counted (run_at address) next text in
    let these : take (values_held (run_at address) next text) next ≡ c.words =
    ap (take (values_held (run_at address) next text)) c.next_is ∙ take_at c.words c.later (values_held (run_at address) next text) (sym (c.count_is ∙ zero-add _)) in
    record {
      few = let few = held_few (run_at address) next text in omega arith;
      holds = λ some. subst (BeginsWithValues address text) (sym these) (c.go_on, (c.left, c.text_is));
      most = λ words later e h.
          let least = values_least (run_at address) words later h.1.0 h.0 in
          let same = ap (λ l. values_held (run_at address) l text) e ∙ ap (values_held (run_at address) (words ++ later)) h.1.1 in omega arith;
    }

-- what the code counts
pub counted_values : (address : ℕ) (next : List WordValue) (text : List ℕ) (count : ℕ) → count ≡ values_held (run_at address) next text → IsLongestHeldFront (BeginsWithValues address text) next count
counted_values address next text count e = subst (IsLongestHeldFront (BeginsWithValues address text) next) (sym e) (values_longest address next text)

-- a run is counted in a piece that begins with its text, whatever follows
run_least : (words later : List WordValue) (rest : List ℕ) → IsRun words → length words ≤ torn_words Second (words ++ later) (run_text words ++ rest)
run_least [] later rest run = absurd run
run_least (w ∷ words) later rest run =
    let least = values_least (run_at w.address) (w ∷ words) later rest run in
    let here : torn_words Second (w ∷ (words ++ later)) (run_text (w ∷ words) ++ rest) ≡ values_held (run_at w.address) (w ∷ (words ++ later)) (values_text (w ∷ words) ++ rest) =
    ap (λ t. cond t (values_held (run_at w.address) (w ∷ (words ++ later)) (values_text (w ∷ words) ++ rest)) 0) (begins_with (octal_text w.address) (values_text (w ∷ words) ++ rest)) in
    omega arith

pub torn_longest : (version : Version) (next : List WordValue) (text : List ℕ) → HoldsTorn version text next (torn_words version next text)
torn_longest First next text = record { few = omega arith; holds = λ some. absurd (omega arith); most = λ words later e h. absurd h }
torn_longest Second next text = record {
  few = torn_few next text;
  holds = λ some. elim (torn next text) [
    | inl none ↦ absurd (omega arith)
    | inr t ↦
        (let these : take (torn_words Second next text) next ≡ t.words =
        ap (take (torn_words Second next text)) t.next_is ∙ take_at t.words t.later (torn_words Second next text) (sym t.count_is) in
        subst (BeginsWithRun Second text) (sym these) (t.run, (t.left, t.torn_is)))
  ];
  most = λ words later e h.
      let least = run_least words later h.1.0 h.0 in
      let same = ap (λ l. torn_words Second l text) e ∙ ap (torn_words Second (words ++ later)) h.1.1 in omega arith;
}

-- ---- what the code answers of a torn piece

-- where it counts what is counted
counted_torn : (next : List WordValue) (text : List ℕ) (result : ℕ) → result ≡ torn_words Second next text → HoldsTorn Second text next result
counted_torn next text result e = subst (HoldsTorn Second text next) (sym e) (torn_longest Second next text)

-- where no word is next, where the piece begins with another address, and where its values were counted
pub nothing_next : (next : List WordValue) (text : List ℕ) → None ≡ slice_get next 0 → HoldsTorn Second text next 0
nothing_next [] text e = counted_torn [] text 0 refl
nothing_next (w ∷ next) text e = absurd (cc e)

pub begun_elsewhere : (next : List WordValue) (text front : List ℕ) (w : WordValue) → Some w ≡ slice_get next 0 → front ≡ octal_text w.address
    → starts_with nat_eq text front ≡ false → HoldsTorn Second text next 0
begun_elsewhere [] text front w e a off = absurd (cc e)
begun_elsewhere (v ∷ next) text front w e a off =
    let same : w ≡ v = cc in
    let here = ap (λ (x : WordValue). octal_text x.address) (sym same) ∙ sym a in
    counted_torn (v ∷ next) text 0 (sym (ap (λ t. cond t (values_held (run_at v.address) (v ∷ next) (drop 6 text)) 0) (ap (starts_with nat_eq text) here ∙ off)))

pub begun_here : (next : List WordValue) (text front left : List ℕ) (w : WordValue) (address count result : ℕ) → Some w ≡ slice_get next 0 → front ≡ octal_text w.address
    → starts_with nat_eq text front ≡ true → address ≡ w.address → left ≡ drop 6 text → IsLongestHeldFront (BeginsWithValues address left) next count → result ≡ count
    → HoldsTorn Second text next result
begun_here [] text front left w address count result e f on a l h r = absurd (cc e)
begun_here (v ∷ next) text front left w address count result e f on a l h r =
    let same : w ≡ v = cc in
    let here = ap (λ (x : WordValue). octal_text x.address) (sym same) ∙ sym f in
    let values : count ≡ values_held (run_at address) (v ∷ next) left = one_longest (BeginsWithValues address left) (v ∷ next) count _ h (values_longest address (v ∷ next) left) in
    let at : address ≡ v.address = a ∙ ap (λ (x : WordValue). x.address) same in
    counted_torn (v ∷ next) text result
    (r ∙ values ∙ ap (values_held (run_at address) (v ∷ next)) l ∙ ap (λ n. values_held (run_at n) (v ∷ next) (drop 6 text)) at
    ∙ sym (ap (λ t. cond t (values_held (run_at v.address) (v ∷ next) (drop 6 text)) 0) (ap (starts_with nat_eq text) here ∙ on)))

-- a torn piece of the length of a run's text holds no more words than that run
pub torn_short : (next : List WordValue) (text : List ℕ) (n : ℕ) → length text ≤ 6 + 7 * n → torn_words Second next text ≤ n
torn_short next text n short =
    elim (torn next text) [
      | inl none ↦ omega arith
      | inr t ↦ (let e = ap length t.torn_is ∙ length-append (run_text t.words) t.left in
          let r = length-run_text t.words t.run in let m = t.count_is in omega arith)
    ]

-- a run does not begin with a word that is not full
pub no_half_run : (w : WordValue) (ws words later : List WordValue) → is_full w ≡ false → w ∷ ws ≡ words ++ later → IsRun words → ⊥
no_half_run w ws [] later half next run = run
no_half_run w ws (v ∷ words) later half next run =
    let same : w ≡ v = cc in
    let full = run_begins_full v words run in
    false≢true (sym half ∙ ap is_full same ∙ full)

-- where the next word is not full, a torn piece holds none
pub torn_half : (w : WordValue) (ws : List WordValue) (text : List ℕ) → is_full w ≡ false → torn_words Second (w ∷ ws) text ≡ 0
torn_half w ws text half =
    elim (torn (w ∷ ws) text) [ inl none ↦ none | inr t ↦ absurd (no_half_run w ws t.words t.later half t.next_is t.run) ]
