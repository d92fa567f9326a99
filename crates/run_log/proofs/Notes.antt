-- What is noted of a text, one character more behind it.
use Rattle.std.proofs.Common.{◌≡◌, ◌≢◌, ◌<◌, ◌≤◌, ℕ, Bool, true, false, ◌&&◌, ◌||◌, cond, List, [], ◌∷◌, ◌++◌, length, take, Option, Some, None, Result, Ok, Err, OnOk, OnErr, inl, inr, refl, sym, ap, ap₂, subst, ◌∙◌, append_assoc, append-nil, arith}
use Rattle.std.specs.Prelude.{nat_eq, nat_lt, IsOk, codes, option_map}
use Rattle.std.specs.Option.{option_or}
use Rattle.std.specs.List.{find, flat_map, starts_with}
use Rattle.std.proofs.lemmas.List.{flat_map_more, take_all, take-append-le, length-append, length-take}
use Rattle.std.proofs.lemmas.List.Elements.{All-nil, All-push, Contains-push_cases}
use Rattle.std.proofs.lemmas.Bool.Decides.{nat_tests}
use Rattle.std.proofs.lemmas.Bool.{false≢true}
use Rattle.byte_io.specs.Text.{line}
use Rattle.run_log.specs.Report.{IsNoted, IsUnbroken, Noted, begins, is_count}

-- what a test finds in lines, with one more of them
find_behind : (test : List ℕ → Bool) (ls : List (List ℕ)) (l : List ℕ) → find test (ls ++ l ∷ []) ≡ option_or (find test ls) (cond (test l) (Some l) None)
find_behind test [] l = refl
find_behind test (x ∷ xs) l = behind (test x) (find_behind test xs l) where
  behind : (b : Bool) → find test (xs ++ l ∷ []) ≡ option_or (find test xs) (cond (test l) (Some l) None)
      → cond b (Some x) (find test (xs ++ l ∷ [])) ≡ option_or (cond b (Some x) (find test xs)) (cond (test l) (Some l) None)
  behind true is = refl
  behind false is = is

-- a test of lines that finds none which fills its room
abbrev FindsShort : (List ℕ → Bool) → Type 0
FindsShort test = (l : List ℕ) → nat_lt (length l) 160 ≡ false → test l ≡ false

begins_short : (words : List ℕ) → FindsShort (begins words)
begins_short words l long = ap (λ (b : Bool). b && starts_with nat_eq l words) long

count_short : FindsShort is_count
count_short l long = ap₂ (λ (a b : Bool). a || b) (begins_short (codes "sent ") l long) (begins_short (codes "tested ") l long)

-- the front that is kept of a line is judged as the line is
judged : (test : List ℕ → Bool) (front : List ℕ) → FindsShort test → cond (test (take 160 front)) (Some (take 160 front)) None ≡ cond (test front) (Some front) None
judged test front finds = by (nat_lt (length front) 160) refl where
  short : (n : ℕ) → nat_lt n 160 ≡ true → n ≤ 160
  short n h = grind (arith, nat_tests)

  past : (n : ℕ) → nat_lt n 160 ≡ false → 160 ≤ n
  past n h = grind (arith, nat_tests)

  full : (n : ℕ) → n ≡ 160 → nat_lt n 160 ≡ false
  full n h = grind (arith, nat_tests)

  none : (l : List ℕ) → nat_lt (length l) 160 ≡ false → cond (test l) (Some l) None ≡ None
  none l h = ap (λ (b : Bool). cond b (Some l) None) (finds l h)

  by : (b : Bool) → nat_lt (length front) 160 ≡ b → cond (test (take 160 front)) (Some (take 160 front)) None ≡ cond (test front) (Some front) None
  by true h = ap (λ (l : List ℕ). cond (test l) (Some l) None) (take_all 160 front (short (length front) h))
  by false h =
      let long : 160 ≤ length front = past (length front) h in
      none (take 160 front) (full (length (take 160 front)) (omega (arith, long, length-take 160 front)))
      ∙ sym (none front h)

-- the front of a line that one character comes behind
front_grows : (front : List ℕ) (c : ℕ) → length (take 160 front) < 160 → take 160 front ++ c ∷ [] ≡ take 160 (front ++ c ∷ [])
front_grows front c room =
    let short : length front < 160 = omega (arith, room, length-take 160 front) in
    ap (λ (l : List ℕ). l ++ c ∷ []) (take_all 160 front (omega (arith, short)))
    ∙ sym (take_all 160 (front ++ c ∷ []) (omega (arith, short, length-append front (c ∷ []))))

front_stays : (front : List ℕ) (c : ℕ) → length (take 160 front) ≡ 160 → take 160 front ≡ take 160 (front ++ c ∷ [])
front_stays front c full = sym (take-append-le 160 front (c ∷ []) (omega (arith, full, length-take 160 front)))

-- what becomes of the front that is kept where room is wanted for one character more
pub pushed : {V T E : Type 0} (items : V → List ℕ) (r : Result T E) (kept kept' : V) (front : List ℕ) (c : ℕ) → (IsOk r → length (items kept) < 160)
    → OnOk r (items kept' ≡ items kept ++ c ∷ []) → OnErr r (kept' ≡ kept) → OnErr r (length (items kept) ≡ 160) → items kept ≡ take 160 front
    → items kept' ≡ take 160 (front ++ c ∷ [])
pushed items (Ok x) kept kept' front c room ok same full is =
    ok ∙ ap (λ (l : List ℕ). l ++ c ∷ []) is ∙ front_grows front c (subst (λ (l : List ℕ). length l < 160) is (room refl))
pushed items (Err e) kept kept' front c room ok same full is =
    ap items same ∙ is ∙ front_stays front c (subst (λ (l : List ℕ). length l ≡ 160) is full)

-- a character that ends no line
pub goes_on : (text : List ℕ) (c : ℕ) (notes notes' : Noted) → c ≢ 10 → notes'.ending ≡ notes.ending → notes'.counts ≡ notes.counts
    → ((front : List ℕ) → notes.front ≡ take 160 front → notes'.front ≡ take 160 (front ++ c ∷ [])) → IsNoted text notes → IsNoted (text ++ c ∷ []) notes'
goes_on text c notes notes' inside ending counts grows (lines, front, parts, noted) = (
  lines,
  front ++ c ∷ [],
  record {
    whole = ap (λ (t : List ℕ). t ++ c ∷ []) parts.whole ∙ append_assoc (flat_map line lines) front (c ∷ []);
    unbroken = (parts.unbroken.0, unbroken);
  },
  record { ending = ending ∙ noted.ending; counts = counts ∙ noted.counts; front_is = grows front noted.front_is },
) where
  unbroken : IsUnbroken (front ++ c ∷ [])
  unbroken there = elim (Contains-push_cases front c 10 there) [ inl before ↦ parts.unbroken.1 before | inr is ↦ inside is ]

-- the end of a line
pub line_ends : (text : List ℕ) (notes notes' : Noted)
    → notes'.ending ≡ option_or notes.ending (cond (begins (codes "end ") notes.front) (Some notes.front) None)
    → notes'.counts ≡ option_or notes.counts (cond (is_count notes.front) (Some notes.front) None)
    → notes'.front ≡ [] → IsNoted text notes → IsNoted (text ++ 10 ∷ []) notes'
line_ends text notes notes' ending counts empty (lines, front, parts, noted) = (
  lines ++ front ∷ [],
  [],
  record {
    whole = ap (λ (t : List ℕ). t ++ 10 ∷ []) parts.whole ∙ append_assoc (flat_map line lines) front (10 ∷ [])
        ∙ flat_map_more line [] lines front ∙ sym (append-nil (flat_map line (lines ++ front ∷ [])));
    unbroken = (All-push IsUnbroken lines front parts.unbroken.0 parts.unbroken.1, none);
  },
  record {
    ending = ending ∙ first (begins (codes "end ")) (begins_short (codes "end ")) notes.ending noted.ending;
    counts = counts ∙ first is_count count_short notes.counts noted.counts;
    front_is = empty;
  },
) where
  none : IsUnbroken []
  none there = absurd (omega (arith, there.1))

  first : (test : List ℕ → Bool) → FindsShort test → (kept : Option (List ℕ)) → kept ≡ find test lines
      → option_or kept (cond (test notes.front) (Some notes.front) None) ≡ find test (lines ++ front ∷ [])
  first test finds kept is =
      ap (λ (f : List ℕ). option_or kept (cond (test f) (Some f) None)) noted.front_is
      ∙ ap (λ (last : Option (List ℕ)). option_or kept last) (judged test front finds)
      ∙ ap (λ (before : Option (List ℕ)). option_or before (cond (test front) (Some front) None)) is
      ∙ sym (find_behind test lines front)

-- no text
pub nothing_noted : (notes : Noted) → notes.ending ≡ None → notes.counts ≡ None → notes.front ≡ [] → IsNoted [] notes
nothing_noted notes ending counts front = (
  [],
  [],
  record { whole = refl; unbroken = (All-nil IsUnbroken, none) },
  record { ending = ending; counts = counts; front_is = front },
) where
  none : IsUnbroken []
  none there = absurd (omega (arith, there.1))

-- a line that says how a report ended is none that says what it counted
pub not_both : (l : List ℕ) → begins (codes "end ") l ≡ true → is_count l ≡ false
not_both [] h = refl
not_both (b ∷ bs) h =
    subst (λ (c : ℕ). is_count (c ∷ bs) ≡ false) (is b (left (nat_eq 101 b) _ (right (nat_lt (length (b ∷ bs)) 160) _ h))) (none (nat_lt (length (101 ∷ bs)) 160)) where
      left : (x y : Bool) → x && y ≡ true → x ≡ true
      left true y both = refl
      left false y both = both

      right : (x y : Bool) → x && y ≡ true → y ≡ true
      right true y both = both
      right false y both = absurd (false≢true both)

      is : (c : ℕ) → nat_eq 101 c ≡ true → 101 ≡ c
      is c same = grind (arith, nat_tests)

      none : (x : Bool) → (x && false) || (x && false) ≡ false
      none true = refl
      none false = refl

-- ---- what is kept of a line that has ended, as the code keeps it

kept_first : {L : Type 0} (items : L → List ℕ) (kept : Option L) (l : L) (b : Bool) → b ≡ true
    → option_map items (option_or kept (Some l)) ≡ option_or (option_map items kept) (cond b (Some (items l)) None)
kept_first items None l true is = refl
kept_first items (Some k) l true is = refl
kept_first items kept l false is = absurd (false≢true is)

kept_as_is : (kept : Option (List ℕ)) (l : List ℕ) (b : Bool) → b ≡ false → kept ≡ option_or kept (cond b (Some l) None)
kept_as_is None l false is = refl
kept_as_is (Some k) l false is = refl
kept_as_is kept l true is = absurd (false≢true (sym is))

-- a line that says how a report ended
pub says_end : {L : Type 0} (items : L → List ℕ) (text : List ℕ) (kept kept' counts : Option L) (l : L) (empty : List ℕ)
    → kept' ≡ option_or kept (Some l) → begins (codes "end ") (items l) ≡ true → empty ≡ []
    → IsNoted text (record { ending = option_map items kept; counts = option_map items counts; front = items l })
    → IsNoted (text ++ 10 ∷ []) (record { ending = option_map items kept'; counts = option_map items counts; front = empty })
says_end items text kept kept' counts l empty keeps is none noted =
    line_ends text _ _
    (ap (option_map items) keeps ∙ kept_first items kept l (begins (codes "end ") (items l)) is)
    (kept_as_is (option_map items counts) (items l) (is_count (items l)) (not_both (items l) is))
    none noted

-- one that says what it counted
pub says_counts : {L : Type 0} (items : L → List ℕ) (text : List ℕ) (kept kept' ending : Option L) (l : L) (empty : List ℕ)
    → kept' ≡ option_or kept (Some l) → begins (codes "end ") (items l) ≡ false → is_count (items l) ≡ true → empty ≡ []
    → IsNoted text (record { ending = option_map items ending; counts = option_map items kept; front = items l })
    → IsNoted (text ++ 10 ∷ []) (record { ending = option_map items ending; counts = option_map items kept'; front = empty })
says_counts items text kept kept' ending l empty keeps other is none noted =
    line_ends text _ _
    (kept_as_is (option_map items ending) (items l) (begins (codes "end ") (items l)) other)
    (ap (option_map items) keeps ∙ kept_first items kept l (is_count (items l)) is)
    none noted

-- any other
pub says_neither : (text front empty : List ℕ) (ending counts : Option (List ℕ)) → begins (codes "end ") front ≡ false → is_count front ≡ false → empty ≡ []
    → IsNoted text (record { ending = ending; counts = counts; front = front })
    → IsNoted (text ++ 10 ∷ []) (record { ending = ending; counts = counts; front = empty })
says_neither text front empty ending counts no_end no_counts none noted =
    line_ends text _ _
    (kept_as_is ending front (begins (codes "end ") front) no_end)
    (kept_as_is counts front (is_count front) no_counts)
    none noted
