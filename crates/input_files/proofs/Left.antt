-- What readers have left of files that were opened one behind the other.
use Rattle.std.proofs.Common.{◌≡◌, ◌<◌, ◌≤◌, ℕ, zero, suc, List, [], ◌∷◌, ◌++◌, Option, Some, None, length, map, set, take, drop, Result, Ok, Err, is_ok, is_err, Bool, true, false, if◌then◌else◌, get_or, slice_index_or, refl, sym, ap, ◌∙◌, subst, append_assoc, append-nil, arith}
use Rattle.std.proofs.KnownBytes.{Consumes-trans, Keeps-refl, Keeps-trans}
use Rattle.std.proofs.lemmas.List.{drop_all, map-append, take_all}
use Rattle.std.specs.List.{AllZip, remove}
use Rattle.std.specs.Io.KnownBytes.{Consumes, IsAtEnd, Keeps, prepend_known}
use Rattle.host_devices.specs.Told.{HasAsked}
use Rattle.input_files.specs.Opening.{Name, InputStep, AreAdded, Opened, NotOpened, opening, IsTried, Once, Again, given_in}
use Rattle.input_files.specs.Source.{left_behind}
use Rattle.input_files.specs.Taking.{behind_first}

-- ---- what was read ahead

-- what was taken, and behind it what is left, where it has not ended
pub as_it_ended : (before after : Option (List ℕ)) (taken : List ℕ) (has_ended : Bool) → Consumes before after taken → (has_ended ≡ true → IsAtEnd after)
    → Keeps before (prepend_known taken (left_behind has_ended after))
as_it_ended None after taken has_ended h at_end = tt
as_it_ended (Some xs) None taken has_ended h at_end = absurd h
as_it_ended (Some xs) (Some ys) taken true h at_end = sym (h ∙ ap (λ l. taken ++ l) (at_end refl))
as_it_ended (Some xs) (Some ys) taken false h at_end = sym h

-- so it is of a file that was read to there
pub ahead_of : {X : Type 0} (known : X → Option (List ℕ)) (before : Option (List ℕ)) (file kept : X) (text items : List ℕ) (has_ended : Bool) → kept ≡ file → items ≡ text
    → Consumes before (known file) text × (has_ended ≡ true → IsAtEnd (known file)) → Keeps before (prepend_known items (left_behind has_ended (known kept)))
ahead_of known before file kept text items has_ended is all so =
    subst (λ f. Keeps before (prepend_known items (left_behind has_ended (known f)))) (sym is)
    (subst (λ l. Keeps before (prepend_known l (left_behind has_ended (known file)))) (sym all) (as_it_ended before (known file) text has_ended so.0 so.1))

-- what is no other is kept
pub kept_same : (before after : Option (List ℕ)) → after ≡ before → Keeps before after
kept_same before after is = subst (Keeps before) (sym is) (Keeps-refl before)

pub never_both : {X : Type 0} (test : Bool) → test ≡ false → test ≡ true → X
never_both true is_false is = absurd (cc is_false)
never_both false is_false is = absurd (cc is)

-- a read that gave nothing
pub none_more : (a b c : Option (List ℕ)) (text buf : List ℕ) (n : ℕ) → n ≡ 0 → Consumes a b text → Consumes b c (take n buf) → Consumes a c text
none_more a b c text buf n none before more =
    subst (Consumes a c) (append-nil text) (Consumes-trans a b c text [] before (subst (λ m. Consumes b c (take m buf)) none more))

-- a read of one byte at most, which gave one
pub one_byte_more : (a b c : Option (List ℕ)) (text text' buf : List ℕ) (n byte : ℕ) → Consumes a b text → Consumes b c (take n buf) → n ≤ length buf → length buf ≡ 1 → 0 < n
    → text' ≡ text ++ byte ∷ [] → byte ≡ get_or buf 0 0 → Consumes a c text'
one_byte_more a b c text text' [] n byte before more fits one some grown byte_is = let no : ⊥ = omega (arith, one) in absurd no
one_byte_more a b c text text' (x ∷ []) n byte before more fits one some grown byte_is =
    let whole : n ≡ 1 = omega (arith, fits, some) in
    let all : text' ≡ text ++ take n (x ∷ []) = grown ∙ ap (λ z. text ++ z ∷ []) byte_is ∙ ap (λ m. text ++ take m (x ∷ [])) (sym whole) in
    subst (Consumes a c) (sym all) (Consumes-trans a b c text (take n (x ∷ [])) before more)
one_byte_more a b c text text' (x ∷ y ∷ zs) n byte before more fits one some grown byte_is = let no : ⊥ = omega (arith, one) in absurd no

-- ---- what is kept of several files

pub all_kept : (all : List (Option (List ℕ))) → AllZip Keeps all all
all_kept [] = tt
all_kept (x ∷ xs) = (Keeps-refl x, all_kept xs)

kept_on : (xs ys zs : List (Option (List ℕ))) → AllZip Keeps xs ys → AllZip Keeps ys zs → AllZip Keeps xs zs
kept_on [] [] [] h k = tt
kept_on [] [] (z ∷ zs) h k = absurd k
kept_on [] (y ∷ ys) zs h k = absurd h
kept_on (x ∷ xs) [] zs h k = absurd h
kept_on (x ∷ xs) (y ∷ ys) [] h k = absurd k
kept_on (x ∷ xs) (y ∷ ys) (z ∷ zs) h k = (Keeps-trans x y z h.0 k.0, kept_on xs ys zs h.1 k.1)

kept_joined : (xs ys us vs : List (Option (List ℕ))) → AllZip Keeps xs ys → AllZip Keeps us vs → AllZip Keeps (xs ++ us) (ys ++ vs)
kept_joined [] [] us vs h k = k
kept_joined [] (y ∷ ys) us vs h k = absurd h
kept_joined (x ∷ xs) [] us vs h k = absurd h
kept_joined (x ∷ xs) (y ∷ ys) us vs h k = (h.0, kept_joined xs ys us vs h.1 k)

-- one more of them was read ahead
pub kept_at : {X : Type 0} (known : X → Option (List ℕ)) (start now : List X) (i : ℕ) (d y : X) → i < length now → AllZip Keeps (map known start) (map known now)
    → Keeps (known (get_or now i d)) (known y) → AllZip Keeps (map known start) (map known (set now i y))
kept_at known start [] i d y within h kept = let no : ⊥ = omega (arith, within) in absurd no
kept_at known [] (x ∷ xs) i d y within h kept = absurd h
kept_at known (z ∷ zs) (x ∷ xs) zero d y within h kept = (Keeps-trans (known z) (known x) (known y) h.0 kept, h.1)
kept_at known (z ∷ zs) (x ∷ xs) (suc i) d y within h kept = (h.0, kept_at known zs xs i d y (omega (arith, within)) h.1 kept)

-- ---- steps

given_joined : (a b : List InputStep) → given_in (a ++ b) ≡ given_in a ++ given_in b
given_joined [] b = refl
given_joined (Opened name given ∷ steps) b = ap (λ l. given ∷ l) (given_joined steps b)
given_joined (NotOpened name ∷ steps) b = given_joined steps b

pub left_joined : (had between left : List (Option (List ℕ))) (a b : List InputStep) → AllZip Keeps (had ++ given_in a) between → AllZip Keeps (between ++ given_in b) left
    → AllZip Keeps (had ++ given_in (a ++ b)) left
left_joined had between left a b h k =
    let all : had ++ given_in (a ++ b) ≡ (had ++ given_in a) ++ given_in b = ap (λ l. had ++ l) (given_joined a b) ∙ sym (append_assoc had (given_in a) (given_in b)) in
    subst (λ l. AllZip Keeps l left) (sym all)
    (kept_on ((had ++ given_in a) ++ given_in b) (between ++ given_in b) left (kept_joined (had ++ given_in a) between (given_in b) (given_in b) h (all_kept (given_in b))) k)

given_one : (name : List ℕ) (tried : Option (Option (List ℕ))) (given : Option (List ℕ)) (steps : List InputStep) → IsTried name tried steps → tried ≡ Some given → given_in steps ≡ given ∷ []
given_one name tried given steps (Once t) is = subst (λ o. given_in (opening name o ∷ []) ≡ given ∷ []) (sym is) refl
given_one name tried given steps (Again t) is = subst (λ o. given_in (opening name o ∷ []) ≡ given ∷ []) (sym is) refl

-- a file that was opened beside others
pub one_added : (name : List ℕ) (given : Option (List ℕ)) (others left : List (Option (List ℕ))) (steps : List InputStep) → IsTried name (Some given) steps → AllZip Keeps others left
    → AllZip Keeps (others ++ given_in steps) (left ++ given ∷ [])
one_added name given others left steps tried is =
    subst (λ l. AllZip Keeps (others ++ l) (left ++ given ∷ [])) (sym (given_one name (Some given) given steps tried refl))
    (kept_joined others left (given ∷ []) (given ∷ []) is (all_kept (given ∷ [])))

-- .. and then put behind them
pub pushed : {X A E : Type 0} (result : Result A E) (items others now : List X) (len : ℕ) (file : X) → is_err result ≡ false → len ≡ length others → length others ≡ length items
    → now ≡ (if is_ok result then take len (others ++ drop (length others) items) ++ file ∷ [] else take len (others ++ drop (length others) items)) → now ≡ others ++ file ∷ []
pushed (Err error) items others now len file ok lens same is = absurd (cc ok)
pushed (Ok value) items others now len file ok lens same is =
    let none : drop (length others) items ≡ [] = drop_all (length others) items (omega (arith, same)) in
    is ∙ ap (λ l. take len (others ++ l) ++ file ∷ []) none ∙ ap (λ l. take len l ++ file ∷ []) (append-nil others) ∙ ap (λ l. l ++ file ∷ []) (take_all len others (omega (arith, lens)))

pub beside : {X : Type 0} (known : X → Option (List ℕ)) (name : Name) (files had now others : List X) (file : X) (a b : Option (List InputStep)) → had ≡ files → now ≡ others ++ file ∷ []
    → HasAsked a b (AreAdded (name ∷ []) (map known had) (map known others ++ known file ∷ [])) → HasAsked a b (AreAdded (name ∷ []) (map known files) (map known now))
beside known name files had now others file a b had_is now_is h =
    subst (λ l. HasAsked a b (AreAdded (name ∷ []) (map known l) (map known now))) had_is
    (subst (λ l. HasAsked a b (AreAdded (name ∷ []) (map known had) l)) (sym (ap (map known) now_is ∙ map-append known others (file ∷ []))) h)

-- ---- a script among tapes

pub apart : {X : Type 0} (known : X → Option (List ℕ)) (all left : List X) (script : X) → 1 < length all → script ≡ slice_index_or all 1 script → left ≡ remove all 1
    → map known all ≡ behind_first (known script) (map known left)
apart known [] left script two script_is left_is = let no : ⊥ = omega (arith, two) in absurd no
apart known (x ∷ []) left script two script_is left_is = let no : ⊥ = omega (arith, two) in absurd no
apart known (x ∷ y ∷ zs) left script two script_is left_is =
    subst (λ s. known x ∷ known y ∷ map known zs ≡ behind_first (known s) (map known left)) (sym script_is)
    (subst (λ l. known x ∷ known y ∷ map known zs ≡ behind_first (known y) (map known l)) (sym left_is) refl)
