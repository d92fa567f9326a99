-- Lists side by side.
use Rattle.std.proofs.Common.{◌≡◌, ℕ, zero, suc, ◌+◌, ◌<◌, List, [], ◌∷◌, ◌++◌, length, map, take, get_or, arith, ap, sym, refl, ◌∙◌, Bor}
use Rattle.std.specs.List.{AllZip}
use Rattle.std.proofs.lemmas.List.{take_more, get_or-map, length-map}

pub zip_push : {A B : Type 0} (R : A → B → Type 0) (xs : List A) (ys : List B) (x : A) (y : B) → AllZip R xs ys → R x y → AllZip R (xs ++ x ∷ []) (ys ++ y ∷ [])
zip_push R [] [] x y are is = (is, tt)
zip_push R [] (v ∷ ys) x y are is = absurd are
zip_push R (u ∷ xs) [] x y are is = absurd are
zip_push R (u ∷ xs) (v ∷ ys) x y are is = (are.0, zip_push R xs ys x y are.1 is)

pub zip_at : {A B : Type 0} (R : A → B → Type 0) (xs : List A) (ys : List B) (i : ℕ) (d : A) (e : B) → AllZip R xs ys → i < length xs → R (get_or xs i d) (get_or ys i e)
zip_at R [] ys i d e are within = absurd (omega arith)
zip_at R (x ∷ xs) [] i d e are within = absurd are
zip_at R (x ∷ xs) (y ∷ ys) zero d e are within = are.0
zip_at R (x ∷ xs) (y ∷ ys) (suc i) d e are within = zip_at R xs ys i d e are.1 (omega arith)

-- lists of which each thing is one alone
pub zip_same : {A B : Type 0} (R : A → B → Type 0) → ((x : A) (a b : B) → R x a → R x b → a ≡ b) → (xs : List A) (ys zs : List B) → AllZip R xs ys → AllZip R xs zs → ys ≡ zs
zip_same R one [] [] [] are also = refl
zip_same R one [] [] (z ∷ zs) are also = absurd also
zip_same R one [] (y ∷ ys) zs are also = absurd are
zip_same R one (x ∷ xs) [] zs are also = absurd are
zip_same R one (x ∷ xs) (y ∷ ys) [] are also = absurd also
zip_same R one (x ∷ xs) (y ∷ ys) (z ∷ zs) are also = ap (λ h. h ∷ ys) (one x y z are.0 also.0) ∙ ap (λ t. z ∷ t) (zip_same R one xs ys zs are.1 also.1)

-- one more of the parts that were found
pub at_found : (found : List (Bor (List ℕ))) (all : List (List ℕ)) (i : ℕ) (d : Bor (List ℕ)) → map (λ f. f.now) found ≡ all → i < length found → get_or all i [] ≡ (get_or found i d).now
at_found found all i d is within = ap (λ l. get_or l i []) (sym is) ∙ get_or-map (λ (f : Bor (List ℕ)). f.now) found i d [] within

pub many_found : (found : List (Bor (List ℕ))) (all : List (List ℕ)) → map (λ f. f.now) found ≡ all → length all ≡ length found
many_found found all is = ap (length {A = List ℕ}) (sym is) ∙ length-map found (λ (f : Bor (List ℕ)). f.now)

pub front_more : (found : List (Bor (List ℕ))) (all : List (List ℕ)) (i : ℕ) (d : Bor (List ℕ)) → map (λ f. f.now) found ≡ all → i < length found → take (i + 1) all ≡ take i all ++ (get_or found i d).now ∷ []
front_more found all i d is within =
    take_more all i [] (omega (arith, many_found found all is)) ∙ ap (λ x. take i all ++ x ∷ []) (at_found found all i d is within)
