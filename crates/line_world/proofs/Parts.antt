-- Lists with characters lost.
use Rattle.std.proofs.Common.{◌≡◌, ◌≢◌, ℕ, zero, suc, ◌<◌, ◌≤◌, false, eqb, List, [], ◌∷◌, length, inl, inr, refl, arith, sym, subst}
use Rattle.std.specs.List.{remove}
use Rattle.std.proofs.lemmas.Bool.Decides.{nat_tests}
use Rattle.line_world.specs.Pending.{IsRemnant}

-- two numbers that a test tells apart
pub differ : (a b : ℕ) → eqb a b ≡ false → a ≢ b
differ a b e same = grind (arith, nat_tests)

pub part_peel : (c : ℕ) (u rest : List ℕ) → IsRemnant (c ∷ u) rest → IsRemnant u rest
part_peel c [] rest h = tt
part_peel c (x ∷ u) [] h = absurd h
part_peel c (x ∷ u) (y ∷ rest) (inl h) = inr h.1
part_peel c (x ∷ u) (y ∷ rest) (inr h) = inr (part_peel c (x ∷ u) rest h)

pub part_same : (xs : List ℕ) → IsRemnant xs xs
part_same [] = tt
part_same (x ∷ xs) = inl (refl, part_same xs)

pub part_length : (xs ys : List ℕ) → IsRemnant xs ys → length xs ≤ length ys
part_length [] ys h = omega arith
part_length (x ∷ xs) [] h = absurd h
part_length (x ∷ xs) (y ∷ ys) (inl h) = omega (arith, part_length xs ys h.1)
part_length (x ∷ xs) (y ∷ ys) (inr h) = omega (arith, part_length (x ∷ xs) ys h)

-- a rest of one character is heard whole
pub part_one : (c d : ℕ) (u : List ℕ) → IsRemnant (c ∷ u) (d ∷ []) → (c ≡ d) × (u ≡ [])
part_one c d [] (inl h) = (h.0, refl)
part_one c d (x ∷ u) (inl h) = absurd h.1
part_one c d u (inr h) = absurd h

-- the first of as many characters as are left is the next one
pub part_next : (c d : ℕ) (u : List ℕ) → IsRemnant (c ∷ u) (d ∷ u) → c ≡ d
part_next c d u (inl h) = h.0
part_next c d u (inr h) = absurd (omega (arith, part_length (c ∷ u) u h))

-- a lost character leaves a part
pub part_remove : (xs ys : List ℕ) (k : ℕ) → k < length xs → IsRemnant xs ys → IsRemnant (remove xs k) ys
part_remove [] ys k h p = absurd (omega arith)
part_remove (x ∷ xs) ys zero h p = part_peel x xs ys p
part_remove (x ∷ xs) [] (suc k) h p = absurd p
part_remove (x ∷ xs) (y ∷ ys) (suc k) h (inl p) = inl (p.0, part_remove xs ys k (omega arith) p.1)
part_remove (x ∷ xs) (y ∷ ys) (suc k) h (inr p) = inr (part_remove (x ∷ xs) ys (suc k) h p)

-- hearing c takes the exact answer `rest` on to `more`
pub record Follows (c : ℕ) (rest more : List ℕ) : Type 0 where
  pub part : (u : List ℕ) → IsRemnant (c ∷ u) rest → IsRemnant u more
  pub whole : (u : List ℕ) → c ∷ u ≡ rest → u ≡ more

pub follows_next : (c d : ℕ) (more : List ℕ) → Follows c (d ∷ more) more
follows_next c d more = record { part = next c d more; whole = λ u e. cc }
  where
    next : (c d : ℕ) (more u : List ℕ) → IsRemnant (c ∷ u) (d ∷ more) → IsRemnant u more
    next c d more u (inl h) = h.1
    next c d more u (inr h) = part_peel c u more h

-- a character that is not the next one came after a loss
pub follows_skip : (c d : ℕ) (rest more : List ℕ) → c ≢ d → Follows c rest more → Follows c (d ∷ rest) more
follows_skip c d rest more other f = record { part = skip c d rest more other f; whole = λ u e. absurd (other cc) }
  where
    skip : (c d : ℕ) (rest more : List ℕ) → c ≢ d → Follows c rest more → (u : List ℕ) → IsRemnant (c ∷ u) (d ∷ rest) → IsRemnant u more
    skip c d rest more other f u (inl h) = absurd (other h.0)
    skip c d rest more other f u (inr h) = f.part u h

-- a character that is not the next one may leave the rest as it is
pub follows_stay : (c d : ℕ) (rest : List ℕ) → c ≢ d → Follows c (d ∷ rest) (d ∷ rest)
follows_stay c d rest other = record { part = λ u h. part_peel c u (d ∷ rest) h; whole = λ u e. absurd (other cc) }

pub follows_at : (c d : ℕ) (rest more : List ℕ) → c ≡ d → Follows d rest more → Follows c rest more
follows_at c d rest more e f = subst (λ x. Follows x rest more) (sym e) f

-- the character is not the next one of the exact answer
abbrev pub Misses : ℕ → List ℕ → Type 0
Misses c rest = (u : List ℕ) → c ∷ u ≡ rest → ⊥

pub misses : (c d : ℕ) (rest : List ℕ) → c ≢ d → Misses c (d ∷ rest)
misses c d rest other u e = other cc

-- the character is nowhere in the list
abbrev pub IsAbsent : ℕ → List ℕ → Type 0
IsAbsent c [] = Unit {0}
IsAbsent c (d ∷ rest) = (c ≢ d) × IsAbsent c rest

pub part_absent : (c : ℕ) (u rest : List ℕ) → IsAbsent c rest → IsRemnant (c ∷ u) rest → ⊥
part_absent c u [] absent h = h
part_absent c u (d ∷ rest) absent (inl h) = absent.0 h.0
part_absent c u (d ∷ rest) absent (inr h) = part_absent c u rest absent.1 h

-- past a character that is another
pub part_past : (c d : ℕ) (u rest : List ℕ) → c ≢ d → IsRemnant (c ∷ u) (d ∷ rest) → IsRemnant (c ∷ u) rest
part_past c d u rest other (inl h) = absurd (other h.0)
part_past c d u rest other (inr h) = h
