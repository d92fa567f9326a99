-- The addresses of stretches.
use Rattle.std.proofs.Common.{◌≡◌, ◌≢◌, ℕ, zero, suc, ◌+◌, ◌-◌, ◌<◌, ◌≤◌, ◌⊎◌, List, [], ◌∷◌, ◌++◌, inl, inr, arith, ap}
use Rattle.exchange_core.specs.declared.stretch.Stretch.{Stretch}
use Rattle.exchange_core.specs.Stretch.{places_from, places}
use Rattle.stub.specs.Place.{StretchesFit}
use Rattle.stub.specs.Law.{IsOutside}
use Rattle.stub.proofs.Points.{PlacesFit}

-- the first address of what is left, and where nothing is left there is none
pub first_place : (a hi : ℕ) → a < hi → places_from (hi - a) a ≡ a ∷ places_from (hi - (a + 1)) (a + 1)
first_place a hi less = ap (λ n. places_from n a) (count a hi less)
  where
    count : (a hi : ℕ) → a < hi → hi - a ≡ suc (hi - (a + 1))
    count a hi less = omega arith

pub no_place : (a hi : ℕ) → hi ≤ a → places_from (hi - a) a ≡ []
no_place a hi past = ap (λ n. places_from n a) (count a hi past)
  where
    count : (a hi : ℕ) → hi ≤ a → hi - a ≡ 0
    count a hi past = omega arith

-- ---- what holds of stretches holds of their addresses

from_fits : (place until top : ℕ) (n a lo hi : ℕ) (more : List ℕ) → lo ≤ a → a + n ≤ hi → hi ≤ top → (hi ≤ place) ⊎ (until ≤ lo) → PlacesFit place until top more → PlacesFit place until top (places_from n a ++ more)
from_fits place until top zero a lo hi more from to below apart fit = fit
from_fits place until top (suc n) a lo hi more from to below apart fit =
    (record { below = omega (arith, to, below); apart = apart_too apart }, from_fits place until top n (a + 1) lo hi more (omega (arith, from)) (omega (arith, to)) below apart fit)
  where
    apart_too : (hi ≤ place) ⊎ (until ≤ lo) → (a < place) ⊎ (until ≤ a)
    apart_too (inl low) = inl (omega (arith, low, to))
    apart_too (inr high) = inr (omega (arith, high, from))

pub places_fit : (place until top : ℕ) (stretches : List Stretch) → StretchesFit place until top stretches → PlacesFit place until top (places stretches)
places_fit place until top [] fit = tt
places_fit place until top (stretch ∷ stretches) fit =
    from_fits place until top (stretch.to - stretch.from) stretch.from stretch.from stretch.to (places stretches) (omega arith) (all stretch.from stretch.to fit.0.rising) fit.0.below fit.0.apart
    (places_fit place until top stretches fit.1)
  where
    all : (lo hi : ℕ) → lo < hi → lo + (hi - lo) ≤ hi
    all lo hi less = omega arith

-- none of these addresses is b
abbrev pub HasNot : List ℕ → ℕ → Type 0
HasNot [] b = Unit {0}
HasNot (a ∷ those) b = (b ≢ a) × HasNot those b

from_outside : (b n a lo hi : ℕ) (more : List ℕ) → lo ≤ a → a + n ≤ hi → (b < lo) ⊎ (hi ≤ b) → HasNot more b → HasNot (places_from n a ++ more) b
from_outside b zero a lo hi more from to apart rest = rest
from_outside b (suc n) a lo hi more from to apart rest = (other apart, from_outside b n (a + 1) lo hi more (omega (arith, from)) (omega (arith, to)) apart rest)
  where
    other : (b < lo) ⊎ (hi ≤ b) → b ≢ a
    other (inl low) same = omega (arith, low, from, same)
    other (inr high) same = omega (arith, high, to, same)

pub places_outside : (place until top b : ℕ) (stretches : List Stretch) → StretchesFit place until top stretches → IsOutside stretches b → HasNot (places stretches) b
places_outside place until top b [] fit outside = tt
places_outside place until top b (stretch ∷ stretches) fit outside =
    from_outside b (stretch.to - stretch.from) stretch.from stretch.from stretch.to (places stretches) (omega arith) (all stretch.from stretch.to fit.0.rising) outside.0
    (places_outside place until top b stretches fit.1 outside.1)
  where
    all : (lo hi : ℕ) → lo < hi → lo + (hi - lo) ≤ hi
    all lo hi less = omega arith

-- ---- the last of some stretches

pub fit_behind : (place end top : ℕ) (front left : List Stretch) → StretchesFit place end top (front ++ left) → StretchesFit place end top left
fit_behind place end top [] left fit = fit
fit_behind place end top (stretch ∷ front) left fit = fit_behind place end top front left fit.1
