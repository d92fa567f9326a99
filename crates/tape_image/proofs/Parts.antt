-- The elements of a list whose middle was written.
use Rattle.std.proofs.Common.{◌≡◌, ℕ, ◌+◌, ◌-◌, ◌<◌, ◌≤◌, List, length, get_or, rules}
use Rattle.std.proofs.lemmas.List.{places}
use borrow.Rule.Slice.PartMut.{put_mid}

pub get_or-put_mid_below : {X : Type 0} (a k : ℕ) (xs ys : List X) (i : ℕ) (d : X) → i < a → a ≤ length xs → get_or (put_mid a k xs ys) i d ≡ get_or xs i d
get_or-put_mid_below a k xs ys i d l within = search (rules, places)

pub get_or-put_mid_in : {X : Type 0} (a k : ℕ) (xs ys : List X) (i : ℕ) (d : X) → a ≤ i → i < a + length ys → a ≤ length xs → get_or (put_mid a k xs ys) i d ≡ get_or ys (i - a) d
get_or-put_mid_in a k xs ys i d m l within = search (rules, places)

pub get_or-put_mid_above : {X : Type 0} (a k : ℕ) (xs ys : List X) (i : ℕ) (d : X) → a + k ≤ i → length ys ≡ k → a + k ≤ length xs → get_or (put_mid a k xs ys) i d ≡ get_or xs i d
get_or-put_mid_above a k xs ys i d m same within = search (rules, places)
