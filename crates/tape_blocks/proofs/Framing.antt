-- Blocks at the beginning of a text: a block is told from what follows it.
use Rattle.std.proofs.Common.{◌≡◌, ℕ, ◌+◌, ◌/◌, ◌%◌, ◌<◌, List, [], ◌∷◌, ◌++◌, length, arith, refl, sym, ap, ◌∙◌, append_assoc}
use Rattle.tape_values.specs.Block.{BlockValue, IsBlock, checksum, counted, framed, data_block, transfer_block}

-- two texts that are equal with what follows them, and equally long
pub record Cancels (xs ys x y : List ℕ) : Type 0 where
  pub fronts : xs ≡ ys
  pub rests : x ≡ y

pub same_length : (xs ys x y : List ℕ) → length xs ≡ length ys → xs ++ x ≡ ys ++ y → Cancels xs ys x y
same_length [] [] x y l e = record { fronts = refl; rests = e }
same_length [] (b ∷ ys) x y l e = absurd (let h : 0 ≡ length ys + 1 = omega arith in omega arith)
same_length (a ∷ xs) [] x y l e = absurd (let h : length xs + 1 ≡ 0 = omega arith in omega arith)
same_length (a ∷ xs) (b ∷ ys) x y l e =
    let t : xs ++ x ≡ ys ++ y = cc in
    let h : a ≡ b = cc in
    let n : length xs ≡ length ys = omega arith in
    let r = same_length xs ys x y n t in
    let f : a ∷ xs ≡ b ∷ ys = cc (r.fronts) in
    record { fronts = f; rests = r.rests }

-- the same of two blocks
pub record SameBlock (a b : ℕ) (bs cs x y : List ℕ) : Type 0 where
  pub addresses : a ≡ b
  pub bytes : bs ≡ cs
  pub rests : x ≡ y

same_number : (n m : ℕ) → n % 256 ≡ m % 256 → n / 256 ≡ m / 256 → n ≡ m
same_number n m low high = omega arith

-- a block that begins a text is the only one that does
pub one_block : (a b : ℕ) (bs cs x y : List ℕ) → framed a bs ++ x ≡ framed b cs ++ y → SameBlock a b bs cs x y
one_block a b bs cs x y e =
    let c0 : (6 + length bs) % 256 ≡ (6 + length cs) % 256 = cc in
    let c1 : (6 + length bs) / 256 ≡ (6 + length cs) / 256 = cc in
    let a0 : a % 256 ≡ b % 256 = cc in
    let a1 : a / 256 ≡ b / 256 = cc in
    let n : 6 + length bs ≡ 6 + length cs = same_number _ _ c0 c1 in
    let l : length bs ≡ length cs = omega arith in
    let t : bs ++ (checksum (counted a bs) ∷ []) ++ x ≡ cs ++ (checksum (counted b cs) ∷ []) ++ y = cc in
    let p : bs ++ (checksum (counted a bs) ∷ x) ≡ cs ++ (checksum (counted b cs) ∷ y) =
    sym (append_assoc bs (checksum (counted a bs) ∷ []) x) ∙ t ∙ append_assoc cs (checksum (counted b cs) ∷ []) y in
    let s = same_length bs cs (checksum (counted a bs) ∷ x) (checksum (counted b cs) ∷ y) l p in
    let r : x ≡ y = cc (s.rests) in
    record { addresses = same_number a b a0 a1; bytes = s.fronts; rests = r }

-- a data block is no transfer block
pub not_transfer : (b : BlockValue) (start : ℕ) (x y : List ℕ) → IsBlock b → transfer_block start ++ x ≡ data_block b ++ y → ⊥
not_transfer b start x y ok e =
    let s = one_block start b.address [] b.bytes x y e in
    let l : 0 ≡ length b.bytes = ap length s.bytes in
    let p : 0 < length b.bytes = ok.not_empty in
    omega arith
