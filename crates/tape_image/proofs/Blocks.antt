-- The last of the blocks that has a byte for an address.
use Rattle.std.proofs.Common.{◌≡◌, ℕ, zero, suc, ◌-◌, ◌+◌, ◌^◌, ◌<◌, ◌≤◌, true, false, cond, leb, ltb, List, [], ◌∷◌, length, get_or, Option, Some, None, refl, arith, ap, ◌∙◌}
use Rattle.std.specs.Prelude.{All, IfSome, slice_get}
use Rattle.std.specs.Option.{option_or}
use Rattle.std.proofs.lemmas.Bool.{leb-true, le-leb, ltb-true, ltb-false}
use Rattle.std.proofs.lemmas.Bool.Decides.{nat_tests}
use Rattle.std.proofs.lemmas.Option.{slice_get-get_or, slice_get_past}
use Rattle.std.proofs.lemmas.List.Elements.{All-tail, All-head}
use Rattle.tape_values.specs.Block.{BlockValue, IsBlock, HoldsBytes, block_at, top}
use Rattle.tape_image.specs.Image.{byte_in, byte_at}

-- what holds of each byte of a list holds of the one that is found
slice_get-All : (P : ℕ → Type 0) (xs : List ℕ) (i : ℕ) → All P xs → IfSome (slice_get xs i) P
slice_get-All P [] i all = tt
slice_get-All P (x ∷ xs) zero all = All-head P x xs all
slice_get-All P (x ∷ xs) (suc i) all = slice_get-All P xs i (All-tail P x xs all)

slice_get-within : (xs : List ℕ) (i : ℕ) → IfSome (slice_get xs i) (λ _. i < length xs)
slice_get-within [] i = tt
slice_get-within (x ∷ xs) zero = omega arith
slice_get-within (x ∷ xs) (suc i) = elim (slice_get xs i) as (λ o. IfSome o (λ _. i < length xs) → IfSome o (λ _. suc i < suc (length xs))) [ None ↦ λ h. tt | Some x ↦ λ h. omega arith ] (slice_get-within xs i)

-- a block's byte lies below the top, and is a byte
byte_in-within : (block : BlockValue) (a : ℕ) → IsBlock block → IfSome (byte_in block a) (λ _. a < top)
byte_in-within block a is =
    elim (leb block.address a) as (λ t. leb block.address a ≡ t → IfSome (cond t (slice_get block.bytes (a - block.address)) None) (λ _. a < top)) [
      | true ↦ λ e.
          let above : block.address ≤ a = leb-true _ _ e in
          elim (slice_get block.bytes (a - block.address)) as (λ o. IfSome o (λ _. a - block.address < length block.bytes) → IfSome o (λ _. a < top)) [
            | None ↦ λ h. tt
            | Some x ↦ λ h. omega (arith, is.below_top)
          ] (slice_get-within block.bytes (a - block.address))
      | false ↦ λ e. tt
    ] refl

byte_in-byte : (block : BlockValue) (a : ℕ) → HoldsBytes block → IfSome (byte_in block a) (λ byte. byte < 2 ^ 8)
byte_in-byte block a holds =
    elim (leb block.address a) as (λ t. IfSome (cond t (slice_get block.bytes (a - block.address)) None) (λ byte. byte < 2 ^ 8)) [
      | true ↦ slice_get-All (λ byte. byte < 2 ^ 8) block.bytes (a - block.address) holds
      | false ↦ tt
    ]

pub option_or-none : (o : Option ℕ) → option_or o None ≡ o
option_or-none None = refl
option_or-none (Some x) = refl

pub option_or-assoc : (o p r : Option ℕ) → option_or (option_or o p) r ≡ option_or o (option_or p r)
option_or-assoc None p r = refl
option_or-assoc (Some x) p r = refl

either : (o p : Option ℕ) (P : ℕ → Type 0) → IfSome o P → IfSome p P → IfSome (option_or o p) P
either None p P h k = k
either (Some x) p P h k = h

pub byte_at-within : (blocks : List BlockValue) (a : ℕ) → All IsBlock blocks → IfSome (byte_at blocks a) (λ _. a < top)
byte_at-within [] a all = tt
byte_at-within (block ∷ blocks) a all = either (byte_at blocks a) (byte_in block a) (λ _. a < top) (byte_at-within blocks a (All-tail IsBlock block blocks all)) (byte_in-within block a (All-head IsBlock block blocks all))

pub byte_at-byte : (blocks : List BlockValue) (a : ℕ) → All HoldsBytes blocks → IfSome (byte_at blocks a) (λ byte. byte < 2 ^ 8)
byte_at-byte [] a all = tt
byte_at-byte (block ∷ blocks) a all = either (byte_at blocks a) (byte_in block a) (λ byte. byte < 2 ^ 8) (byte_at-byte blocks a (All-tail HoldsBytes block blocks all)) (byte_in-byte block a (All-head HoldsBytes block blocks all))

-- a block's byte by its place: none before the first, then each of its own, none behind the last
pub byte_in-before : (a : ℕ) (bytes : List ℕ) (q : ℕ) → q < a → byte_in (block_at a bytes) q ≡ None
byte_in-before a bytes q l = grind (arith, nat_tests)

pub byte_in-inside : (a : ℕ) (bytes : List ℕ) (q : ℕ) → a ≤ q → q < a + length bytes → byte_in (block_at a bytes) q ≡ Some (get_or bytes (q - a) 0)
byte_in-inside a bytes q m l = ap (λ t. cond t (slice_get bytes (q - a)) None) (le-leb a q m) ∙ slice_get-get_or bytes (q - a) 0 (omega arith)

pub byte_in-behind : (a : ℕ) (bytes : List ℕ) (q : ℕ) → a + length bytes ≤ q → byte_in (block_at a bytes) q ≡ None
byte_in-behind a bytes q l = ap (λ t. cond t (slice_get bytes (q - a)) None) (le-leb a q (omega arith)) ∙ slice_get_past bytes (q - a) (omega arith)

-- so q lies in one of three parts
pub data Part (a n q : ℕ) : Type 0 where
  before : q < a → Part a n q
  inside : a ≤ q → q < a + n → Part a n q
  behind : a + n ≤ q → Part a n q

pub part_of : (a n q : ℕ) → Part a n q
part_of a n q =
    elim (ltb q a) as (λ t. ltb q a ≡ t → Part a n q) [
      | true ↦ λ e. before (ltb-true q a e)
      | false ↦ λ e. elim (ltb q (a + n)) as (λ t. ltb q (a + n) ≡ t → Part a n q) [ true ↦ λ f. inside (ltb-false q a e) (ltb-true q (a + n) f) | false ↦ λ f. behind (ltb-false q (a + n) f) ] refl
    ] refl
