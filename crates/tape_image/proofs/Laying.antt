-- Bytes laid over an image, part by part.
use Rattle.std.proofs.Common.{◌≡◌, ℕ, ◌+◌, ◌-◌, ◌*◌, ◌<◌, ◌≤◌, List, [], ◌∷◌, ◌++◌, length, get_or, max, min, take, drop, Option, Some, None, refl, arith, ap, sym, ◌∙◌, inl, inr, length-append, length-take-le, take-append-drop}
use Rattle.std.specs.Option.{option_or}
use Rattle.std.specs.FinMap.{get}
use Rattle.std.proofs.lemmas.Bool.{cases_lt}
use Rattle.std.proofs.lemmas.List.{get_or_append_left, get_or-append_right, take-take, drop-take, take_all, take_more}
use Rattle.tape_values.specs.Block.{BlockValue, block_at}
use Rattle.tape_image.specs.Image.{Image, byte_in, byte_at}
use Rattle.tape_image.specs.Pages.{IsLaid}
use Rattle.tape_image.proofs.Blocks.{option_or-none, option_or-assoc, byte_in-before, byte_in-inside, byte_in-behind, before, inside, behind, part_of}

-- nothing that is laid changes nothing
pub IsLaid-none : (image : Image) (laid : ℕ → Option ℕ) → ((a : ℕ) → laid a ≡ None) → IsLaid laid image image
IsLaid-none image laid none a = ap (λ o. option_or o (get image a)) (sym (none a))

pub byte_in-nothing : (a k : ℕ) (bytes : List ℕ) → k ≡ 0 → (q : ℕ) → byte_in (block_at a (take k bytes)) q ≡ None
byte_in-nothing a k bytes none q =
    ap (λ i. byte_in (block_at a (take i bytes)) q) none ∙ elim (cases_lt q a) [ inl l ↦ byte_in-before a [] q l | inr m ↦ byte_in-behind a [] q (omega arith) ]

-- one part and then another are laid as both together
pub IsLaid-then : (first next both : ℕ → Option ℕ) (old mid new : Image) → ((a : ℕ) → both a ≡ option_or (next a) (first a)) → IsLaid first old mid → IsLaid next mid new → IsLaid both old new
IsLaid-then first next both old mid new joined f n a =
    n a ∙ ap (option_or (next a)) (f a) ∙ sym (option_or-assoc (next a) (first a) (get old a)) ∙ ap (λ o. option_or o (get old a)) (sym (joined a))

-- blocks in a row
pub byte_at-append : (xs ys : List BlockValue) (a : ℕ) → byte_at (xs ++ ys) a ≡ option_or (byte_at ys a) (byte_at xs a)
byte_at-append [] ys a = sym (option_or-none (byte_at ys a))
byte_at-append (block ∷ xs) ys a = ap (λ o. option_or o (byte_in block a)) (byte_at-append xs ys a) ∙ option_or-assoc (byte_at ys a) (byte_at xs a) (byte_in block a)

-- the bytes of a block in two parts
pub byte_in-append : (a : ℕ) (xs ys : List ℕ) (q : ℕ) → byte_in (block_at a (xs ++ ys)) q ≡ option_or (byte_in (block_at (a + length xs) ys) q) (byte_in (block_at a xs) q)
byte_in-append a xs ys q =
    elim (part_of a (length xs + length ys) q) [
      | before l ↦
          byte_in-before a (xs ++ ys) q l
          ∙ ap (λ o. option_or o None) (sym (byte_in-before (a + length xs) ys q (omega arith)))
          ∙ ap (option_or (byte_in (block_at (a + length xs) ys) q)) (sym (byte_in-before a xs q l))
      | inside m l ↦
          byte_in-inside a (xs ++ ys) q m (omega (arith, length-append xs ys))
          ∙ elim (cases_lt (q - a) (length xs)) [
            | inl k ↦
                ap (λ x. Some x) (get_or_append_left xs ys 0 (q - a) k)
                ∙ sym (byte_in-inside a xs q m (omega arith))
                ∙ ap (λ o. option_or o (byte_in (block_at a xs) q)) (sym (byte_in-before (a + length xs) ys q (omega arith)))
            | inr k ↦
                ap (λ x. Some x) (get_or-append_right xs ys (length xs) (q - a) 0 refl k ∙ (let same : q - a - length xs ≡ q - (a + length xs) = omega arith in ap (λ i. get_or ys i 0) same))
                ∙ ap (λ o. option_or o (byte_in (block_at a xs) q)) (sym (byte_in-inside (a + length xs) ys q (omega arith) (omega arith)))
          ]
      | behind l ↦
          byte_in-behind a (xs ++ ys) q (omega (arith, length-append xs ys))
          ∙ ap (λ o. option_or o None) (sym (byte_in-behind (a + length xs) ys q (omega arith)))
          ∙ ap (option_or (byte_in (block_at (a + length xs) ys) q)) (sym (byte_in-behind a xs q (omega arith)))
    ]

-- a block that is moved
pub byte_in-moved : (base offset : ℕ) (bytes : List ℕ) (q : ℕ) → byte_in (block_at (base + offset) bytes) (base + q) ≡ byte_in (block_at offset bytes) q
byte_in-moved base offset bytes q =
    elim (part_of offset (length bytes) q) [
      | before l ↦ byte_in-before (base + offset) bytes (base + q) (omega arith) ∙ sym (byte_in-before offset bytes q l)
      | inside m l ↦
          byte_in-inside (base + offset) bytes (base + q) (omega arith) (omega arith)
          ∙ (let same : base + q - (base + offset) ≡ q - offset = omega arith in ap (λ i. Some (get_or bytes i 0)) same)
          ∙ sym (byte_in-inside offset bytes q m l)
      | behind l ↦ byte_in-behind (base + offset) bytes (base + q) (omega arith) ∙ sym (byte_in-behind offset bytes q l)
    ]

take_parts : (k m : ℕ) (bytes : List ℕ) → take (k + m) bytes ≡ take k bytes ++ take m (drop k bytes)
take_parts k m bytes =
    sym (take-append-drop k (take (k + m) bytes)) ∙ ap (λ xs. xs ++ drop k (take (k + m) bytes)) (take-take k (k + m) bytes (omega arith))
    ∙ ap (λ ys. take k bytes ++ ys) (drop-take k m bytes)

page_part : (bytes : List ℕ) (k e n : ℕ) → k ≤ e → e ≡ min n (length bytes) → take n bytes ≡ take k bytes ++ take (e - k) (drop k bytes)
page_part bytes k e n l m =
    elim (cases_lt n (length bytes)) [
      | inl less ↦ let same : n ≡ k + (e - k) = omega arith in ap (λ i. take i bytes) same ∙ take_parts k (e - k) bytes
      | inr more ↦ take_all n bytes more ∙ sym (take_all (k + (e - k)) bytes (omega arith)) ∙ take_parts k (e - k) bytes
    ]

-- a block is laid page by page: what lies below page n, and then the run in it, is what lies below the next page
pub IsLaid-page : (a : ℕ) (bytes : List ℕ) (n first last : ℕ) (old mid new : Image) → first ≡ max (n * 512) a → last ≡ min (n * 512 + 512) (a + length bytes)
    → a < n * 512 + 512 → n * 512 < a + length bytes
    → IsLaid (byte_in (block_at a (take (512 * n - a) bytes))) old mid
    → IsLaid (byte_in (block_at (512 * n + (first - n * 512)) (take (last - a - (first - a)) (drop (first - a) bytes)))) mid new
    → IsLaid (byte_in (block_at a (take (512 * (n + 1) - a) bytes))) old new
IsLaid-page a bytes n first last old mid new f l touched some below run =
    let start : 512 * n + (first - n * 512) ≡ a + length (take (first - a) bytes) = omega (arith, length-take-le (first - a) bytes (omega arith)) in
    let behind : 512 * n - a ≡ first - a = omega arith in
    let all : take (512 * (n + 1) - a) bytes ≡ take (first - a) bytes ++ take (last - a - (first - a)) (drop (first - a) bytes) = page_part bytes (first - a) (last - a) (512 * (n + 1) - a) (omega arith) (omega arith) in
    IsLaid-then (byte_in (block_at a (take (512 * n - a) bytes)))
    (byte_in (block_at (512 * n + (first - n * 512)) (take (last - a - (first - a)) (drop (first - a) bytes))))
    (byte_in (block_at a (take (512 * (n + 1) - a) bytes))) old mid new
    (λ q. ap (λ xs. byte_in (block_at a xs) q) all
    ∙ byte_in-append a (take (first - a) bytes) (take (last - a - (first - a)) (drop (first - a) bytes)) q
    ∙ ap (λ s. option_or (byte_in (block_at s (take (last - a - (first - a)) (drop (first - a) bytes))) q) (byte_in (block_at a (take (first - a) bytes)) q)) (sym start)
    ∙ ap (λ k. option_or (byte_in (block_at (512 * n + (first - n * 512)) (take (last - a - (first - a)) (drop (first - a) bytes))) q) (byte_in (block_at a (take k bytes)) q)) (sym behind))
    below run

-- blocks are laid one by one
pub IsLaid-block : (blocks : List BlockValue) (i : ℕ) (block : BlockValue) (old mid new : Image) → i < length blocks → block ≡ get_or blocks i block
    → IsLaid (byte_at (take i blocks)) old mid → IsLaid (byte_in block) mid new → IsLaid (byte_at (take (i + 1) blocks)) old new
IsLaid-block blocks i block old mid new l is before_it laid =
    IsLaid-then (byte_at (take i blocks)) (byte_in block) (byte_at (take (i + 1) blocks)) old mid new
    (λ q. ap (λ bs. byte_at bs q) (take_more blocks i block l) ∙ ap (λ b. byte_at (take i blocks ++ b ∷ []) q) (sym is) ∙ byte_at-append (take i blocks) (block ∷ []) q)
    before_it laid
