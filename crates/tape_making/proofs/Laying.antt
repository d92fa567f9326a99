-- Rows laid on a sheet, byte by byte.
use Rattle.std.proofs.Common.{◌≡◌, ℕ, ◌+◌, ◌-◌, ◌<◌, ◌≤◌, List, [], ◌∷◌, ◌++◌, length, take, get_or, set, arith, ap, sym, ◌∙◌, inl, inr, Option, Some, None, length-take-le}
use Rattle.std.specs.Option.{option_or}
use Rattle.std.proofs.lemmas.Bool.{cases_eq, cases_lt}
use Rattle.std.proofs.lemmas.Grind.{get_or-set_at}
use Rattle.std.proofs.lemmas.List.{take_more, take_all, get_or-set_other}
use Rattle.tape_values.specs.Block.{BlockValue, block_at}
use Rattle.tape_image.specs.Image.{byte_in, byte_at}
use Rattle.tape_image.proofs.Blocks.{byte_in-before, byte_in-inside, byte_in-behind}
use Rattle.tape_image.proofs.Laying.{byte_at-append, byte_in-append}

own_byte : (p x a : ℕ) → a ≡ p → byte_in (block_at p (x ∷ [])) a ≡ Some x
own_byte p x a here = byte_in-inside p (x ∷ []) a (omega arith) (omega arith) ∙ (let first : a - p ≡ 0 = omega arith in ap (λ i. Some (get_or (x ∷ []) i 0)) first)

other_byte : (p x a : ℕ) → (a ≡ p → ⊥) → byte_in (block_at p (x ∷ [])) a ≡ None
other_byte p x a apart = elim (cases_lt a p) [ inl below ↦ byte_in-before p (x ∷ []) a below | inr above ↦ byte_in-behind p (x ∷ []) a (omega arith) ]

pub laid_more : (first i : ℕ) (items : List ℕ) (old mid : List (Option ℕ)) → i < length items → first + i < length mid
    → ((a : ℕ) → get_or mid a None ≡ option_or (byte_in (block_at first (take i items)) a) (get_or old a None))
    → (a : ℕ) → get_or (set mid (first + i) (Some (get_or items i 0))) a None ≡ option_or (byte_in (block_at first (take (i + 1) items)) a) (get_or old a None)
laid_more first i items old mid within room laid a =
    let x : ℕ = get_or items i 0 in
    let rest : Option ℕ = byte_in (block_at first (take i items)) a in
    let next : byte_in (block_at first (take (i + 1) items)) a ≡ option_or (byte_in (block_at (first + i) (x ∷ [])) a) rest =
    ap (λ bytes. byte_in (block_at first bytes) a) (take_more items i 0 within)
    ∙ (byte_in-append first (take i items) (x ∷ []) a
    ∙ ap (λ n. option_or (byte_in (block_at (first + n) (x ∷ [])) a) rest) (length-take-le i items (omega arith))) in
    elim (cases_eq a (first + i)) [
      | inl here ↦
          get_or-set_at mid (first + i) a (Some x) None here room
          ∙ ap (λ o. option_or o (get_or old a None)) (sym (next ∙ ap (λ o. option_or o rest) (own_byte (first + i) x a here)))
      | inr apart ↦
          get_or-set_other mid (first + i) a (Some x) None apart
          ∙ (laid a ∙ ap (λ o. option_or o (get_or old a None)) (sym (next ∙ ap (λ o. option_or o rest) (other_byte (first + i) x a apart))))
    ]

pub rows_more : (rows : List BlockValue) (row : BlockValue) (first n : ℕ) (items : List ℕ) (old new : List (Option ℕ))
    → ((a : ℕ) → get_or new a None ≡ option_or (byte_in (block_at first (take n items)) a) (get_or old a None))
    → block_at first items ≡ row → length items ≤ n → ((a : ℕ) → get_or old a None ≡ byte_at rows a)
    → (a : ℕ) → get_or new a None ≡ byte_at (rows ++ row ∷ []) a
rows_more rows row first n items old new laid is all holds a =
    laid a
    ∙ (ap (λ bytes. option_or (byte_in (block_at first bytes) a) (get_or old a None)) (take_all n items all)
    ∙ (ap (λ (b : BlockValue). option_or (byte_in b a) (get_or old a None)) is
    ∙ (ap (option_or (byte_in row a)) (holds a) ∙ sym (byte_at-append rows (row ∷ []) a))))
