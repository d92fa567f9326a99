-- A table of pages.
use Rattle.std.proofs.Common.{◌≡◌, ◌≢◌, ℕ, zero, suc, ◌+◌, ◌*◌, ◌/◌, ◌%◌, ◌<◌, ◌≤◌, List, [], ◌∷◌, length, get_or, set, replicate, Option, Some, None, refl, arith, ap, sym, ◌∙◌, inl, inr, length-set}
use Rattle.std.specs.Prelude.{slice_get}
use Rattle.std.specs.Option.{option_or}
use Rattle.std.specs.Global.{Box}
use Rattle.std.specs.FinMap.{get, empty}
use Rattle.std.proofs.lemmas.Bool.{cases_lt, cases_eq}
use Rattle.std.proofs.lemmas.List.{get_or-replicate, length-replicate, get_or-set_same, set-set}
use Rattle.std.proofs.lemmas.Option.{slice_get-get_or, slice_get_past, slice_get_read}
use Rattle.tape_values.specs.Block.{block_at}
use Rattle.tape_image.specs.Image.{Image, image_below, byte_in}
use Rattle.tape_image.specs.Pages.{byte_in_page, byte_in_table, IsLaid}
use Rattle.tape_image.proofs.Images.{get-image_below_all, image_below-none}
use Rattle.tape_image.proofs.Blocks.{byte_in-before, byte_in-behind}
use Rattle.tape_image.proofs.Laying.{byte_in-moved}

-- a table answers with its pages' bytes
get-table : (table : List (Option (Box Image))) (a : ℕ) → length table ≡ 112 → get (image_below (byte_in_table table) 57344) a ≡ byte_in_table table a
get-table table a size =
    get-image_below_all (byte_in_table table) 57344 a (λ above. ap (λ o. byte_in_page o (a % 512)) (slice_get_past table (a / 512) (omega arith)))

-- a table of no pages answers nothing
no_page : (n i r : ℕ) → byte_in_page (slice_get (replicate {A = Option (Box Image)} n None) i) r ≡ None
no_page n i r = elim (cases_lt i n) [
  | inl l ↦ ap (λ o. byte_in_page o r) (slice_get-get_or (replicate n None) i None (omega (arith, length-replicate {A = Option (Box Image)} n None)) ∙ ap (λ p. Some p) (get_or-replicate n i None None l))
  | inr m ↦ ap (λ o. byte_in_page o r) (slice_get_past (replicate n None) i (omega (arith, length-replicate {A = Option (Box Image)} n None)))
]

pub table-replicate : (n m : ℕ) → image_below (byte_in_table (replicate n None)) m ≡ empty
table-replicate n m = image_below-none (byte_in_table (replicate n None)) m (λ a. no_page n (a / 512) (a % 512))

-- a table with another page at one number
slice_get-set_same : (table : List (Option (Box Image))) (n : ℕ) (page : Option (Box Image)) → n < length table → slice_get (set table n page) n ≡ Some page
slice_get-set_same table n page l = slice_get-get_or (set table n page) n None (omega (arith, length-set table n page)) ∙ ap (λ p. Some p) (get_or-set_same table n page None l)

slice_get-set_other : (table : List (Option (Box Image))) (n i : ℕ) (page : Option (Box Image)) → i ≢ n → slice_get (set table n page) i ≡ slice_get table i
slice_get-set_other [] n i page apart = refl
slice_get-set_other (x ∷ table) zero zero page apart = absurd (apart refl)
slice_get-set_other (x ∷ table) zero (suc i) page apart = refl
slice_get-set_other (x ∷ table) (suc n) zero page apart = refl
slice_get-set_other (x ∷ table) (suc n) (suc i) page apart = slice_get-set_other table n i page (λ e. apart (ap suc e))

-- a run that is laid over one page is laid over the table
byte_in_table-page : (table : List (Option (Box Image))) (n o : ℕ) (run : List ℕ) (page : Box Image) (was : Image) → n < length table → o + length run ≤ 512
    → ((r : ℕ) → get was r ≡ byte_in_page (slice_get table n) r) → IsLaid (byte_in (block_at o run)) was page.value
    → (a : ℕ) → byte_in_table (set table n (Some page)) a ≡ option_or (byte_in (block_at (512 * n + o) run) a) (byte_in_table table a)
byte_in_table-page table n o run page was l within same laid a =
    elim (cases_eq (a / 512) n) [
      | inl here ↦
          let place : 512 * n + a % 512 ≡ a = omega arith in
          ap (λ i. byte_in_page (slice_get (set table n (Some page)) i) (a % 512)) here
          ∙ ap (λ p. byte_in_page p (a % 512)) (slice_get-set_same table n (Some page) l)
          ∙ laid (a % 512)
          ∙ ap (option_or (byte_in (block_at o run) (a % 512))) (same (a % 512) ∙ ap (λ i. byte_in_page (slice_get table i) (a % 512)) (sym here))
          ∙ ap (λ p. option_or p (byte_in_table table a)) (sym (byte_in-moved (512 * n) o run (a % 512)) ∙ ap (byte_in (block_at (512 * n + o) run)) place)
      | inr apart ↦
          ap (λ p. byte_in_page p (a % 512)) (slice_get-set_other table n (a / 512) (Some page) apart)
          ∙ ap (λ p. option_or p (byte_in_table table a)) (sym (elim (cases_lt a (512 * n + o)) [
            | inl below ↦ byte_in-before (512 * n + o) run a below
            | inr above ↦ byte_in-behind (512 * n + o) run a (omega arith)
          ]))
    ]

pub IsLaid-table : (table : List (Option (Box Image))) (n o : ℕ) (run : List ℕ) (slot gap : Option (Box Image)) (page : Box Image) (was old : Image)
    → n < 112 → o + length run ≤ 512 → length table ≡ 112 → image_below (byte_in_table table) 57344 ≡ old → slot ≡ get_or table n slot
    → ((r : ℕ) → get was r ≡ byte_in_page (Some slot) r) → IsLaid (byte_in (block_at o run)) was page.value
    → IsLaid (byte_in (block_at (512 * n + o) run)) old (image_below (byte_in_table (set (set table n gap) n (Some page))) 57344)
IsLaid-table table n o run slot gap page was old l within size is found same laid a =
    let there : slice_get table n ≡ Some slot = slice_get_read table 112 n slot (sym size) l found in
    get-table (set (set table n gap) n (Some page)) a (length-set (set table n gap) n (Some page) ∙ length-set table n gap ∙ size)
    ∙ ap (λ t. byte_in_table t a) (set-set table n gap (Some page))
    ∙ byte_in_table-page table n o run page was (omega arith) within (λ r. same r ∙ ap (λ p. byte_in_page p r) (sym there)) laid a
    ∙ ap (option_or (byte_in (block_at (512 * n + o) run) a)) (sym (get-table table a size) ∙ ap (λ (image : Image). get image a) is)

-- what pages answer at an address, by what their table has for it
pub get-slot : (items table : List (Option (Box Image))) (slot : Option (Box Image)) (image : Image) (a : ℕ) → table ≡ items → length items ≡ 112
    → image_below (byte_in_table items) 57344 ≡ image → a / 512 < length table → slot ≡ get_or table (a / 512) slot → get image a ≡ byte_in_page (Some slot) (a % 512)
get-slot items table slot image a same size is l found =
    ap (λ m. get m a) (sym is) ∙ get-table items a size
    ∙ ap (λ t. byte_in_table t a) (sym same) ∙ ap (λ p. byte_in_page p (a % 512)) (slice_get_read table (length table) (a / 512) slot refl l found)

pub get-no_slot : (items table : List (Option (Box Image))) (image : Image) (a : ℕ) → table ≡ items → length items ≡ 112
    → image_below (byte_in_table items) 57344 ≡ image → length table ≤ a / 512 → get image a ≡ None
get-no_slot items table image a same size is l =
    ap (λ m. get m a) (sym is) ∙ get-table items a size
    ∙ ap (λ t. byte_in_table t a) (sym same) ∙ ap (λ p. byte_in_page p (a % 512)) (slice_get_past table (a / 512) l)

-- and at an offset of a page
pub get-offset : (items table : List (Option (Box Image))) (slot : Option (Box Image)) (image : Image) (n o : ℕ) → table ≡ items → length items ≡ 112
    → image_below (byte_in_table items) 57344 ≡ image → n < length table → slot ≡ get_or table n slot → o < 512 → get image (512 * n + o) ≡ byte_in_page (Some slot) o
get-offset items table slot image n o same size is l found within =
    let page : (512 * n + o) / 512 ≡ n = omega arith in
    let offset : (512 * n + o) % 512 ≡ o = omega arith in
    get-slot items table slot image (512 * n + o) same size is (omega arith) (found ∙ ap (λ i. get_or table i slot) (sym page))
    ∙ ap (byte_in_page (Some slot)) offset
