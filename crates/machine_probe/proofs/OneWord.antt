-- The plan of one word.
use Rattle.std.proofs.Common.{◌≡◌, ℕ, zero, suc, ◌+◌, ◌-◌, ◌/◌, ◌%◌, ◌<◌, Bool, true, false, cond, eqb, leb, List, [], ◌∷◌, Option, Some, None, inr, refl, arith, ap, sym, subst, ◌∙◌}
use Rattle.std.specs.Prelude.{◌==◌, ◌&&◌, slice_get, IfOk, Result, Ok, Err}
use Rattle.std.proofs.lemmas.Bool.{eq-eqb, ne_eqb, lt-leb, le-leb, leb-true, leb-false}
use Rattle.std.proofs.lemmas.List.Elements.{All-nil, All-cons}
use Rattle.std.specs.declared.alloc.AllocError.{AllocError}
use Rattle.tape_values.specs.Block.{block_at}
use Rattle.tape_values.specs.Tape.{TapeValue}
use Rattle.tape_image.specs.Image.{Image, IsImageOf, byte_in}
use Rattle.tape_image.specs.Memory.{half}
use Rattle.tape_image.specs.Word.{IsWord, covers, whole_word}
use Rattle.tape_image.specs.Plan.{AreWordsOf, AreTheWordsOf, PlanValue, given_byte, plan_of, program_start}
use Rattle.reading_core.specs.Addresses.{IsAddress}
use Rattle.machine_probe.specs.PuttingBack.{IsPlanOfWord}

-- ---- its bytes

abbrev two_bytes : ℕ → List ℕ
two_bytes old = old % 256 ∷ old / 256 ∷ []

-- ---- its image

-- the mask of the word covers each of its bytes
covers_both : (b : ℕ) → covers b 65535 ≡ true
covers_both b = elim (b % 2 == 0) as (λ t. (cond t (65535 % 256) (65535 / 256) == 255) ≡ true) [ true ↦ refl | false ↦ refl ]

-- what the word gives for a byte
given : (address old b : ℕ) (t : Bool) → eqb (address / 2) (b / 2) ≡ t → given_byte (whole_word address old ∷ []) b ≡ cond t (Some (half b old)) None
given address old b t e =
    ap (λ s. cond {A = Option ℕ} (s && covers b 65535) (Some (half b old)) None) e
    ∙ ap (λ c. cond {A = Option ℕ} (t && c) (Some (half b old)) None) (covers_both b)
    ∙ elim t as (λ u. cond {A = Option ℕ} (u && true) (Some (half b old)) None ≡ cond u (Some (half b old)) None) [ true ↦ refl | false ↦ refl ]

-- what the block has at a place behind its address
has : (address old b d : ℕ) → b ≡ address + d → byte_in (block_at address (two_bytes old)) b ≡ slice_get (two_bytes old) d
has address old b d is =
    ap (λ t. cond {A = Option ℕ} t (slice_get (two_bytes old) (b - address)) None) (le-leb address b (omega arith))
    ∙ (let place : b - address ≡ d = omega arith in ap (slice_get (two_bytes old)) place)

behind : (address old b d : ℕ) → address % 2 ≡ 0 → b ≡ address + d → given_byte (whole_word address old ∷ []) b ≡ byte_in (block_at address (two_bytes old)) b
behind address old b zero even is =
    given address old b true (eq-eqb (address / 2) (b / 2) (omega arith))
    ∙ ap (λ t. Some (cond t (old % 256) (old / 256))) (eq-eqb (b % 2) 0 (omega arith))
    ∙ sym (has address old b zero is)
behind address old b (suc zero) even is =
    given address old b true (eq-eqb (address / 2) (b / 2) (omega arith))
    ∙ ap (λ t. Some (cond t (old % 256) (old / 256))) (ne_eqb (b % 2) 0 (λ e. omega arith))
    ∙ sym (has address old b (suc zero) is)
behind address old b (suc (suc d)) even is =
    given address old b false (ne_eqb (address / 2) (b / 2) (λ e. omega arith))
    ∙ sym (has address old b (suc (suc d)) is)

before : (address old b : ℕ) → address % 2 ≡ 0 → b < address → given_byte (whole_word address old ∷ []) b ≡ byte_in (block_at address (two_bytes old)) b
before address old b even below =
    given address old b false (ne_eqb (address / 2) (b / 2) (λ e. omega arith))
    ∙ sym (ap (λ t. cond {A = Option ℕ} t (slice_get (two_bytes old) (b - address)) None) (lt-leb address b below))

same_byte : (address old b : ℕ) → address % 2 ≡ 0 → given_byte (whole_word address old ∷ []) b ≡ byte_in (block_at address (two_bytes old)) b
same_byte address old b even =
    elim (leb address b) as (λ t. leb address b ≡ t → given_byte (whole_word address old ∷ []) b ≡ byte_in (block_at address (two_bytes old)) b) [
      | true ↦ λ e. let from = leb-true address b e in behind address old b (b - address) even (omega arith)
      | false ↦ λ e. before address old b even (leb-false address b e)
    ] refl

-- ---- its words

is_whole_word : (address old : ℕ) → IsAddress address → old < 65536 → IsWord (whole_word address old)
is_whole_word address old is fits = record {
  even = is.even;
  below = is.below;
  inside = record { one_mask = inr (inr refl); low = λ e. absurd (cc); high = λ e. absurd (cc) };
  fits = fits;
}

one_word : (address old : ℕ) (image : Image) → IsAddress address → old < 65536 → IsImageOf (block_at address (two_bytes old) ∷ []) image → AreWordsOf image (whole_word address old ∷ [])
one_word address old image is fits of = record {
  each = All-cons IsWord (whole_word address old) [] (is_whole_word address old is fits) (All-nil IsWord);
  rising = λ i j d less below. absurd (omega arith);
  bytes = λ b. same_byte address old b is.even ∙ sym (of b);
}

plan_of_word : (address old : ℕ) (plan : PlanValue) → IsAddress address → old < 65536 → IsImageOf (block_at address (two_bytes old) ∷ []) plan.image → AreTheWordsOf plan.image plan.words →
    plan.start ≡ None → IsPlanOfWord address old plan
plan_of_word address old plan is fits image words start = record {
  words = sym ((words (whole_word address old ∷ [])).0 (one_word address old plan.image is fits image));
  no_start = start;
}

-- the plan of the tape that has this word alone
pub plan_made : (address old : ℕ) (tape : TapeValue) (made : Result PlanValue AllocError) → IsAddress address → old < 65536 → tape ≡ record { blocks = block_at address (two_bytes old) ∷ []; start = 1 } →
    IfOk made (λ plan. plan ≡ plan_of tape) → IfOk made (λ plan. IsImageOf tape.blocks plan.image) → IfOk made (λ plan. AreTheWordsOf plan.image plan.words) → IfOk made (IsPlanOfWord address old)
plan_made address old tape (Err memory) is fits tape_is made image words = tt
plan_made address old tape (Ok plan) is fits tape_is made image words =
    plan_of_word address old plan is fits (subst (λ blocks. IsImageOf blocks plan.image) (ap (λ (t : TapeValue). t.blocks) tape_is) image) words
    (ap (λ (p : PlanValue). p.start) made ∙ ap (λ (t : TapeValue). program_start t.start) tape_is)
