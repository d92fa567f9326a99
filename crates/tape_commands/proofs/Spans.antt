-- The lowest and the highest address of an image, found by one look at each.
use Rattle.std.proofs.Common.{◌≡◌, ℕ, ◌+◌, ◌<◌, ◌≤◌, false, Option, Some, None, arith, inl, inr, refl, sym, subst}
use Rattle.std.proofs.lemmas.Bool.{cases_lt}
use Rattle.std.specs.Prelude.{IsSome, IfSome, is_some}
use Rattle.std.specs.Option.{option_map_or}
use Rattle.std.specs.FinMap.{get}
use Rattle.tape_values.specs.Block.{top}
use Rattle.tape_image.specs.Image.{Image}
use Rattle.tape_commands.specs.BlockList.{IsSpan}

-- the same of the addresses below another
abbrev pub IsSpanBelow : ℕ → Image → Option (ℕ × ℕ) → Type 0
IsSpanBelow n image None = (a : ℕ) → a < n → get image a ≡ None
IsSpanBelow n image (Some span) =
    (span.0 < n) × IsSome (get image span.0) × IsSome (get image span.1) × ((a : ℕ) → a < n → IsSome (get image a) → (span.0 ≤ a) × (a ≤ span.1))

there_not : (o : Option ℕ) → o ≡ None → IsSome o → ⊥
there_not None e h = absurd (cc h)
there_not (Some x) e h = absurd (cc e)

none_there : (o : Option ℕ) → is_some o ≡ false → o ≡ None
none_there None h = refl
none_there (Some x) h = absurd (cc h)

-- an address with a byte
pub span_more : (n : ℕ) (image : Image) (span : Option (ℕ × ℕ)) (new : ℕ × ℕ) → IsSpanBelow n image span → IsSome (get image n)
    → new.0 ≡ option_map_or (λ s. s.0) span n → new.1 ≡ n → IsSpanBelow (n + 1) image (Some new)
span_more n image None new none there low high = (
  omega arith,
  subst (λ a. IsSome (get image a)) (sym low) there,
  subst (λ a. IsSome (get image a)) (sym high) there,
  λ a below is. elim (cases_lt a n) [
    | inl before ↦ absurd (there_not (get image a) (none a before) is)
    | inr behind ↦ (omega arith, omega arith)
  ],
)
span_more n image (Some span) new so there low high =
    let f : span.0 < n = so.0 in (
      omega arith,
      subst (λ a. IsSome (get image a)) (sym low) so.1,
      subst (λ a. IsSome (get image a)) (sym high) there,
      λ a below is. elim (cases_lt a n) [
        | inl before ↦ let w = so.3 a before is in let u : span.0 ≤ a = w.0 in (omega arith, omega arith)
        | inr behind ↦ (omega arith, omega arith)
      ],
    )

-- one without
pub span_same : (n : ℕ) (image : Image) (span : Option (ℕ × ℕ)) → IsSpanBelow n image span → get image n ≡ None → IsSpanBelow (n + 1) image span
span_same n image None none away = λ a below. elim (cases_lt a n) [
  | inl before ↦ none a before
  | inr behind ↦ let e : n ≡ a = omega arith in subst (λ b. get image b ≡ None) e away
]
span_same n image (Some span) so away =
    let f : span.0 < n = so.0 in (
      omega arith,
      so.1,
      so.2,
      λ a below is. elim (cases_lt a n) [
        | inl before ↦ so.3 a before is
        | inr behind ↦ let e : a ≡ n = omega arith in absurd (there_not (get image a) (subst (λ b. get image b ≡ None) (sym e) away) is)
      ],
    )

within_top : (o : Option ℕ) (a : ℕ) → IfSome o (λ _. a < top) → IsSome o → a < top
within_top None a h is = absurd (cc is)
within_top (Some x) a h is = h

nowhere : (o : Option ℕ) (a : ℕ) → IfSome o (λ _. a < top) → top ≤ a → o ≡ None
nowhere None a h over = refl
nowhere (Some x) a h over = let h2 : a < top = h in absurd (omega arith)

-- at the end
pub span_whole : (n : ℕ) (image : Image) (span : Option (ℕ × ℕ)) → ((a : ℕ) → IfSome (get image a) (λ _. a < top)) → top ≤ n → IsSpanBelow n image span → IsSpan image span
span_whole n image None within all none = λ a. elim (cases_lt a n) [
  | inl before ↦ none a before
  | inr behind ↦ nowhere (get image a) a (within a) (omega arith)
]
span_whole n image (Some span) within all so =
    (so.1, so.2, λ a is. let low : a < top = within_top (get image a) a (within a) is in so.3 a (omega arith) is)
