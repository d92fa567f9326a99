-- The blocks of the bytes below an address.
use Rattle.std.proofs.Common.{◌≡◌, ◌⊎◌, ℕ, ◌+◌, ◌-◌, ◌*◌, ◌<◌, ◌≤◌, List, [], ◌∷◌, ◌++◌, length, get_or, arith, ap, sym, refl, ◌∙◌, subst, inl, inr, Option, None}
use Rattle.std.specs.Prelude.{All, AllPairs, IsSome, sum_by}
use Rattle.std.specs.Option.{option_or}
use Rattle.std.proofs.lemmas.Bool.{cases_lt}
use Rattle.std.proofs.lemmas.List.Elements.{All-nil, All-push, All-weaker, All-get_or}
use Rattle.std.proofs.lemmas.List.Quantifiers.{all_pairs_push}
use Rattle.std.proofs.lemmas.List.Sums.{sum_by_push}
use Rattle.tape_values.specs.Block.{BlockValue, IsBlock, block_at, top}
use Rattle.tape_values.specs.Tape.{written_length, tape_limit}
use Rattle.tape_image.specs.Image.{byte_at}
use Rattle.tape_image.proofs.Blocks.{byte_in-before, byte_in-inside, byte_in-behind}
use Rattle.tape_image.proofs.Laying.{byte_at-append}
use Rattle.tape_making.specs.MadeTape.{IsNextByte, IsRun, IsShort, IsBefore, byte_on}

-- a block and its frame
abbrev pub framed_length : BlockValue → ℕ
framed_length b = 7 + length b.bytes

-- the block ends below an address, or right there if it is full or no byte is there
abbrev pub IsClosed : List (Option ℕ) → ℕ → BlockValue → Type 0
IsClosed bytes at b = (b.address + length b.bytes < at) ⊎ ((b.address + length b.bytes ≡ at) × ((length b.bytes ≡ 512) ⊎ (byte_on bytes at ≡ None)))

-- the blocks have the bytes below an address, and no others
pub record IsGathered (bytes : List (Option ℕ)) (at : ℕ) (blocks : List BlockValue) : Type 0 where
  pub within : at ≤ length bytes
  pub below : (a : ℕ) → a < at → byte_at blocks a ≡ byte_on bytes a
  pub above : (a : ℕ) → at ≤ a → byte_at blocks a ≡ None
  pub each : All IsBlock blocks
  pub short : All IsShort blocks
  pub closed : All (IsClosed bytes at) blocks
  pub rising : AllPairs IsBefore blocks
  pub size : sum_by framed_length blocks ≤ 8 * at

gathered_nothing : (bytes : List (Option ℕ)) → IsGathered bytes 0 []
gathered_nothing bytes = record {
  within = omega arith;
  below = λ a low. absurd (omega arith);
  above = λ a high. refl;
  each = All-nil IsBlock;
  short = All-nil IsShort;
  closed = All-nil (IsClosed bytes 0);
  rising = λ i j d before low. absurd (omega (arith, low));
  size = omega arith;
}

pub gathered_none : (bytes : List (Option ℕ)) (blocks : List BlockValue) → blocks ≡ [] → IsGathered bytes 0 blocks
gathered_none bytes blocks none = subst (IsGathered bytes 0) (sym none) (gathered_nothing bytes)

-- where there is a byte, a run has one
run_some : (bytes : List (Option ℕ)) (from first : ℕ) (run : List ℕ) → IsNextByte bytes from first → IsRun bytes first run → 0 < length run
run_some bytes from first run next so = elim (cases_lt 0 (length run)) [
  | inl some ↦ some
  | inr none ↦
      let here : first + length run ≡ first = omega arith in
      let missing : byte_on bytes first ≡ None = ap (byte_on bytes) (sym here) ∙ so.ends (omega arith) in
      absurd (let there : IsSome {T = ℕ} None = subst (λ (o : Option ℕ). IsSome o) missing next.there in cc)
]

-- a closed block stands before the next one
closed_before : (bytes : List (Option ℕ)) (at first : ℕ) (run : List ℕ) (b : BlockValue) → IsNextByte bytes at first → IsClosed bytes at b → IsBefore b (block_at first run)
closed_before bytes at first run b next (inl gap) = inl (omega (arith, next.behind))
closed_before bytes at first run b next (inr (ends, inl full)) = elim (cases_lt at first) [
  | inl apart ↦ inl (omega arith)
  | inr here ↦ inr (omega (arith, next.behind), full)
]
closed_before bytes at first run b next (inr (ends, inr none)) = elim (cases_lt at first) [
  | inl apart ↦ inl (omega arith)
  | inr here ↦
      let same : at ≡ first = omega (arith, next.behind) in
      let missing : byte_on bytes first ≡ None = ap (byte_on bytes) (sym same) ∙ none in
      absurd (let there : IsSome {T = ℕ} None = subst (λ (o : Option ℕ). IsSome o) missing next.there in cc)
]

-- and stays closed
closed_still : (bytes : List (Option ℕ)) (at then : ℕ) (b : BlockValue) → at < then → IsClosed bytes at b → IsClosed bytes then b
closed_still bytes at then b more (inl gap) = inl (omega arith)
closed_still bytes at then b more (inr ends) = inl (let here = ends.0 in omega arith)

closed_new : (bytes : List (Option ℕ)) (first : ℕ) (run : List ℕ) → IsRun bytes first run → IsClosed bytes (first + length run) (block_at first run)
closed_new bytes first run so = inr (refl, elim (cases_lt (length run) 512) [ inl few ↦ inr (so.ends few) | inr full ↦ inl (omega (arith, so.short)) ])

-- ---- the bytes

below_more : (bytes : List (Option ℕ)) (at first : ℕ) (run : List ℕ) (blocks : List BlockValue) → IsGathered bytes at blocks → IsNextByte bytes at first → IsRun bytes first run
    → (a : ℕ) → a < first + length run → byte_at (blocks ++ block_at first run ∷ []) a ≡ byte_on bytes a
below_more bytes at first run blocks so next is a low =
    byte_at-append blocks (block_at first run ∷ []) a
    ∙ elim (cases_lt a first) [
      | inl before ↦
          ap (λ o. option_or o (byte_at blocks a)) (byte_in-before first run a before)
          ∙ elim (cases_lt a at) [ inl old ↦ so.below a old | inr between ↦ so.above a between ∙ sym (next.before a between before) ]
      | inr inside ↦
          let place : first + (a - first) ≡ a = omega arith in
          ap (λ o. option_or o (byte_at blocks a)) (byte_in-inside first run a inside low) ∙ (sym (is.each (a - first) (omega arith)) ∙ ap (byte_on bytes) place)
    ]

above_more : (bytes : List (Option ℕ)) (at first : ℕ) (run : List ℕ) (blocks : List BlockValue) → IsGathered bytes at blocks → IsNextByte bytes at first
    → (a : ℕ) → first + length run ≤ a → byte_at (blocks ++ block_at first run ∷ []) a ≡ None
above_more bytes at first run blocks so next a high =
    byte_at-append blocks (block_at first run ∷ []) a
    ∙ (ap (λ o. option_or o (byte_at blocks a)) (byte_in-behind first run a high) ∙ so.above a (omega (arith, next.behind)))

pub gathered_more : (bytes : List (Option ℕ)) (at first : ℕ) (run : List ℕ) (blocks : List BlockValue) → length bytes ≤ top → IsGathered bytes at blocks → IsNextByte bytes at first → IsRun bytes first run
    → IsGathered bytes (first + length run) (blocks ++ block_at first run ∷ [])
gathered_more bytes at first run blocks few so next is =
    let block : BlockValue = block_at first run in
    let some : 0 < length run = run_some bytes at first run next is in
    let further : at < first + length run = omega (arith, next.behind) in
    record {
      within = is.within;
      below = below_more bytes at first run blocks so next is;
      above = above_more bytes at first run blocks so next;
      each = All-push IsBlock blocks block so.each (record { not_empty = some; below_top = omega (arith, is.within) });
      short = All-push IsShort blocks block so.short is.short;
      closed = All-push (IsClosed bytes (first + length run)) blocks block
          (All-weaker (IsClosed bytes at) (IsClosed bytes (first + length run)) (λ b closed. closed_still bytes at (first + length run) b further closed) blocks so.closed)
          (closed_new bytes first run is);
      rising = all_pairs_push IsBefore blocks block so.rising (λ k d low. closed_before bytes at first run (get_or blocks k d) next (All-get_or (IsClosed bytes at) blocks k d low so.closed));
      size = omega (arith, sum_by_push framed_length blocks block, so.size, next.behind);
    }

-- every byte, once no other follows
pub all_bytes : (bytes : List (Option ℕ)) (at : ℕ) (blocks : List BlockValue) → IsGathered bytes at blocks → ((a : ℕ) → at ≤ a → byte_on bytes a ≡ None) → (a : ℕ) → byte_at blocks a ≡ byte_on bytes a
all_bytes bytes at blocks so none a = elim (cases_lt a at) [ inl low ↦ so.below a low | inr high ↦ so.above a high ∙ sym (none a high) ]

pub few_enough : (bytes : List (Option ℕ)) (at : ℕ) (blocks : List BlockValue) → length bytes ≤ top → IsGathered bytes at blocks → written_length blocks ≤ tape_limit
few_enough bytes at blocks few so = omega (arith, so.size, so.within)
