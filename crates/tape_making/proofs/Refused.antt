-- Blocks that a tape may have are not refused.
use Rattle.std.proofs.Common.{◌≡◌, ℕ, zero, suc, ◌+◌, ◌<◌, ◌≤◌, List, [], ◌∷◌, length, Result, Ok, Err, IfErr, IsOk, IsSomeAnd, refl, arith}
use Rattle.std.specs.Prelude.{All, slice_get}
use Rattle.std.proofs.lemmas.List.Elements.{All-head, All-tail}
use Rattle.tape_values.specs.Block.{BlockValue, IsBlock, top}
use Rattle.tape_values.specs.BadTape.{IsBadTape}
use Rattle.tape_values.specs.Tape.{written_length, tape_limit}
use Rattle.tape_values.specs.declared.tape.BadTape.{BadTape}
use Rattle.tape_values.specs.declared.tape.BadTape.TheVariants.{EmptyBlock, BlockPastTop, TooMuch}

not_at : (P Q : BlockValue → Type 0) (blocks : List BlockValue) (n : ℕ) → All P blocks → IsSomeAnd (slice_get blocks n) Q → ((b : BlockValue) → P b → Q b → ⊥) → ⊥
not_at P Q [] n all h never = absurd h
not_at P Q (b ∷ blocks) zero all h never = never b (All-head P b blocks all) h
not_at P Q (b ∷ blocks) (suc n) all h never = not_at P Q blocks n (All-tail P b blocks all) h never

not_bad : (blocks : List BlockValue) (bad : BadTape) → All IsBlock blocks → written_length blocks ≤ tape_limit → IsBadTape blocks bad → ⊥
not_bad blocks (EmptyBlock n) good few h = not_at IsBlock (λ b. length b.bytes ≡ 0) blocks n good h.1 (λ b is empty. omega (arith, is.not_empty, empty))
not_bad blocks (BlockPastTop n) good few h =
    not_at IsBlock (λ b. (0 < length b.bytes) × (top < b.address + length b.bytes)) blocks n good h.1 (λ b is past. omega (arith, is.below_top, past.1))
not_bad blocks TooMuch good few h = omega (arith, h.1)

pub never_refused : {T : Type 0} {X : Type 0} (r : Result T (X × BadTape)) (blocks : List BlockValue) → All IsBlock blocks → written_length blocks ≤ tape_limit
    → IfErr r (λ e. IsBadTape blocks e.1) → IsOk r
never_refused (Ok tape) blocks good few h = refl
never_refused (Err e) blocks good few h = absurd (not_bad blocks e.1 good few h)
