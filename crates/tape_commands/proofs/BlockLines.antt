-- The lines of one more block, and of one more tape.
use Rattle.std.proofs.Common.{◌≡◌, ◌<◌, ℕ, zero, suc, ◌+◌, List, [], ◌∷◌, ◌++◌, Bool, Option, Some, None, length, take, get_or, arith, refl, sym, ap, ◌∙◌, append_assoc, append-nil}
use Rattle.std.specs.Prelude.{◌-◌, codes, decimal, slice_get}
use Rattle.tape_values.specs.Block.{BlockValue}
use Rattle.tape_values.specs.Tape.{TapeValue}
use Rattle.tape_blocks.specs.declared.layout.Layout.{Layout}
use Rattle.byte_io.specs.Text.{line}
use Rattle.tape_commands.specs.BlockList.{addresses_text, block_lines, extent_text, heading, place_text, tape_lines}

-- the line of a block
abbrev pub block_line : ℕ → ℕ → BlockValue → List ℕ
block_line n place b = line (place_text n place ++ extent_text b)

some_is : (p q : ℕ) → ◌≡◌ {A = Option ℕ} (Some p) (Some q) → p ≡ q
some_is p q e = cc e

pub lines_more : (n : ℕ) (blocks : List BlockValue) (places : List ℕ) (i : ℕ) (b : BlockValue) (p : ℕ) → i < length blocks → b ≡ get_or blocks i b
    → slice_get places i ≡ Some p → block_lines n (take (suc i) blocks) places ≡ block_lines n (take i blocks) places ++ block_line (n + i) p b
lines_more n [] places i b p within is at = absurd (omega arith)
lines_more n (x ∷ xs) [] i b p within is at = absurd (cc at)
lines_more n (x ∷ xs) (q ∷ qs) zero b p within is at =
    append-nil (block_line n q x) ∙ ap (λ k. block_line n k x) (some_is q p at) ∙ ap (λ v. block_line n p v) (sym is)
    ∙ ap (λ m. block_line m p b) (let e : n ≡ n + 0 = omega arith in e)
lines_more n (x ∷ xs) (q ∷ qs) (suc i) b p within is at =
    ap (λ t. block_line n q x ++ t) (lines_more (n + 1) xs qs i b p (omega arith) is at)
    ∙ ap (λ m. block_line n q x ++ (block_lines (n + 1) (take i xs) qs ++ block_line m p b)) (let e : n + 1 + i ≡ n + suc i = omega arith in e)
    ∙ sym (append_assoc (block_line n q x) (block_lines (n + 1) (take i xs) qs) (block_line (n + suc i) p b))

pub lines_same : (n : ℕ) (blocks : List BlockValue) (places : List ℕ) (i : ℕ) → slice_get places i ≡ None
    → block_lines n (take (suc i) blocks) places ≡ block_lines n (take i blocks) places
lines_same n [] places zero at = refl
lines_same n [] places (suc i) at = refl
lines_same n (x ∷ xs) [] zero at = refl
lines_same n (x ∷ xs) [] (suc i) at = refl
lines_same n (x ∷ xs) (q ∷ qs) zero at = absurd (cc at)
lines_same n (x ∷ xs) (q ∷ qs) (suc i) at = ap (λ t. block_line n q x ++ t) (lines_same (n + 1) xs qs i at)

-- what is listed of a tape
abbrev pub of_tape : Bool → ℕ → TapeValue → Layout → List ℕ
of_tape several n tape layout = heading several n ++ block_lines 1 tape.blocks layout.places.items

pub tapes_more : (several : Bool) (n : ℕ) (tapes : List TapeValue) (layouts : List Layout) (i : ℕ) (e : TapeValue) (d : Layout) → i < length tapes → i < length layouts
    → e ≡ get_or tapes i e → d ≡ get_or layouts i d → tape_lines several n (take (suc i) tapes) layouts ≡ tape_lines several n (take i tapes) layouts ++ of_tape several (n + i) e d
tapes_more several n [] layouts i e d within also e_is d_is = absurd (omega arith)
tapes_more several n (x ∷ xs) [] i e d within also e_is d_is = absurd (omega arith)
tapes_more several n (x ∷ xs) (l ∷ ls) zero e d within also e_is d_is =
    append-nil (of_tape several n x l) ∙ ap (λ v. of_tape several n v l) (sym e_is) ∙ ap (λ v. of_tape several n e v) (sym d_is)
    ∙ ap (λ m. of_tape several m e d) (let a : n ≡ n + 0 = omega arith in a)
tapes_more several n (x ∷ xs) (l ∷ ls) (suc i) e d within also e_is d_is =
    ap (λ t. of_tape several n x l ++ t) (tapes_more several (n + 1) xs ls i e d (omega arith) (omega arith) e_is d_is)
    ∙ ap (λ m. of_tape several n x l ++ (tape_lines several (n + 1) (take i xs) ls ++ of_tape several m e d)) (let a : n + 1 + i ≡ n + suc i = omega arith in a)
    ∙ sym (append_assoc (of_tape several n x l) (tape_lines several (n + 1) (take i xs) ls) (of_tape several (n + suc i) e d))

spread : (old a b d : List ℕ) → ((old ++ a) ++ b) ++ d ≡ old ++ (a ++ (b ++ d))
spread old a b d = simp append_assoc

-- the text with the next block's line
pub next_block : (blocks : List BlockValue) (places : List ℕ) (i : ℕ) (b : BlockValue) (p : ℕ) (old before after : List ℕ) → i < length blocks → b ≡ get_or blocks i b
    → slice_get places i ≡ Some p → before ≡ old ++ block_lines 1 (take i blocks) places → after ≡ before ++ block_line (i + 1) p b
    → after ≡ old ++ block_lines 1 (take (i + 1) blocks) places
next_block blocks places i b p old before after within is at so put =
    put ∙ ap (λ l. l ++ block_line (i + 1) p b) so ∙ append_assoc old (block_lines 1 (take i blocks) places) (block_line (i + 1) p b)
    ∙ ap (λ n. old ++ (block_lines 1 (take i blocks) places ++ block_line n p b)) (let e : i + 1 ≡ 1 + i = omega arith in e)
    ∙ ap (λ l. old ++ l) (sym (lines_more 1 blocks places i b p within is at))
    ∙ ap (λ n. old ++ block_lines 1 (take n blocks) places) (let e : suc i ≡ i + 1 = omega arith in e)

-- and without one
pub no_block : (blocks : List BlockValue) (places : List ℕ) (i : ℕ) (old before after : List ℕ) → slice_get places i ≡ None
    → before ≡ old ++ block_lines 1 (take i blocks) places → after ≡ before → after ≡ old ++ block_lines 1 (take (i + 1) blocks) places
no_block blocks places i old before after at so same =
    same ∙ so ∙ ap (λ l. old ++ l) (sym (lines_same 1 blocks places i at))
    ∙ ap (λ n. old ++ block_lines 1 (take n blocks) places) (let e : suc i ≡ i + 1 = omega arith in e)

-- the text with the next tape's lines
pub next_tape : (several : Bool) (tapes : List TapeValue) (layouts : List Layout) (i : ℕ) (e : TapeValue) (d : Layout) (old before headed after places : List ℕ)
    → i < length tapes → length layouts ≡ length tapes → e ≡ get_or tapes i e → d ≡ get_or layouts i d
    → before ≡ old ++ tape_lines several 1 (take i tapes) layouts → headed ≡ before ++ heading several (i + 1) → places ≡ d.places.items
    → after ≡ headed ++ block_lines 1 e.blocks places → after ≡ old ++ tape_lines several 1 (take (i + 1) tapes) layouts
next_tape several tapes layouts i e d old before headed after places within each e_is d_is so has_heading places_are put =
    put ∙ ap (λ p. headed ++ block_lines 1 e.blocks p) places_are
    ∙ ap (λ h. h ++ block_lines 1 e.blocks d.places.items) (has_heading ∙ ap (λ l. l ++ heading several (i + 1)) so)
    ∙ spread old (tape_lines several 1 (take i tapes) layouts) (heading several (i + 1)) (block_lines 1 e.blocks d.places.items)
    ∙ ap (λ n. old ++ (tape_lines several 1 (take i tapes) layouts ++ of_tape several n e d)) (let a : i + 1 ≡ 1 + i = omega arith in a)
    ∙ ap (λ l. old ++ l) (sym (tapes_more several 1 tapes layouts i e d within (omega arith) e_is d_is))
    ∙ ap (λ n. old ++ tape_lines several 1 (take n tapes) layouts) (let a : suc i ≡ i + 1 = omega arith in a)

-- what a block covers, one piece after another
pub extent_is : (b : BlockValue) (old first second third : List ℕ) (a last n : ℕ) → a ≡ b.address → last ≡ b.address + length b.bytes - 1 → n ≡ length b.bytes
    → first ≡ old ++ addresses_text a last → second ≡ first ++ codes " bytes " → third ≡ second ++ decimal n → third ≡ old ++ extent_text b
extent_is b old first second third a last n a_is last_is n_is one two three =
    three ∙ ap (λ l. l ++ decimal n) (two ∙ ap (λ l. l ++ codes " bytes ") one)
    ∙ spread old (addresses_text a last) (codes " bytes ") (decimal n)
    ∙ ap (λ x. old ++ (addresses_text x last ++ (codes " bytes " ++ decimal n))) a_is
    ∙ ap (λ x. old ++ (addresses_text b.address x ++ (codes " bytes " ++ decimal n))) last_is
    ∙ ap (λ x. old ++ (addresses_text b.address (b.address + length b.bytes - 1) ++ (codes " bytes " ++ decimal x))) n_is

-- a span, one piece after another
pub range_is : (old first second third : List ℕ) (low high : ℕ) → first ≡ old ++ codes "addresses " → second ≡ first ++ addresses_text low high
    → third ≡ second ++ 10 ∷ [] → third ≡ old ++ line (codes "addresses " ++ addresses_text low high)
range_is old first second third low high one two three =
    three ∙ ap (λ l. l ++ 10 ∷ []) (two ∙ ap (λ l. l ++ addresses_text low high) one) ∙ again old (codes "addresses ") (addresses_text low high) (10 ∷ [])
  where
    again : (old a b d : List ℕ) → ((old ++ a) ++ b) ++ d ≡ old ++ ((a ++ b) ++ d)
    again old a b d = simp append_assoc
