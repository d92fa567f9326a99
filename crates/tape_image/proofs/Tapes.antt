-- Several tapes as one.
use Rattle.std.proofs.Common.{◌≡◌, ℕ, ◌+◌, ◌<◌, List, [], ◌∷◌, ◌++◌, length, get_or, take, None, refl, ap, sym, ◌∙◌}
use Rattle.std.specs.Prelude.{All}
use Rattle.std.specs.FinMap.{empty}
use Rattle.std.proofs.lemmas.List.{append-nil, take_more}
use Rattle.std.proofs.lemmas.List.Concat.{flat_map-append}
use Rattle.std.proofs.lemmas.List.Elements.{All-nil, All-append, All-head, All-tail}
use Rattle.tape_values.specs.Block.{IsBlock, HoldsBytes}
use Rattle.tape_values.specs.Tape.{TapeValue, IsSound}
use Rattle.tape_image.specs.Image.{Image, byte_at, image_of}
use Rattle.tape_image.specs.Word.{WordValue}
use Rattle.tape_image.specs.Pages.{IsLaid}
use Rattle.tape_image.specs.Plan.{PlanValue, plan_of, program_start, blocks_of_all, start_of_all, plan_of_all}
use Rattle.tape_image.proofs.Laying.{byte_at-append, IsLaid-then}
use Rattle.tape_image.proofs.Images.{image_of-none}
use Rattle.tape_image.proofs.Plans.{IsStart, program_start-even, plan_with-same, words_of-empty}

-- one tape more
blocks_of_all-push : (tapes : List TapeValue) (tape : TapeValue) → blocks_of_all (tapes ++ tape ∷ []) ≡ blocks_of_all tapes ++ tape.blocks
blocks_of_all-push tapes tape = flat_map-append (λ (t : TapeValue). t.blocks) tapes (tape ∷ []) ∙ ap (λ bs. blocks_of_all tapes ++ bs) (append-nil tape.blocks)

start_of_all-push : (tapes : List TapeValue) (tape : TapeValue) → start_of_all (tapes ++ tape ∷ []) ≡ program_start tape.start
start_of_all-push [] tape = refl
start_of_all-push (first ∷ []) tape = refl
start_of_all-push (first ∷ (next ∷ more)) tape = start_of_all-push (next ∷ more) tape

next_tape : (tapes : List TapeValue) (i : ℕ) (tape : TapeValue) → i < length tapes → tape ≡ get_or tapes i tape → take (i + 1) tapes ≡ take i tapes ++ tape ∷ []
next_tape tapes i tape l is = take_more tapes i tape l ∙ ap (λ t. take i tapes ++ t ∷ []) (sym is)

pub start_of_all-next : (tapes : List TapeValue) (i : ℕ) (tape : TapeValue) → i < length tapes → tape ≡ get_or tapes i tape → program_start tape.start ≡ start_of_all (take (i + 1) tapes)
start_of_all-next tapes i tape l is = sym (start_of_all-push (take i tapes) tape) ∙ ap start_of_all (sym (next_tape tapes i tape l is))

pub IsLaid-tape : (tapes : List TapeValue) (i : ℕ) (tape : TapeValue) (old mid new : Image) → i < length tapes → tape ≡ get_or tapes i tape
    → IsLaid (byte_at (blocks_of_all (take i tapes))) old mid → IsLaid (byte_at tape.blocks) mid new → IsLaid (byte_at (blocks_of_all (take (i + 1) tapes))) old new
IsLaid-tape tapes i tape old mid new l is earlier laid =
    IsLaid-then (byte_at (blocks_of_all (take i tapes))) (byte_at tape.blocks) (byte_at (blocks_of_all (take (i + 1) tapes))) old mid new
    (λ a. ap (λ bs. byte_at bs a) (ap blocks_of_all (next_tape tapes i tape l is) ∙ blocks_of_all-push (take i tapes) tape) ∙ byte_at-append (blocks_of_all (take i tapes)) tape.blocks a)
    earlier laid

-- the blocks and the start of sound tapes
pub each_block : (tapes : List TapeValue) → All IsSound tapes → All IsBlock (blocks_of_all tapes)
each_block [] sound = All-nil IsBlock
each_block (tape ∷ tapes) sound = All-append IsBlock tape.blocks (blocks_of_all tapes) (All-head IsSound tape tapes sound).each_block (each_block tapes (All-tail IsSound tape tapes sound))

pub each_byte : (tapes : List TapeValue) → All IsSound tapes → All HoldsBytes (blocks_of_all tapes)
each_byte [] sound = All-nil HoldsBytes
each_byte (tape ∷ tapes) sound = All-append HoldsBytes tape.blocks (blocks_of_all tapes) (All-head IsSound tape tapes sound).each_byte (each_byte tapes (All-tail IsSound tape tapes sound))

pub start_of_all-even : (tapes : List TapeValue) → All IsSound tapes → IsStart (start_of_all tapes)
start_of_all-even [] sound = tt
start_of_all-even (tape ∷ []) sound = program_start-even tape.start (All-head IsSound tape [] sound).start_word
start_of_all-even (tape ∷ (next ∷ more)) sound = start_of_all-even (next ∷ more) (All-tail IsSound tape (next ∷ more) sound)

-- one tape, and none
pub plan_of_all-one : (tape : TapeValue) → plan_of_all (tape ∷ []) ≡ plan_of tape
plan_of_all-one tape = plan_with-same _ _ _ _ (ap image_of (append-nil tape.blocks)) refl

pub plan_of_all-none : ◌≡◌ {A = PlanValue} (plan_of_all []) (record { image = empty; words = []; start = None })
plan_of_all-none =
    plan_with-same _ _ _ _ image_of-none refl ∙ ap (λ (words : List WordValue). let made : PlanValue = record { image = empty; words = words; start = None } in made) words_of-empty
