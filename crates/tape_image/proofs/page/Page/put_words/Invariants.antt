use Rattle.std.proofs.Common.{◌≡◌, ℕ, ◌+◌, ◌*◌, ◌<◌}
use Rattle.std.specs.FinMap.{get}
use Rattle.tape_image.specs.Image.{Image}
use Rattle.tape_image.specs.Plan.{words_below}
use Rattle.tape_image.proofs.page.Page.put_words.Given as goal

-- the words so far are those below the place
abbrev pub invariant-loop-place : goal.invariant-loop-place
invariant-loop-place l =
    (image : Image) → ((offset : ℕ) → offset < 512 → get image (512 * l.number + offset) ≡ get l.self offset)
    → l.fn.words.items ≡ words_below image (256 * l.number) → l.words.items ≡ words_below image (256 * l.number + l.place)
