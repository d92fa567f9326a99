use Rattle.std.proofs.Common.{◌≡◌, ◌*◌}
use Rattle.tape_image.specs.Plan.{words_below}
use Rattle.tape_image.proofs.pages.Pages.words.Given as goal

-- the words of the pages so far
abbrev pub invariant-loop-number : goal.invariant-loop-number
invariant-loop-number l = l.words.items ≡ words_below l.self (256 * l.number)
