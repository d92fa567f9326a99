use Rattle.std.proofs.Common.{◌≡◌, replicate, None}
use Rattle.tape_image.proofs.pages.Pages.new.Given as goal

-- so many places are made, with no page
abbrev pub invariant-loop : goal.invariant-loop
invariant-loop l = l.table.items ≡ replicate l.counter None
