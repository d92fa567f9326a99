use Rattle.std.proofs.Common.{ℕ, List, ◌++◌, ◌∙◌, ap, sym, append-nil, append_assoc, arith, refl}
use Rattle.memory_report.proofs.Joins.{no_cell, one_cell}
use Rattle.memory_report.proofs.picture.push_cells.Goals as goal

pub loop-place-init : goal.loop-place-init
loop-place-init c = (sym (append-nil c.args.text.now.items) ∙ ap (λ (t : List ℕ). c.args.text.now.items ++ t) (sym (no_cell c.args.words.now c.args.bank)), omega arith)

pub loop-place-preserved : goal.loop-place-preserved
loop-place-preserved c = (
  rw (c.push_cell.ensures.items, c.loop-place.invariant.0, c.column.ensures, one_cell c.args.words.now c.args.bank c.loop-place.place) (simp append_assoc refl),
  omega (arith, c.push_cell.ensures.length, c.loop-place.invariant.1),
)
