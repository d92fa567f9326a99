use Rattle.std.proofs.Common.{ℕ, List, ◌++◌, ◌∙◌, ap, sym, append-nil, append_assoc, arith, refl}
use Rattle.memory_report.proofs.Joins.{no_row, one_row}
use Rattle.memory_report.proofs.picture.push_rows.Goals as goal

pub loop-number-init : goal.loop-number-init
loop-number-init c = (sym (append-nil c.args.text.now.items) ∙ ap (λ (t : List ℕ). c.args.text.now.items ++ t) (sym (no_row c.args.words.now c.args.gaps.now c.args.first)), omega arith)

pub loop-number-preserved : goal.loop-number-preserved
loop-number-preserved c = (
  rw (c.push_row.ensures.items, c.loop-number.invariant.0, one_row c.args.words.now c.args.gaps.now c.args.first c.loop-number.number) (simp append_assoc refl),
  omega (arith, c.push_row.ensures.length, c.loop-number.invariant.1),
)
