-- The rows so far.
use Rattle.std.proofs.Common.{◌≡◌, ◌+◌, ◌*◌, ◌≤◌, ◌++◌}
use Rattle.arrayvec.specs.ArrayVec.{array_vec_len}
use Rattle.memory_report.specs.Report.{rows_text}
use Rattle.memory_report.proofs.picture.push_rows.Given as goal

abbrev pub invariant-loop-number : goal.invariant-loop-number
invariant-loop-number l =
    (l.text.items ≡ l.initial.text.items ++ rows_text l.words l.gaps l.fn.first l.number)
    × (array_vec_len l.text ≤ array_vec_len l.initial.text + 140 * l.number)
