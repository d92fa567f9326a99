-- The cells so far.
use Rattle.std.proofs.Common.{◌≡◌, ◌+◌, ◌*◌, ◌≤◌, ◌++◌}
use Rattle.arrayvec.specs.ArrayVec.{array_vec_len}
use Rattle.memory_report.specs.Report.{cells_text}
use Rattle.memory_report.proofs.picture.push_cells.Given as goal

abbrev pub invariant-loop-place : goal.invariant-loop-place
invariant-loop-place l =
    (l.text.items ≡ l.initial.text.items ++ cells_text l.words l.fn.bank l.place)
    × (array_vec_len l.text ≤ array_vec_len l.initial.text + 3 * l.place)
