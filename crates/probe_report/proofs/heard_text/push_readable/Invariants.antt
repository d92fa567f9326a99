-- What is put so far shows the characters so far, in four bytes each at most.
use Rattle.std.proofs.Common.{◌≡◌, ◌+◌, ◌*◌, ◌≤◌, ◌++◌, take}
use Rattle.std.specs.List.{flat_map}
use Rattle.arrayvec.specs.ArrayVec.{array_vec_len}
use Rattle.probe_report.specs.HeardText.{readable}
use Rattle.probe_report.proofs.heard_text.push_readable.Given as goal

abbrev pub invariant-loop-character : goal.invariant-loop-character
invariant-loop-character l =
    (l.text.items ≡ l.initial.text.items ++ flat_map readable (take l.character-index l.characters))
    × (array_vec_len l.text ≤ array_vec_len l.initial.text + 4 * l.character-index)
