-- The first eight of the words so far, and how many of them there are.
use Rattle.std.proofs.Common.{◌≡◌, ◌+◌, ◌*◌, ◌≤◌, ◌++◌, length, take}
use Rattle.std.specs.List.{filter, flat_map}
use Rattle.arrayvec.specs.ArrayVec.{array_vec_len}
use Rattle.memory_report.specs.Bus.{bus_of, is_same}
use Rattle.memory_report.specs.Report.{same_text}
use Rattle.memory_report.proofs.bus_text.push_same_words.Given as goal

abbrev pub invariant-loop-address : goal.invariant-loop-address
invariant-loop-address l =
    (l.text.items ≡ l.initial.text.items ++ flat_map (same_text l.fn.at) (take 8 (filter (is_same (bus_of l.bus)) (take l.address-index l.bus.marked.items))))
    × (l.shown ≡ length (take 8 (filter (is_same (bus_of l.bus)) (take l.address-index l.bus.marked.items))))
    × (l.shown ≤ 8)
    × (array_vec_len l.text ≤ array_vec_len l.initial.text + 31 * l.shown)
