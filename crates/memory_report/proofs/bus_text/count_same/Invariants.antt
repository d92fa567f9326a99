-- The count of the words so far.
use Rattle.std.proofs.Common.{◌≡◌, ◌≤◌, length, take}
use Rattle.std.specs.List.{filter}
use Rattle.memory_report.specs.Bus.{bus_of, is_same}
use Rattle.memory_report.proofs.bus_text.count_same.Given as goal

abbrev pub invariant-loop-address : goal.invariant-loop-address
invariant-loop-address l = (l.count ≡ length (filter (is_same (bus_of l.bus)) (take l.address-index l.bus.marked.items))) × (l.count ≤ l.address-index)
