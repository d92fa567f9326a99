-- Whether one of the words so far is this.
use Rattle.std.proofs.Common.{◌≡◌, ◌==◌, take}
use Rattle.std.specs.List.{list_any}
use Rattle.memory_report.proofs.bus_text.is_same.Given as goal

abbrev pub invariant-loop-other : goal.invariant-loop-other
invariant-loop-other l = l.found ≡ list_any (λ other. other == l.fn.address) (take l.other-index l.bus.returned.items)
