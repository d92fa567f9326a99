-- What was taken is what was gathered, and nothing was written.
use Rattle.std.proofs.Common.{◌≡◌, ◌≤◌, ◌-◌, length}
use Rattle.std.specs.Io.KnownBytes.{Consumes}
use Rattle.record_file.proofs.disk_file.take_up_to.Given as goal

abbrev pub invariant-loop-piece : goal.invariant-loop-piece
invariant-loop-piece g l = record {
  within : length l.bytes.items ≤ l.limit;
  taken : Consumes (g.F.DiskFile.unread l.initial.file) (g.F.DiskFile.unread l.file) l.bytes.items;
  untouched : g.F.DiskFile.written l.file ≡ g.F.DiskFile.written l.initial.file;
}

abbrev pub decreases-loop-piece : goal.decreases-loop-piece
decreases-loop-piece g l = l.limit - length l.bytes.items
