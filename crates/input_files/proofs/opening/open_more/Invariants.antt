use Rattle.std.proofs.Common.{◌≡◌, ◌+◌, length, map, take}
use Rattle.host_devices.specs.Told.{HasAsked}
use Rattle.input_files.specs.Opening.{AreAdded}
use Rattle.input_files.specs.Source.{source_remaining}
use Rattle.input_files.proofs.opening.open_more.Given as goal

abbrev pub invariant-loop-name : goal.invariant-loop-name
invariant-loop-name g l = record {
  count : length l.files.items ≡ length l.initial.files.items + l.name-index;
  added : HasAsked (g.F.InputFiles.opened l.initial.rt) (g.F.InputFiles.opened l.rt)
      (AreAdded (take l.name-index l.names) (map (source_remaining g.F.File.Read.remaining) l.initial.files.items) (map (source_remaining g.F.File.Read.remaining) l.files.items));
}
