use Rattle.std.proofs.Common.{◌≡◌, length, map}
use Rattle.std.specs.Io.KnownBytes.{Keeps}
use Rattle.std.specs.List.{AllZip}
use Rattle.input_files.specs.Source.{source_remaining}
use Rattle.input_files.proofs.opening.read_all_ahead.Given as goal

abbrev pub invariant-loop-place : goal.invariant-loop-place
invariant-loop-place g l = record {
  size : length l.files ≡ length l.initial.files;
  kept : AllZip Keeps (map (source_remaining g.F.Read.remaining) l.initial.files) (map (source_remaining g.F.Read.remaining) l.files);
}
