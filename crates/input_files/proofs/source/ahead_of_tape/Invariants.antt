use Rattle.std.proofs.Common.{◌≡◌, false}
use Rattle.std.specs.Io.Buffered.{reader_remaining}
use Rattle.std.specs.Io.KnownBytes.{Consumes}
use Rattle.input_files.proofs.source.ahead_of_tape.Given as goal

abbrev pub invariant-loop : goal.invariant-loop
invariant-loop g l = record {
  taken : Consumes (reader_remaining g.F.Read.remaining l.initial.file) (reader_remaining g.F.Read.remaining l.file) l.text.items;
  goes_on : l.has_ended ≡ false;
}
