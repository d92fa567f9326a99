-- An interrupted read takes nothing and is no silence, and a stream at its end is not interrupted.
use Rattle.std.proofs.Common.{◌≡◌, [], true}
use Rattle.std.specs.Io.KnownBytes.{Consumes}
use Rattle.console_lines.specs.Hearing.{GoesUpBy}
use Rattle.console_lines.proofs.receive.receive.Given as goal

abbrev pub invariant-loop : goal.invariant-loop
invariant-loop g l = record {
  taken : Consumes (g.S.TimedStream.to_come l.fn.stream) (g.S.TimedStream.to_come l.stream) [];
  unmet : GoesUpBy (g.S.TimedStream.silences l.fn.stream) (g.S.TimedStream.silences l.stream) 0;
  over : g.S.TimedStream.is_over l.fn.stream ≡ true → (l.counter ≡ 0) × (g.S.TimedStream.is_over l.stream ≡ true);
}
