-- What was heard so far was dropped, no silence was among it, and the stream was not at its end.
use Rattle.std.proofs.Common.{◌≡◌, [], true}
use Rattle.console_lines.specs.Hearing.{DropsThenTakes, GoesUpBy}
use Rattle.console_lines.proofs.stream.hear_from.Given as goal

abbrev pub invariant-loop : goal.invariant-loop
invariant-loop g l = record {
  so_far : DropsThenTakes (g.S.TimedStream.to_come l.fn.stream) (g.S.TimedStream.to_come l.stream) l.counter [];
  unmet : GoesUpBy (g.S.TimedStream.silences l.fn.stream) (g.S.TimedStream.silences l.stream) 0;
  over : g.S.TimedStream.is_over l.fn.stream ≡ true → (l.counter ≡ 0) × (g.S.TimedStream.is_over l.stream ≡ true);
}
