-- What was heard so far was copied.
use Rattle.std.proofs.Common.{◌≤◌}
use Rattle.console_lines.specs.Listening.{copying}
use Rattle.console_lines.proofs.Copied.{HeardSoFar}
use Rattle.console_lines.proofs.listening.listen.Given as goal

abbrev pub invariant-loop : goal.invariant-loop
invariant-loop g l = record {
  so_far : HeardSoFar l.silent l.counter (copying g.L.Line.told g.W.Write.contents l.fn.line l.fn.out) (copying g.L.Line.told g.W.Write.contents l.line l.out);
  at_most : l.silent ≤ l.silences;
}
