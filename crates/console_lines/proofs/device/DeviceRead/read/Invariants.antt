-- Each look so far was in vain, and the pause behind each counted for 10 ms at most.
use Rattle.std.proofs.Common.{◌≡◌, ◌≤◌, ◌*◌, []}
use Rattle.std.specs.Io.KnownBytes.{Consumes}
use Rattle.console_lines.specs.Hearing.{GoesUpBy}
use Rattle.console_lines.proofs.device.DeviceRead.read.Given as goal

abbrev pub invariant-loop : goal.invariant-loop
invariant-loop g l = record {
  none_taken : Consumes l.fn.self.to_come (g.T.Read.remaining l.self-inside.terminal) [];
  in_vain : GoesUpBy l.fn.self.misses (g.T.Terminal.misses l.self-inside.terminal) l.counter;
  counted : l.passed ≤ 10000 * l.counter;
  same : l.self-inside.quiet_ms ≡ l.fn.self.quiet_ms;
}
