-- Nothing was taken so far, and each pause counted for 10 ms at most.
use Rattle.std.proofs.Common.{◌≡◌, ◌≤◌, ◌*◌}
use Rattle.std.specs.Io.KnownBytes.{Keeps}
use Rattle.console_lines.proofs.device.DeviceWrite.write.Given as goal

abbrev pub invariant-loop : goal.invariant-loop
invariant-loop g l = record {
  none_taken : Keeps l.fn.self.gone_out (g.T.Write.contents l.self-inside.terminal);
  counted : l.passed ≤ 10000 * l.counter;
  same : l.self-inside.quiet_ms ≡ l.fn.self.quiet_ms;
}
