use Rattle.std.proofs.Common.{rules, arith, ◌≡◌, ◌+◌, ◌<◌, length}
use Rattle.console_lines.proofs.FirstByte.{first_set}
use Rattle.console_lines.proofs.Looks.{misses_more}
use Rattle.console_lines.proofs.device.DeviceRead.read.Goals as goal
use Rattle.console_lines.proofs.device.DeviceRead.read.Goals.{else-loop-test, then-loop-test+in_ok-byte+in-Nothing+then-passed-quiet_time}

pub returns-in-Byte-clause-bytes : goal.returns-in-Byte-clause-bytes
returns-in-Byte-clause-bytes g c = let room : 0 < length c.loop.buf = search rules in rw (first_set c.loop.buf c.in-Byte.byte room) (search rules, search rules)

pub returns-clause-looks : goal.returns-clause-looks
returns-clause-looks g c = let quiet : c.self.inside.quiet_ms ≡ c.args.self.now.quiet_ms = search rules in elim c.loop-test.branch [
  | else-loop-test w ↦ (c.loop.counter, search rules, omega (arith, quiet, w.loop-test))
  | then-loop-test+in_ok-byte+in-Nothing+then-passed-quiet_time w ↦ (c.loop.counter + 1, search (rules, misses_more), omega (arith, quiet, w.loop-test))
]

pub returns-clause-silence : goal.returns-clause-silence
returns-clause-silence g c = let quiet : c.self.inside.quiet_ms ≡ c.args.self.now.quiet_ms = search rules in elim c.loop-test.branch [
  | else-loop-test w ↦ λ kind. (c.loop.counter, search rules, omega (arith, quiet, w.loop-test))
  | then-loop-test+in_ok-byte+in-Nothing+then-passed-quiet_time w ↦ λ kind. (c.loop.counter + 1, search (rules, misses_more), omega (arith, quiet, w.loop-test, w.if-passed-quiet_time))
]
