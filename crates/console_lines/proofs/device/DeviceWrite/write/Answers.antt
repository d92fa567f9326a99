use Rattle.std.proofs.Common.{rules}
use Rattle.console_lines.proofs.device.DeviceWrite.write.Goals as goal

pub returns-in_default : goal.returns-in_default
returns-in_default g c = search rules

pub loop-preserved : goal.loop-preserved
loop-preserved g c = search rules

pub returns-clause-bytes : goal.returns-clause-bytes
returns-clause-bytes g c = search rules
