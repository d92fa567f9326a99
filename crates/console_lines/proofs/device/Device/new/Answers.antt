use Rattle.std.proofs.Common.{rules}
use Rattle.console_lines.proofs.device.Device.new.Goals as goal

pub returns : goal.returns
returns g c = search rules
