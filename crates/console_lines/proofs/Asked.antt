-- What is asked for lines.
use Rattle.std.proofs.Common.{List, Option, inl, inr}
use Rattle.host_devices.specs.Told.{Gains}
use Rattle.host_devices.specs.declared.fault.LineFault.{LineFault}
use Rattle.host_devices.specs.declared.fault.LineFault.TheVariants.{Connect}
use Rattle.console_lines.specs.Dialling.{Call, LineRequest, asked_until, IsAskedInVain}

-- whatever the fault was
pub in_vain : (call : Call) (asked asked' : Option (List LineRequest)) (fault : LineFault) → Gains asked asked' (asked_until call fault) → IsAskedInVain call asked asked'
in_vain call asked asked' Connect is = inl is
in_vain call asked asked' other is = inr is
