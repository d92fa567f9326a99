use Rattle.line_world.proofs.OneBit.{one_bit_harmless}
use Rattle.line_world.proofs.law.one_bit_is_harmless.Goals as goal

pub returns : goal.returns
returns c = one_bit_harmless
