use Rattle.std.proofs.Common.{arith}
use Rattle.sample_looks.proofs.Spread.{fits_word}
use Rattle.sample_looks.proofs.samples.place_of_sample.Goals as goal

pub overflow_mul-result : goal.overflow_mul-result
overflow_mul-result c = omega (arith, fits_word c.args.number c.args.count (omega (arith, c.requires.among)) c.requires.few)
