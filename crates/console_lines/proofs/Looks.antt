-- One more look in vain.
use Rattle.std.proofs.Common.{ℕ, ◌+◌, Option, refl}
use Rattle.console_lines.specs.Hearing.{GoesUpBy}
use Rattle.console_lines.proofs.Silences.{met_then}

pub misses_more : (a b d : Option ℕ) (looks : ℕ) → GoesUpBy a b looks → GoesUpBy b d 1 → GoesUpBy a d (looks + 1)
misses_more a b d looks before more = met_then a b d looks 1 (looks + 1) before more refl
