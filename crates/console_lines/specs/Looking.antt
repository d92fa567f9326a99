-- What looks at a terminal find, and what a silence is; where the terminal doesn't tell, these say nothing.
use Rattle.std.specs.Prelude.{◌≢◌, ℕ, ◌≤◌, ◌+◌, ◌*◌, List, [], ◌∷◌, Option, Result, Ok, Err}
use Rattle.std.specs.Io.KnownBytes.{Consumes, IsAtEnd}
use Rattle.std.specs.declared.io.Error.{Error}
use Rattle.std.specs.declared.io.ErrorKind.{ErrorKind}
use Rattle.std.specs.declared.io.ErrorKind.TheVariants.{WouldBlock, TimedOut, Interrupted}
use Rattle.console_lines.specs.Hearing.{GoesUpBy}
use Rattle.console_lines.specs.declared.terminal.Glance.{Glance}
use Rattle.console_lines.specs.declared.terminal.Glance.TheVariants.{Byte, Nothing, Gone}

-- what one look takes: the byte that it finds, or nothing; a terminal that is gone has nothing left
abbrev pub IsGlance : Option (List ℕ) → Option (List ℕ) → Glance → Type 0
IsGlance old new (Byte byte) = Consumes old new (byte ∷ [])
IsGlance old new Nothing = Consumes old new []
IsGlance old new Gone = IsAtEnd new × Consumes old new []

-- a look was in vain where it found nothing
abbrev pub misses_of : Result Glance Error → ℕ
misses_of (Ok Nothing) = 1
misses_of (Ok (Byte byte)) = 0
misses_of (Ok Gone) = 0
misses_of (Err error) = 0

-- at most so many more looks were in vain
abbrev pub LooksUpTo : Option ℕ → Option ℕ → ℕ → Type 0
LooksUpTo old new most = (looks : ℕ) × GoesUpBy old new looks × (looks ≤ most)

-- a silence of the quiet time: looks in vain, one for each 10 ms of it at least, and one behind them
abbrev pub IsSilence : Option ℕ → Option ℕ → ℕ → Type 0
IsSilence old new quiet_ms = (looks : ℕ) × GoesUpBy old new looks × (quiet_ms + 10 ≤ 10 * looks)

-- something went wrong, and not only that nothing has come
pub record IsRealFailure (kind : ErrorKind) : Type 0 where
  pub no_wait : kind ≢ WouldBlock
  pub no_time : kind ≢ TimedOut
  pub no_signal : kind ≢ Interrupted

-- what is not taken now would not be taken either if it was written again at once
pub record StaysRefused (kind : ErrorKind) : Type 0 where
  pub no_wait : kind ≢ WouldBlock
  pub no_signal : kind ≢ Interrupted
