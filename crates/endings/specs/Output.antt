-- What an output notes of its reader.
use Rattle.std.specs.Prelude.{◌≡◌, ◌≢◌, ◌⊎◌, Bool, true, Result, Ok, Err}
use Rattle.std.specs.IoError.{error_kind}
use Rattle.std.specs.declared.io.Error.{Error}
use Rattle.std.specs.declared.io.ErrorKind.TheVariants.{BrokenPipe}

-- what came of a write or a flush is noted: that nobody reads any more is known from a broken pipe on, and from nothing else
abbrev pub Notes : {T : Type 0} → Bool → Result T Error → Bool → Type 0
Notes before (Ok x) after = after ≡ before
Notes before (Err error) after = ((error_kind error ≡ BrokenPipe) × (after ≡ true)) ⊎ ((error_kind error ≢ BrokenPipe) × (after ≡ before))
