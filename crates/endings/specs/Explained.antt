-- What becomes of words that ask for nothing to be done (this project's own).
use Rattle.std.specs.Prelude.{◌≡◌, ℕ, List}
use Rattle.std.specs.Io.KnownBytes.{Appends}
use Rattle.byte_io.specs.Output.{WritesPrefix}
use Rattle.endings.specs.Failure.{IsPrintedUnless}
use Rattle.endings.specs.declared.failure.Failure.TheVariants as failure
use Rattle.endings.specs.declared.status.Status.{Status}
use Rattle.endings.specs.declared.status.Status.TheVariants.{Done, DeviceFailed}
use Rattle.endings.specs.Held.{Held}

-- a text that was asked for is shown: it is printed whole; or it can't be printed, and standard error says so, unless nobody reads the
-- output any more
abbrev pub IsShown : List ℕ → Held → Held → Status → Type 0
IsShown text before after Done = Appends before.out after.out text × (after.err ≡ before.err) × (after.input ≡ before.input)
IsShown text before after DeviceFailed =
    WritesPrefix before.out after.out text × IsPrintedUnless after.unread before.err after.err failure.CannotWrite × (after.input ≡ before.input)
IsShown text before after other = ⊥
