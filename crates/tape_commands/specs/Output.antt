-- How a command fails whose output has to be passed on.
use Rattle.std.specs.Prelude.{◌≡◌, ◌⊎◌, codes}
use Rattle.endings.specs.declared.command_fault.CommandFault.{CommandFault}
use Rattle.endings.specs.declared.failure.Failure.{Failure}
use Rattle.endings.specs.declared.failure.Failure.TheVariants.{CannotWrite}
use Rattle.input_files.specs.Inputs.{Inputs, HasFault}

-- what was to be written was, but the output then failed to pass it on
abbrev pub FailsAtFlush : Type 0 → Failure → Type 0
FailsAtFlush done failure = (failure ≡ CannotWrite) × done

-- a command over tapes fails so: it has a fault, or it was done and not passed on
abbrev pub FailsOver : Inputs → (CommandFault → Type 0) → Type 0 → Failure → Type 0
FailsOver inputs P done failure = HasFault P inputs.names (codes "standard input") failure ⊎ FailsAtFlush done failure
