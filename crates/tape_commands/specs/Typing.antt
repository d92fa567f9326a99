-- What becomes of a request to type standard input into a simulated console.
use Rattle.std.specs.Prelude.{◌≡◌, ◌⊎◌, ℕ, ◌<◌, ◌≤◌, [], replicate, codes}
use Rattle.request_values.specs.Change.{◌⇒◌}
use Rattle.odt_machine.specs.Machine.{Machine, largest_words}
use Rattle.tape_commands.specs.TypedKeys.{IsTypedToEnd, IsTypeFault}
use Rattle.tape_commands.specs.Rehearsal.{machine_of}
use Rattle.endings.specs.declared.failure.Failure.{Failure}
use Rattle.endings.specs.declared.failure.Failure.TheVariants.{TooLarge, NoMemory}
use Rattle.endings.specs.Held.{Held}
use Rattle.input_files.specs.Inputs.{HasFault}
use Rattle.request_values.specs.declared.request.Console.{Console}
use Rattle.tape_commands.specs.Output.{FailsAtFlush}

-- the machine that a console types into, before its first key
abbrev pub zeroed : Console → Machine
zeroed console = machine_of console.style (replicate console.words 0)

-- all of standard input was typed, or as many keys as may be
pub record IsTypedThrough (console : Console) (before after : Held) : Type 0 where
  pub last : Machine
  pub count : ℕ
  pub typed : IsTypedToEnd (before.input ⇒ after.input) (zeroed console ⇒ last) (before.out ⇒ after.out) count

-- there is no such machine: it is too large, which it is above 28,672 words alone, or want of memory, up to there; and no key was read
pub record IsUntyped (console : Console) (before after : Held) (failure : Failure) : Type 0 where
  pub why : ((failure ≡ TooLarge) × (largest_words < console.words)) ⊎ ((failure ≡ NoMemory) × (console.words ≤ largest_words))
  pub nothing_read : after.input ≡ before.input
  pub nothing_written : after.out ≡ before.out

-- the keys or the answers to them failed
abbrev pub IsTypedAmiss : Console → Held → Held → Failure → Type 0
IsTypedAmiss console before after failure =
    (last : Machine) × HasFault (IsTypeFault (before.input ⇒ after.input) (zeroed console ⇒ last) (before.out ⇒ after.out)) [] (codes "standard input") failure

-- typing failed, or the answers were not passed on
abbrev pub IsTypingFailure : Console → Held → Held → Failure → Type 0
IsTypingFailure console before after failure =
    IsUntyped console before after failure ⊎ IsTypedAmiss console before after failure ⊎ FailsAtFlush (IsTypedThrough console before after) failure
