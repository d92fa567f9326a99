-- The files that a request names, and what they held: what the system tells of the files that it opened by these names, in their order.
use Rattle.std.specs.Prelude.{◌≡◌, ◌⊎◌, ℕ, Bool, true, false, nat_eq, if◌then◌else◌, List, [], ◌∷◌, map}
use Rattle.std.specs.Prelude.{Option, Some, codes}
use Rattle.std.specs.Cmp.Lexicographic.{pointwise}
use Rattle.endings.specs.declared.command_fault.CommandFault.{CommandFault}
use Rattle.endings.specs.declared.failure.Failure.{Failure}
use Rattle.endings.specs.Failure.{IsFailureOf}
use Rattle.endings.specs.Held.{Held}
use Rattle.host_devices.specs.Told.{HasAsked}
use Rattle.input_files.specs.Opening.{Name, InputStep, AreAdded, AreTried}
use Rattle.input_files.specs.Intake.{Intake}

-- what a reader has left or a writer holds, as far as its type tells
abbrev pub Known : Type 0
Known = Option (List ℕ)

-- some inputs: the names by which faults call them, what each held, and what is left of it
pub record Inputs : Type 0 where
  pub names : List Name
  pub held : List Known
  pub rests : List Known

-- inputs of these names, by what each reader had left and has left
abbrev pub inputs_of : {R : Type 0} → List Name → (R → Known) → List R → List R → Inputs
inputs_of names remaining old new = record { names = names; held = map remaining old; rests = map remaining new }

-- standard input as the only input: it has no name
abbrev pub only_input : Known → Known → Inputs
only_input input input' = record { names = []; held = input ∷ []; rests = input' ∷ [] }

-- from one moment to another the files of these names were opened, in this order, and no others; and this is what they held
abbrev pub AreOpened : List Name → List Known → Option (List InputStep) → Option (List InputStep) → Type 0
AreOpened names held opened opened' = HasAsked opened opened' (AreAdded names [] held)

-- one of them was not: of those before it each was, and none behind it was tried
abbrev pub IsUnopened : List Name → Option (List InputStep) → Option (List InputStep) → Failure → Type 0
IsUnopened names opened opened' failure = HasAsked opened opened' (AreTried names (Some failure))

-- this is so of what the files of these names held and of what was left of it
pub record OfFiles (names : List Name) (held : List Known) (P : Inputs → Type 0) : Type 0 where
  pub rests : List Known
  pub is_so : P (record { names = names; held = held; rests = rests })

-- the names of tapes mean standard input: it has one, and that is `-`
abbrev pub means_input : List Name → Bool
means_input [] = false
means_input (name ∷ []) = pointwise nat_eq name.now (codes "-")
means_input (name ∷ (other ∷ names)) = false

-- the files that the names of tapes stand for: none, where they mean standard input
abbrev pub files_of : List Name → List Name
files_of names = if means_input names then [] else names

-- this is so of the tapes of these names: of standard input alone where they mean it, else of files that held this, and then standard input is as it was
abbrev pub OfInputs : List Name → List Known → Held → Held → (Inputs → Type 0) → Type 0
OfInputs names held before after P =
    ((means_input names ≡ true) × P (only_input before.input after.input))
    ⊎ ((means_input names ≡ false) × OfFiles names held P × (after.input ≡ before.input))

-- .. whose files were opened, and held this
pub record OfTapes (names : List Name) (before after : Intake) (P : Inputs → Type 0) : Type 0 where
  pub held : List Known
  pub opened : AreOpened (files_of names) held before.opened after.opened
  pub is_so : OfInputs names held before.held after.held P

-- one of these files can't be opened, or want of memory, with nothing read of standard input and nothing written
pub record FailsUnopened (files : List Name) (before after : Intake) (failure : Failure) : Type 0 where
  pub unopened : IsUnopened files before.opened after.opened failure
  pub nothing_read : after.held.input ≡ before.held.input
  pub nothing_written : after.held.out ≡ before.held.out

-- a command has this fault, and it fails so, where its tapes and its script have these names
pub record HasFault (P : CommandFault → Type 0) (tapes : List Name) (script : List ℕ) (failure : Failure) : Type 0 where
  pub fault : CommandFault
  pub is_so : P fault
  pub is_called : IsFailureOf fault tapes script failure
