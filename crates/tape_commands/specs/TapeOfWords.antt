-- What becomes of octal words of which a tape is to be made.
use Rattle.std.specs.Prelude.{◌≡◌, ◌⊎◌, true, false, List, [], ◌∷◌, ℕ, codes}
use Rattle.tape_making.specs.Making.{IsMade, IsNotMade}
use Rattle.tape_making.specs.declared.making.MakeFault.TheVariants as fault
use Rattle.endings.specs.declared.failure.Failure.{Failure}
use Rattle.endings.specs.declared.failure.Failure.TheVariants.{CannotRead, WordsRefused, NoMemory}
use Rattle.input_files.specs.Opening.{Name}
use Rattle.input_files.specs.Inputs.{Known, AreOpened, FailsUnopened, means_input}
use Rattle.input_files.specs.Intake.{Intake}
use Rattle.request_values.specs.declared.request.Make.{Make}

-- no tape was made of the words of an input, which faults call by this name
abbrev pub IsUnmade : List ℕ → Known → Known → Failure → Type 0
IsUnmade name held rest (WordsRefused refusal) = IsNotMade held rest (fault.Words refusal)
IsUnmade name held rest (CannotRead given) = (given.now ≡ name) × IsNotMade held rest fault.Read
IsUnmade name held rest NoMemory = IsNotMade held rest fault.Memory
IsUnmade name held rest other = ⊥

-- this is so of standard input, and no file was opened
pub record OfInput (before after : Intake) (P : List ℕ → Known → Known → Type 0) : Type 0 where
  pub is_so : P (codes "standard input") before.held.input after.held.input
  pub no_file : after.opened ≡ before.opened

-- this is so of what the file of a name held and has left, and standard input is as it was
pub record OfFile (name : Name) (before after : Intake) (P : List ℕ → Known → Known → Type 0) : Type 0 where
  pub held : Known
  pub opened : AreOpened (name ∷ []) (held ∷ []) before.opened after.opened
  pub rest : Known
  pub is_so : P name.now held rest
  pub nothing_read : after.held.input ≡ before.held.input

-- this is so of the words that a name stands for: `-` is standard input
abbrev pub OfWords : Name → Intake → Intake → (List ℕ → Known → Known → Type 0) → Type 0
OfWords name before after P =
    ((means_input (name ∷ []) ≡ true) × OfInput before after P) ⊎ ((means_input (name ∷ []) ≡ false) × OfFile name before after P)

-- the bytes of a tape were made of them
abbrev pub IsTapeMade : Make → Intake → Intake → List ℕ → Type 0
IsTapeMade make before after made = OfWords make.words before after (λ name held rest. IsMade held rest make.start made)

-- they were not: the file can't be opened, or what was read is to blame
abbrev pub IsTapeUnmade : Make → Intake → Intake → Failure → Type 0
IsTapeUnmade make before after failure =
    ((means_input (make.words ∷ []) ≡ false) × FailsUnopened (make.words ∷ []) before after failure)
    ⊎ OfWords make.words before after (λ name held rest. IsUnmade name held rest failure)
