-- What several inputs say of tapes, one of each, in order.
use Rattle.std.specs.Prelude.{◌≡◌, ℕ, ◌+◌, List, [], ◌∷◌, length, map, take, drop, Option, ⊤}
use Rattle.std.specs.List.{AllZip}
use Rattle.std.specs.Io.KnownBytes.{Consumes}
use Rattle.tape_blocks.specs.Tape.{TapeValue, IsTape}
use Rattle.tape_blocks.specs.Input.{input_limit}
use Rattle.tape_blocks.specs.Layout.{IsLaidOut}
use Rattle.tape_blocks.specs.declared.layout.Layout.{Layout}
use Rattle.byte_io.specs.Input.{TakesAtMost}
use Rattle.input_files.specs.TapeFile.{IsRefusedInput}
use Rattle.endings.specs.declared.command_fault.CommandFault.{CommandFault}
use Rattle.endings.specs.declared.command_fault.CommandFault.TheVariants.{Tape, ReadTape, Memory}
use Rattle.input_files.specs.declared.tapes.Tapes.{Tapes}

-- a tape, and the bytes that it was read from
pub record TapeText : Type 0 where
  pub text : List ℕ
  pub tape : TapeValue

-- the tape's own bytes were taken of the input, and no others
pub record IsTapeTaken (input input' : Option (List ℕ)) (t : TapeText) : Type 0 where
  pub is_tape : IsTape t.text t.tape.blocks t.tape.start
  pub consumed : Consumes input input' t.text

-- these tapes were taken of the inputs, one of each
abbrev pub AreTaken : List (Option (List ℕ)) → List (Option (List ℕ)) → List TapeText → Type 0
AreTaken [] [] [] = ⊤
AreTaken (input ∷ inputs) (input' ∷ inputs') (t ∷ texts) = IsTapeTaken input input' t × AreTaken inputs inputs' texts
AreTaken inputs inputs' texts = ⊥

-- a tape was taken of each of the inputs
abbrev pub AreAllTaken : List (Option (List ℕ)) → List (Option (List ℕ)) → Type 0
AreAllTaken inputs inputs' = (texts : List TapeText) × AreTaken inputs inputs' texts

-- of each input so many bytes were taken as a tape may need, or fewer
abbrev pub TakeAtMost : List (Option (List ℕ)) → List (Option (List ℕ)) → Type 0
TakeAtMost inputs inputs' = AllZip (λ input input'. TakesAtMost input input' input_limit) inputs inputs'

-- the tapes of these texts
abbrev pub tapes_of : List TapeText → List TapeValue
tapes_of texts = map (λ t. t.tape) texts

-- each of them lies so in its bytes
abbrev pub AreLaidOut : List TapeText → List Layout → Type 0
AreLaidOut texts layouts = AllZip (λ t layout. IsLaidOut t.text t.tape layout) texts layouts

-- these tapes were taken of the inputs, and they lie so in what was taken
pub record AreTapes (inputs inputs' : List (Option (List ℕ))) (tapes : List TapeValue) (layouts : List Layout) : Type 0 where
  pub texts : List TapeText
  pub taken : AreTaken inputs inputs' texts
  pub tapes_are : tapes ≡ tapes_of texts
  pub laid : AreLaidOut texts layouts

-- a tape was taken of each input before the one of this number, counted from 1; none behind it was touched
pub record StopsAt (inputs inputs' : List (Option (List ℕ))) (number : ℕ) (input : Option (List ℕ)) : Type 0 where
  pub texts : List TapeText
  pub taken : AreTaken (take (length texts) inputs) (take (length texts) inputs') texts
  pub number_is : number ≡ length texts + 1
  pub input_is : drop (length texts) inputs ≡ input ∷ drop number inputs
  pub untouched : drop number inputs' ≡ drop number inputs

-- how taking tapes fails: at the first input that is refused, or that can't be read, by its number; or by want of memory
abbrev pub AreTapesFault : List (Option (List ℕ)) → List (Option (List ℕ)) → CommandFault → Type 0
AreTapesFault inputs inputs' (Tape number fault) = (input : Option (List ℕ)) × StopsAt inputs inputs' number input × IsRefusedInput input fault
AreTapesFault inputs inputs' (ReadTape number) = (input : Option (List ℕ)) × StopsAt inputs inputs' number input
AreTapesFault inputs inputs' Memory = ⊤
AreTapesFault inputs inputs' other = ⊥

-- this is so of whatever inputs these tapes were taken of
abbrev pub OfTaken : Tapes → (List (Option (List ℕ)) → List (Option (List ℕ)) → Type 0) → Type 0
OfTaken taken P = (inputs inputs' : List (Option (List ℕ))) → AreTapes inputs inputs' taken.tapes.items taken.layouts.items → P inputs inputs'

-- a fault that blames no tape: it comes once they are taken
abbrev pub BlamesNoTape : CommandFault → Type 0
BlamesNoTape (Tape number fault) = ⊥
BlamesNoTape (ReadTape number) = ⊥
BlamesNoTape other = ⊤
