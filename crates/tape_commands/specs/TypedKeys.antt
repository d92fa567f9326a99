-- Typing an input's characters into a console.
use Rattle.std.specs.Prelude.{◌≡◌, ℕ, ◌==◌, ◌<◌, ◌≤◌, if◌then◌else◌, List, [], ◌∷◌, ◌++◌, length, Option}
use Rattle.std.specs.Io.KnownBytes.{Consumes, Appends, IsAtEnd}
use Rattle.odt_machine.specs.Machine.{Machine}
use Rattle.odt_machine.specs.KeyTable.{take_of, after_key}
use Rattle.odt_machine.specs.Character.{carriage_return, line_feed}
use Rattle.byte_io.specs.Output.{WritesProperPrefix}
use Rattle.request_values.specs.Change.{Change}
use Rattle.endings.specs.declared.command_fault.CommandFault.{CommandFault}
use Rattle.endings.specs.declared.command_fault.CommandFault.TheVariants.{ReadKeys, Write}

-- the most keys that are typed: 2 to the 20th, which is more than twice what each word of the largest memory takes, with its address; so
-- typing ends also where the input does not (this project's choice)
abbrev pub key_limit : ℕ
key_limit = 1048576

-- the key that a character types: a line feed types a carriage return (this project's choice)
abbrev pub typed_key : ℕ → ℕ
typed_key c = if c == line_feed then carriage_return else c

-- the machine after these characters were typed, in turn
abbrev pub after_typing : Machine → List ℕ → Machine
after_typing m [] = m
after_typing m (c ∷ cs) = after_typing (after_key m (typed_key c)) cs

-- what the console answers to these characters, in turn
abbrev pub answers_of : Machine → List ℕ → List ℕ
answers_of m [] = []
answers_of m (c ∷ cs) = (take_of m (typed_key c)).answer ++ answers_of (after_key m (typed_key c)) cs

-- these characters were taken of the input and typed
pub record IsTyped (input : Change (Option (List ℕ))) (machine : Change Machine) (keys : List ℕ) : Type 0 where
  pub consumed : Consumes input.before input.after keys
  pub within : length keys ≤ key_limit
  pub typed : machine.after ≡ after_typing machine.before keys

-- so many characters were typed, and the answers to them were written and nothing else
pub record IsTypedSoFar (input : Change (Option (List ℕ))) (machine : Change Machine) (out : Change (Option (List ℕ))) (count : ℕ) : Type 0 where
  pub keys : List ℕ
  pub typed : IsTyped input machine keys
  pub answered : Appends out.before out.after (answers_of machine.before keys)
  pub counted : length keys ≡ count

-- the same, with no character left in the input or as many typed as may be
pub record IsTypedToEnd (input : Change (Option (List ℕ))) (machine : Change Machine) (out : Change (Option (List ℕ))) (count : ℕ) : Type 0 where
  pub so_far : IsTypedSoFar input machine out count
  pub to_end : count < key_limit → IsAtEnd input.after

-- some characters were typed, and a proper prefix of the answers to them was written and nothing else
pub record IsTypedInPart (input : Change (Option (List ℕ))) (machine : Change Machine) (out : Change (Option (List ℕ))) : Type 0 where
  pub keys : List ℕ
  pub typed : IsTyped input machine keys
  pub answered : WritesProperPrefix out.before out.after (answers_of machine.before keys)

-- how typing fails: by a failed read, with all that was read typed and answered, or by a failed write
abbrev pub IsTypeFault : Change (Option (List ℕ)) → Change Machine → Change (Option (List ℕ)) → CommandFault → Type 0
IsTypeFault input machine out ReadKeys = (count : ℕ) × IsTypedSoFar input machine out count
IsTypeFault input machine out Write = IsTypedInPart input machine out
IsTypeFault input machine out other = ⊥
