-- What a reader would ask of the key table, in the console's own words.
use Rattle.std.specs.Prelude.{◌≡◌, ◌≢◌, ℕ, ◌/◌, Bool, true, false, List, length}
use Rattle.odt_machine.specs.declared.mode.Mode.{Mode}
use Rattle.odt_machine.specs.declared.mode.Mode.TheVariants.{Prompt, Number, Opened, Typing, Running}
use Rattle.odt_machine.specs.declared.key.Key.{Key}
use Rattle.odt_machine.specs.declared.key.Key.TheVariants.{Digit, Return, Other}
use Rattle.odt_machine.specs.Machine.{word_at}

-- the word at an address becomes a value, and every other word stays
pub record IsStored (before now : List ℕ) (address value : ℕ) : Type 0 where
  pub size : length now ≡ length before
  pub changed : word_at now address ≡ value
  pub others : (b : ℕ) → b / 2 ≢ address / 2 → word_at now b ≡ word_at before b

-- memory changes only where a return ends the typing of a value, and then only the open word
abbrev pub StoresOnlyTyped : List ℕ → Mode → Key → List ℕ → Type 0
StoresOnlyTyped before (Typing address value digits) Return now = IsStored before now address value
StoresOnlyTyped before _ _ now = now ≡ before

-- the keys that are illegal in a mode: those that no rule of the console names there
abbrev pub is_illegal : Mode → Key → Bool
is_illegal Prompt Digit = false
is_illegal Prompt Return = false
is_illegal (Number v n) Other = true
is_illegal (Number v n) _ = false
is_illegal (Opened a) Digit = false
is_illegal (Opened a) Return = false
is_illegal (Typing a v n) Digit = false
is_illegal (Typing a v n) Return = false
is_illegal (Running p) _ = false
is_illegal _ _ = true

-- the program runs
abbrev pub is_running : Mode → Bool
is_running (Running p) = true
is_running _ = false
