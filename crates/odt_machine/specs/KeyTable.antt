-- The key table: what the console does with each key in each mode. A row marked 'handbook' is a
-- rule of the console ODT chapter of DEC's Microcomputer Processor Handbook, one marked 'choice'
-- is this project's own. Memory changes in the one row that says `stored`.
use Rattle.std.specs.Prelude.{ℕ, ◌+◌, ◌%◌, ◌==◌, min, if◌then◌else◌, List, [], ◌∷◌}
use Rattle.octal.specs.Octal.{digit_value, pushed}
use Rattle.odt_machine.specs.declared.style.Style.{Style}
use Rattle.odt_machine.specs.declared.mode.Mode.{Mode}
use Rattle.odt_machine.specs.declared.mode.Mode.TheVariants.{Prompt, Number, Opened, Typing, Running}
use Rattle.odt_machine.specs.declared.key.Key.{Key}
use Rattle.odt_machine.specs.declared.key.Key.TheVariants.{Digit, Return, Slash, Go, Other}
use Rattle.odt_machine.specs.Key.{key_of}
use Rattle.odt_machine.specs.Machine.{Machine, is_word, word_at, stored}
use Rattle.odt_machine.specs.Answer.{prompt_text, refused_text, illegal_text, word_text}

-- what a key makes: the new mode, the new memory, and the characters that the console prints
pub record Taken : Type 0 where
  pub mode : Mode
  pub memory : List ℕ
  pub answer : List ℕ

-- one digit more, counted up to 7 (7 stands for seven digits or more)
abbrev pub digits_after : ℕ → ℕ
digits_after n = min (n + 1) 7

-- an illegal key: no open word is stored to, and typed digits are forgotten
abbrev pub illegal : Style → List ℕ → ℕ → Taken
illegal s memory c = record { mode = Prompt; memory = memory; answer = illegal_text s c }

-- the table, by style, memory, mode and key, with the character that was typed
abbrev pub row : Style → List ℕ → Mode → Key → ℕ → Taken
-- at the prompt a digit begins a number, and is echoed (handbook)
row s memory Prompt Digit c = record { mode = Number (digit_value c) 1; memory = memory; answer = c ∷ [] }
-- at the prompt a return gives a new prompt (choice)
row s memory Prompt Return c = record { mode = Prompt; memory = memory; answer = prompt_text s }
-- at the prompt any other key is illegal (choice)
row s memory Prompt _ c = illegal s memory c
-- a further digit is pushed in at the right (handbook); what passes sixteen bits falls off, and
-- the count stays at 7 (choice)
row s memory (Number v n) Digit c = record { mode = Number (pushed v c) (digits_after n); memory = memory; answer = c ∷ [] }
-- `/` opens the word at the address typed (handbook); where no word lies there: `?` (choice)
row s memory (Number v n) Slash c =
    if is_word memory v then record { mode = Opened v; memory = memory; answer = c ∷ word_text s (word_at memory v) }
    else record { mode = Prompt; memory = memory; answer = refused_text s c }
-- `G` starts the program at the address typed (handbook); at an odd address: `?` (choice)
row s memory (Number v n) Go c =
    if v % 2 == 0 then record { mode = Running v; memory = memory; answer = c ∷ [] }
    else record { mode = Prompt; memory = memory; answer = refused_text s c }
-- a return forgets the number (choice)
row s memory (Number v n) Return c = record { mode = Prompt; memory = memory; answer = prompt_text s }
-- after a number any other key is illegal (choice)
row s memory (Number v n) Other c = illegal s memory c
-- in an open word a digit begins its new value (handbook)
row s memory (Opened a) Digit c = record { mode = Typing a (digit_value c) 1; memory = memory; answer = c ∷ [] }
-- a return closes the word as it is (handbook)
row s memory (Opened a) Return c = record { mode = Prompt; memory = memory; answer = prompt_text s }
-- in an open word any other key is illegal (choice)
row s memory (Opened a) _ c = illegal s memory c
-- a further digit of the new value is pushed in at the right (handbook); what passes sixteen bits
-- falls off, and the count stays at 7 (choice)
row s memory (Typing a v n) Digit c = record { mode = Typing a (pushed v c) (digits_after n); memory = memory; answer = c ∷ [] }
-- a return stores the value in the open word and closes it (handbook)
row s memory (Typing a v n) Return c = record { mode = Prompt; memory = stored memory a v; answer = prompt_text s }
-- while a value is typed any other key is illegal (choice)
row s memory (Typing a v n) _ c = illegal s memory c
-- a running machine takes no key and answers nothing (choice)
row s memory (Running p) _ c = record { mode = Running p; memory = memory; answer = [] }

-- what a machine makes of a typed character
abbrev pub take_of : Machine → ℕ → Taken
take_of m c = row m.style m.memory m.mode (key_of c) c

-- the machine after a typed character
abbrev pub after_key : Machine → ℕ → Machine
after_key m c = record { style = m.style; memory = (take_of m c).memory; mode = (take_of m c).mode }
