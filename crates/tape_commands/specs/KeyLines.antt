-- The key lines of a dialogue: what was typed, and what the console answered to it (this project's own).
use Rattle.std.specs.Prelude.{◌≡◌, ℕ, ◌==◌, nat_eq, Bool, true, if◌then◌else◌, List, [], ◌∷◌, ◌++◌, map, Option, codes}
use Rattle.std.specs.List.{flat_map, AllByRecursion}
use Rattle.std.specs.Cmp.Lexicographic.{pointwise}
use Rattle.std.specs.Io.KnownBytes.{Appends}
use Rattle.odt_machine.specs.Machine.{Machine}
use Rattle.odt_machine.specs.KeyTable.{take_of}
use Rattle.odt_machine.specs.Character.{space, carriage_return, line_feed}
use Rattle.line_world.specs.declared.event.Event.{Event}
use Rattle.line_world.specs.declared.event.Event.TheVariants.{Take}
use Rattle.line_world.specs.Scene.{Scene}
use Rattle.line_world.specs.World.{happens}
use Rattle.request_values.specs.Change.{Change}
use Rattle.byte_io.specs.Text.{line}
use Rattle.tape_commands.specs.declared.key_line.KeyLine.{KeyLine}

-- a key that the console took, and what it answered
pub record Answered : Type 0 where
  pub key : ℕ
  pub answer : List ℕ

-- the first of the keys under way, with its answer
abbrev pub answered_first : Machine → List ℕ → List Answered
answered_first m [] = []
answered_first m (c ∷ rest) = record { key = c; answer = (take_of m c).answer } ∷ []

-- the key that an event brings to the console, if it brings one
abbrev pub answered_in : Scene → Event → List Answered
answered_in w Take = answered_first w.machine w.down
answered_in w event = []

-- the keys of all the events, in the order in which the console took them
abbrev pub answered_keys : Scene → List Event → List Answered
answered_keys w [] = []
answered_keys w (event ∷ events) = answered_in w event ++ answered_keys (happens w event) events

-- the answer is the key itself
abbrev pub is_echo : Answered → Bool
is_echo a = pointwise nat_eq a.answer (a.key ∷ [])

-- a key more in front of the first line
abbrev pub in_first_line : Answered → List (List Answered) → List (List Answered)
in_first_line a [] = (a ∷ []) ∷ []
in_first_line a (first ∷ others) = (a ∷ first) ∷ others

-- the lines: a key that is merely echoed stands in the line of the key after it, any other ends its line
abbrev pub key_lines : List Answered → List (List Answered)
key_lines [] = []
key_lines (a ∷ others) = if is_echo a then in_first_line a (key_lines others) else (a ∷ []) ∷ key_lines others

-- a character as a line shows it
abbrev pub shown_character : ℕ → List ℕ
shown_character c = if c == space then codes "_" else (if c == carriage_return then codes "<CR>" else (if c == line_feed then codes "<LF>" else c ∷ []))

-- characters as a line shows them
abbrev pub shown : List ℕ → List ℕ
shown characters = flat_map shown_character characters

-- the keys of a line, as it shows them
abbrev pub shown_keys : List Answered → List ℕ
shown_keys keys = shown (map (λ a. a.key) keys)

-- the answers of a line, as it shows them
abbrev pub shown_answers : List Answered → List ℕ
shown_answers keys = shown (flat_map (λ a. a.answer) keys)

-- a line: its keys, and then all that was answered to them
abbrev pub key_line : List Answered → List ℕ
key_line keys = line (shown_keys keys ++ codes " -> " ++ shown_answers keys)

-- all lines of these keys
abbrev pub key_text : List Answered → List ℕ
key_text keys = flat_map key_line (key_lines keys)

-- the line under way, if there is one
abbrev pub last_line : List Answered → List ℕ
last_line [] = []
last_line (a ∷ others) = key_line (a ∷ others)

-- a line under way holds these keys
pub record Holds (held : List Answered) (under_way : KeyLine) : Type 0 where
  pub keys : under_way.keys.items ≡ shown_keys held
  pub answers : under_way.answers.items ≡ shown_answers held

-- a line under way holds these keys, each of which was merely echoed
pub record Gathers (gathered : List Answered) (under_way : KeyLine) : Type 0 where
  pub holds : Holds gathered under_way
  pub echoes : AllByRecursion (λ a. is_echo a ≡ true) gathered

-- behind gathered keys come the next ones: the lines that they end were written, and what is left is gathered
pub record Notes (gathered next : List Answered) (under_way' : KeyLine) (out : Change (Option (List ℕ))) : Type 0 where
  pub told : List ℕ
  pub left : List Answered
  pub gathers : Gathers left under_way'
  pub written : Appends out.before out.after told
  pub text : (more : List Answered) → key_text (gathered ++ (next ++ more)) ≡ told ++ key_text (left ++ more)
