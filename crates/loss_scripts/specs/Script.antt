-- A whole script: its lines, in what order they may stand, and what they set up. This project's choice (docs/SCRIPTS.md).
use Rattle.std.specs.Prelude.{◌≡◌, ℕ, ◌+◌, ◌<◌, ◌≤◌, ◌⊎◌, List, [], ◌∷◌, ◌++◌, length, take, filter_map}
use Rattle.std.specs.Prelude.{Option, Some, None, unwrap_or, slice_get, slice_index_or, ⊤}
use Rattle.std.specs.List.{AllZip, enumerate_from}
use Rattle.std.specs.Str.Lines.{lines}
use Rattle.arrayvec.specs.ArrayVec.{ArrayVec}
use Rattle.host_core.specs.Core.{plain_patience}
use Rattle.odt_machine.specs.declared.style.Style.{Style}
use Rattle.odt_machine.specs.Machine.{largest_words}
use Rattle.odt_machine.specs.Style.{plain_style}
use Rattle.loss_scripts.specs.declared.line.ScriptLine.{ScriptLine}
use Rattle.loss_scripts.specs.declared.line.ScriptLine.TheVariants as line
use Rattle.loss_scripts.specs.declared.line.Setting.{Setting}
use Rattle.loss_scripts.specs.declared.line.Setting.TheVariants.{Words, OfStyle, Patience, Wait, Put}
use Rattle.loss_scripts.specs.declared.script.PutLine.{PutLine}
use Rattle.loss_scripts.specs.declared.script.StepLine.{StepLine}
use Rattle.loss_scripts.specs.declared.script.Script.{Script}
use Rattle.loss_scripts.specs.declared.script.ScriptFault.{ScriptFault}
use Rattle.loss_scripts.specs.declared.script.ScriptFault.TheVariants.{Refused, Memory}
use Rattle.loss_scripts.specs.Line.{IsLine}

-- the most bytes that a script may have: 2 to the 20th, which is twice what a line for each word of the largest memory takes; so an input
-- without end is refused (this project's choice)
abbrev pub script_limit : ℕ
script_limit = 1048576

-- the size of the machine that a line names
abbrev pub words_in : ScriptLine → Option ℕ
words_in (line.Setting (Words n)) = Some n
words_in said = None

-- the style that a line names
abbrev pub style_in : ScriptLine → Option Style
style_in (line.Setting (OfStyle style)) = Some style
style_in said = None

-- the patience that a line names
abbrev pub patience_in : ScriptLine → Option ℕ
patience_in (line.Setting (Patience n)) = Some n
patience_in said = None

-- the characters that a line lets wait
abbrev pub waiting_in : ScriptLine → Option (ArrayVec ℕ)
waiting_in (line.Setting (Wait waiting)) = Some waiting
waiting_in said = None

-- the word that a line, by its number, puts into memory
abbrev pub put_in : ℕ × ScriptLine → Option PutLine
put_in (number, line.Setting (Put address value)) = Some (record { line = number; address = address; value = value })
put_in (number, said) = None

-- what an event line, by its number, lets happen
abbrev pub step_in : ℕ × ScriptLine → Option StepLine
step_in (number, line.Step step) = Some (record { line = number; step = step })
step_in (number, said) = None

-- the lines with their numbers, from 1
abbrev pub numbered : List ScriptLine → List (ℕ × ScriptLine)
numbered said = enumerate_from 1 said

-- the event lines
abbrev pub steps_of : List ScriptLine → List StepLine
steps_of said = filter_map step_in (numbered said)

-- the lines that put words into memory
abbrev pub puts_of : List ScriptLine → List PutLine
puts_of said = filter_map put_in (numbered said)

-- what the lines name first, where they do
abbrev pub first_in : {A : Type 0} → (ScriptLine → Option A) → List ScriptLine → Option A
first_in named said = slice_get (filter_map named said) 0

-- each setup line but that of a word stands at most once
abbrev pub IsNew : List ScriptLine → Setting → Type 0
IsNew before (Words n) = first_in words_in before ≡ None
IsNew before (OfStyle style) = first_in style_in before ≡ None
IsNew before (Patience n) = first_in patience_in before ≡ None
IsNew before (Wait waiting) = first_in waiting_in before ≡ None
IsNew before (Put address value) = ⊤

-- a line may come after these: a setup line only before all event lines, and where it repeats none
abbrev pub MayCome : List ScriptLine → ScriptLine → Type 0
MayCome before (line.Setting s) = (steps_of before ≡ []) × IsNew before s
MayCome before said = ⊤

-- each line may come after those before it
abbrev pub IsInOrder : List ScriptLine → Type 0
IsInOrder said = (k : ℕ) (d : ScriptLine) → k < length said → MayCome (take k said) (slice_index_or said k d)

-- the text is this script: lines in order, and what they name, with the defaults of what none names
pub record IsScript (text : List ℕ) (script : Script) : Type 0 where
  pub said : List ScriptLine
  pub within : length text ≤ script_limit
  pub spelled : AllZip IsLine (lines text) said
  pub in_order : IsInOrder said
  pub words : script.words ≡ unwrap_or (first_in words_in said) largest_words
  pub style : script.style ≡ unwrap_or (first_in style_in said) plain_style
  pub patience : script.patience ≡ unwrap_or (first_in patience_in said) plain_patience
  pub waiting : script.waiting ≡ unwrap_or (first_in waiting_in said) (record { items = [] })
  pub puts : script.puts.items ≡ puts_of said
  pub steps : script.steps.items ≡ steps_of said

-- the first line that is of no form, or may not come after those before it, by its number
pub record IsRefusedLine (text : List ℕ) (number : ℕ) : Type 0 where
  pub before : List (List ℕ)
  pub refused : List ℕ
  pub after : List (List ℕ)
  pub all : lines text ≡ before ++ refused ∷ after
  pub number_is : number ≡ length before + 1
  pub said : List ScriptLine
  pub spelled : AllZip IsLine before said
  pub in_order : IsInOrder said
  pub wrong : (line : ScriptLine) → IsLine refused line → MayCome said line → ⊥

-- the text is refused at a line: at 0 where it is too long, else at the first that is wrong
abbrev pub IsRefusedScript : List ℕ → ℕ → Type 0
IsRefusedScript text number = ((number ≡ 0) × (script_limit < length text)) ⊎ ((length text ≤ script_limit) × IsRefusedLine text number)

-- why a text was not read: it is refused, or want of memory
abbrev pub IsScriptFault : List ℕ → ScriptFault → Type 0
IsScriptFault text (Refused number) = IsRefusedScript text number
IsScriptFault text Memory = ⊤
