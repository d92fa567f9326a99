-- A script as far as it is read.
use Rattle.std.specs.Prelude.{◌≡◌, List, [], ◌∷◌, ◌++◌}
use Rattle.loss_scripts.specs.declared.line.ScriptLine.{ScriptLine}
use Rattle.loss_scripts.specs.declared.script.Draft.{Draft}
use Rattle.loss_scripts.specs.Script.{first_in, words_in, style_in, patience_in, waiting_in, puts_of, steps_of, MayCome}

-- a draft has what these lines name
pub record HasNamed (said : List ScriptLine) (draft : Draft) : Type 0 where
  pub words : draft.words ≡ first_in words_in said
  pub style : draft.style ≡ first_in style_in said
  pub patience : draft.patience ≡ first_in patience_in said
  pub waiting : draft.waiting ≡ first_in waiting_in said
  pub puts : draft.puts.items ≡ puts_of said
  pub steps : draft.steps.items ≡ steps_of said

-- a line may come after these, and the draft has it too; or it may not
abbrev pub Joins : List ScriptLine → ScriptLine → Draft → Type 0
Joins before line draft = MayCome before line × HasNamed (before ++ line ∷ []) draft
