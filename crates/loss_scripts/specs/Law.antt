-- A text is one script and no other, or is refused at one line and no other.
use Rattle.std.specs.Prelude.{◌≡◌, ℕ, List, ⊤}
use Rattle.loss_scripts.specs.declared.script.Script.{Script}
use Rattle.loss_scripts.specs.declared.script.ScriptFault.{ScriptFault}
use Rattle.loss_scripts.specs.declared.script.ScriptFault.TheVariants.{Refused, Memory}
use Rattle.loss_scripts.specs.Script.{IsScript, IsRefusedScript}

-- the two scripts set up the same and let the same happen
pub record AreSame (a b : Script) : Type 0 where
  pub words : a.words ≡ b.words
  pub style : a.style ≡ b.style
  pub patience : a.patience ≡ b.patience
  pub waiting : a.waiting ≡ b.waiting
  pub puts : a.puts.items ≡ b.puts.items
  pub steps : a.steps.items ≡ b.steps.items

-- the text is no other script than this one, and it is refused at no line
pub record IsOnlyScript (text : List ℕ) (script : Script) : Type 0 where
  pub no_other : (other : Script) → IsScript text other → AreSame script other
  pub not_refused : (number : ℕ) → IsRefusedScript text number → ⊥

-- the text is refused at no other line than this one, and it is no script
pub record IsOnlyRefusal (text : List ℕ) (number : ℕ) : Type 0 where
  pub no_other : (other : ℕ) → IsRefusedScript text other → number ≡ other
  pub no_script : (script : Script) → IsScript text script → ⊥

-- a refusal is the only one; want of memory says nothing of the text
abbrev pub IsOnlyFault : List ℕ → ScriptFault → Type 0
IsOnlyFault text (Refused number) = IsOnlyRefusal text number
IsOnlyFault text Memory = ⊤
