-- Words put into a machine, one after another.
use Rattle.std.proofs.Common.{◌≡◌, ℕ, Bool, false, List, ◌∷◌, ◌++◌, ◌*◌, ◌%◌, ◌==◌, ◌&&◌, nat_lt, length, ap, sym, refl, ◌∙◌}
use Rattle.odt_machine.specs.Machine.{Machine, is_word}
use Rattle.loss_scripts.specs.declared.script.PutLine.{PutLine}
use Rattle.tape_commands.specs.Rehearsal.{after_puts, AllLie, IsRefusedPut}

-- these words have been put, and the others are left
pub record IsPutting (start now : Machine) (all before left : List PutLine) : Type 0 where
  pub size : length now.memory ≡ length start.memory
  pub lie : AllLie start.memory before
  pub memory : record now { memory = after_puts now.memory left } ≡ record start { memory = after_puts start.memory all }

-- whether a word lies there depends on the size alone
pub lies_by : (start now : Machine) (address : ℕ) (lies : Bool) → length now.memory ≡ length start.memory → lies ≡ is_word now.memory address → is_word start.memory address ≡ lies
lies_by start now address lies size is = ap (λ n. address % 2 == 0 && nat_lt address (2 * n)) (sym size) ∙ sym is

pub putting_refused : (start now : Machine) (all before left rest : List PutLine) (put : PutLine) → IsPutting start now all before left → all ≡ before ++ left → left ≡ put ∷ rest
    → is_word start.memory put.address ≡ false → IsRefusedPut start.memory all put.line
putting_refused start now all before left rest put so joined first refused = record {
  before = before;
  put = put;
  others = rest;
  all = joined ∙ ap (λ ls. before ++ ls) first;
  lie = so.lie;
  refused = refused;
  number_is = refl;
}
