-- A line that loses nothing loads everything.
use Rattle.std.specs.Prelude.{ℕ, ◌≡◌, ◌<◌, false, List, [], length, Option, Some, None}
use Rattle.tape_image.specs.Overlay.{IsOverlay}
use Rattle.host_core.specs.declared.phase.End.{End}
use Rattle.host_core.specs.declared.phase.End.TheVariants.{Loaded, Started, NoWord}
use Rattle.host_core.specs.Core.{IsFresh, word_nr}
use Rattle.line_world.specs.Scene.{Scene}
use Rattle.line_world.specs.Safe.{WordLies}
use Rattle.line_world.specs.CleanText.{clean_text}

-- the world as it was opened: the host has done nothing yet, no key is under way, nothing is lost or changed
pub record IsAtOpening (w : Scene) : Type 0 where
  pub fresh : IsFresh w.core
  pub none_down : w.down ≡ []
  pub none_lost : w.lost ≡ 0
  pub none_changed : w.changed ≡ false

-- the plan's word numbered i lies in the world's memory
abbrev pub LiesIn : Scene → ℕ → Type 0
LiesIn w i = WordLies w.core.plan.words w.machine.memory i

-- the end of a load that lacks nothing
abbrev pub full_end : Option ℕ → End
full_end None = Loaded
full_end (Some start) = Started

-- every word was loaded, and the program was started if it has a start: memory is the overlay, the clean text was typed, no mishap was met
pub record LoadsAll (before now : Scene) (keys : List ℕ) (end : End) : Type 0 where
  pub end_is : end ≡ full_end before.core.plan.start
  pub overlay : IsOverlay before.machine.memory before.core.plan.image now.machine.memory
  pub keys_are : keys ≡ clean_text before.core.careful before.core.plan.words before.machine.memory before.core.plan.start
  pub spent : now.core.spent ≡ 0

-- the load stopped at the word numbered i, with all words before it verified
pub record StopsAtWord (before now : Scene) (end : End) (i : ℕ) : Type 0 where
  pub end_is : end ≡ NoWord (word_nr before.core.plan.words i).address
  pub verified : now.core.verified ≡ i

-- where every word lies in memory all of them are loaded, else the load stops at the first that doesn't
pub record LoadsClean (before now : Scene) (keys : List ℕ) (end : End) : Type 0 where
  pub whole : ((i : ℕ) → i < length before.core.plan.words → LiesIn before i) → LoadsAll before now keys end
  pub missing : (i : ℕ) → i < length before.core.plan.words → (LiesIn before i → ⊥) → ((j : ℕ) → j < i → LiesIn before j) → StopsAtWord before now end i
