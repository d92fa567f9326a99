-- The invariant of the loading protocol: it holds at every opening, and every event keeps it.
use Rattle.std.specs.Prelude.{ℕ, ◌≡◌, ◌<◌, ◌≤◌, ◌+◌, ◌*◌, Bool, true, if◌then◌else◌, List, [], ◌∷◌, length, ⊤}
use Rattle.tape_image.specs.Memory.{top_of}
use Rattle.odt_machine.specs.declared.mode.Mode.{Mode}
use Rattle.odt_machine.specs.declared.mode.Mode.TheVariants.{Running}
use Rattle.odt_machine.specs.Machine.{IsMachine}
use Rattle.host_core.specs.declared.phase.End.{End}
use Rattle.host_core.specs.declared.phase.End.TheVariants.{Uncertain, GaveUp, NoWord, WontHold}
use Rattle.host_core.specs.declared.phase.Phase.{Phase}
use Rattle.host_core.specs.declared.phase.Phase.TheVariants.{Settle, Ended}
use Rattle.host_core.specs.Core.{Core, start_of}
use Rattle.host_core.specs.Host.{IsHost}
use Rattle.odt_machine.specs.Answer.{longest_answer}
use Rattle.line_world.specs.Wire.{most_waiting}
use Rattle.line_world.specs.Scene.{Scene, Toll, toll_of}
use Rattle.line_world.specs.Site.{Ground, Site, ground, site, site_of, IsThere}
use Rattle.line_world.specs.Struck.{Attempt}
use Rattle.line_world.specs.Lawful.{Lawful}

-- an end has its cause
abbrev pub EndIsPaid : End → List ℕ → ℕ → ℕ → ℕ → Type 0
EndIsPaid GaveUp memory patience spent lost = patience < lost
EndIsPaid Uncertain memory patience spent lost = spent < lost
EndIsPaid (NoWord a) memory patience spent lost = top_of memory ≤ a
EndIsPaid (WontHold a) memory patience spent lost = ⊥
EndIsPaid end memory patience spent lost = ⊤

-- what a phase says of the world: between answers only that a key under way is lawful
abbrev pub InPhase : Phase → Ground → Site → (down up : List ℕ) → (patience spent : ℕ) → Toll → Type 0
InPhase Settle g t down up patience spent toll = Lawful g down
InPhase (Ended end) g t down up patience spent toll = Lawful g down × EndIsPaid end g.machine.memory patience spent toll.count
InPhase phase g t down up patience spent toll = Attempt toll.hurt phase t g.machine.mode down up spent toll.count

-- one of the queues is empty, and `down` has at most one key
abbrev pub OneWay : List ℕ → List ℕ → Type 0
OneWay [] up = ⊤
OneWay (c ∷ down) up = (down ≡ []) × (up ≡ [])

-- how many words stand for sure: all of them under the mark
abbrev pub standing : Core → ℕ
standing core = if core.going then length core.plan.words else core.verified

-- a program runs only under the mark
abbrev pub RunsWith : Bool → Mode → Type 0
RunsWith going (Running p) = going ≡ true
RunsWith going mode = ⊤

-- it was started at the start address
abbrev pub RunsAt : ℕ → Mode → Type 0
RunsAt start (Running p) = p ≡ start
RunsAt start mode = ⊤

-- how many characters the line may still change in this attempt
abbrev pub spare : Bool → Bool → ℕ
spare careful changed = if careful then (if changed then 0 else 1) else 0

-- the most characters that were lost and changed in a life that has sent so many: what waited at its beginning, and the answer to each key; and
-- with a careful host one may be changed for each key, and one more
abbrev pub most_lost : Bool → ℕ → ℕ
most_lost careful sent = if careful then most_waiting + 1 + (longest_answer + 1) * sent else most_waiting + longest_answer * sent

-- the invariant
pub record IsKept (w : Scene) : Type 0 where
  pub machine : IsMachine w.machine
  pub host : IsHost w.core
  pub one_way : OneWay w.down w.up
  pub few : length w.up ≤ most_waiting
  pub words : (i : ℕ) → i < standing w.core → IsThere (site_of w i)
  pub running : RunsWith w.core.going w.machine.mode
  pub at_start : RunsAt (start_of w.core) w.machine.mode
  pub cared : w.changed ≡ true → w.core.careful ≡ true
  pub spent : w.core.spent ≤ w.lost
  pub characters : w.lost + spare w.core.careful w.changed + length w.up + longest_answer * length w.down ≤ most_lost w.core.careful w.core.sent
  pub phase : InPhase w.core.phase (ground w) (site w) w.down w.up w.core.patience w.core.spent (toll_of w)
