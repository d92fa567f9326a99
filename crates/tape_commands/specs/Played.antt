-- What the lines of a script do to a world.
use Rattle.std.specs.Prelude.{◌≡◌, ℕ, Bool, true, false, ◌==◌, ◌||◌, nat_le, is_some, if◌then◌else◌, List, [], ◌∷◌, ◌++◌, replicate, codes, decimal}
use Rattle.std.specs.List.{flat_map}
use Rattle.host_core.specs.Core.{ended}
use Rattle.line_world.specs.declared.event.Event.{Event}
use Rattle.line_world.specs.Scene.{Scene}
use Rattle.line_world.specs.World.{happens, after, possible_count, first_event, IsCleanRun}
use Rattle.loss_scripts.specs.declared.line.ScriptStep.{ScriptStep}
use Rattle.loss_scripts.specs.declared.line.ScriptStep.TheVariants.{Times, Until, Clean}
use Rattle.loss_scripts.specs.declared.script.StepLine.{StepLine}
use Rattle.byte_io.specs.Text.{line}

-- so many characters were sent, or the host has an end
abbrev pub is_over : ℕ → Scene → Bool
is_over n w = nat_le n w.core.sent || is_some (ended w.core.phase)

-- the events are those of a line that loses nothing, up to the first world where that is over
abbrev pub IsCleanUntil : ℕ → Scene → List Event → Type 0
IsCleanUntil n w [] = is_over n w ≡ true
IsCleanUntil n w (event ∷ events) = (is_over n w ≡ false) × (event ≡ first_event w) × IsCleanUntil n (happens w event) events

-- an event line leads from one world to another, and was possible or not: an event so many times is possible where it is
-- each time, and where it is not the world stays, so the rest of the count does nothing
abbrev pub Plays : Scene → ScriptStep → Scene → Bool → Type 0
Plays w (Times event n) w' possible = (w' ≡ after w (replicate n event)) × (possible ≡ (possible_count w (replicate n event) == n))
Plays w (Until n) w' possible = (possible ≡ true) × ((events : List Event) × IsCleanUntil n w events × (w' ≡ after w events))
Plays w Clean w' possible = (possible ≡ true) × ((events : List Event) × IsCleanRun w events × (w' ≡ after w events))

-- the lines, one after another, lead from one world to another, and these are the numbers of those that were not possible
abbrev pub Played : Scene → List StepLine → Scene → List ℕ → Type 0
Played w [] w' numbers = (w' ≡ w) × (numbers ≡ [])
Played w (l ∷ lines) w' numbers =
    (between : Scene) × (possible : Bool) × (others : List ℕ) × Plays w l.step between possible × Played between lines w' others
    × (numbers ≡ (if possible then others else l.line ∷ others))

-- what is told of a line that was not possible
abbrev pub not_possible_text : ℕ → List ℕ
not_possible_text number = line (codes "line " ++ decimal number ++ codes ": not possible")

-- what is told of all that were not possible, in order
abbrev pub not_possible_lines : List ℕ → List ℕ
not_possible_lines numbers = flat_map not_possible_text numbers
