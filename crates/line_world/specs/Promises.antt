-- What holds of every world, and what the keys typed in some events say of the program's start.
use Rattle.std.specs.Prelude.{ℕ, ◌≡◌, ◌<◌, ◌≤◌, ◌⊎◌, ◌↔◌, Bool, true, false, List, [], ◌∷◌, length, Contains, ⊤}
use Rattle.tape_image.specs.Plan.{PlanValue}
use Rattle.odt_machine.specs.declared.mode.Mode.{Mode}
use Rattle.odt_machine.specs.declared.mode.Mode.TheVariants.{Number}
use Rattle.odt_machine.specs.Described.{IsDescribed}
use Rattle.host_core.specs.declared.phase.Phase.{Phase}
use Rattle.host_core.specs.declared.phase.Phase.TheVariants.{Ended}
use Rattle.host_core.specs.Core.{Core, start_of, word_nr}
use Rattle.host_core.specs.Console.{go, slash}
use Rattle.line_world.specs.Wire.{most_waiting, is_harmless}
use Rattle.line_world.specs.Scene.{Scene}
use Rattle.line_world.specs.Invariant.{EndIsPaid, RunsWith, RunsAt, most_lost}

-- the mode holds the address of a word of the plan
abbrev pub HasAddress : PlanValue → Mode → Type 0
HasAddress plan (Number v n) = (i : ℕ) × (i < length plan.words) × (v ≡ (word_nr plan.words i).address)
HasAddress plan mode = ⊥

-- a key is described; with a careful host, whose keys the line may change, it is described or harmless, as the one by which that host resynchronises
abbrev pub IsExpected : Bool → Mode → ℕ → Type 0
IsExpected false mode c = IsDescribed mode c
IsExpected true mode c = IsDescribed mode c ⊎ (is_harmless c ≡ true)

-- a key under way finds the machine in a mode in which it is described, and a `/` opens an address that the plan has a word for
abbrev pub KeysAreDescribed : Bool → PlanValue → Mode → List ℕ → Type 0
KeysAreDescribed careful plan mode [] = ⊤
KeysAreDescribed careful plan mode (c ∷ down) = IsExpected careful mode c × (c ≡ slash → HasAddress plan mode)

-- the queues are short, and one of them is empty
pub record QueuesAreShort (down up : List ℕ) : Type 0 where
  pub keys : length down ≤ 1
  pub answers : length up ≤ most_waiting
  pub one_way : (down ≡ []) ⊎ (up ≡ [])

-- an end, if it is one, has its cause
abbrev pub HasCause : Phase → List ℕ → (patience spent lost : ℕ) → Type 0
HasCause (Ended end) memory patience spent lost = EndIsPaid end memory patience spent lost
HasCause phase memory patience spent lost = ⊤

-- what holds of every world, however it came to be
pub record IsTame (w : Scene) : Type 0 where
  pub keys : KeysAreDescribed w.core.careful w.core.plan w.machine.mode w.down
  pub queues : QueuesAreShort w.down w.up
  -- no mishap without a loss or a change of its own
  pub spent : w.core.spent ≤ w.lost
  -- GaveUp after more of them than the patience, Uncertain after one that no mishap paid for, NoWord past memory, WontHold never
  pub cause : HasCause w.core.phase w.machine.memory w.core.patience w.core.spent w.lost
  -- what waited at the beginning of this life of the host may be lost, and the answer to each key that it sent
  pub lost : w.lost ≤ most_lost w.core.careful w.core.sent
  -- only the line of a careful host changes characters
  pub cared : w.changed ≡ true → w.core.careful ≡ true
  -- a program runs only under the mark, and at the start address
  pub runs : RunsWith w.core.going w.machine.mode × RunsAt (start_of w.core) w.machine.mode

-- nothing stands after `G`, so it stands there once at most
abbrev pub EndsAtGo : List ℕ → Type 0
EndsAtGo [] = ⊤
EndsAtGo (c ∷ keys) = (c ≡ go → keys ≡ []) × EndsAtGo keys

-- the keys start the program at most once: `G` is the last of them, none is typed where the mark stood, and `G` is typed exactly where the mark is set
pub record StartsOnce (before after : Core) (keys : List ℕ) : Type 0 where
  pub last : EndsAtGo keys
  pub silent : before.going ≡ true → keys ≡ []
  pub marked : Contains keys go ↔ ((before.going ≡ false) × (after.going ≡ true))
  pub stays : before.going ≡ true → after.going ≡ true
