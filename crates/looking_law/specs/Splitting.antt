-- Where one host ends on a line and the next begins. A key may still be under way there, or answers that nobody waits for.
use Rattle.std.specs.Prelude.{◌≡◌, ℕ, ◌+◌, ◌≤◌, List, [], ◌∷◌, ◌++◌, length, ⊤}
use Rattle.odt_machine.specs.Machine.{Machine}
use Rattle.host_core.specs.declared.heard.Heard.{Heard}
use Rattle.line_world.specs.Invariant.{OneWay}
use Rattle.line_world.specs.Wire.{Wire, most_waiting}
use Rattle.host_devices.specs.declared.item.Item.{Item}
use Rattle.host_devices.specs.declared.item.Item.TheVariants.{Sent, Heard as Came}
use Rattle.honest_line.specs.Moves.{Passes}
use Rattle.honest_line.specs.Honest.{IsHonest, resting}
use Rattle.reading_core.specs.Invariant.{IsReader}
use Rattle.reading_core.specs.Reader.{Reader}
use Rattle.looking_law.specs.Belief.{dialogue, MayLook}
use Rattle.trial_core.specs.Trial.{begun_trial}
use Rattle.looking_law.specs.Trying.{trial_dialogue, IsToldOf}

-- at most one key is under way, none beside an answer, and few answer characters are
pub record IsTidy (w : Wire) : Type 0 where
  pub one_way : OneWay w.down w.up
  pub few : length w.up ≤ most_waiting

-- however the list passes from the machine, with few answers waiting at first, the line is tidy at its end
abbrev pub EndsTidily : Machine → List Item → Type 0
EndsTidily machine items =
    (waiting : List ℕ) (end : Wire) → length waiting ≤ most_waiting → Passes (resting machine waiting 0) items end → IsTidy end

-- the list does not begin with a key
abbrev pub BeginsByListening : List Item → Type 0
BeginsByListening [] = ⊤
BeginsByListening (Sent key ∷ items) = ⊥
BeginsByListening (Came what ∷ items) = ⊤

-- a list is honest up to a machine, and a second one from there, with these losses together
pub record PartsAt (machine : Machine) (items more : List Item) (lost : ℕ) (machine' : Machine) : Type 0 where
  pub between : Machine
  pub lost_before : ℕ
  pub lost_after : ℕ
  pub before : IsHonest machine items lost_before between
  pub after : IsHonest between more lost_after machine'
  pub losses : lost_before + lost_after ≡ lost

-- an honest list splits where the line is tidy and what follows begins by listening: a key that was still under way there was taken or
-- lost before anything more was heard
abbrev pub HonestLinesSplit : Type 0
HonestLinesSplit =
    (machine machine' : Machine) (items more : List Item) (lost : ℕ) → EndsTidily machine items → BeginsByListening more →
    IsHonest machine (items ++ more) lost machine' → PartsAt machine items more lost machine'

-- a reading ends tidily
abbrev pub ReadingsEndTidily : Type 0
ReadingsEndTidily =
    (r : Reader) (things : List Heard) (told : List Item) (machine : Machine) → IsReader r → MayLook r machine →
    IsToldOf (dialogue r things) told → EndsTidily machine told

-- a trial ends tidily
abbrev pub TrialsEndTidily : Type 0
TrialsEndTidily =
    (address old patience : ℕ) (things : List Heard) (told : List Item) (machine : Machine) →
    IsToldOf (trial_dialogue (begun_trial address old patience) things) told → EndsTidily machine told
