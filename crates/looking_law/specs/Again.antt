-- A trial between two looks at a word.
use Rattle.std.specs.Prelude.{◌≡◌, ℕ, ◌^◌, ◌<◌, List, [], ◌∷◌, length}
use Rattle.odt_machine.specs.Machine.{Machine}
use Rattle.host_core.specs.declared.heard.Heard.{Heard}
use Rattle.host_devices.specs.declared.item.Item.{Item}
use Rattle.honest_line.specs.Honest.{IsHonest}
use Rattle.reading_core.specs.Addresses.{IsAddress}
use Rattle.reading_core.specs.Reader.{Reader, begun}
use Rattle.reading_core.specs.Laws.{led}
use Rattle.looking_law.specs.Belief.{dialogue, IsReadyMachine}
use Rattle.trial_core.specs.Trial.{begun_trial}
use Rattle.looking_law.specs.Runs.{AreTold, Run, Look, Try}
use Rattle.looking_law.specs.Trying.{trial_dialogue}

-- a host that looks at one word, at the beginning of its life
abbrev pub looker : (address patience : ℕ) → Reader
looker address patience = begun (address ∷ []) [] patience

-- a word that is looked at, tried and looked at again: its address, what it held, how many mishaps each of the three survives, what each heard, and the
-- machine before and behind them
pub record Probing : Type 0 where
  pub address : ℕ
  pub old : ℕ
  pub patience : ℕ
  pub first : List Heard
  pub trying : List Heard
  pub second : List Heard
  pub before : Machine
  pub behind : Machine

-- the host of each look
abbrev pub looker_of : Probing → Reader
looker_of probing = looker probing.address probing.patience

-- the three, one after another
abbrev pub three_runs : Probing → List Run
three_runs probing =
    Look (probing.address ∷ []) probing.patience probing.first ∷ Try probing.address probing.old probing.patience probing.trying
    ∷ Look (probing.address ∷ []) probing.patience probing.second ∷ []

-- the numbers that each look read
abbrev pub read_first : Probing → List ℕ
read_first probing = (led (looker_of probing) probing.first).values

abbrev pub read_again : Probing → List ℕ
read_again probing = (led (looker_of probing) probing.second).values

-- the machine is ready, and the address is one that may be asked for
pub record MayProbe (probing : Probing) : Type 0 where
  pub ready : IsReadyMachine probing.before
  pub address : IsAddress probing.address
  pub patient : probing.patience < 2 ^ 32

-- each went over an honest line of its own, one behind another, with its own losses and silences
pub record OverThreeLines (probing : Probing) : Type 0 where
  pub tried_at : Machine
  pub looked_again_at : Machine
  pub lost_first : ℕ
  pub lost_trying : ℕ
  pub lost_second : ℕ
  pub looks : IsHonest probing.before (dialogue (looker_of probing) probing.first) lost_first tried_at
  pub tries : IsHonest tried_at (trial_dialogue (begun_trial probing.address probing.old probing.patience) probing.trying) lost_trying looked_again_at
  pub looks_again : IsHonest looked_again_at (dialogue (looker_of probing) probing.second) lost_second probing.behind

-- all three were told of one honest line, one after another
pub record OverOneLine (probing : Probing) : Type 0 where
  pub told : List Item
  pub lost : ℕ
  pub are_told : AreTold (three_runs probing) told
  pub honest : IsHonest probing.before told lost probing.behind

-- memory is what it was, and where each look read one number, it is the same
pub record FindsTheWordAgain (probing : Probing) : Type 0 where
  pub memory : probing.behind.memory ≡ probing.before.memory
  pub again : length (read_first probing) ≡ 1 → length (read_again probing) ≡ 1 → read_again probing ≡ read_first probing

-- a look, a trial and a second look, over three honest lines in a row
abbrev pub ProbesFindTheWordAgain : Type 0
ProbesFindTheWordAgain = (probing : Probing) → MayProbe probing → OverThreeLines probing → FindsTheWordAgain probing

-- and over one
abbrev pub OneLineFindsTheWordAgain : Type 0
OneLineFindsTheWordAgain = (probing : Probing) → MayProbe probing → OverOneLine probing → FindsTheWordAgain probing
