-- Any number of hosts that ran on one line, one after another: each looks, or tries.
use Rattle.std.specs.Prelude.{◌≡◌, ℕ, ◌+◌, ◌^◌, ◌<◌, All, List, [], ◌∷◌, ◌++◌}
use Rattle.odt_machine.specs.Machine.{Machine}
use Rattle.host_core.specs.declared.heard.Heard.{Heard}
use Rattle.host_devices.specs.declared.item.Item.{Item}
use Rattle.host_devices.specs.Dialogue.{keys_of}
use Rattle.honest_line.specs.Honest.{IsHonest}
use Rattle.reading_core.specs.Addresses.{AreAddresses, IsAddress}
use Rattle.reading_core.specs.Laws.{led}
use Rattle.reading_core.specs.Reader.{begun}
use Rattle.looking_law.specs.Belief.{dialogue, IsReadyMachine, IsTrueReading}
use Rattle.trial_core.specs.Trial.{begun_trial}
use Rattle.trial_core.specs.TrialTable.{IsTrying}
use Rattle.looking_law.specs.Splitting.{BeginsByListening}
use Rattle.looking_law.specs.Trying.{IsToldOf, trial_dialogue}

-- a host that looks at some addresses, or one that tries a word, from the beginning of its life, with its patience and what it heard
pub data Run : Type 0 where
  Look : (addresses : List ℕ) (patience : ℕ) (heard : List Heard) → Run
  Try : (address old patience : ℕ) (heard : List Heard) → Run

-- there may be such a host
abbrev pub MayBeSuchAHost : Run → Type 0
MayBeSuchAHost (Look addresses patience heard) = AreAddresses addresses × (patience < 2 ^ 32)
MayBeSuchAHost (Try address old patience heard) = IsAddress address × (patience < 2 ^ 32)

-- each thing that it heard, and right after it the key that it sent
abbrev pub dialogue_of : Run → List Item
dialogue_of (Look addresses patience heard) = dialogue (begun addresses [] patience) heard
dialogue_of (Try address old patience heard) = trial_dialogue (begun_trial address old patience) heard

-- what was told of such hosts, one after another: of each its dialogue, perhaps without its last key
abbrev pub AreTold : List Run → List Item → Type 0
AreTold [] told = told ≡ []
AreTold (run ∷ runs) told = (first : List Item) × (rest : List Item) × IsToldOf (dialogue_of run) first × AreTold runs rest × (told ≡ first ++ rest)

-- what a host read is what memory holds, and its mishaps and its end are paid by losses; one that tries types digits, `/`, `Z` and `a` alone
abbrev pub IsBorneOut : (memory : List ℕ) (lost : ℕ) → Run → Type 0
IsBorneOut memory lost (Look addresses patience heard) =
    IsTrueReading memory (led (begun addresses [] patience) heard) memory (keys_of (dialogue (begun addresses [] patience) heard)) lost
IsBorneOut memory lost (Try address old patience heard) = All IsTrying (keys_of (trial_dialogue (begun_trial address old patience) heard))

-- what came of these hosts: the next may begin, memory is what it was, and what each of them learned is borne out
pub record AreHarmless (machine : Machine) (runs : List Run) (lost : ℕ) (machine' : Machine) : Type 0 where
  pub ready : IsReadyMachine machine'
  pub memory : machine'.memory ≡ machine.memory
  pub learned : All (IsBorneOut machine.memory lost) runs

-- looks and trials over one honest line, as many as there are, do no harm
abbrev pub LooksAndTrialsDoNoHarm : Type 0
LooksAndTrialsDoNoHarm =
    (machine machine' : Machine) (runs : List Run) (told : List Item) (lost : ℕ) → IsReadyMachine machine → All MayBeSuchAHost runs → AreTold runs told →
    IsHonest machine told lost machine' → AreHarmless machine runs lost machine'

-- the hosts did no harm up to a machine, and what was told behind them is honest from there, with these losses together
pub record AreHarmlessBefore (machine : Machine) (runs : List Run) (more : List Item) (lost : ℕ) (machine' : Machine) : Type 0 where
  pub between : Machine
  pub lost_before : ℕ
  pub lost_after : ℕ
  pub before : AreHarmless machine runs lost_before between
  pub after : IsHonest between more lost_after machine'
  pub losses : lost_before + lost_after ≡ lost

-- the same where any other host followed on the line
abbrev pub OthersMayFollow : Type 0
OthersMayFollow =
    (machine machine' : Machine) (runs : List Run) (told more : List Item) (lost : ℕ) → IsReadyMachine machine → All MayBeSuchAHost runs → AreTold runs told →
    BeginsByListening more → IsHonest machine (told ++ more) lost machine' → AreHarmlessBefore machine runs more lost machine'
