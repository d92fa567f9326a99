-- A host that tries whether a console forgets digits, as one value, and how its life begins (this project's choice).
use Rattle.std.specs.Prelude.{◌≡◌, ℕ, ◌^◌, ◌<◌, ◌≤◌, ◌⊎◌, Option, Some, None, ⊤}
use Rattle.host_core.specs.Host.{IsPlace}
use Rattle.reading_core.specs.Addresses.{IsAddress}
use Rattle.trial_core.specs.declared.phase.Phase.{Phase}
use Rattle.trial_core.specs.declared.phase.Phase.TheVariants.{Settle, Sync, Address, Value, Typed, Done, Refused, Ended}
use Rattle.trial_core.specs.declared.phase.End.{End}
use Rattle.trial_core.specs.declared.habit.Habit.TheVariants.{Unseen}
use Rattle.trial_core.specs.declared.habit.Seen.{Seen}
use Rattle.trial_core.specs.declared.letter.SmallLetters.TheVariants.{NotKnown}
use Rattle.trial_core.specs.declared.trial.Trial.{Trial}
use Rattle.trial_core.specs.Digits.{digits_for}

-- nothing was seen of a console's style or of small letters
abbrev pub nothing_seen : Seen
nothing_seen = record { space_before = Unseen; two_returns = Unseen; echo_illegal = Unseen; small_letters = NotKnown }

-- a trial at the beginning of its life, of the word at an address, which holds this number
abbrev pub begun_trial : ℕ → ℕ → ℕ → Trial
begun_trial address old patience = record {
  address = address;
  digits = digits_for old;
  patience = patience;
  spent = 0;
  seen = nothing_seen;
  phase = Settle;
}

-- the end of the life, where it has ended
abbrev pub ended : Phase → Option End
ended (Ended end) = Some end
ended _ = None

-- what a phase says
abbrev pub PhaseFits : Phase → Type 0
PhaseFits (Sync place) = place ≤ 5
PhaseFits (Address place) = IsPlace place
PhaseFits (Value place) = place ≤ 6
PhaseFits (Typed place) = (1 ≤ place) × (place ≤ 3)
PhaseFits (Done place) = place ≤ 5
PhaseFits (Refused letters place) = place ≤ 5
PhaseFits phase = ⊤

-- every trial is so: it is of a word's address, types one of two numbers, has had no more mishaps than its patience, and its phase fits
pub record IsTrial (t : Trial) : Type 0 where
  pub address : IsAddress t.address
  pub digits : (t.digits ≡ 0o123) ⊎ (t.digits ≡ 0o321)
  pub patient : t.spent ≤ t.patience
  pub long : t.patience < 2 ^ 32
  pub fits : PhaseFits t.phase
