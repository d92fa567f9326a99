-- The looks of a load: at words that its record has, before it is believed, and again behind a stub that was in vain.
use Rattle.std.specs.Prelude.{◌≡◌, ℕ, ◌-◌, ◌≤◌, ◌==◌, ◌&&◌, ◌||◌, not, Bool, false, if◌then◌else◌, List, [], ◌∷◌, ◌++◌, length, take, Option, Some, None, Ok, Err, vec_capacity}
use Rattle.host_devices.specs.Devices.{LineTold}
use Rattle.host_core.specs.declared.phase.End.TheVariants as host
use Rattle.host_core.specs.Core.{Core, begun_by, word_nr}
use Rattle.host_devices.specs.Turns.{most_turns}
use Rattle.machine_load.specs.Asked.{Change, Opened, ◌⇒◌}
use Rattle.engine.specs.declared.stop.Stop.TheVariants as drive
use Rattle.machine_load.specs.declared.load_end.LoadEnd.{LoadEnd}
use Rattle.machine_load.specs.declared.load_end.LoadEnd.TheVariants as load_end
use Rattle.machine_load.specs.declared.looks.Looks.{Looks}
use Rattle.machine_load.specs.declared.looks.LooksRoom.{LooksRoom}
use Rattle.reading_core.specs.declared.care.Care.{Care}
use Rattle.reading_core.specs.declared.care.Care.TheVariants.{Once, Twice}
use Rattle.reading_core.specs.declared.phase.End.TheVariants.{Complete, GaveUp, NoWord}
use Rattle.reading_core.specs.Addresses.{AreAddresses, addresses_of}
use Rattle.reading_core.specs.Bound.{life_bound}
use Rattle.reading_core.specs.Reader.{Manner, Reader, begun_in, manner_of}
use Rattle.looking_engine.specs.Stopping.{LookStop}
use Rattle.looking_engine.specs.Inquired.{IsInquired, inquiry}
use Rattle.sample_looks.specs.declared.finding.Finding.{Finding}
use Rattle.sample_looks.specs.declared.finding.Finding.TheVariants.{AllStand, Stale, Unfinished}
use Rattle.sample_looks.specs.Finding.{IsFound}
use Rattle.sample_looks.specs.Looked.{IsSoOver}
use Rattle.sample_looks.specs.Samples.{AreSamples}
use Rattle.tape_image.specs.Word.{WordValue}

-- how a load ends whose looks stopped so: where each word was read they do not end it
abbrev pub unfinished_at : LookStop → Option LoadEnd
unfinished_at (Ok Complete) = None
unfinished_at (Ok GaveUp) = Some (load_end.Unfinished (drive.Ended host.GaveUp))
unfinished_at (Ok (NoWord address)) = Some (load_end.Unfinished (drive.Ended (host.NoWord address)))
unfinished_at (Err cut) = Some (load_end.Unfinished (drive.CutOff cut))

-- how a load ends that its looks do not let go on, by what they found and how they stopped
abbrev pub ended_by : Finding → LookStop → Option LoadEnd
ended_by AllStand stop = unfinished_at stop
ended_by (Stale address) stop = Some (load_end.Stale address)
ended_by Unfinished stop = unfinished_at stop

abbrev pub held_up_by : Looks → Option LoadEnd
held_up_by looks = ended_by looks.finding looks.stop

-- how many of the record's words count behind looks that found this: none, where one of them does not stand
abbrev pub vouched_for : ℕ → Finding → ℕ
vouched_for verified AllStand = verified
vouched_for verified (Stale address) = 0
vouched_for verified Unfinished = verified

-- the host of a life behind its looks, as one that nothing came before: its patience is what they left of the life's
abbrev pub behind_looks : Core → Looks → Core
behind_looks first looks = begun_by first.careful first.plan (vouched_for first.verified looks.finding) false (first.patience - looks.spent)

-- the same where there may have been none
abbrev pub behind_any_looks : Core → Option Looks → Core
behind_any_looks first None = first
behind_any_looks first (Some looks) = behind_looks first looks

-- how often a life looks at a sample: a careful one twice in a row
abbrev pub care_of : (careful : Bool) → Care
care_of careful = if careful then Twice else Once

-- whether a life's first looks visit the tape's highest word, too: where its host is careful, or stubs are asked for
abbrev pub asks_for_highest : Opened → Bool
asks_for_highest life = life.fast || life.first.careful

-- the address of the plan's last word, which is its highest, where it is asked for and is no sample anyway: not all words count as verified
abbrev pub highest_of : Core → (asked : Bool) → List ℕ
highest_of first asked =
    if asked && not (first.verified == length first.plan.words) then (word_nr first.plan.words (length first.plan.words - 1)).address ∷ [] else []

-- what a life looks at: samples, and behind them the tape's highest word, where it is asked for
abbrev pub looked_at : Core → (asked : Bool) → List WordValue → List ℕ
looked_at first asked samples = addresses_of samples ++ highest_of first asked

-- the host of a life that looks there, with the life's care and its patience
abbrev pub looker_of : Core → (asked : Bool) → List WordValue → Reader
looker_of first asked samples = begun_in (manner_of (care_of first.careful) []) (looked_at first asked samples) [] first.patience

-- where looks begin that may take no memory: there is room for the most samples, for one address more, and for what is read there
pub record IsRoom (room : LooksRoom) : Type 0 where
  pub no_sample : room.samples.items ≡ []
  pub samples : 8 ≤ vec_capacity room.samples
  pub no_address : room.addresses.items ≡ []
  pub addresses : 9 ≤ vec_capacity room.addresses
  pub no_number : room.numbers.items ≡ []
  pub numbers : 9 ≤ vec_capacity room.numbers

-- samples of the words that count as verified in a life, and the host that is to look at them, and at the highest where it is asked for
pub record IsSampled (first : Core) (asked : Bool) (samples : List WordValue) (reader : Reader) : Type 0 where
  pub of_record : AreSamples first.plan.words first.verified samples
  pub rise : AreAddresses (looked_at first asked samples)
  pub begins : reader ≡ looker_of first asked samples

-- so few characters that a sum has room for them
abbrev pub AreFewLooks : Looks → Type 0
AreFewLooks looks = looks.sent ≤ 73014902784

-- a host of this manner and patience has looked at addresses, those of samples in front: what was heard and said; what it read at the samples says what it
-- found, and over an honest line that is so in memory, which is what it was
pub record AreLooksAt (samples : List WordValue) (addresses : List ℕ) (manner : Manner) (patience : ℕ) (looks : Looks) (line : Change LineTold) : Type 0 where
  pub reader : Reader
  pub inquired : IsInquired most_turns (inquiry (begun_in manner addresses [] patience) reader (Some looks.stop)) line.before line.after
  pub found : IsFound samples (take (length samples) reader.values) looks.stop looks.finding
  pub honest : IsSoOver samples addresses looks.finding line.before.said line.after.said
  pub sent_is : looks.sent ≡ reader.sent
  pub spent_is : looks.spent ≡ reader.spent
  pub paid : looks.spent ≤ patience
  pub bound : looks.sent ≤ life_bound manner.care (length addresses) patience
  pub few : AreFewLooks looks

-- a life has looked at samples of the words that count as verified in it, and at the tape's highest word where it is asked for, with its own care and patience
pub record AreLooks (first : Core) (asked : Bool) (looks : Looks) (before after : LineTold) : Type 0 where
  pub samples : List WordValue
  pub of_record : AreSamples first.plan.words first.verified samples
  pub rise : AreAddresses (looked_at first asked samples)
  pub looked : AreLooksAt samples (looked_at first asked samples) (manner_of (care_of first.careful) []) first.patience looks (before ⇒ after)
