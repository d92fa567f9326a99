-- Looks at samples of what was found, and a reading of the words behind it, over one line.
use Rattle.std.specs.Prelude.{◌≡◌, ℕ, ◌+◌, ◌-◌, ◌*◌, ◌≤◌, Some, List, [], ◌++◌, length, map, take, Option, Ok}
use Rattle.tape_image.specs.Plan.{plan_of}
use Rattle.tape_image.specs.Word.{WordValue, whole_word}
use Rattle.tape_values.specs.Tape.{TapeValue}
use Rattle.odt_machine.specs.Machine.{Machine, word_at}
use Rattle.host_devices.specs.Told.{Gains}
use Rattle.host_devices.specs.Turns.{most_turns}
use Rattle.host_devices.specs.declared.item.Item.{Item}
use Rattle.console_lines.specs.Console.{ConsoleTold}
use Rattle.console_lines.specs.Dialling.{asked_once}
use Rattle.reading_core.specs.Addresses.{AreAddresses, addresses_between, addresses_from, addresses_of}
use Rattle.reading_core.specs.Bound.{life_bound}
use Rattle.reading_core.specs.Invariant.{IsReader}
use Rattle.reading_core.specs.Reader.{Reader, begun_in, ended, manner_of}
use Rattle.reading_core.specs.declared.phase.End.TheVariants.{Complete}
use Rattle.looking_law.specs.Belief.{IsReadyMachine}
use Rattle.looking_engine.specs.Honest.{IsHonest}
use Rattle.looking_engine.specs.Inquired.{Inquired, inquiry}
use Rattle.looking_engine.specs.Stopping.{LookStop, TellsEnd}
use Rattle.request_values.specs.Change.{Change, ◌⇒◌}
use Rattle.request_values.specs.declared.range.AddressRange.{AddressRange}
use Rattle.sample_looks.specs.Finding.{IsFound, IsSoIn}
use Rattle.sample_looks.specs.Samples.{AreSamples}
use Rattle.sample_looks.specs.declared.finding.Finding.{Finding}
use Rattle.sample_looks.specs.declared.finding.Finding.TheVariants.{AllStand}
use Rattle.sample_looks.specs.declared.looking.Looked.{Looked}
use Rattle.machine_look.specs.Look.{IsGivenBack}
use Rattle.tape_shelf.specs.SavedTape.{saved_tape, words_in}
use Rattle.machine_look.specs.SavedWords.{words_read}
use Rattle.machine_look.specs.declared.saving.SaveOptions.{SaveOptions}

-- a save of words of which these were found, as numbers
pub record Saving : Type 0 where
  pub options : SaveOptions
  pub found : List ℕ

-- looks that came to their end, a reading behind them, and what stopped that (None: a block could not be added)
pub record Reading : Type 0 where
  pub looks : Reader
  pub last : Reader
  pub stop : Option LookStop

-- the addresses of a range, both ends included
abbrev pub addresses_in : AddressRange → List ℕ
addresses_in range = addresses_between range.from range.to

-- those behind the words whose numbers were found
abbrev pub addresses_behind : AddressRange → List ℕ → List ℕ
addresses_behind range found = addresses_from (range.from + 2 * length found) (words_in range - length found)

-- the tape of the numbers that a save has
abbrev pub tape_to_save : SaveOptions → List ℕ → TapeValue
tape_to_save options numbers = saved_tape options.range.from numbers options.start

-- samples of the words that were found, as their numbers have them
pub record AreOfFound (range : AddressRange) (found : List ℕ) (samples : List WordValue) : Type 0 where
  pub spread : AreSamples (words_read (addresses_in range) found) (length found) samples
  pub asked : AreAddresses (addresses_of samples)

-- the host that looks at samples, at each as often as the save reads a word, with the patience of the save
abbrev pub begun_at : SaveOptions → List WordValue → Reader
begun_at options samples = begun_in (manner_of options.care []) (addresses_of samples) [] options.patience

-- samples were looked at over a line on which nothing had been said, and it came to this
pub record AreLookedAt (samples : List WordValue) (options : SaveOptions) (looked : Looked) (said : List Item) : Type 0 where
  pub inquired : Inquired most_turns (inquiry (begun_at options samples) looked.reader (Some looked.stop)) (Some []) (Some said)
  pub end : TellsEnd looked.stop (ended looked.reader.phase)
  pub found : IsFound samples looked.reader.values looked.stop looked.finding
  pub bound : looked.reader.sent ≤ life_bound options.care (length samples) options.patience
  pub paid : looked.reader.spent ≤ options.patience

-- what is so of memory wherever what was said is honest, of a machine that runs no program
abbrev pub WhereHonest : List Item → (Change Machine → Type 0) → Type 0
WhereHonest said holds = (machine now : Machine) (lost : ℕ) → IsReadyMachine machine → IsHonest machine said lost now → holds (machine ⇒ now)

-- a memory is what it was, and what looks found is so in it
abbrev pub IsAsFound : List WordValue → Finding → Change Machine → Type 0
IsAsFound samples finding machine = (machine.after.memory ≡ machine.before.memory) × IsSoIn machine.after.memory samples finding

-- the samples of what was found stand in it, too, and the tape has the words that were found, and behind them those that memory holds, as many as
-- were read
pub record IsMemoryBehind (saving : Saving) (read : List ℕ) (samples : List WordValue) (machine : Change Machine) : Type 0 where
  pub as_found : IsAsFound samples AllStand machine
  pub words : (plan_of (tape_to_save saving.options (saving.found ++ read))).words ≡ words_read (addresses_in saving.options.range) saving.found
      ++ map (λ address. whole_word address (word_at machine.after.memory address)) (take (length read) (addresses_behind saving.options.range saving.found))

-- looks hold a save up: a sample of what was found does not stand, or they did not come to their end. The line is given back
pub record IsHeldUp (saving : Saving) (console : Change ConsoleTold) (looked : Looked) : Type 0 where
  pub samples : List WordValue
  pub of_found : AreOfFound saving.options.range saving.found samples
  pub said : List Item
  pub looks : AreLookedAt samples saving.options looked said
  pub not_all : looked.finding ≡ AllStand → ⊥
  pub asked : Gains console.before.asked console.after.asked (asked_once console.before.call)
  pub given : IsGivenBack (Some looked.stop) said (console.before.lines ⇒ console.after.lines)
  pub is_memory : WhereHonest said (IsAsFound samples looked.finding)

-- looks at samples that all stood
abbrev pub all_stood : Reader → Looked
all_stood looks = record { reader = looks; stop = Ok Complete; finding = AllStand }

-- the host that reads behind what was found, each word as often as is asked, with the patience that the looks left
abbrev pub begun_behind : Saving → Reader → Reader
begun_behind saving looks =
    begun_in (manner_of saving.options.care []) (addresses_behind saving.options.range saving.found) [] (saving.options.patience - looks.spent)

-- the samples stood, and the words behind what was found were read over the same line; looks and reading are all that was said on it
pub record IsRead (saving : Saving) (console : Change ConsoleTold) (reading : Reading) : Type 0 where
  pub samples : List WordValue
  pub of_found : AreOfFound saving.options.range saving.found samples
  pub looking : List Item
  pub said : List Item
  pub looked : AreLookedAt samples saving.options (all_stood reading.looks) looking
  pub read : Inquired most_turns (inquiry (begun_behind saving reading.looks) reading.last reading.stop) (Some looking) (Some said)
  pub asked : Gains console.before.asked console.after.asked (asked_once console.before.call)
  pub given : IsGivenBack reading.stop said (console.before.lines ⇒ console.after.lines)
  pub addresses : reading.last.addresses ≡ addresses_behind saving.options.range saving.found
  pub patience : reading.last.patience ≡ saving.options.patience - reading.looks.spent
  pub bound : reading.last.sent
      ≤ life_bound saving.options.care (length (addresses_behind saving.options.range saving.found)) (saving.options.patience - reading.looks.spent)
  pub kept : IsReader reading.last
  pub is_memory : WhereHonest said (IsMemoryBehind saving reading.last.values samples)
  -- and nothing was heard that no loss explains
  pub none_foreign : WhereHonest said (λ machine. (reading.looks.foreign ≡ 0) × (reading.last.foreign ≡ 0))
