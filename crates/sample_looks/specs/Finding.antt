-- What looks at samples found, and what it means of a memory.
use Rattle.std.specs.Prelude.{◌≡◌, ℕ, ◌<◌, true, List, length, get_or, ⊤, Ok, Err}
use Rattle.tape_image.specs.Word.{WordValue, Stands}
use Rattle.host_core.specs.Core.{word_nr}
use Rattle.odt_machine.specs.Machine.{is_word, word_at}
use Rattle.line_world.specs.Safe.{FirstStand}
use Rattle.reading_core.specs.declared.phase.End.TheVariants.{Complete, GaveUp, NoWord}
use Rattle.looking_engine.specs.Stopping.{LookStop}
use Rattle.sample_looks.specs.declared.finding.Finding.{Finding}
use Rattle.sample_looks.specs.declared.finding.Finding.TheVariants.{AllStand, Stale, Unfinished}

-- the number read at each of the first words, so many, has the word's bits under its mask: of a half word the tape's byte alone counts
abbrev pub StandAsRead : List WordValue → List ℕ → ℕ → Type 0
StandAsRead samples numbers count = (i : ℕ) → i < count → Stands (word_nr samples i) (get_or numbers i 0)

-- the word at this address is the first whose number does not have them
abbrev pub IsFirstToDiffer : List WordValue → List ℕ → ℕ → Type 0
IsFirstToDiffer samples numbers address =
    (i : ℕ) × (i < length numbers) × StandAsRead samples numbers i
    × (Stands (word_nr samples i) (get_or numbers i 0) → ⊥) × (address ≡ (word_nr samples i).address)

-- where none differs, by how the reading stopped
abbrev pub unless_stopped_at : LookStop → Finding
unless_stopped_at (Ok Complete) = AllStand
unless_stopped_at (Ok GaveUp) = Unfinished
unless_stopped_at (Ok (NoWord address)) = Unfinished
unless_stopped_at (Err cut) = Unfinished

-- what is found where these numbers were read and the reading stopped so
abbrev pub IsFound : List WordValue → List ℕ → LookStop → Finding → Type 0
IsFound samples numbers stop AllStand = (stop ≡ Ok Complete) × StandAsRead samples numbers (length numbers)
IsFound samples numbers stop (Stale address) = IsFirstToDiffer samples numbers address
IsFound samples numbers stop Unfinished = (stop ≡ Ok Complete → ⊥) × StandAsRead samples numbers (length numbers)

-- what was found is so in this memory: all of them stand; or memory has a word at the address, and it does not stand
abbrev pub IsSoIn : List ℕ → List WordValue → Finding → Type 0
IsSoIn memory samples AllStand = FirstStand samples (length samples) memory
IsSoIn memory samples (Stale address) =
    (i : ℕ) × (i < length samples) × (address ≡ (word_nr samples i).address)
    × (is_word memory address ≡ true) × (Stands (word_nr samples i) (word_at memory address) → ⊥)
IsSoIn memory samples Unfinished = ⊤
