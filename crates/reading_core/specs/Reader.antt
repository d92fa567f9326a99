-- A host that only looks as one value, and how its life begins (this project's choice).
use Rattle.std.specs.Prelude.{ℕ, Bool, true, false, ◌==◌, if◌then◌else◌, List, [], length, take, get_or, Option, Some, None}
use Rattle.tape_image.specs.Word.{WordValue}
use Rattle.reading_core.specs.declared.care.Care.{Care}
use Rattle.reading_core.specs.declared.care.Care.TheVariants.{Once, Twice, TwiceWhereOther}
use Rattle.reading_core.specs.declared.phase.Phase.{Phase}
use Rattle.reading_core.specs.declared.phase.Phase.TheVariants.{Settle, Ended}
use Rattle.reading_core.specs.declared.phase.End.{End}
use Rattle.reading_core.specs.declared.phase.End.TheVariants.{Complete}
use Rattle.reading_core.specs.declared.life.LifeState.{LifeState}

-- how each word is read, and, where that matters, what is expected of the words
pub record Manner : Type 0 where
  pub care : Care
  pub expected : List WordValue

-- the two together
abbrev pub manner_of : Care → List WordValue → Manner
manner_of care expected = record { care = care; expected = expected }

-- each word is looked at once
abbrev pub once : Manner
once = record { care = Once; expected = [] }

-- whether some words are looked at twice
abbrev pub looks_twice : Care → Bool
looks_twice Once = false
looks_twice Twice = true
looks_twice TwiceWhereOther = true

-- the addresses to be read, how, the numbers read so far at the first of them, how many mishaps a life survives and how
-- many it has had, how many characters came in all its lives that no loss explains, the characters it has sent, what an
-- earlier look at the word under way read, and its phase
pub record Reader : Type 0 where
  pub addresses : List ℕ
  pub manner : Manner
  pub values : List ℕ
  pub patience : ℕ
  pub spent : ℕ
  pub foreign : ℕ
  pub sent : ℕ
  pub earlier : Option ℕ
  pub phase : Phase

-- the address number k, counted from 0
abbrev pub address_nr : List ℕ → ℕ → ℕ
address_nr addresses k = get_or addresses k 0

-- the address under way: the first with no number yet
abbrev pub address_under_way : Reader → ℕ
address_under_way r = address_nr r.addresses (length r.values)

-- where a life begins, of so many addresses with so many numbers read: with all of them read nothing is left to do
abbrev pub first_phase : ℕ → ℕ → Phase
first_phase addresses read = if read == addresses then Ended Complete else Settle

-- a reader at the beginning of a life
abbrev pub begun_in : Manner → List ℕ → List ℕ → ℕ → Reader
begun_in manner addresses values patience = record {
  addresses = addresses;
  manner = manner;
  values = values;
  patience = patience;
  spent = 0;
  foreign = 0;
  sent = 0;
  earlier = None;
  phase = first_phase (length addresses) (length values);
}

-- one that looks at each word once
abbrev pub begun : List ℕ → List ℕ → ℕ → Reader
begun addresses values patience = begun_in once addresses values patience

-- a new life that keeps the addresses, the manner, the patience, at most the first `kept` numbers, and the count of
-- characters that no loss explains
abbrev pub restarted : Reader → ℕ → Reader
restarted r kept = record (begun_in r.manner r.addresses (take kept r.values) r.patience) { foreign = r.foreign }

-- the end of the life, where it has ended
abbrev pub ended : Phase → Option End
ended (Ended end) = Some end
ended _ = None

-- the reader with these addresses, this manner, these numbers and this patience, in the middle of a life
abbrev pub reader_of : List ℕ → Manner → List ℕ → ℕ → LifeState → Reader
reader_of addresses manner values patience life = record {
  addresses = addresses;
  manner = manner;
  values = values;
  patience = patience;
  spent = life.spent;
  foreign = life.foreign;
  sent = life.sent;
  earlier = life.earlier;
  phase = life.phase;
}
