-- What looks at samples found is so in memory, where what was said is honest.
use Rattle.std.proofs.Common.{◌≡◌, ℕ, ◌+◌, ◌<◌, ◌≤◌, true, List, [], length, get_or, min, take, Option, Some, Ok, Err, arith, ap, sym, subst, ◌∙◌}
use Rattle.std.specs.Prelude.{All}
use Rattle.std.proofs.lemmas.List.{get_or-map, get_or-take, get_or_append_left, get_or_default, length-append, length-map, length-take, take_all}
use Rattle.tape_image.specs.Word.{WordValue, Stands}
use Rattle.odt_machine.specs.Machine.{Machine, is_word, word_at}
use Rattle.host_core.specs.Core.{no_word, word_nr}
use Rattle.host_devices.specs.declared.item.Item.{Item}
use Rattle.host_devices.specs.Dialogue.{keys_of}
use Rattle.reading_core.specs.declared.phase.End.TheVariants.{Complete}
use Rattle.reading_core.specs.declared.phase.Phase.{Phase}
use Rattle.reading_core.specs.declared.phase.Phase.TheVariants.{Settle, Sync, Address, Slash, Before, Value, Close, Refused, Ended as Over}
use Rattle.reading_core.specs.declared.phase.End.TheVariants.{GaveUp, NoWord}
use Rattle.reading_core.specs.Addresses.{addresses_of}
use Rattle.reading_core.specs.Invariant.{Basis, IsReader, PhaseFits}
use Rattle.reading_core.specs.Reader.{Reader, begun_in, ended}
use Rattle.looking_law.specs.Belief.{IsTrueReading, MayLook}
use Rattle.looking_law.proofs.Runs.{may_begin_in}
use Rattle.looking_engine.specs.Belief.{IsBelievableAt, IsBelievableOver}
use Rattle.looking_engine.specs.Honest.{IsHonest}
use Rattle.looking_engine.specs.Inquired.{inquiry}
use Rattle.looking_engine.specs.Stopping.{LookStop, TellsEnd}
use Rattle.engine.specs.declared.stop.Cut.TheVariants.{LineFailed, TurnsOver}
use Rattle.sample_looks.specs.declared.finding.Finding.{Finding}
use Rattle.sample_looks.specs.declared.finding.Finding.TheVariants.{AllStand, Stale, Unfinished}
use Rattle.sample_looks.specs.Finding.{IsFound, IsSoIn}
use Rattle.sample_looks.specs.Looked.{IsSoOver}
use Rattle.sample_looks.specs.Samples.{BeginWith}

-- over an honest line what was read is true, with the losses or one more
is_true : (stop : LookStop) (first last : Reader) (items : List Item) (machine now : Machine) (lost : ℕ) → IsBelievableAt stop first last items → MayLook first machine → IsHonest machine items lost now
    → (more : ℕ) × IsTrueReading machine.memory last now.memory (keys_of items) (lost + more)
is_true (Ok end) first last items machine now lost believed may honest = (0, believed machine now lost may honest)
is_true (Err TurnsOver) first last items machine now lost believed may honest = (0, believed machine now lost may honest)
is_true (Err (LineFailed fault)) first last items machine now lost believed may honest = (1, believed.0 machine now lost may honest)

-- a reader that came to its end has as many numbers as addresses
all_in : (phase : Phase) (b : Basis) → PhaseFits phase b → ended phase ≡ Some Complete → length b.values ≡ length b.addresses
all_in (Over Complete) b fits is = fits
all_in (Over GaveUp) b fits is = absurd (cc is)
all_in (Over (NoWord a)) b fits is = absurd (cc is)
all_in Settle b fits is = absurd (cc is)
all_in (Sync place) b fits is = absurd (cc is)
all_in (Address place) b fits is = absurd (cc is)
all_in Slash b fits is = absurd (cc is)
all_in Before b fits is = absurd (cc is)
all_in (Value value place) b fits is = absurd (cc is)
all_in (Close place) b fits is = absurd (cc is)
all_in (Refused place) b fits is = absurd (cc is)

-- the samples are among the words looked at, in front
count_is : (samples : List WordValue) (last : Reader) → BeginWith samples last.addresses → length samples ≤ length last.addresses
count_is samples last (beyond, are) = omega (arith, ap length are, length-append (addresses_of samples) beyond, length-map samples (λ (w : WordValue). w.address))

address_is : (samples : List WordValue) (last : Reader) (i : ℕ) → BeginWith samples last.addresses → i < length samples → get_or last.addresses i 0 ≡ (word_nr samples i).address
address_is samples last i (beyond, are) low =
    ap (λ list. get_or list i 0) are
    ∙ (get_or_append_left (addresses_of samples) beyond 0 i (subst (λ n. i < n) (sym (length-map samples (λ (w : WordValue). w.address))) low)
    ∙ get_or-map (λ (w : WordValue). w.address) samples i no_word 0 low)

-- the numbers read at the samples
abbrev pub at_samples : List WordValue → Reader → List ℕ
at_samples samples last = take (length samples) last.values

few_read : (samples : List WordValue) (last : Reader) → length (at_samples samples last) ≡ min (length samples) (length last.values)
few_read samples last = length-take (length samples) last.values

-- where nothing else was looked at they are all
pub only_samples : (samples : List WordValue) (last : Reader) → IsReader last → last.addresses ≡ addresses_of samples → at_samples samples last ≡ last.values
only_samples samples last kept are = take_all (length samples) last.values (omega (arith, kept.within, ap length are, length-map samples (λ (w : WordValue). w.address)))

-- a word that was read lies in memory, and the number is what memory holds there
record IsRead (now : List ℕ) (samples : List WordValue) (last : Reader) (i : ℕ) : Type 0 where
  pub inside : i < length samples
  pub lies : is_word now (word_nr samples i).address ≡ true
  pub holds : get_or (at_samples samples last) i 0 ≡ word_at now (word_nr samples i).address

was_read : (samples : List WordValue) (last : Reader) (before now keys : List ℕ) (lost i : ℕ) → IsReader last → BeginWith samples last.addresses → IsTrueReading before last now keys lost → i < length (at_samples samples last) → IsRead now samples last i
was_read samples last before now keys lost i kept are heard low =
    let inside : i < length samples = omega (arith, low, few_read samples last) in
    let read : i < length last.values = omega (arith, low, few_read samples last) in
    let here = address_is samples last i are inside in
    record {
      inside = inside;
      lies = subst (λ a. is_word now a ≡ true) here (heard.read.lies i read);
      holds = get_or-take (length samples) last.values i 0 inside ∙ (heard.read.holds i read ∙ ap (word_at now) here);
    }

-- with all of them read each number of a sample is there
all_read : (samples : List WordValue) (last : Reader) → IsReader last → BeginWith samples last.addresses → ended last.phase ≡ Some Complete → length (at_samples samples last) ≡ length samples
all_read samples last kept are over = omega (arith, few_read samples last, all_in last.phase _ kept.fits over, count_is samples last are)

so_in : (samples : List WordValue) (last : Reader) (stop : LookStop) (finding : Finding) (before now keys : List ℕ) (lost : ℕ) → IsReader last → BeginWith samples last.addresses → TellsEnd stop (ended last.phase) →
    IsFound samples (at_samples samples last) stop finding → IsTrueReading before last now keys lost → IsSoIn now samples finding
so_in samples last stop AllStand before now keys lost kept are tells found heard =
    let all : length (at_samples samples last) ≡ length samples = all_read samples last kept are (subst (λ s. TellsEnd s (ended last.phase)) found.0 tells) in
    record {
      lies = λ i low. (was_read samples last before now keys lost i kept are heard (subst (λ n. i < n) (sym all) low)).lies;
      stands = λ i low.
          let below : i < length (at_samples samples last) = subst (λ n. i < n) (sym all) low in
          subst (Stands (word_nr samples i)) (was_read samples last before now keys lost i kept are heard below).holds (found.1 i below);
    }
so_in samples last stop (Stale address) before now keys lost kept are tells (i, low, earlier, differs, is) heard =
    let read = was_read samples last before now keys lost i kept are heard low in (
      i,
      read.inside,
      is,
      subst (λ a. is_word now a ≡ true) (sym is) read.lies,
      λ stands. differs (subst (Stands (word_nr samples i)) (sym (read.holds ∙ ap (word_at now) (sym is))) stands),
    )
so_in samples last stop Unfinished before now keys lost kept are tells found heard = tt

-- with all of them read memory has each word that was looked at
all_lie : (samples : List WordValue) (last : Reader) (stop : LookStop) (finding : Finding) (before now keys : List ℕ) (lost : ℕ) → IsReader last → TellsEnd stop (ended last.phase) →
    IsFound samples (at_samples samples last) stop finding → IsTrueReading before last now keys lost → finding ≡ AllStand → All (λ a. is_word now a ≡ true) last.addresses
all_lie samples last stop finding before now keys lost kept tells found heard all i d low =
    let whole = subst (IsFound samples (at_samples samples last) stop) all found in
    let read = all_in last.phase _ kept.fits (subst (λ s. TellsEnd s (ended last.phase)) whole.0 tells) in
    subst (λ a. is_word now a ≡ true) (get_or_default last.addresses i 0 d low) (heard.read.lies i (omega (arith, low, read)))

pub so_over : (samples : List WordValue) (first last : Reader) (stop : LookStop) (finding : Finding) (line line' : Option (List Item)) → first ≡ begun_in first.manner first.addresses [] first.patience → BeginWith samples first.addresses → IsReader last →
    last.addresses ≡ first.addresses → TellsEnd stop (ended last.phase) → IsFound samples (at_samples samples last) stop finding → IsBelievableOver (inquiry first last (Some stop)) line line' → IsSoOver samples first.addresses finding line line'
so_over samples first last stop finding line line' is are kept same tells found believed said gained machine now lost ready honest =
    let may : MayLook first machine = subst (λ r. MayLook r machine) (sym is) (may_begin_in first.manner first.addresses first.patience machine ready) in
    let heard = is_true stop first last said machine now lost (believed said gained) may honest in
    record {
      memory = heard.1.same;
      so = so_in samples last stop finding machine.memory now.memory (keys_of said) (lost + heard.0) kept (are.0, same ∙ are.1) tells found heard.1;
      lie = λ all. subst (All (λ a. is_word now.memory a ≡ true)) same (all_lie samples last stop finding machine.memory now.memory (keys_of said) (lost + heard.0) kept tells found heard.1 all);
    }
