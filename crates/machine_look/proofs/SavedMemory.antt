-- What was read over an honest line is what memory holds.
use Rattle.std.proofs.Common.{◌≡◌, ℕ, zero, suc, ◌+◌, ◌-◌, ◌*◌, ◌/◌, ◌%◌, ◌<◌, ◌≤◌, List, [], ◌∷◌, ◌++◌, length, get_or, map, min, take, refl, arith, ap, sym, subst, ◌∙◌, inl, inr, append-nil, append_assoc, length-append}
use Rattle.std.specs.Prelude.{All}
use Rattle.std.proofs.lemmas.List.Elements.{All-append, All-nil}
use Rattle.std.proofs.lemmas.Bool.{cases_lt}
use Rattle.std.proofs.lemmas.List.{get_or_append_left}
use Rattle.std.proofs.Math.Seq.{get_or-append_seam}
use Rattle.tape_image.specs.Word.{WordValue, whole_word}
use Rattle.tape_values.specs.Block.{top}
use Rattle.odt_machine.specs.Machine.{Machine, word_at}
use Rattle.reading_core.specs.Invariant.{IsReader}
use Rattle.machine_look.proofs.BehindLooks.{IsReadBehind}
use Rattle.reading_core.specs.Addresses.{IsRange, addresses_from, addresses_between}
use Rattle.reading_core.specs.Reader.{Reader}
use Rattle.reading_core.proofs.Asking.{none_from, one_more, length_from, range_asked}
use Rattle.reading_core.specs.Addresses.{AreAddresses}
use Rattle.request_values.specs.declared.range.AddressRange.{AddressRange}
use Rattle.machine_look.specs.declared.saving.SaveOptions.{SaveOptions}
use Rattle.request_values.specs.Change.{Change}
use Rattle.machine_look.specs.Behind.{AreOfFound, IsMemoryBehind, Saving, addresses_behind, addresses_in, tape_to_save}
use Rattle.tape_shelf.specs.FoundPart.{FillBlocks}
use Rattle.machine_look.specs.Save.{IsTapeOf}
use Rattle.tape_shelf.specs.SavedTape.{saved_tape, words_in}
use Rattle.machine_look.specs.SavedWords.{HoldsWhatWasRead, words_read, StandFrom}
use Rattle.tape_shelf.proofs.SavedBlocks.{room_enough}
use Rattle.machine_look.proofs.SavedWords.{holds_what_was_read, read_plan, stand_behind}
use Rattle.tape_shelf.proofs.Added.{whole}
use Rattle.reading_core.specs.Addresses.{addresses_of}
use Rattle.sample_looks.proofs.Spread.{asked, samples, words_at}
use Rattle.tape_image.specs.Plan.{plan_of}

-- ---- the addresses of a range

nr_from : (from n i : ℕ) → i < n → get_or (addresses_from from n) i 0 ≡ from + 2 * i
nr_from from zero i low = absurd (omega arith)
nr_from from (suc n) i low =
    ap (λ (list : List ℕ). get_or list i 0) (one_more from n)
    ∙ elim (cases_lt i n) [
      | inl before ↦ get_or_append_left (addresses_from from n) ((from + 2 * n) ∷ []) 0 i (omega (arith, length_from from n)) ∙ nr_from from n i before
      | inr last ↦
          (let place : i ≡ length (addresses_from from n) = omega (arith, length_from from n) in ap (λ k. get_or (addresses_from from n ++ (from + 2 * n) ∷ []) k 0) place)
          ∙ (get_or-append_seam (addresses_from from n) (from + 2 * n) [] 0 ∙ (let same : from + 2 * n ≡ from + 2 * i = omega arith in same))
    ]

pub range_stands : (from to : ℕ) → StandFrom from (addresses_between from to)
range_stands from to i low = nr_from from ((to - from) / 2 + 1) i (omega (arith, length_from from ((to - from) / 2 + 1)))

pub range_length : (from to : ℕ) → length (addresses_between from to) ≡ (to - from) / 2 + 1
range_length from to = length_from from ((to - from) / 2 + 1)

-- ---- the words

words_are : (memory addresses numbers : List ℕ) → length numbers ≤ length addresses → ((i : ℕ) → i < length numbers → get_or numbers i 0 ≡ word_at memory (get_or addresses i 0))
    → words_read addresses numbers ≡ map (λ address. whole_word address (word_at memory address)) (take (length numbers) addresses)
words_are memory [] [] few holds = refl
words_are memory [] (n ∷ numbers) few holds = absurd (omega arith)
words_are memory (a ∷ addresses) [] few holds = refl
words_are memory (a ∷ addresses) (n ∷ numbers) few holds =
    let first : n ≡ word_at memory a = holds 0 (omega arith) in
    let rest = words_are memory addresses numbers (omega arith) (λ i low. holds (suc i) (omega arith)) in
    λ i. whole_word a (first i) ∷ rest i

-- ---- addresses behind others

pub addresses_join : (from n m : ℕ) → addresses_from from (n + m) ≡ addresses_from from n ++ addresses_from (from + 2 * n) m
addresses_join from n zero =
    (let none : n + 0 ≡ n = omega arith in ap (addresses_from from) none) ∙ (sym (append-nil (addresses_from from n)) ∙ ap (λ more. addresses_from from n ++ more) (sym (none_from (from + 2 * n))))
addresses_join from n (suc m) =
    let there : from + 2 * (n + m) ≡ from + 2 * n + 2 * m = omega arith in
    (let next : n + suc m ≡ suc (n + m) = omega arith in ap (addresses_from from) next)
    ∙ (one_more from (n + m)
    ∙ (ap (λ front. front ++ (from + 2 * (n + m)) ∷ []) (addresses_join from n m)
    ∙ (ap (λ a. (addresses_from from n ++ addresses_from (from + 2 * n) m) ++ a ∷ []) there
    ∙ (append_assoc (addresses_from from n) (addresses_from (from + 2 * n) m) ((from + 2 * n + 2 * m) ∷ [])
    ∙ ap (λ more. addresses_from from n ++ more) (sym (one_more (from + 2 * n) m))))))

words_join : (addresses more numbers next : List ℕ) → length addresses ≡ length numbers → words_read (addresses ++ more) (numbers ++ next) ≡ words_read addresses numbers ++ words_read more next
words_join [] more [] next same = refl
words_join [] more (n ∷ numbers) next same = absurd (omega (arith, same))
words_join (a ∷ addresses) more [] next same = absurd (omega (arith, same))
words_join (a ∷ addresses) more (n ∷ numbers) next same = ap (λ words. whole_word a n ∷ words) (words_join addresses more numbers next (omega (arith, same)))

no_words : (more : List ℕ) → words_read more [] ≡ []
no_words [] = refl
no_words (a ∷ more) = refl

-- the addresses that may be read are ones
pub few_asked : (from n : ℕ) → from % 2 ≡ 0 → from + 2 * n ≤ top → AreAddresses (addresses_from from n)
few_asked from zero even low = subst AreAddresses (sym (none_from from)) (record { each = All-nil _; rising = λ i j d before low. absurd (omega (arith, low)); few = omega arith })
few_asked from (suc n) even low =
    let count : (from + 2 * n - from) / 2 + 1 ≡ suc n = omega arith in
    subst (λ k. AreAddresses (addresses_from from k)) count
    (range_asked from (from + 2 * n) (record { from_is = record { even = even; below = omega (arith, low) }; to_is = record { even = omega (arith, even); below = omega (arith, low) }; order = omega arith }))

-- ---- what a save has

pub range_low : (range : AddressRange) → IsRange range.from range.to → range.from + 2 * words_in range ≤ top
range_low range is = omega (arith, is.from_is.even, is.to_is.even, is.to_is.below, is.order)

all_addresses : (range : AddressRange) (found : List ℕ) → length found ≤ words_in range → addresses_in range ≡ addresses_from range.from (length found) ++ addresses_behind range found
all_addresses range found low =
    (let all : words_in range ≡ length found + (words_in range - length found) = omega (arith, low) in ap (addresses_from range.from) all) ∙ addresses_join range.from (length found) (words_in range - length found)

words_of_both : (range : AddressRange) (found read : List ℕ) → length found ≤ words_in range
    → words_read (addresses_in range) (found ++ read) ≡ words_read (addresses_in range) found ++ words_read (addresses_behind range found) read
words_of_both range found read low =
    let front : List ℕ = addresses_from range.from (length found) in
    let behind : List ℕ = addresses_behind range found in
    let all = all_addresses range found low in
    ap (λ addresses. words_read addresses (found ++ read)) all
    ∙ (words_join front behind found read (length_from range.from (length found))
    ∙ ap (λ words. words ++ words_read behind read)
    (sym (ap (λ addresses. words_read addresses found) all ∙ (ap (words_read (front ++ behind)) (sym (append-nil found))
    ∙ (words_join front behind found [] (length_from range.from (length found)) ∙ (ap (λ words. words_read front found ++ words) (no_words behind) ∙ append-nil (words_read front found)))))))

holds_numbers : (options : SaveOptions) (numbers : List ℕ) → IsRange options.range.from options.range.to → options.start < 65536 → length numbers ≤ words_in options.range → All (λ n. n < 65536) numbers
    → HoldsWhatWasRead (addresses_in options.range) numbers (tape_to_save options numbers)
holds_numbers options numbers range begins few small =
    let from = options.range.from in
    let to = options.range.to in
    holds_what_was_read from (addresses_between from to) numbers options.start range.from_is.even (omega (arith, few, range_low options.range range)) small begins (range_stands from to)
    (omega (arith, few, range_length from to))

-- the tape of as many numbers as the range has words, or fewer
pub tape_of : (options : SaveOptions) (numbers : List ℕ) → IsRange options.range.from options.range.to → options.start < 65536 → length numbers ≤ words_in options.range → All (λ n. n < 65536) numbers
    → IsTapeOf options numbers
tape_of options numbers range begins few small = record {
  holds = holds_numbers options numbers range begins few small;
  whole = whole options.range.from numbers options.start;
  fits = room_enough options.range.from numbers options.start (words_in options.range) few;
}

pub few_numbers : (range : AddressRange) (found : List ℕ) (last : Reader) → length found ≤ words_in range → last.addresses ≡ addresses_behind range found → IsReader last → length (found ++ last.values) ≤ words_in range
few_numbers range found last low are kept =
    omega (arith, low, length-append found last.values, kept.within, ap length are, length_from (range.from + 2 * length found) (words_in range - length found))

pub memory_behind : (saving : Saving) (samples : List WordValue) (looks last : Reader) (machine : Change Machine) → IsRange saving.options.range.from saving.options.range.to → saving.options.start < 65536
    → FillBlocks saving.options.range saving.found → last.addresses ≡ addresses_behind saving.options.range saving.found → IsReader last → IsReadBehind samples looks last machine → IsMemoryBehind saving last.values samples machine
memory_behind saving samples looks last machine range begins fill are kept read =
    let options : SaveOptions = saving.options in
    let found : List ℕ = saving.found in
    let few = few_numbers options.range found last fill.within are kept in
    let behind : List ℕ = addresses_behind options.range found in
    let inside : length last.values ≤ length behind = subst (λ (list : List ℕ). length last.values ≤ length list) are kept.within in
    record {
      as_found = read.as_found;
      words = (holds_numbers options (found ++ last.values) range begins few (All-append (λ n. n < 65536) found last.values fill.small kept.numbers)).words
          ∙ (words_of_both options.range found last.values fill.within
          ∙ ap (λ words. words_read (addresses_in options.range) found ++ words)
          (words_are machine.after.memory behind last.values inside (λ i low. read.holds i low ∙ ap (λ (list : List ℕ). word_at machine.after.memory (get_or list i 0)) are)));
    }

-- ---- samples of what was found

nr_read : (from : ℕ) (addresses numbers : List ℕ) (p : ℕ) (d : WordValue) → StandFrom from addresses → length numbers ≤ length addresses → p < length numbers → get_or (words_read addresses numbers) p d ≡ whole_word (from + 2 * p) (get_or numbers p 0)
nr_read from addresses [] p d stand few low = absurd (omega (arith, low))
nr_read from [] (n ∷ numbers) p d stand few low = absurd (omega (arith, few))
nr_read from (a ∷ addresses) (n ∷ numbers) zero d stand few low = ap (λ k. whole_word k n) (stand 0 (omega arith))
nr_read from (a ∷ addresses) (n ∷ numbers) (suc p) d stand few low =
    nr_read (from + 2) addresses numbers p d (stand_behind from a addresses stand) (omega (arith, few)) (omega (arith, low)) ∙ (let there : from + 2 + 2 * p ≡ from + 2 * suc p = omega arith in ap (λ k. whole_word k (get_or numbers p 0)) there)

length_read : (addresses numbers : List ℕ) → length numbers ≤ length addresses → length (words_read addresses numbers) ≡ length numbers
length_read [] [] few = refl
length_read [] (n ∷ numbers) few = absurd (omega (arith, few))
length_read (a ∷ addresses) [] few = refl
length_read (a ∷ addresses) (n ∷ numbers) few = ap suc (length_read addresses numbers (omega (arith, few)))

few_found : (range : AddressRange) (found : List ℕ) → FillBlocks range found → length found ≤ length (addresses_in range)
few_found range found fill = omega (arith, fill.within, range_length range.from range.to)

-- the word of a place that was found
pub word_found : (range : AddressRange) (found : List ℕ) (p : ℕ) (d : WordValue) → FillBlocks range found → p < length found → get_or (words_read (addresses_in range) found) p d ≡ whole_word (range.from + 2 * p) (get_or found p 0)
word_found range found p d fill low = nr_read range.from (addresses_in range) found p d (range_stands range.from range.to) (few_found range found fill) low

pub many_found : (range : AddressRange) (found : List ℕ) → FillBlocks range found → length (words_read (addresses_in range) found) ≡ length found
many_found range found fill = length_read (addresses_in range) found (few_found range found fill)

pub of_found : (range : AddressRange) (found : List ℕ) (number : ℕ) (items : List WordValue) → IsRange range.from range.to → FillBlocks range found → number ≡ min (length found) 8 → items ≡ words_at (words_read (addresses_in range) found) (length found) number
    → AreOfFound range found items
of_found range found number items is fill few all =
    let low : range.from + 2 * length found ≤ top = omega (arith, fill.within, range_low range is) in
    let holds = holds_what_was_read range.from (addresses_in range) found 1 is.from_is.even low fill.small (omega arith) (range_stands range.from range.to) (few_found range found fill) in
    let plan = plan_of (saved_tape range.from found 1) in
    let rising : AreAddresses (addresses_of (words_at plan.words (length found) number)) =
    asked plan (length found) number (read_plan range.from (addresses_in range) found 1 low fill.small (omega arith)) (omega (arith, ap length holds.words, many_found range found fill)) few in
    subst (AreOfFound range found) (sym all) (record {
      spread = samples (words_read (addresses_in range) found) (length found) number few;
      asked = subst (λ words. AreAddresses (addresses_of (words_at words (length found) number))) holds.words rising;
    })
