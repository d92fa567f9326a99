-- Samples are words of the record, and what was said of them is a look.
use Rattle.std.proofs.Common.{◌≡◌, ℕ, zero, suc, ◌+◌, ◌-◌, ◌<◌, ◌≤◌, ◌⊎◌, List, length, map, get_or, Some, Ok, Err, inl, inr, arith, ap, sym, subst, ◌∙◌}
use Rattle.std.specs.Prelude.{All}
use Rattle.std.proofs.lemmas.List.{get_or-map, length-map}
use Rattle.std.proofs.lemmas.List.Elements.{All-append}
use Rattle.tape_image.specs.Word.{WordValue}
use Rattle.host_core.specs.Core.{no_word, word_nr}
use Rattle.host_devices.specs.declared.item.Item.{Item}
use Rattle.reading_core.specs.Addresses.{addresses_of}
use Rattle.looking_law.specs.RecordLook.{IsHighest, IsOfRecord}
use Rattle.looking_law.specs.Trying.{IsToldOf}
use Rattle.load_lives.specs.Stops.{WentOut}
use Rattle.looking_engine.specs.Session.{IsSaid}
use Rattle.looking_engine.specs.Stopping.{LookStop}
use Rattle.engine.specs.declared.stop.Cut.TheVariants.{LineFailed, TurnsOver}
use Rattle.sample_looks.specs.LooksFirst.{SamplesAreOfTheRecord, looked_at}
use Rattle.sample_looks.specs.Samples.{AreSamples, AreSpread}
use Rattle.tape_image.specs.Plan.{PlanValue}
use Rattle.host_core.specs.declared.progress.Progress.{Progress}

-- ---- places

none_more : (k : ℕ) → k ≡ k + 0
none_more k = omega arith

one_more : (k j : ℕ) → k + j + 1 ≡ k + suc j
one_more k j = omega arith

rises_to : (places : List ℕ) (step : ℕ) → ((i : ℕ) → i + 1 < length places → (get_or places i 0 + step ≤ get_or places (i + 1) 0) × (get_or places (i + 1) 0 ≤ get_or places i 0 + step + 1)) → (k j : ℕ) → k + j < length places →
    get_or places k 0 ≤ get_or places (k + j) 0
rises_to places step even k zero low = subst (λ n. get_or places k 0 ≤ get_or places n 0) (none_more k) (omega arith)
rises_to places step even k (suc j) low =
    let before = rises_to places step even k j (omega (arith, low)) in
    let next = even (k + j) (omega (arith, low)) in
    let up = next.0 in
    subst (λ n. get_or places k 0 ≤ get_or places n 0) (one_more k j) (omega (arith, before, up))

below : (count : ℕ) (places : List ℕ) (k : ℕ) → AreSpread count places → k < length places → get_or places k 0 < count
below count places k s low =
    let last : ℕ = length places - 1 - k in
    let up = rises_to places s.step s.even k last (omega (arith, low)) in
    let end = s.last (k + last) (omega (arith, low)) in
    omega (arith, up, end)

-- ---- words

at_place : (words : List WordValue) (places : List ℕ) (k d : ℕ) → k < length places → get_or (addresses_of (map (word_nr words) places)) k d ≡ (word_nr words (get_or places k 0)).address
at_place words places k d low =
    get_or-map (λ (w : WordValue). w.address) (map (word_nr words) places) k no_word d (subst (λ n. k < n) (sym (length-map places (word_nr words))) low)
    ∙ ap (λ (w : WordValue). w.address) (get_or-map (word_nr words) places k 0 no_word low)

count_is : (words : List WordValue) (places : List ℕ) → length (addresses_of (map (word_nr words) places)) ≡ length places
count_is words places = length-map (map (word_nr words) places) (λ (w : WordValue). w.address) ∙ length-map places (word_nr words)

pub of_record : (plan : PlanValue) (recorded : Progress) (samples : List WordValue) → AreSamples plan.words recorded.verified samples → All (IsOfRecord plan recorded) (addresses_of samples)
of_record plan recorded samples (places, spread, are) = subst (λ list. All (IsOfRecord plan recorded) (addresses_of list)) (sym are) each
  where
    each : All (IsOfRecord plan recorded) (addresses_of (map (word_nr plan.words) places))
    each k d low =
        let there : k < length places = subst (λ n. k < n) (count_is plan.words places) low in
        (get_or places k 0, below recorded.verified places k spread there, at_place plan.words places k d there)

-- ---- what was said

said_told : (stop : LookStop) (left : ℕ) (all said : List Item) → IsSaid (Some stop) left all said → IsToldOf all said
said_told (Ok end) left all said s = inl s
said_told (Err TurnsOver) left all said s = inl s.0
said_told (Err (LineFailed fault)) left all said (inl s) = inl s.0
said_told (Err (LineFailed fault)) left all said (inr lacks) = inr lacks

went_told : (all said looks : List Item) → WentOut all said looks → IsToldOf all said → IsToldOf all looks
went_told all said looks (inl is) told = subst (IsToldOf all) (sym is) told
went_told all said looks (inr is) told = inl is

pub are_of_the_record : SamplesAreOfTheRecord
are_of_the_record looks are were = record {
  unmarked = are.unmarked;
  addresses = looked_at looks;
  asked = are.asked;
  of_plan =
      All-append (λ a. IsOfRecord looks.plan looks.recorded a ⊎ IsHighest looks.plan a) (addresses_of looks.samples) looks.beyond
      (λ k d low. inl (of_record looks.plan looks.recorded looks.samples are.samples k d low)) (λ k d low. inr (are.beyond k d low));
  patience = looks.patience;
  patient = are.patient;
  heard = were.inquired.heard;
  told = went_told _ were.inquired.said looks.items were.out (said_told were.stop (were.turns - length were.inquired.heard) _ were.inquired.said were.inquired.items);
}
