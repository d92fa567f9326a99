-- What a stored word of the plan does to the words of the plan, and to the bytes.
use Rattle.std.proofs.Common.{◌≡◌, ◌≢◌, ℕ, zero, suc, [], ◌∷◌, get_or, ◌/◌, ◌<◌, ◌⊎◌, true, false, eqb, List, length, inl, inr, refl, arith, sym, subst, get_or-set_other, get_or-set_same, length-set}
use Rattle.std.specs.Prelude.{slice_index, slice_set}
use Rattle.std.proofs.lemmas.Bool.Decides.{nat_tests}
use Rattle.tape_image.specs.Word.{WordValue}
use Rattle.tape_image.specs.Plan.{IsPlan}
use Rattle.tape_image.proofs.Halves.{Stands-merged, merged-Stands}
use Rattle.tape_image.proofs.Standing.{places_apart, byte_of-with_word_cases}
use Rattle.odt_machine.specs.Machine.{is_word, stored}
use Rattle.host_core.specs.Core.{word_nr, no_word}
use Rattle.line_world.specs.Site.{Site, held_number, wanted, Lies, IsThere, Ground, site_in}
use Rattle.line_world.specs.Safe.{OnlyImage}
use Rattle.line_world.proofs.Keys.{Stores}

-- an even address below the top has its word
lies_below : (memory : List ℕ) (a : ℕ) → is_word memory a ≡ true → a / 2 < length memory
lies_below memory a h = grind (arith, nat_tests)

-- the place of a word in another memory
abbrev pub with_memory : Site → List ℕ → Site
with_memory t memory = record t { memory = memory }

pub lies_same : (memory other : List ℕ) (a : ℕ) → length other ≡ length memory → is_word memory a ≡ true → is_word other a ≡ true
lies_same memory other a same h = rw same h

-- a word that is stored is held
pub stored_held : (t : Site) → Lies t → held_number (with_memory t (stored t.memory t.word.address (wanted t))) ≡ wanted t
stored_held t lies = get_or-set_same t.memory (t.word.address / 2) (wanted t) 0 (lies_below t.memory t.word.address lies)

-- a word that is stored stands
pub stored_stands : (t : Site) → Lies t → IsThere (with_memory t (stored t.memory t.word.address (wanted t)))
stored_stands t lies =
    let k = t.word.address / 2 in
    let now : slice_index (slice_set t.memory k (wanted t)) k ≡ wanted t = get_or-set_same t.memory k (wanted t) 0 (lies_below t.memory t.word.address lies) in (
      lies_same t.memory _ t.word.address (length-set t.memory k (wanted t)) lies,
      rw now (merged-Stands t.word (wanted t) (Stands-merged t.word (held_number t))),
    )

-- a word elsewhere stays as it was
stored_other : (t : Site) (a v : ℕ) → t.word.address / 2 ≢ a / 2 → IsThere t → IsThere (with_memory t (stored t.memory a v))
stored_other t a v apart there =
    let now : slice_index (slice_set t.memory (a / 2) v) (t.word.address / 2) ≡ held_number t = get_or-set_other t.memory (a / 2) (t.word.address / 2) v 0 apart in
    (lies_same t.memory _ t.word.address (length-set t.memory (a / 2) v) there.0, rw now there.1)

pub same_or : (i j : ℕ) → (i ≡ j) ⊎ (i ≢ j)
same_or i j = elim (eqb i j) as (λ b. eqb i j ≡ b → (i ≡ j) ⊎ (i ≢ j)) [ true ↦ λ e. inl (same i j e) | false ↦ λ e. inr (other i j e) ] refl
  where
    same : (i j : ℕ) → eqb i j ≡ true → i ≡ j
    same i j e = grind (arith, nat_tests)

    other : (i j : ℕ) → eqb i j ≡ false → i ≢ j
    other i j e same = grind (arith, nat_tests)

-- every word that stood stands after a lawful key
pub stands_after : (g : Ground) (memory : List ℕ) (j : ℕ) → IsPlan g.plan → Stores g memory → j < length g.plan.words → IsThere (site_in g j) → IsThere (with_memory (site_in g j) memory)
stands_after g memory j is (inl same) below there = subst (λ x. IsThere (with_memory (site_in g j) x)) (sym same) there
stands_after g memory j is (inr (i, inside, lies, now)) below there =
    subst (λ x. IsThere (with_memory (site_in g j) x)) (sym now) (elim (same_or i j) [
      | inl e ↦ subst (λ k. IsThere (with_memory (site_in g k) (stored g.machine.memory (word_nr g.plan.words i).address (wanted (site_in g i))))) e (stored_stands (site_in g i) lies)
      | inr apart ↦ stored_other (site_in g j) (word_nr g.plan.words i).address (wanted (site_in g i)) (λ e. places_apart g.plan i j no_word is inside below apart (sym e)) there
    ])

-- below its length a list needs no default
pub rest_default : (words : List WordValue) (i : ℕ) (d e : WordValue) → i < length words → get_or words i d ≡ get_or words i e
rest_default [] i d e h = absurd (omega arith)
rest_default (w ∷ words) zero d e h = refl
rest_default (w ∷ words) (suc i) d e h = rest_default words i d e (omega arith)

-- a lawful key leaves each byte as it was, or makes it the image's
pub bytes_after : (g : Ground) (memory : List ℕ) → IsPlan g.plan → Stores g memory → OnlyImage g.machine.memory g.plan.image memory
bytes_after g memory is (inl same) = subst (OnlyImage g.machine.memory g.plan.image) (sym same) (record { size = refl; bytes = λ b below. inl refl })
bytes_after g memory is (inr (i, inside, lies, now)) =
    let w = word_nr g.plan.words i in
    subst (OnlyImage g.machine.memory g.plan.image) (sym now) (record {
      size = length-set g.machine.memory (w.address / 2) (wanted (site_in g i));
      bytes = λ b below. byte_of-with_word_cases g.plan g.machine.memory w b is (i, inside, among g.plan.words i inside) (lies_below g.machine.memory w.address lies);
    })
  where
    among : (words : List WordValue) (i : ℕ) → i < length words → get_or words i (word_nr words i) ≡ word_nr words i
    among words i h = rest_default words i (word_nr words i) no_word h
