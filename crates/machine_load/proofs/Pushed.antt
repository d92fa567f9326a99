-- What is pushed into room that was made before.
use Rattle.std.proofs.Common.{◌≡◌, ℕ, ◌+◌, ◌<◌, List, [], ◌∷◌, ◌++◌, length, take, get_or, Result, Ok, Err, if◌then◌else◌, is_ok, IsOk, ap, sym, ◌∙◌}
use Rattle.std.proofs.lemmas.List.{map-append, take_more}
use Rattle.std.proofs.lemmas.List.FromFn.{length-map-range_with_len}
use Rattle.tape_image.specs.Word.{WordValue}
use Rattle.host_core.specs.Core.{word_nr}
use Rattle.reading_core.specs.Addresses.{addresses_of}
use Rattle.sample_looks.specs.Places.{place_of}
use Rattle.sample_looks.proofs.Spread.{words_at}

-- a push that succeeds
pub pushed : {T E A : Type 0} (result : Result T E) (grown kept now : A) → IsOk result → now ≡ (if is_ok result then grown else kept) → now ≡ grown
pushed (Ok done) grown kept now ok is = is
pushed (Err fault) grown kept now ok is = absurd (cc ok)

-- how many words the first samples are
pub length_words_at : (words : List WordValue) (count number : ℕ) → length (words_at words count number) ≡ number
length_words_at words count number = length-map-range_with_len (λ k. word_nr words (place_of count k)) 0 number

-- the address of one word more
pub next_address : (samples : List WordValue) (i : ℕ) (word : WordValue) → i < length samples → word ≡ get_or samples i word → addresses_of (take i samples) ++ word.address ∷ [] ≡ addresses_of (take (i + 1) samples)
next_address samples i word low is =
    sym (ap addresses_of (take_more samples i word low ∙ ap (λ w. take i samples ++ w ∷ []) (sym is)) ∙ map-append (λ (w : WordValue). w.address) (take i samples) (word ∷ []))
