-- The plan of what memory holds already: a load of it changes nothing.
use Rattle.std.proofs.Common.{◌≡◌, ℕ, ◌/◌, ◌<◌, ◌≤◌, true, false, cond, ltb, List, [], ◌∷◌, length, get_or, map, Option, Some, None, refl, arith, ap, sym, subst, ◌∙◌, ◌⊎◌, inl, inr, unwrap_or}
use Rattle.std.specs.Prelude.{All, AllPairs, IfSome, slice_index}
use Rattle.std.specs.FinMap.{get}
use Rattle.std.proofs.lemmas.Bool.{lt-ltb}
use Rattle.std.proofs.lemmas.Bool.Decides.{nat_tests}
use Rattle.std.proofs.lemmas.List.{get_or-map, length-map}
use Rattle.std.proofs.lemmas.List.Elements.{All-tail, All-map}
use Rattle.tape_image.specs.Memory.{half, byte_of}
use Rattle.tape_image.specs.Word.{WordValue, IsWord, gives, merged}
use Rattle.tape_image.specs.Image.{Image, image_below}
use Rattle.tape_image.specs.Plan.{PlanValue, IsPlan, given_byte, words_below}
use Rattle.tape_image.proofs.Given.{Rises, gives-address}
use Rattle.tape_image.proofs.Halves.{halves_make_word}
use Rattle.tape_image.proofs.Images.{get-image_below_all}
use Rattle.tape_image.proofs.OverlayLaw.{one_overlay}
use Rattle.tape_image.proofs.Plans.{words_below-all}
use Rattle.tape_image.proofs.SameWords.{same_words}
use Rattle.tape_image.proofs.Words.{IsByte, AreWords, AreWords-words_below, given_byte-words_below}
use Rattle.odt_machine.specs.Machine.{IsWide, word_at}
use Rattle.host_core.specs.Core.{word_nr, no_word}
use Rattle.line_world.specs.Safe.{OnlyImage}
use Rattle.reading_core.specs.Addresses.{IsAddress, AreAddresses}

-- the whole word that memory holds at an address
abbrev pub word_for : List ℕ → ℕ → WordValue
word_for memory a = record { address = a; mask = 0o177777; value = word_at memory a }

abbrev pub words_for : List ℕ → List ℕ → List WordValue
words_for memory addresses = map (word_for memory) addresses

abbrev pub image_for : List ℕ → List ℕ → Image
image_for memory addresses = image_below (given_byte (words_for memory addresses)) 57344

-- the plan of these words, with no start
abbrev pub plan_for : List ℕ → List ℕ → PlanValue
plan_for memory addresses = record { image = image_for memory addresses; words = words_for memory addresses; start = None }

-- ---- the words

each_is : (memory : List ℕ) (a : ℕ) → IsWide memory → IsAddress a → IsWord (word_for memory a)
each_is memory a wide is =
    record { even = is.even; below = is.below; inside = record { one_mask = inr (inr refl); low = λ e. absurd (cc e); high = λ e. absurd (cc e) }; fits = wide (a / 2) }

each_for : (memory addresses : List ℕ) → IsWide memory → AreAddresses addresses → All IsWord (words_for memory addresses)
each_for memory addresses wide are = All-map IsWord (word_for memory) addresses (λ k d low. each_is memory _ wide (are.each k d low))

pub nr_for : (memory addresses : List ℕ) (i : ℕ) → i < length addresses → word_nr (words_for memory addresses) i ≡ word_for memory (get_or addresses i 0)
nr_for memory addresses i low = get_or-map (word_for memory) addresses i 0 no_word low

pub length_for : (memory addresses : List ℕ) → length (words_for memory addresses) ≡ length addresses
length_for memory addresses = length-map addresses (word_for memory)

rising_for : (memory addresses : List ℕ) → AreAddresses addresses → AllPairs Rises (words_for memory addresses)
rising_for memory addresses are i j d before low =
    let within : j < length addresses = subst (λ n. j < n) (length_for memory addresses) low in
    rw (get_or-map (word_for memory) addresses i 0 d (omega (arith, within, before)), get_or-map (word_for memory) addresses j 0 d within) (are.rising i j 0 before within)

-- ---- the bytes

-- what holds of each byte that one of the words gives holds of the byte that they give
given_is : (P : ℕ → Type 0) (words : List WordValue) (b : ℕ) → All (λ w. gives w b ≡ true → P (half b w.value)) words → IfSome (given_byte words b) P
given_is P [] b each = tt
given_is P (w ∷ words) b each =
    elim (gives w b) as (λ t. (t ≡ true → P (half b w.value)) → IfSome (cond t (Some (half b w.value)) (given_byte words b)) P) [
      | true ↦ λ first. first refl
      | false ↦ λ first. given_is P words b (All-tail (λ v. gives v b ≡ true → P (half b v.value)) w words each)
    ] (each 0 w (omega arith))

half_below : (b word : ℕ) → word < 65536 → half b word < 256
half_below b word small = grind (arith, nat_tests)

gives_below : (w : WordValue) (b : ℕ) → IsWord w → gives w b ≡ true → b < 57344
gives_below w b is g = omega (arith, gives-address w b g, is.below)

none_above : (o : Option ℕ) (b : ℕ) → IfSome o (λ _. b < 57344) → 57344 ≤ b → o ≡ None
none_above None b h high = refl
none_above (Some x) b h high = absurd (omega (arith, h, high))

all_within : (o : Option ℕ) (b : ℕ) → IfSome o (λ _. b < 57344) → cond (ltb b 57344) o None ≡ o
all_within None b h = elim (ltb b 57344) as (λ t. cond {A = Option ℕ} t None None ≡ None) [ true ↦ refl | false ↦ refl ]
all_within (Some x) b h = ap (λ t. cond t (Some x) None) (lt-ltb b 57344 h)

given_within : (memory addresses : List ℕ) (b : ℕ) → IsWide memory → AreAddresses addresses → IfSome (given_byte (words_for memory addresses) b) (λ _. b < 57344)
given_within memory addresses b wide are = given_is (λ _. b < 57344) (words_for memory addresses) b (λ k d low g. gives_below _ b (each_for memory addresses wide are k d low) g)

given_small : (memory addresses : List ℕ) (b : ℕ) → IsWide memory → AreAddresses addresses → IfSome (given_byte (words_for memory addresses) b) (λ byte. byte < 256)
given_small memory addresses b wide are = given_is (λ byte. byte < 256) (words_for memory addresses) b (λ k d low g. half_below b _ (each_for memory addresses wide are k d low).fits)

bytes_for : (memory addresses : List ℕ) (b : ℕ) → IsWide memory → AreAddresses addresses → get (image_for memory addresses) b ≡ given_byte (words_for memory addresses) b
bytes_for memory addresses b wide are =
    get-image_below_all (given_byte (words_for memory addresses)) 57344 b (none_above (given_byte (words_for memory addresses) b) b (given_within memory addresses b wide are))

-- ---- the plan

pub is_plan : (memory addresses : List ℕ) → IsWide memory → AreAddresses addresses → IsPlan (plan_for memory addresses)
is_plan memory addresses wide are =
    let words : List WordValue = words_for memory addresses in
    let image : Image = image_for memory addresses in
    let small : ((a : ℕ) → IsByte (get image a)) = λ a. subst IsByte (sym (bytes_for memory addresses a wide are)) (given_small memory addresses a wide are) in
    let below : AreWords 28672 (words_below image 28672) = AreWords-words_below image 28672 (omega arith) small in
    let same : ((b : ℕ) → given_byte words b ≡ given_byte (words_below image 28672) b) =
    λ b. sym (given_byte-words_below image 28672 b small ∙ (ap (λ o. cond (ltb b 57344) o None) (bytes_for memory addresses b wide are) ∙ all_within (given_byte words b) b (given_within memory addresses b wide are))) in
    record {
      words_of_image =
          same_words words (words_below image 28672) (each_for memory addresses wide are) (rising_for memory addresses are) below.each below.rising same ∙ words_below-all image;
      each = each_for memory addresses wide are;
      rising = rising_for memory addresses are;
      few = rw (length_for memory addresses) are.few;
      image_of_words = λ b. bytes_for memory addresses b wide are;
      within = λ b. subst (λ o. IfSome o (λ _. b < 57344)) (sym (bytes_for memory addresses b wide are)) (given_within memory addresses b wide are);
      bytes = small;
      start_even = tt;
    }

-- ---- a load of it

-- each byte of the image is memory's own
told : (memory addresses : List ℕ) (b : ℕ) → IfSome (given_byte (words_for memory addresses) b) (λ byte. byte ≡ byte_of memory b)
told memory addresses b =
    given_is (λ byte. byte ≡ byte_of memory b) (words_for memory addresses) b
    (All-map (λ w. gives w b ≡ true → half b w.value ≡ byte_of memory b) (word_for memory) addresses
    (λ k d low g. ap (λ place. half b (slice_index memory place)) (gives-address (word_for memory (get_or addresses k d)) b g)))

own_or : (o : Option ℕ) (own : ℕ) → IfSome o (λ byte. byte ≡ own) → own ≡ unwrap_or o own
own_or None own h = refl
own_or (Some byte) own h = sym h

own_now : (o : Option ℕ) (own now : ℕ) → IfSome o (λ byte. byte ≡ own) → (now ≡ own) ⊎ (o ≡ Some now) → now ≡ own
own_now o own now h (inl same) = same
own_now o own now h (inr is) = subst (λ p. IfSome p (λ byte. byte ≡ own)) is h

-- a memory that differs by this image alone does not differ
pub unchanged : (memory addresses now : List ℕ) → IsPlan (plan_for memory addresses) → OnlyImage memory (image_for memory addresses) now → now ≡ memory
unchanged memory addresses now plan only = one_overlay memory (image_for memory addresses) now memory
    record { size = only.size; bytes = λ b low. own_now (get (image_for memory addresses) b) (byte_of memory b) (byte_of now b) (own b) (only.bytes b low) ∙ own_or (get (image_for memory addresses) b) (byte_of memory b) (own b) }
    record { size = refl; bytes = λ b low. own_or (get (image_for memory addresses) b) (byte_of memory b) (own b) }
  where
    own : (b : ℕ) → IfSome (get (image_for memory addresses) b) (λ byte. byte ≡ byte_of memory b)
    own b = subst (λ o. IfSome o (λ byte. byte ≡ byte_of memory b)) (sym (plan.image_of_words b)) (told memory addresses b)

-- the whole word that memory holds stands in itself alone
pub merged_for : (memory : List ℕ) (a old : ℕ) → merged (word_for memory a) old ≡ word_at memory a
merged_for memory a old = halves_make_word (word_at memory a)
