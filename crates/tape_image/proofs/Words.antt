-- The words of an image are those that a plan keeps.
use Rattle.std.proofs.Common.{◌≡◌, ℕ, zero, suc, ◌+◌, ◌*◌, ◌/◌, ◌%◌, ◌<◌, ◌≤◌, true, false, cond, ltb, ◌++◌, List, [], ◌∷◌, length, Option, Some, None, refl, arith, ap, sym, ◌∙◌, subst, inl, inr}
use Rattle.std.specs.Prelude.{All, AllPairs, IfSome}
use Rattle.std.specs.Option.{option_or, option_to_list}
use Rattle.std.specs.FinMap.{get}
use Rattle.std.proofs.lemmas.Bool.{cases_order, lt-ltb, le-ltb, false_from_ne_true}
use Rattle.std.proofs.lemmas.Bool.Decides.{nat_tests}
use Rattle.std.proofs.lemmas.List.Elements.{All-nil, All-push}
use Rattle.std.proofs.lemmas.List.{append-nil, length_push}
use Rattle.std.proofs.lemmas.List.Quantifiers.{all_pairs_push}
use Rattle.tape_image.specs.Memory.{half}
use Rattle.tape_image.specs.Word.{WordValue, IsWord, gives}
use Rattle.tape_image.specs.Image.{Image}
use Rattle.tape_image.specs.Plan.{word_of, words_below, given_byte}
use Rattle.tape_image.proofs.Given.{Rises, gives-address}
use Rattle.tape_image.proofs.Blocks.{option_or-none}

-- a byte, if there is one, is below 256
abbrev pub IsByte : Option ℕ → Type 0
IsByte o = IfSome o (λ byte. byte < 256)

-- the word of two bytes is a word
word_of-IsWord : (a : ℕ) (low high : Option ℕ) → a % 2 ≡ 0 → a < 0o160000 → IsByte low → IsByte high → IfSome (word_of a low high) IsWord
word_of-IsWord a None None even below l h = tt
word_of-IsWord a (Some low) None even below l h = record { even = even; below = below; inside = record { one_mask = inl refl; low = λ e. absurd (cc e); high = λ e. omega arith }; fits = omega arith }
word_of-IsWord a None (Some high) even below l h = record { even = even; below = below; inside = record { one_mask = inr (inl refl); low = λ e. omega arith; high = λ e. absurd (cc e) }; fits = omega arith }
word_of-IsWord a (Some low) (Some high) even below l h = record { even = even; below = below; inside = record { one_mask = inr (inr refl); low = λ e. absurd (cc e); high = λ e. absurd (cc e) }; fits = omega arith }

-- and lies at the address
address-word_of : (a : ℕ) (low high : Option ℕ) → IfSome (word_of a low high) (λ w. w.address ≡ a)
address-word_of a None None = tt
address-word_of a (Some low) None = refl
address-word_of a None (Some high) = refl
address-word_of a (Some low) (Some high) = refl

-- the byte that an optional word gives
abbrev byte_given : Option WordValue → ℕ → Option ℕ
byte_given o b = given_byte (option_to_list o) b

-- at its own address the word gives the first byte
given_low : (a b : ℕ) (low high : Option ℕ) → IsByte low → a / 2 ≡ b / 2 → b % 2 ≡ 0 → byte_given (word_of a low high) b ≡ low
given_low a b None None l same even = refl
given_low a b (Some low) None l same even = grind (arith, nat_tests)
given_low a b None (Some high) l same even = grind (arith, nat_tests)
given_low a b (Some low) (Some high) l same even = grind (arith, nat_tests)

given_high : (a b : ℕ) (low high : Option ℕ) → IsByte low → a / 2 ≡ b / 2 → b % 2 ≡ 1 → byte_given (word_of a low high) b ≡ high
given_high a b None None l same odd = refl
given_high a b (Some low) None l same odd = grind (arith, nat_tests)
given_high a b None (Some high) l same odd = grind (arith, nat_tests)
given_high a b (Some low) (Some high) l same odd = grind (arith, nat_tests)

-- elsewhere it gives none
given_elsewhere : (o : Option WordValue) (a b : ℕ) → IfSome o (λ w. w.address ≡ a) → (a / 2 ≡ b / 2 → ⊥) → byte_given o b ≡ None
given_elsewhere None a b here apart = refl
given_elsewhere (Some w) a b here apart =
    ap (λ t. cond t (Some (half b w.value)) None) (false_from_ne_true (gives w b) (λ g. apart (ap (λ x. x / 2) (sym here) ∙ gives-address w b g)))

given_byte-append : (xs ys : List WordValue) (b : ℕ) → given_byte (xs ++ ys) b ≡ option_or (given_byte xs b) (given_byte ys b)
given_byte-append [] ys b = refl
given_byte-append (w ∷ xs) ys b = elim (gives w b) as (λ t. cond t (Some (half b w.value)) (given_byte (xs ++ ys) b) ≡ option_or (cond t (Some (half b w.value)) (given_byte xs b)) (given_byte ys b)) [ true ↦ refl | false ↦ given_byte-append xs ys b ]

-- what the lower words and the next one give together
more_given : (image : Image) (n b : ℕ) → IsByte (get image (2 * n)) → option_or (cond (ltb b (2 * n)) (get image b) None) (byte_given (word_of (2 * n) (get image (2 * n)) (get image (2 * n + 1))) b) ≡ cond (ltb b (2 * suc n)) (get image b) None
more_given image n b byte =
    let low : Option ℕ = get image (2 * n) in
    let high : Option ℕ = get image (2 * n + 1) in
    elim (cases_order (b / 2) n) [
      | inl here ↦
          ap (λ t. option_or (cond t (get image b) None) (byte_given (word_of (2 * n) low high) b)) (le-ltb b (2 * n) (omega arith))
          ∙ elim (cases_order (b % 2) 0) [
            | inl even ↦ given_low (2 * n) b low high byte (omega arith) even ∙ (let same : 2 * n ≡ b = omega arith in ap (get image) same)
            | inr odd ↦ given_high (2 * n) b low high byte (omega arith) (omega arith) ∙ (let same : 2 * n + 1 ≡ b = omega arith in ap (get image) same)
          ]
          ∙ ap (λ t. cond t (get image b) None) (sym (lt-ltb b (2 * suc n) (omega arith)))
      | inr apart ↦
          let elsewhere : byte_given (word_of (2 * n) low high) b ≡ None = given_elsewhere (word_of (2 * n) low high) (2 * n) b (address-word_of (2 * n) low high) (λ same. omega arith) in
          ap (option_or (cond (ltb b (2 * n)) (get image b) None)) elsewhere
          ∙ option_or-none (cond (ltb b (2 * n)) (get image b) None)
          ∙ elim apart [
            | inl less ↦ ap (λ t. cond t (get image b) None) (lt-ltb b (2 * n) (omega arith) ∙ sym (lt-ltb b (2 * suc n) (omega arith)))
            | inr more ↦ ap (λ t. cond t (get image b) None) (le-ltb b (2 * n) (omega arith) ∙ sym (le-ltb b (2 * suc n) (omega arith)))
          ]
    ]

-- the words below an address give the image's bytes there, and none above
pub given_byte-words_below : (image : Image) (n b : ℕ) → ((a : ℕ) → IsByte (get image a)) → given_byte (words_below image n) b ≡ cond (ltb b (2 * n)) (get image b) None
unfolding words_below
given_byte-words_below image zero b bytes = ap (λ t. cond t (get image b) None) (sym (le-ltb b (2 * 0) (omega arith)))
given_byte-words_below image (suc n) b bytes =
    given_byte-append (words_below image n) (option_to_list (word_of (2 * n) (get image (2 * n)) (get image (2 * n + 1)))) b
    ∙ ap (λ o. option_or o (byte_given (word_of (2 * n) (get image (2 * n)) (get image (2 * n + 1))) b)) (given_byte-words_below image n b bytes)
    ∙ more_given image n b (bytes (2 * n))

-- words that rise below an address, each a word
pub record AreWords (n : ℕ) (words : List WordValue) : Type 0 where
  pub each : All IsWord words
  pub below : All (λ w. w.address < 2 * n) words
  pub rising : AllPairs Rises words
  pub few : length words ≤ n

AreWords-more : (n : ℕ) (words : List WordValue) (o : Option WordValue) → AreWords n words → IfSome o IsWord → IfSome o (λ w. w.address ≡ 2 * n) → AreWords (suc n) (words ++ option_to_list o)
AreWords-more n words None are is here =
    subst (AreWords (suc n)) (sym (append-nil words)) (record { each = are.each; below = λ k d l. omega (arith, are.below k d l); rising = are.rising; few = omega arith })
AreWords-more n words (Some w) are is here = record {
  each = All-push IsWord words w are.each is;
  below = All-push (λ v. v.address < 2 * suc n) words w (λ k d l. omega (arith, are.below k d l)) (omega arith);
  rising = all_pairs_push Rises words w are.rising (λ k d l. omega (arith, are.below k d l));
  few = omega (arith, length_push words w);
}

pub AreWords-words_below : (image : Image) (n : ℕ) → n ≤ 28672 → ((a : ℕ) → IsByte (get image a)) → AreWords n (words_below image n)
unfolding words_below
AreWords-words_below image zero l bytes = record { each = All-nil IsWord; below = All-nil (λ w. w.address < 2 * 0); rising = λ i j d p q. absurd (omega arith); few = omega arith }
AreWords-words_below image (suc n) l bytes = AreWords-more n (words_below image n) _ (AreWords-words_below image n (omega arith) bytes)
    (word_of-IsWord (2 * n) (get image (2 * n)) (get image (2 * n + 1)) (omega arith) (omega arith) (bytes (2 * n)) (bytes (2 * n + 1)))
    (address-word_of (2 * n) (get image (2 * n)) (get image (2 * n + 1)))
