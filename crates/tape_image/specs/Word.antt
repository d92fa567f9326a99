-- A word of the plan: which bytes of a machine's word are the tape's, and what they are.
use Rattle.std.specs.Prelude.{◌≡◌, ℕ, ◌+◌, ◌*◌, ◌/◌, ◌%◌, ◌<◌, ◌⊎◌, Bool, false, ◌==◌, ◌&&◌, if◌then◌else◌, IsTrue, List, ◌∷◌, ◌++◌, refl}
use Rattle.std.specs.Coded.{Coded, code_by, coded×, coded_ℕ}
use Rattle.octal.specs.Octal.{octal_text}
use Rattle.tape_values.specs.Block.{top}
use Rattle.tape_image.specs.Memory.{half}

-- the address of the word, the bits that the tape gives (the mask), and these bits
pub record WordValue : Type 0 where
  pub address : ℕ
  pub mask : ℕ
  pub value : ℕ

-- the word at an address of which the tape gives both bytes, as this number
abbrev pub whole_word : ℕ → ℕ → WordValue
whole_word address number = record { address = address; mask = 0o177777; value = number }

-- a word is stored as its three fields
abbrev pub word_code : Coded WordValue
word_code =
    code_by (ℕ × (ℕ × ℕ)) (coded× coded_ℕ (coded× coded_ℕ coded_ℕ)) (λ w. (w.address, (w.mask, w.value)))
    (λ p. record { address = p.0; mask = p.1.0; value = p.1.1 }) (λ _. refl)

-- whether the mask has the byte at the address b, which it has whole or not at all
abbrev pub covers : ℕ → ℕ → Bool
covers b mask = half b mask == 0o377

-- whether the word gives the byte at the address b
abbrev pub gives : WordValue → ℕ → Bool
gives w b = (w.address / 2 == b / 2) && covers b w.mask

-- the byte for the address b after the word is laid over an old one: the word's under the mask, else the old one's
abbrev pub merged_half : ℕ → WordValue → ℕ → ℕ
merged_half b w old = if covers b w.mask then half b w.value else half b old

-- the word that has these two bytes, the low one and the high one
abbrev pub merged : WordValue → ℕ → ℕ
merged w old = merged_half 0 w old + 256 * merged_half 1 w old

-- the byte for the address b is the word's, if the mask has it
abbrev pub HalfStands : ℕ → WordValue → ℕ → Type 0
HalfStands b w now = IsTrue (covers b w.mask) → half b now ≡ half b w.value

-- each byte under the mask is the word's
pub record Stands (w : WordValue) (now : ℕ) : Type 0 where
  pub low : HalfStands 0 w now
  pub high : HalfStands 1 w now

-- the low byte (000377), the high byte (177400) or both (177777)
abbrev pub IsMask : ℕ → Type 0
IsMask mask = (mask ≡ 0o377) ⊎ ((mask ≡ 0o177400) ⊎ (mask ≡ 0o177777))

-- one of the masks, and a value with no bit outside it: a byte that the mask does not have is 0
pub record IsInside (mask value : ℕ) : Type 0 where
  pub one_mask : IsMask mask
  pub low : covers 0 mask ≡ false → half 0 value ≡ 0
  pub high : covers 1 mask ≡ false → half 1 value ≡ 0

-- a word by its address, mask and value, one space between (this project's choice)
abbrev pub word_fields : WordValue → List ℕ
word_fields w = octal_text w.address ++ 32 ∷ (octal_text w.mask ++ 32 ∷ octal_text w.value)

-- an even address below 160000 (this project's choice), and a value of 16 bits inside the mask
pub record IsWord (w : WordValue) : Type 0 where
  pub even : w.address % 2 ≡ 0
  pub below : w.address < top
  pub inside : IsInside w.mask w.value
  pub fits : w.value < 65536
