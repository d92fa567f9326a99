-- A name, shown character by character.
use Rattle.std.proofs.Common.{◌≡◌, ℕ, ◌==◌, Bool, false, List, [], ◌∷◌, ◌++◌, length, refl, sym, ap, ◌∙◌, encode_utf8, arith}
use Rattle.std.specs.Str.{chars, IsUtf8}
use Rattle.std.specs.List.{flat_map}
use Rattle.std.proofs.lemmas.Bool.{false≢true}
use Rattle.std.proofs.lemmas.Str.{chars_past_char, chars-nil}
use Rattle.endings.specs.Failure.{shown_char, shown_name}

-- characters, one after another, as they are shown
abbrev pub shown_text : List ℕ → List ℕ
shown_text name = flat_map shown_char (chars name)

pub shown_name-some : (name : List ℕ) (is_empty : Bool) → is_empty ≡ (length name == 0) → is_empty ≡ false → shown_name name ≡ shown_text name
shown_name-some [] is_empty was none = absurd (false≢true (sym none ∙ was))
shown_name-some (b ∷ bs) is_empty was none = refl

pub shown_text-char : (name rest : List ℕ) (c : ℕ) → IsUtf8 name → name ≡ encode_utf8 c ++ rest → shown_text name ≡ shown_char c ++ shown_text rest
shown_text-char name rest c utf8 same = ap (flat_map shown_char) (chars_past_char name rest c utf8 same)

pub shown_text-none : (rest : List ℕ) → length rest ≡ 0 → shown_text rest ≡ []
shown_text-none [] none = ap (flat_map shown_char) chars-nil
shown_text-none (b ∷ bs) none = absurd (omega (arith, none))
