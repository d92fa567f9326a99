-- Texts that are no record.
use Rattle.std.proofs.Common.{◌≡◌, ℕ, List, drop, length, Bool, true, false, not, nat_eq, IsTrue, sym, subst, refl, ◌∙◌}
use Rattle.std.specs.List.{starts_with}
use Rattle.std.specs.Prelude.{Contains}
use Rattle.load_record.specs.declared.version.Version.{Version}
use Rattle.load_record.specs.declared.version.Version.TheVariants.{First, Second}
use Rattle.load_record.proofs.Runs.{begins, begins_with}
use Rattle.record_file.specs.InPlace.{IsFrontOf}
use Rattle.record_file.specs.OldRecord.{BeginsHeader, HoldsNoRecord}

-- a text that another one begins with is a front of it, and the other way round
is_front : (front text : List ℕ) → starts_with nat_eq text front ≡ true → IsFrontOf front text
is_front front text on = (drop (length front) text, sym (begins text front on))

has_front : (front text : List ℕ) → IsFrontOf front text → starts_with nat_eq text front ≡ true
has_front front text h = subst (λ whole. starts_with nat_eq whole front ≡ true) h.1 (begins_with front h.0)

-- what the test says of two texts
pub tests_front : (front text : List ℕ) (b : Bool) → b ≡ starts_with nat_eq text front → (IsTrue b → IsFrontOf front text) × (IsFrontOf front text → IsTrue b)
tests_front front text b means = (λ on. is_front front text (sym means ∙ cc (on)), λ h. cc (means ∙ has_front front text h))

-- no line and the beginning of neither header
is_none : (text : List ℕ) → (Contains text 10 → ⊥) → (BeginsHeader First text → ⊥) → (BeginsHeader Second text → ⊥) → HoldsNoRecord text
is_none text line first second = record {
  no_line = line;
  no_header = λ version h. neither version h;
} where
  neither : (version : Version) → BeginsHeader version text → ⊥
  neither First h = first h
  neither Second h = second h

-- a text that begins the first header is no such text
pub begins_first : (text : List ℕ) (b : Bool) → (IsTrue b → BeginsHeader First text) → b ≡ true → (IsTrue false → HoldsNoRecord text) × (HoldsNoRecord text → IsTrue false)
begins_first text b means on = (λ f. absurd (cc f), λ h. absurd (h.no_header First (means on)))

-- without a line, and with no beginning of the first header, the second decides
pub second_decides : (text : List ℕ) (line first second : Bool) → (Contains text 10 → IsTrue line) → (BeginsHeader First text → IsTrue first)
    → (IsTrue second → BeginsHeader Second text) → (BeginsHeader Second text → IsTrue second) → line ≡ false → first ≡ false
    → (IsTrue (not second) → HoldsNoRecord text) × (HoldsNoRecord text → IsTrue (not second))
second_decides text line first true has_line begins_one is begins_two no_line no_first = (λ f. absurd (cc f), λ h. absurd (h.no_header Second (is refl)))
second_decides text line first false has_line begins_one is begins_two no_line no_first =
    (λ _. is_none text (λ h. absurd (cc (has_line h, no_line))) (λ h. absurd (cc (begins_one h, no_first))) (λ h. absurd (cc (begins_two h))), λ _. refl)
