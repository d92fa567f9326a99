-- A text behind zeros, in the room of six characters.
use Rattle.std.proofs.Common.{◌≡◌, ◌↔◌, ℕ, ◌-◌, ◌≤◌, Option, Some, List, [], ◌++◌, length, drop, replicate, ap, subst, sym, ◌∙◌, arith}
use Rattle.std.proofs.lemmas.List.{take-replicate, length-replicate, length-drop, drop_all, append-nil}
use Rattle.octal.specs.Octal.{IsOct6}
use Rattle.command_line.specs.Addresses.{IsOctalText}
use borrow.Rule.Slice.PartMut.{put_mid}

nothing_behind : (missing : ℕ) → drop (6 - missing) (drop missing (replicate {A = ℕ} 6 48)) ≡ []
nothing_behind missing =
    drop_all (6 - missing) (drop missing (replicate {A = ℕ} 6 48))
    (omega (arith, length-drop missing (replicate {A = ℕ} 6 48), length-replicate {A = ℕ} 6 48))

pub filled : (missing : ℕ) (text : List ℕ) → missing ≤ 6 → put_mid missing (6 - missing) (replicate {A = ℕ} 6 48) text ≡ replicate {A = ℕ} missing 48 ++ text
filled missing text within =
    ap (λ (zeros : List ℕ). zeros ++ (text ++ drop (6 - missing) (drop missing (replicate {A = ℕ} 6 48)))) (take-replicate missing 6 48 within)
    ∙ ap (λ (behind : List ℕ). replicate {A = ℕ} missing 48 ++ (text ++ behind)) (nothing_behind missing)
    ∙ ap (λ (rest : List ℕ). replicate {A = ℕ} missing 48 ++ rest) (append-nil text)

-- what is read of a text behind zeros is what the text says
pub read_whole : (answer : Option ℕ) (read text : List ℕ) → ((word : ℕ) → (answer ≡ Some word) ↔ IsOct6 word read) → read ≡ replicate (6 - length text) 48 ++ text → 1 ≤ length text →
    (word : ℕ) → (answer ≡ Some word) ↔ IsOctalText text word
read_whole answer read text exact same some word = (
  (λ is. record { some = some; octal = subst (λ (t : List ℕ). IsOct6 word t) same ((exact word).0 is) }),
  (λ said. (exact word).1 (subst (λ (t : List ℕ). IsOct6 word t) (sym same) said.octal)),
)
