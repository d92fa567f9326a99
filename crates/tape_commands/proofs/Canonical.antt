-- Whether a text is plain shows in its length.
use Rattle.std.proofs.Common.{◌≡◌, ◌==◌, ◌↔◌, ℕ, Bool, true, false, List, length, refl, sym, ◌∙◌}
use Rattle.std.specs.Bool.{Decides}
use Rattle.std.proofs.lemmas.Bool.{false≢true}
use Rattle.std.proofs.lemmas.Bool.Decides.{Decides-eqb}
use Rattle.std.proofs.lemmas.Slice.Eq.{slice_eq-Decides}
use Rattle.tape_values.specs.Tape.{TapeValue, plain_text}
use Rattle.tape_commands.specs.CheckText.{is_same}

both : (a b : Bool) (P Q : Type 0) → Decides a P → Decides b Q → (P → Q) → (Q → P) → a ≡ b
both true true P Q p q on off = refl
both true false P Q p q on off = absurd (false≢true (q.1 (on (p.0 refl))))
both false true P Q p q on off = absurd (false≢true (p.1 (off (q.0 refl))))
both false false P Q p q on off = refl

pub canonical : (text : List ℕ) (tape : TapeValue) (size written : ℕ) → size ≡ length text → ((text ≡ plain_text tape) ↔ (length text ≡ written)) → (size == written) ≡ is_same text (plain_text tape)
canonical text tape size written long plain =
    both (size == written) (is_same text (plain_text tape)) (size ≡ written) (text ≡ plain_text tape)
    (Decides-eqb size written) (slice_eq-Decides Decides-eqb text (plain_text tape) (is_same text (plain_text tape)) refl)
    (λ e. plain.1 (sym long ∙ e)) (λ e. long ∙ plain.0 e)
