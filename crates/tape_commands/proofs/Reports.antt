-- Texts that are gathered piece by piece.
use Rattle.std.proofs.Common.{◌≡◌, ℕ, List, ◌++◌, Result, Ok, Err, OnOk, Option, ap, ◌∙◌, append_assoc, codes, decimal}
use Rattle.std.specs.List.{flat_map}
use Rattle.octal.specs.Octal.{octal_text}
use Rattle.tape_image.specs.Word.{WordValue}
use Rattle.odt_machine.specs.declared.mode.Mode.{Mode}
use Rattle.odt_machine.specs.declared.mode.Mode.TheVariants.{Number, Typing}
use Rattle.odt_machine.specs.Machine.{Machine}
use Rattle.host_core.specs.declared.phase.End.{End}
use Rattle.host_core.specs.Core.{ended}
use Rattle.line_world.specs.Scene.{Scene}
use Rattle.byte_io.specs.Text.{line}
use Rattle.tape_commands.specs.Report.{life_text, end_text, mode_name, held_word_text, report}

-- what holds of an `Ok`, from what is known of it
pub on_ok : {T E : Type 0} (r : Result T E) (P Q : Type 0) → OnOk r P → (P → Q) → OnOk r Q
on_ok (Ok x) P Q p f = f p
on_ok (Err e) P Q p f = tt

two_spread : (old name a s b : List ℕ) → (old ++ name ++ a) ++ s ++ b ≡ old ++ (name ++ a ++ s ++ b)
two_spread old name a s b = simp append_assoc

-- the mode with digits at the prompt
pub number_name : (old first second : List ℕ) (value digits : ℕ) → first ≡ old ++ codes "Number " ++ octal_text value → second ≡ first ++ codes " " ++ decimal digits
    → second ≡ old ++ mode_name (Number value digits)
number_name old first second value digits e f =
    f ∙ ap (λ l. l ++ codes " " ++ decimal digits) e ∙ two_spread old (codes "Number ") (octal_text value) (codes " ") (decimal digits)

three_spread : (old name a s b d : List ℕ) → ((old ++ name ++ a) ++ s ++ b) ++ s ++ d ≡ old ++ (name ++ a ++ s ++ b ++ s ++ d)
three_spread old name a s b d = simp append_assoc

-- the mode with digits in an open word
pub typing_name : (old first second third : List ℕ) (address value digits : ℕ) → first ≡ old ++ codes "Typing " ++ octal_text address → second ≡ first ++ codes " " ++ octal_text value
    → third ≡ second ++ codes " " ++ decimal digits → third ≡ old ++ mode_name (Typing address value digits)
typing_name old first second third address value digits e f h =
    h ∙ ap (λ l. l ++ codes " " ++ decimal digits) (f ∙ ap (λ l. l ++ codes " " ++ octal_text value) e)
    ∙ three_spread old (codes "Typing ") (octal_text address) (codes " ") (octal_text value) (decimal digits)

four_spread : (old a b c d : List ℕ) → ((old ++ a) ++ b) ++ c ++ d ≡ old ++ (a ++ b ++ c ++ d)
four_spread old a b c d = simp append_assoc

four : (old a b c d first second third fourth : List ℕ) → first ≡ old ++ a → second ≡ first ++ b → third ≡ second ++ c → fourth ≡ third ++ d → fourth ≡ old ++ (a ++ b ++ c ++ d)
four old a b c d first second third fourth e f g h = h ∙ ap (λ l. l ++ d) (g ∙ ap (λ l. l ++ c) (f ∙ ap (λ l. l ++ b) e)) ∙ four_spread old a b c d

-- the four parts of a report, each of what the world's parts show
pub report_parts : (w : Scene) (old first second third fourth : List ℕ) (end : Option End) (mode : Mode) (machine : Machine) (words : List WordValue)
    → end ≡ ended w.core.phase → mode ≡ w.machine.mode → machine ≡ w.machine → words ≡ w.core.plan.words
    → first ≡ old ++ line (life_text w) → second ≡ first ++ line (codes "end " ++ end_text end) → third ≡ second ++ line (codes "odt " ++ mode_name mode)
    → fourth ≡ third ++ flat_map (λ word. line (held_word_text machine.memory word)) words → fourth ≡ old ++ report w
report_parts w old first second third fourth end mode machine words is_end is_mode is_machine is_words counts ends modes held =
    four old _ _ _ _ first second third fourth counts (ends ∙ ap (λ e. first ++ line (codes "end " ++ end_text e)) is_end)
    (modes ∙ ap (λ m. second ++ line (codes "odt " ++ mode_name m)) is_mode)
    (held ∙ ap (λ m. third ++ flat_map (λ word. line (held_word_text m.memory word)) words) is_machine
    ∙ ap (λ ws. third ++ flat_map (λ word. line (held_word_text w.machine.memory word)) ws) is_words)
