use Rattle.std.proofs.Common.{◌≡◌, ℕ, List, [], ◌∷◌, ◌++◌, Result, Ok, Err, OnOk, ap, ◌∙◌, append_assoc}
use Rattle.octal.specs.Octal.{octal_text}
use Rattle.tape_image.specs.Word.{WordValue}
use Rattle.byte_io.specs.Text.{line}
use Rattle.tape_image.specs.Word.{word_fields}
use Rattle.tape_commands.proofs.check_text.put_word.Goals as goal

spread : (old a b d : List ℕ) → ((old ++ a ++ 32 ∷ []) ++ b ++ 32 ∷ []) ++ d ++ 10 ∷ [] ≡ old ++ line (a ++ 32 ∷ [] ++ b ++ 32 ∷ [] ++ d)
spread old a b d = simp append_assoc

-- three fields, one after another
joined : (w : WordValue) (old first second third : List ℕ) (a m v : ℕ) → a ≡ w.address → m ≡ w.mask → v ≡ w.value
    → first ≡ old ++ octal_text a ++ 32 ∷ [] → second ≡ first ++ octal_text m ++ 32 ∷ [] → third ≡ second ++ octal_text v ++ 10 ∷ []
    → third ≡ old ++ line (word_fields w)
joined w old first second third a m v ea em ev e f h =
    h ∙ ap (λ l. l ++ octal_text v ++ 10 ∷ []) (f ∙ ap (λ l. l ++ octal_text m ++ 32 ∷ []) e)
    ∙ spread old (octal_text a) (octal_text m) (octal_text v)
    ∙ ap (λ n. old ++ line (octal_text n ++ 32 ∷ [] ++ octal_text m ++ 32 ∷ [] ++ octal_text v)) ea
    ∙ ap (λ n. old ++ line (octal_text w.address ++ 32 ∷ [] ++ octal_text n ++ 32 ∷ [] ++ octal_text v)) em
    ∙ ap (λ n. old ++ line (octal_text w.address ++ 32 ∷ [] ++ octal_text w.mask ++ 32 ∷ [] ++ octal_text n)) ev

on_ok : {T E : Type 0} (r : Result T E) (P Q : Type 0) → OnOk r P → (P → Q) → OnOk r Q
on_ok (Ok x) P Q p f = f p
on_ok (Err e) P Q p f = tt

pub returns : goal.returns
returns c = on_ok _ _ _ c.put_field-3.ensures (joined _ _ _ _ _ _ _ _ c.address.ensures.value c.mask.ensures.value c.value.ensures.value c.in_ok-put_field.ensures c.in_ok-put_field-2.ensures)
