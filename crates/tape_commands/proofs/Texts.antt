-- What is printed of the tapes so far, and of one more.
use Rattle.std.proofs.Common.{◌≡◌, ◌<◌, ◌+◌, ℕ, List, [], ◌∷◌, ◌++◌, Option, length, take, get_or, append-nil, zero, suc, arith, refl, sym, ap, ◌∙◌, subst}
use Rattle.std.proofs.Common.{Bool, Result, Ok, Err, OnOk, append_assoc}
use Rattle.std.specs.List.{flat_map, AllByRecursion}
use Rattle.std.proofs.lemmas.List.{get_or-map, take_more, length-map}
use Rattle.std.proofs.lemmas.List.Concat.{flat_map-cons}
use Rattle.std.proofs.lemmas.Grind.{flat_map-append}
use Rattle.tape_values.specs.Tape.{TapeValue, IsTape, plain_text}
use Rattle.tape_blocks.specs.declared.layout.Layout.{Layout}
use Rattle.input_files.specs.Tapes.{TapeText, AreTaken, AreTapes, AreLaidOut}
use Rattle.tape_commands.specs.CheckText.{AreTexts, tape_text, blocks_text, start_text, canonical_text, is_same}
use Rattle.byte_io.specs.Text.{line}

-- the text is the tape's
abbrev IsText : TapeText → Type 0
IsText t = IsTape t.text t.tape.blocks t.tape.start

taken_each : (befores afters : List (Option (List ℕ))) (texts : List TapeText) → AreTaken befores afters texts → AllByRecursion IsText texts
taken_each [] [] [] are = tt
taken_each [] [] (t ∷ texts) are = absurd are
taken_each [] (y ∷ ys) texts are = absurd (cases texts are)
  where
    cases : (texts : List TapeText) → AreTaken [] (y ∷ ys) texts → ⊥
    cases [] are = are
    cases (t ∷ texts) are = are
taken_each (x ∷ xs) [] texts are = absurd (cases texts are)
  where
    cases : (texts : List TapeText) → AreTaken (x ∷ xs) [] texts → ⊥
    cases [] are = are
    cases (t ∷ texts) are = are
taken_each (x ∷ xs) (y ∷ ys) [] are = absurd are
taken_each (x ∷ xs) (y ∷ ys) (t ∷ texts) are = (are.0.is_tape, taken_each xs ys texts are.1)

-- the tapes that were taken, and the bytes that they were read from
pub are_texts : (befores afters : List (Option (List ℕ))) (tapes : List TapeValue) (layouts : List Layout) (are : AreTapes befores afters tapes layouts) → AreTexts tapes layouts are.texts
are_texts befores afters tapes layouts are = record {
  tapes_are = are.tapes_are;
  laid = are.laid;
  each = taken_each befores afters are.texts are.taken;
}

each_at : (texts : List TapeText) (place : ℕ) (d : TapeText) → AllByRecursion IsText texts → place < length texts → IsText (get_or texts place d)
each_at [] place d each within = absurd (omega arith)
each_at (t ∷ texts) zero d each within = each.0
each_at (t ∷ texts) (suc place) d each within = each_at texts place d each.1 (omega arith)

laid_each : (texts : List TapeText) (layouts : List Layout) → AreLaidOut texts layouts → length layouts ≡ length texts
laid_each [] [] laid = refl
laid_each [] (l ∷ ls) laid = absurd laid
laid_each (t ∷ ts) [] laid = absurd laid
laid_each (t ∷ ts) (l ∷ ls) laid = ap suc (laid_each ts ls laid.1)

-- each tape has a layout
pub one_each : (befores afters : List (Option (List ℕ))) (tapes : List TapeValue) (layouts : List Layout) → AreTapes befores afters tapes layouts
    → length layouts ≡ length tapes
one_each befores afters tapes layouts are =
    laid_each are.texts layouts are.laid ∙ sym (ap length are.tapes_are ∙ length-map are.texts (λ (t : TapeText). t.tape))

size_at : (texts : List TapeText) (layouts : List Layout) (place : ℕ) (t : TapeText) (l : Layout) → AreLaidOut texts layouts → place < length texts
    → (get_or layouts place l).size ≡ length (get_or texts place t).text
size_at [] layouts place t l laid within = absurd (omega arith)
size_at (u ∷ us) [] place t l laid within = absurd laid
size_at (u ∷ us) (m ∷ ms) zero t l laid within = laid.0.size_is
size_at (u ∷ us) (m ∷ ms) (suc place) t l laid within = size_at us ms place t l laid.1 (omega arith)

-- the lines of the next tape stand behind those of the tapes so far
pub next_text : (tapes : List TapeValue) (layouts : List Layout) (texts : List TapeText) (place : ℕ) (e : TapeValue) (d : Layout) (before after : List ℕ) → AreTexts tapes layouts texts → place < length tapes
    → e ≡ get_or tapes place e → d ≡ get_or layouts place d → before ≡ flat_map tape_text (take place texts)
    → ((text : List ℕ) → IsTape text e.blocks e.start → d.size ≡ length text → after ≡ before ++ tape_text (record { text = text; tape = e }))
    → after ≡ flat_map tape_text (take (place + 1) texts)
next_text tapes layouts texts place e d before after are within e_is d_is so put =
    let none : TapeText = record { text = []; tape = e } in
    let t = get_or texts place none in
    let few : place < length texts = subst (λ n. place < n) (ap length are.tapes_are ∙ length-map texts (λ (t : TapeText). t.tape)) within in
    let tape : e ≡ t.tape = e_is ∙ ap (λ ts. get_or ts place e) are.tapes_are ∙ get_or-map (λ (t : TapeText). t.tape) texts place none e few in
    let size : d.size ≡ length t.text = ap (λ (l : Layout). l.size) d_is ∙ size_at texts layouts place none d are.laid few in
    put t.text (subst (λ (v : TapeValue). IsTape t.text v.blocks v.start) (sym tape) (each_at texts place none are.each few)) size
    ∙ ap (λ v. before ++ tape_text (record { text = t.text; tape = v })) tape
    ∙ ap (λ l. l ++ tape_text t) so
    ∙ sym (ap (flat_map tape_text) (take_more texts place none few) ∙ flat_map-append tape_text (take place texts) (t ∷ []) ∙ ap (λ l. flat_map tape_text (take place texts) ++ l) (one (tape_text t) (flat_map-cons tape_text t [])))
  where
    one : (xs : List ℕ) {ys : List ℕ} → ys ≡ xs ++ [] → ys ≡ xs
    one xs same = same ∙ append-nil xs

spread : (old a b d : List ℕ) → ((old ++ a) ++ b) ++ d ≡ old ++ (a ++ b ++ d)
spread old a b d = simp append_assoc

-- the three lines of a tape, one after another
pub three_lines : {T E : Type 0} (r : Result T E) (old first second third : List ℕ) (tape : TapeValue) (size : ℕ) (is_canonical : Bool) (start : ℕ) → first ≡ old ++ line (blocks_text tape size) → start ≡ tape.start
    → second ≡ first ++ line (start_text start) → OnOk r (third ≡ second ++ line (canonical_text is_canonical))
    → ((text : List ℕ) → IsTape text tape.blocks tape.start → size ≡ length text → is_canonical ≡ is_same text (plain_text tape))
    → OnOk r ((text : List ℕ) → IsTape text tape.blocks tape.start → size ≡ length text → third ≡ old ++ tape_text (record { text = text; tape = tape }))
three_lines (Err e) old first second third tape size is_canonical start one start_is two three judged = tt
three_lines (Ok x) old first second third tape size is_canonical start one start_is two three judged = λ text is long.
    three ∙ ap (λ l. l ++ line (canonical_text is_canonical)) (two ∙ ap (λ l. l ++ line (start_text start)) one)
    ∙ ap (λ b. ((old ++ line (blocks_text tape size)) ++ line (start_text start)) ++ line (canonical_text b)) (judged text is long)
    ∙ ap (λ a. ((old ++ line (blocks_text tape size)) ++ line (start_text a)) ++ line (canonical_text (is_same text (plain_text tape)))) start_is
    ∙ ap (λ n. ((old ++ line (blocks_text tape n)) ++ line (start_text tape.start)) ++ line (canonical_text (is_same text (plain_text tape)))) long
    ∙ spread old (line (blocks_text tape (length text))) (line (start_text tape.start)) (line (canonical_text (is_same text (plain_text tape))))
