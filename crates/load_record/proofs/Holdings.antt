-- How many words a whole line holds.
use Rattle.std.proofs.Common.{◌≡◌, ℕ, ◌+◌, ◌*◌, ◌<◌, ◌≤◌, zero, suc, Bool, true, false, List, [], ◌∷◌, ◌++◌, length, take, arith, ap, sym, refl, ◌∙◌, subst, append-nil, length-append, length-take-le, inl, inr, drop, Some}
use Rattle.std.proofs.lemmas.List.{nil_from_length}
use Rattle.std.proofs.lemmas.Bool.{false≢true}
use Rattle.std.proofs.lemmas.Slice.Eq.{bytes_eq-Decides}
use Rattle.std.specs.Int.{from_bool}
use Rattle.std.specs.List.{slice_get}
use Rattle.std.specs.Str.{bytes_eq}
use Rattle.tape_image.specs.Word.{WordValue, word_fields}
use Rattle.load_record.specs.declared.version.Version.{Version}
use Rattle.load_record.specs.declared.version.Version.TheVariants.{First, Second}
use Rattle.load_record.specs.Lines.{half_line, run_text, is_full, IsHalfLine, IsRunLine, HoldsWords}
use Rattle.load_record.specs.Reading.{IsHeldFront, BeginsWithRun, HoldsCount, HoldsTorn}
use Rattle.load_record.proofs.Runs.{no_half_run, length-run_text}

-- the first of the next words, where some of them are one word
first_alone : (w v : WordValue) (ws words later : List WordValue) → w ∷ ws ≡ words ++ later → words ≡ v ∷ [] → w ≡ v
first_alone w v ws words later next alone = let e : w ∷ ws ≡ (v ∷ []) ++ later = next ∙ ap (λ l. l ++ later) alone in cc

-- a line holds at least one word
pub holds_some : (version : Version) (line : List ℕ) (words : List WordValue) → HoldsWords version line words → 0 < length words
holds_some First line words h = let e = ap length h.alone in omega arith
holds_some Second line words (inl h) = let e = ap length h.alone in omega arith
holds_some Second line [] (inr h) = absurd h.run
holds_some Second line (w ∷ words) (inr h) = omega arith

word_held : (line : List ℕ) (w : WordValue) (ws : List WordValue) → line ≡ word_fields w → HoldsCount First line (w ∷ ws) 1
word_held line w ws spelled = record {
  few = omega arith;
  holds = λ some. record { word = w; alone = refl; spelled = spelled };
  only = λ words later next h. sym (ap length h.alone);
}

word_not_held : (line : List ℕ) (w : WordValue) (ws : List WordValue) → (line ≡ word_fields w → ⊥) → HoldsCount First line (w ∷ ws) 0
word_not_held line w ws other = record {
  few = omega arith;
  holds = λ some. absurd (omega arith);
  only = λ words later next h. absurd (other (h.spelled ∙ ap word_fields (sym (first_alone w h.word ws words later next h.alone))));
}

half_held : (line : List ℕ) (w : WordValue) (ws : List WordValue) → is_full w ≡ false → line ≡ half_line w → HoldsCount Second line (w ∷ ws) 1
half_held line w ws half spelled = record {
  few = omega arith;
  holds = λ some. inl record { word = w; alone = refl; half = half; spelled = spelled };
  only = λ words later next h. elim h [ inl h ↦ sym (ap length h.alone) | inr h ↦ absurd (no_half_run w ws words later half next h.run) ];
}

half_not_held : (line : List ℕ) (w : WordValue) (ws : List WordValue) → is_full w ≡ false → (line ≡ half_line w → ⊥) → HoldsCount Second line (w ∷ ws) 0
half_not_held line w ws half other = record {
  few = omega arith;
  holds = λ some. absurd (omega arith);
  only = λ words later next h. elim h [
    | inl h ↦ absurd (other (h.spelled ∙ ap half_line (sym (first_alone w h.word ws words later next h.alone))))
    | inr h ↦ absurd (no_half_run w ws words later half next h.run)
  ];
}

-- a piece is no shorter than the run line with which it begins
begun_long : (line : List ℕ) (next : List WordValue) (count : ℕ) → HoldsTorn Second line next count → 0 < count → 6 + 7 * count ≤ length line
begun_long line next count torn some =
    let begun = torn.holds some in
    let text = ap length begun.1.1 ∙ length-append (run_text (take count next)) begun.1.0 in
    let run = length-run_text (take count next) begun.0 in
    let n = length-take-le count next torn.few in omega arith

-- the words of a whole run line are the most with whose run line it begins
run_only : (line : List ℕ) (next words later : List WordValue) (count : ℕ) → HoldsTorn Second line next count → next ≡ words ++ later → IsRunLine line words → count ≡ length words
run_only line next words later zero torn e h =
    let most = torn.most words later e (h.run, ([], h.spelled ∙ sym (append-nil (run_text words)))) in omega arith
run_only line next words later (suc n) torn e h =
    let most = torn.most words later e (h.run, ([], h.spelled ∙ sym (append-nil (run_text words)))) in
    let text = ap length h.spelled ∙ length-run_text words h.run in
    let long = begun_long line next (suc n) torn (omega arith) in omega arith

-- a line that is as long as the run line with which it begins is that line
run_whole : (line : List ℕ) (words : List WordValue) → BeginsWithRun Second line words → length line ≡ 6 + 7 * length words → IsRunLine line words
run_whole line words begun long =
    let text = ap length begun.1.1 ∙ length-append (run_text words) begun.1.0 in
    let run = length-run_text words begun.0 in
    let nothing : begun.1.0 ≡ [] = nil_from_length begun.1.0 (omega arith) in
    record { run = begun.0; spelled = begun.1.1 ∙ ap (λ l. run_text words ++ l) nothing ∙ append-nil (run_text words) }

pub run_found : (line : List ℕ) (next : List WordValue) (count : ℕ) → HoldsTorn Second line next count → length line ≡ 6 + 7 * count → IsHeldFront (IsRunLine line) next count
run_found line next count torn long = record {
  few = torn.few;
  holds = λ some. run_whole line (take count next) (torn.holds some) (long ∙ ap (λ n. 6 + 7 * n) (sym (length-take-le count next torn.few)));
  only = λ words later e h. run_only line next words later count torn e h;
}

pub run_not_found : (line : List ℕ) (next : List WordValue) (count : ℕ) → HoldsTorn Second line next count → (length line ≡ 6 + 7 * count → ⊥) → IsHeldFront (IsRunLine line) next 0
run_not_found line next count torn other = record {
  few = omega arith;
  holds = λ some. absurd (omega arith);
  only = λ words later e h. absurd (other (ap length h.spelled ∙ length-run_text words h.run ∙ ap (λ n. 6 + 7 * n) (sym (run_only line next words later count torn e h))));
}

-- a line whose next word is full is no line of a single word
not_single : (w : WordValue) (ws words later : List WordValue) (line : List ℕ) → is_full w ≡ true → w ∷ ws ≡ words ++ later → IsHalfLine line words → ⊥
not_single w ws words later line full next h =
    false≢true (sym h.half ∙ ap is_full (sym (first_alone w h.word ws words later next h.alone)) ∙ full)

-- a slice that has a first word
first_of : (w : WordValue) (next : List WordValue) → Some w ≡ slice_get next 0 → next ≡ w ∷ drop 1 next
first_of w [] e = absurd (cc e)
first_of w (v ∷ next) e = let same : w ≡ v = cc in ap (λ x. x ∷ next) (sym same)

-- the same of equal arguments
moved : (version v : Version) (line : List ℕ) (next n : List WordValue) (count k : ℕ) → version ≡ v → next ≡ n → count ≡ k → HoldsCount v line n k → HoldsCount version line next count
moved version v line next n count k ev en ek h =
    subst (λ x. HoldsCount x line next count) (sym ev) (subst (λ x. HoldsCount v line x count) (sym en) (subst (λ x. HoldsCount v line n x) (sym ek) h))

-- what the code does at a word of version 1, at a word that is not full, and at a full word
pub word_counted : (version : Version) (line text : List ℕ) (next : List WordValue) (w : WordValue) (b : Bool) (count : ℕ)
    → version ≡ First → Some w ≡ slice_get next 0 → b ≡ bytes_eq line text → text ≡ word_fields w → count ≡ from_bool b → HoldsCount version line next count
word_counted version line text next w true count v n test t c =
    moved version First line next (w ∷ drop 1 next) count 1 v (first_of w next n) c (word_held line w (drop 1 next) ((bytes_eq-Decides line text).0 (sym test) ∙ t))
word_counted version line text next w false count v n test t c =
    moved version First line next (w ∷ drop 1 next) count 0 v (first_of w next n) c (word_not_held line w (drop 1 next) (λ e. false≢true (test ∙ (bytes_eq-Decides line text).1 (e ∙ sym t))))

pub half_counted : (version : Version) (line text : List ℕ) (next : List WordValue) (w : WordValue) (b : Bool) (count : ℕ)
    → version ≡ Second → Some w ≡ slice_get next 0 → is_full w ≡ false → b ≡ bytes_eq line text → text ≡ half_line w → count ≡ from_bool b → HoldsCount version line next count
half_counted version line text next w true count v n half test t c =
    moved version Second line next (w ∷ drop 1 next) count 1 v (first_of w next n) c (half_held line w (drop 1 next) half ((bytes_eq-Decides line text).0 (sym test) ∙ t))
half_counted version line text next w false count v n half test t c =
    moved version Second line next (w ∷ drop 1 next) count 0 v (first_of w next n) c (half_not_held line w (drop 1 next) half (λ e. false≢true (test ∙ (bytes_eq-Decides line text).1 (e ∙ sym t))))

pub run_words_counted : (version : Version) (line : List ℕ) (next : List WordValue) (w : WordValue) (count : ℕ)
    → version ≡ Second → Some w ≡ slice_get next 0 → is_full w ≡ true → IsHeldFront (IsRunLine line) next count → HoldsCount version line next count
run_words_counted version line next w count v n full h =
    let here : HoldsCount Second line next count = record {
      few = h.few;
      holds = λ some. inr (h.holds some);
      only = λ words later e k. elim k [
        | inl half ↦ absurd (not_single w (drop 1 next) words later line full (sym (first_of w next n) ∙ e) half)
        | inr run ↦ h.only words later e run
      ];
    } in
    subst (λ x. HoldsCount x line next count) (sym v) here
