-- The pieces of a record, as they are put together to be written.
use Rattle.std.proofs.Common.{◌≡◌, ℕ, ◌+◌, ◌-◌, ◌<◌, true, false, cond, List, [], ◌∷◌, ◌++◌, length, get_or, take, drop, take-append-drop, Option, Some, None, arith, ap, sym, refl, ◌∙◌, subst, append_assoc, append-nil}
use Rattle.std.proofs.lemmas.List.{length-append, take_rest, take_more, drop_more}
use Rattle.std.proofs.lemmas.Option.{slice_get_within, get_or_from_slice_get}
use Rattle.std.specs.List.{slice_get}
use Rattle.std.proofs.KnownBytes.{Appends-trans}
use Rattle.std.specs.Io.KnownBytes.{Appends}
use Rattle.tape_image.specs.Word.{WordValue}
use Rattle.tape_image.specs.Plan.{PlanValue}
use Rattle.load_record.specs.declared.version.Version.{Version}
use Rattle.load_record.specs.declared.version.Version.TheVariants.{Second}
use Rattle.load_record.specs.declared.run.OpenRun.{OpenRun}
use Rattle.byte_io.specs.Output.{WritesProperPrefix}
use Rattle.byte_io.proofs.Fronts.{prefix_behind}
use Rattle.load_record.specs.Lines.{header, half_line, value_text, run_text, is_full}
use Rattle.load_record.specs.RecordText.{ending, joins, begun_text, second_piece, second_run, piece, run_after, pieces, run_over, open_run, words_text}

-- a text behind the end of the run line that stands open
pub ended_text : (run : Option OpenRun) (bytes text : List ℕ) (n from : ℕ) → bytes ≡ 10 ∷ text → n ≡ length bytes → ((t : List ℕ) → drop from (10 ∷ t) ≡ ending run ++ t)
    → take (n - from) (drop from bytes) ≡ ending run ++ text
ended_text run bytes text n from e l ends =
    ap (λ k. take (k - from) (drop from bytes)) l ∙ take_rest bytes from ∙ ap (drop from) e ∙ ends text

-- a word that goes on the run line, and one that does not: a full one, and another
pub joined_piece : (run : Option OpenRun) (w : WordValue) → joins run w ≡ true → second_piece run w ≡ value_text w
joined_piece run w on = ap (λ t. cond t (value_text w) (ending run ++ begun_text w)) on

pub full_piece : (run : Option OpenRun) (w : WordValue) → joins run w ≡ false → is_full w ≡ true → second_piece run w ≡ ending run ++ run_text (w ∷ [])
full_piece run w off full =
    ap (λ t. cond t (value_text w) (ending run ++ begun_text w)) off ∙ ap (λ t. ending run ++ cond t (run_text (w ∷ [])) (half_line w ++ 10 ∷ [])) full

pub half_piece : (run : Option OpenRun) (w : WordValue) → joins run w ≡ false → is_full w ≡ false → second_piece run w ≡ ending run ++ (half_line w ++ 10 ∷ [])
half_piece run w off half =
    ap (λ t. cond t (value_text w) (ending run ++ begun_text w)) off ∙ ap (λ t. ending run ++ cond t (run_text (w ∷ [])) (half_line w ++ 10 ∷ [])) half

-- the pieces of some words and of one more
run_over-more : (version : Version) (run : Option OpenRun) (words : List WordValue) (w : WordValue) → run_over version run (words ++ w ∷ []) ≡ run_after version (run_over version run words) w
run_over-more version run [] w = refl
run_over-more version run (v ∷ words) w = run_over-more version (run_after version run v) words w

pub pieces-append : (version : Version) (run : Option OpenRun) (words more : List WordValue) → pieces version run (words ++ more) ≡ pieces version run words ++ pieces version (run_over version run words) more
pieces-append version run [] more = refl
pieces-append version run (v ∷ words) more =
    ap (λ l. piece version run v ++ l) (pieces-append version (run_after version run v) words more)
    ∙ sym (append_assoc (piece version run v) (pieces version (run_after version run v) words) (pieces version (run_over version (run_after version run v) words) more))

pieces-more : (version : Version) (run : Option OpenRun) (words : List WordValue) (w : WordValue) → pieces version run (words ++ w ∷ []) ≡ pieces version run words ++ piece version (run_over version run words) w
pieces-more version run words w = pieces-append version run words (w ∷ []) ∙ ap (λ l. pieces version run words ++ l) (append-nil (piece version (run_over version run words) w))

-- the words before one and the word itself
take-word : (words : List WordValue) (k : ℕ) (w : WordValue) → slice_get words k ≡ Some w → take (k + 1) words ≡ take k words ++ w ∷ []
take-word words k w e = take_more words k w (slice_get_within words k w e) ∙ ap (λ x. take k words ++ x ∷ []) (get_or_from_slice_get words k w w e)

-- the text of one word more is the text of those before it, and its piece
pub words_text-more : (version : Version) (plan : PlanValue) (k : ℕ) (w : WordValue) → slice_get plan.words k ≡ Some w
    → words_text version plan (k + 1) ≡ words_text version plan k ++ piece version (open_run version plan k) w
unfolding words_text
words_text-more version plan k w e =
    ap (λ l. header version ++ 10 ∷ pieces version None l) (take-word plan.words k w e)
    ∙ ap (λ l. header version ++ 10 ∷ l) (pieces-more version None (take k plan.words) w)
    ∙ sym (append_assoc (header version) (10 ∷ pieces version None (take k plan.words)) (piece version (open_run version plan k) w))

pub open_run-more : (version : Version) (plan : PlanValue) (k : ℕ) (w : WordValue) → slice_get plan.words k ≡ Some w
    → open_run version plan (k + 1) ≡ run_after version (open_run version plan k) w
open_run-more version plan k w e = ap (run_over version None) (take-word plan.words k w e) ∙ run_over-more version None (take k plan.words) w

-- the header and then some words
pub words_text-of : (plan : PlanValue) (k : ℕ) → words_text Second plan k ≡ (header Second ++ 10 ∷ []) ++ pieces Second None (take k plan.words)
unfolding words_text
words_text-of plan k = sym (append_assoc (header Second) (10 ∷ []) (pieces Second None (take k plan.words)))

-- all words, and what is written of them up to one, of that, and of the rest
pieces_around : (words : List WordValue) (i : ℕ) (w : WordValue) (run : Option OpenRun) → i < length words → w ≡ get_or words i w → run ≡ run_over Second None (take i words)
    → pieces Second None words ≡ pieces Second None (take i words) ++ (second_piece run w ++ pieces Second (second_run run w) (drop (i + 1) words))
pieces_around words i w run within at now_open =
    ap (pieces Second None) (sym (take-append-drop i words) ∙ ap (λ l. take i words ++ l) (drop_more words i w within ∙ ap (λ x. x ∷ drop (i + 1) words) (sym at)))
    ∙ pieces-append Second None (take i words) (w ∷ drop (i + 1) words)
    ∙ ap (λ r. pieces Second None (take i words) ++ (second_piece r w ++ pieces Second (second_run r w) (drop (i + 1) words))) (sym now_open)

-- a prefix of a text is one of a longer text
prefix_more : (before after : Option (List ℕ)) (text more : List ℕ) → WritesProperPrefix before after text → WritesProperPrefix before after (text ++ more)
prefix_more before after text more (left, missing, w) = (
  left ++ more,
  omega (arith, length-append left more, missing),
  record { written = w.written; whole = ap (λ l. l ++ more) w.whole ∙ append_assoc w.written left more; appended = w.appended },
)

-- a word of some words failed
pub words_prefix : (words : List WordValue) (i : ℕ) (w : WordValue) (run : Option OpenRun) (a b c : Option (List ℕ)) → i < length words → w ≡ get_or words i w → run ≡ run_over Second None (take i words)
    → Appends a b (pieces Second None (take i words)) → WritesProperPrefix b c (second_piece run w) → WritesProperPrefix a c (pieces Second None words)
words_prefix words i w run a b c within at now_open before part =
    subst (WritesProperPrefix a c) (sym (pieces_around words i w run within at now_open))
    (prefix_behind a b c (pieces Second None (take i words)) (second_piece run w ++ pieces Second (second_run run w) (drop (i + 1) words)) before
    (prefix_more b c (second_piece run w) (pieces Second (second_run run w) (drop (i + 1) words)) part))

-- one word more is written
pub words_more : (words : List WordValue) (i : ℕ) (w : WordValue) (run after : Option OpenRun) (a b c : Option (List ℕ)) → i < length words → w ≡ get_or words i w
    → (run ≡ run_over Second None (take i words)) × Appends a b (pieces Second None (take i words)) → (after ≡ second_run run w) × Appends b c (second_piece run w)
    → (after ≡ run_over Second None (take (i + 1) words)) × Appends a c (pieces Second None (take (i + 1) words))
words_more words i w run after a b c within at before now =
    let more : take (i + 1) words ≡ take i words ++ w ∷ [] = take_more words i w within ∙ ap (λ x. take i words ++ x ∷ []) (sym at) in (
      now.0 ∙ ap (λ r. second_run r w) before.0 ∙ sym (run_over-more Second None (take i words) w) ∙ ap (run_over Second None) (sym more),
      subst (Appends a c)
          (ap (λ r. pieces Second None (take i words) ++ second_piece r w) before.0 ∙ sym (pieces-more Second None (take i words) w) ∙ ap (pieces Second None) (sym more))
          (Appends-trans a b c (pieces Second None (take i words)) (second_piece run w) before.1 now.1),
    )

-- what `begin` writes: the header behind the end of the run line that stands open, and then the words
begin_text : (run : Option OpenRun) (plan : PlanValue) (k : ℕ) → (ending run ++ (header Second ++ 10 ∷ [])) ++ pieces Second None (take k plan.words) ≡ ending run ++ words_text Second plan k
begin_text run plan k =
    append_assoc (ending run) (header Second ++ 10 ∷ []) (pieces Second None (take k plan.words)) ∙ ap (λ l. ending run ++ l) (sym (words_text-of plan k))

-- the header failed
pub header_prefix : (run : Option OpenRun) (plan : PlanValue) (k : ℕ) (a b : Option (List ℕ)) → WritesProperPrefix a b (ending run ++ (header Second ++ 10 ∷ []))
    → WritesProperPrefix a b (ending run ++ words_text Second plan k)
header_prefix run plan k a b part =
    subst (WritesProperPrefix a b) (begin_text run plan k) (prefix_more a b (ending run ++ (header Second ++ 10 ∷ [])) (pieces Second None (take k plan.words)) part)

-- the words behind the header failed
pub begin_prefix : (run : Option OpenRun) (plan : PlanValue) (k : ℕ) (words : List WordValue) (a b c : Option (List ℕ)) → words ≡ take k plan.words
    → Appends a b (ending run ++ (header Second ++ 10 ∷ [])) → WritesProperPrefix b c (pieces Second None words) → WritesProperPrefix a c (ending run ++ words_text Second plan k)
begin_prefix run plan k words a b c these head part =
    subst (WritesProperPrefix a c) (ap (λ l. (ending run ++ (header Second ++ 10 ∷ [])) ++ pieces Second None l) these ∙ begin_text run plan k)
    (prefix_behind a b c (ending run ++ (header Second ++ 10 ∷ [])) (pieces Second None words) head part)

-- header and words are written
pub begin_whole : (run now_open : Option OpenRun) (plan : PlanValue) (k : ℕ) (words : List WordValue) (a b c : Option (List ℕ)) → words ≡ take k plan.words
    → Appends a b (ending run ++ (header Second ++ 10 ∷ [])) → (now_open ≡ run_over Second None words) × Appends b c (pieces Second None words)
    → (now_open ≡ open_run Second plan k) × Appends a c (ending run ++ words_text Second plan k)
begin_whole run now_open plan k words a b c these head rest = (
  rest.0 ∙ ap (run_over Second None) these,
  subst (Appends a c) (ap (λ l. (ending run ++ (header Second ++ 10 ∷ [])) ++ pieces Second None l) these ∙ begin_text run plan k)
      (Appends-trans a b c (ending run ++ (header Second ++ 10 ∷ [])) (pieces Second None words) head rest.1),
)
