-- What the text of a record is made of: a header, lines that lead to some words, and the run line that stands open.
use Rattle.std.proofs.Common.{◌≡◌, ℕ, ◌+◌, true, false, cond, ◌&&◌, ◌==◌, nat_lt, List, [], ◌∷◌, ◌++◌, length, take, drop, Option, Some, None, IsTrue, arith, ap, sym, refl, ◌∙◌, subst, append_assoc, append-nil, length-append, take-append-drop, inl, inr}
use Rattle.std.proofs.lemmas.List.{drop-drop, drop_at}
use Rattle.std.proofs.lemmas.Bool.Decides.{nat_tests}
use Rattle.octal.specs.Octal.{octal_text}
use Rattle.tape_image.specs.Word.{WordValue, word_fields}
use Rattle.tape_image.specs.Plan.{PlanValue}
use Rattle.host_core.specs.declared.progress.Progress.{Progress}
use Rattle.load_record.specs.declared.version.Version.{Version}
use Rattle.load_record.specs.declared.version.Version.TheVariants.{First, Second}
use Rattle.load_record.specs.declared.run.OpenRun.{OpenRun}
use Rattle.load_record.specs.Lines.{header, half_line, value_text, values_text, run_text, is_full, run_at, longer, goes_on, GoOn, IsRun, HoldsWords}
use Rattle.load_record.specs.RecordText.{ending, begun_text, begun_run, second_piece, second_run, piece, run_after, pieces, run_over, open_run, words_text}
use Rattle.load_record.specs.Reading.{Lead, nothing}
use Rattle.load_record.proofs.Joined.{joined, joined-append, joined-ended}
use Rattle.load_record.proofs.SoFar.{lead-append}

-- the words take a run line from one state to another
abbrev GoTo : OpenRun → List WordValue → OpenRun → Type 0
GoTo run [] after = after ≡ run
GoTo run (w ∷ ws) after = IsTrue (goes_on run w) × GoTo (longer run) ws after

-- the run line that stands open holds these words
abbrev pub IsOpen : Version → Option OpenRun → List WordValue → Type 0
IsOpen version None words = words ≡ []
IsOpen First (Some run) words = ⊥
IsOpen Second (Some run) [] = ⊥
IsOpen Second (Some run) (w ∷ ws) = GoTo (run_at w.address) (w ∷ ws) run

go_to-go_on : (run : OpenRun) (words : List WordValue) (after : OpenRun) → GoTo run words after → GoOn run words
go_to-go_on run [] after go = tt
go_to-go_on run (w ∷ ws) after go = (go.0, go_to-go_on (longer run) ws after go.1)

go_to-more : (run : OpenRun) (words : List WordValue) (after : OpenRun) (w : WordValue) → GoTo run words after → goes_on after w ≡ true → GoTo run (words ++ w ∷ []) (longer after)
go_to-more run [] after w go on = (subst (λ (r : OpenRun). goes_on r w ≡ true) go on, ap longer go)
go_to-more run (v ∷ words) after w go on = (go.0, go_to-more (longer run) words after w go.1 on)

pub last-run : (run : OpenRun) (words : List WordValue) → IsOpen Second (Some run) words → IsRun words
last-run run [] last = absurd last
last-run run (w ∷ words) last = go_to-go_on (run_at w.address) (w ∷ words) run last

last-more : (run : OpenRun) (words : List WordValue) (w : WordValue) → IsOpen Second (Some run) words → goes_on run w ≡ true → IsOpen Second (Some (longer run)) (words ++ w ∷ [])
last-more run [] w last on = absurd last
last-more run (v ∷ words) w last on = go_to-more (run_at v.address) (v ∷ words) run w last on

last-begun : (w : WordValue) → is_full w ≡ true → IsOpen Second (Some (longer (run_at w.address))) (w ∷ [])
last-begun w full =
    let here : (w.address == w.address) ≡ true = grind (arith, nat_tests) in
    let on : goes_on (run_at w.address) w ≡ true = ap (λ t. t && (nat_lt 0 16 && is_full w)) here ∙ full in
    (on, refl)

values_text-more : (words : List WordValue) (w : WordValue) → values_text (words ++ w ∷ []) ≡ values_text words ++ value_text w
values_text-more [] w = refl
values_text-more (v ∷ words) w = ap (λ l. value_text v ++ l) (values_text-more words w) ∙ sym (append_assoc (value_text v) (values_text words) (value_text w))

run_text-more : (run : OpenRun) (words : List WordValue) (w : WordValue) → IsOpen Second (Some run) words → run_text (words ++ w ∷ []) ≡ run_text words ++ value_text w
run_text-more run [] w last = absurd last
run_text-more run (v ∷ words) w last = ap (λ l. octal_text v.address ++ l) (values_text-more (v ∷ words) w) ∙ sym (append_assoc (octal_text v.address) (values_text (v ∷ words)) (value_text w))

-- a progress of so many words without the mark
abbrev pub words_only : ℕ → Progress
words_only k = record { verified = k; going = false }

-- the text of a record, where these words of the plan are still to come
pub record IsWritten (version : Version) (plan : PlanValue) (text : List ℕ) (run : Option OpenRun) (later : List WordValue) : Type 0 where
  pub lines : List (List ℕ)
  pub last : List WordValue
  pub at : ℕ
  pub text_is : text ≡ joined (header version ∷ lines) (run_text last)
  pub leads : Lead version plan lines nothing (words_only at)
  pub is_open : IsOpen version run last
  pub next : drop at plan.words ≡ last ++ later
  pub all : at + (length last + length later) ≡ length plan.words

-- what comes after the first words of what comes
pub drop-past : (at : ℕ) (words all later : List WordValue) → drop at all ≡ words ++ later → drop (at + length words) all ≡ later
drop-past at words all later e = sym (drop-drop (length words) at all) ∙ ap (drop (length words)) e ∙ drop_at words later (length words) refl

-- a whole line of the next words, where no run line stands open
ended_line : (version : Version) (plan : PlanValue) (lines : List (List ℕ)) (line : List ℕ) (words later : List WordValue) (at : ℕ)
    → Lead version plan lines nothing (words_only at) → drop at plan.words ≡ words ++ later → HoldsWords version line words
    → Lead version plan (lines ++ line ∷ []) nothing (words_only (at + length words))
ended_line version plan lines line words later at led next holds =
    lead-append version plan lines (line ∷ []) nothing (words_only at) (words_only (at + length words)) led
    (words_only (at + length words), inl record { words = words; later = later; next = next; holds = holds; after_is = refl }, refl)

line_written : (version : Version) (plan : PlanValue) (text line : List ℕ) (w : WordValue) (later : List WordValue)
    → HoldsWords version line (w ∷ []) → IsWritten version plan text None (w ∷ later) → IsWritten version plan (text ++ (line ++ 10 ∷ [])) None later
line_written version plan text line w later holds so_far =
    let next : drop so_far.at plan.words ≡ (w ∷ []) ++ later = so_far.next ∙ ap (λ l. l ++ (w ∷ later)) so_far.is_open in
    record {
      lines = so_far.lines ++ line ∷ [];
      last = [];
      at = so_far.at + 1;
      text_is = ap (λ l. l ++ (line ++ 10 ∷ [])) (so_far.text_is ∙ ap (λ (l : List WordValue). joined (header version ∷ so_far.lines) (run_text l)) so_far.is_open)
          ∙ joined-append (header version ∷ so_far.lines) [] (line ++ 10 ∷ []) ∙ joined-ended (header version ∷ so_far.lines) line [];
      leads = ended_line version plan so_far.lines line (w ∷ []) later so_far.at so_far.leads next holds;
      is_open = refl;
      next = drop-past so_far.at (w ∷ []) plan.words later next;
      all = let a = so_far.all in let o = ap length so_far.is_open in omega arith;
    }

-- the run line that stands open is ended
run_ended : (plan : PlanValue) (text : List ℕ) (run : OpenRun) (later : List WordValue) → IsWritten Second plan text (Some run) later → IsWritten Second plan (text ++ 10 ∷ []) None later
run_ended plan text run later so_far = record {
  lines = so_far.lines ++ run_text so_far.last ∷ [];
  last = [];
  at = so_far.at + length so_far.last;
  text_is = ap (λ l. l ++ 10 ∷ []) so_far.text_is ∙ joined-append (header Second ∷ so_far.lines) (run_text so_far.last) (10 ∷ []) ∙ joined-ended (header Second ∷ so_far.lines) (run_text so_far.last) [];
  leads = ended_line Second plan so_far.lines (run_text so_far.last) so_far.last later so_far.at so_far.leads so_far.next (inr record { run = last-run run so_far.last so_far.is_open; spelled = refl });
  is_open = refl;
  next = drop-past so_far.at so_far.last plan.words later so_far.next;
  all = let a = so_far.all in omega arith;
}

pub ending_written : (version : Version) (plan : PlanValue) (text : List ℕ) (run : Option OpenRun) (later : List WordValue) → IsWritten version plan text run later → IsWritten version plan (text ++ ending run) None later
ending_written version plan text None later so_far = subst (λ l. IsWritten version plan l None later) (sym (append-nil text)) so_far
ending_written First plan text (Some run) later so_far = absurd so_far.is_open
ending_written Second plan text (Some run) later so_far = run_ended plan text run later so_far

-- a full word begins a run line
run_begun : (plan : PlanValue) (text : List ℕ) (w : WordValue) (later : List WordValue) → is_full w ≡ true
    → IsWritten Second plan text None (w ∷ later) → IsWritten Second plan (text ++ run_text (w ∷ [])) (Some (longer (run_at w.address))) later
run_begun plan text w later full so_far = record {
  lines = so_far.lines;
  last = w ∷ [];
  at = so_far.at;
  text_is = ap (λ l. l ++ run_text (w ∷ [])) (so_far.text_is ∙ ap (λ (l : List WordValue). joined (header Second ∷ so_far.lines) (run_text l)) so_far.is_open)
      ∙ joined-append (header Second ∷ so_far.lines) [] (run_text (w ∷ []));
  leads = so_far.leads;
  is_open = last-begun w full;
  next = so_far.next ∙ ap (λ l. l ++ (w ∷ later)) so_far.is_open;
  all = let a = so_far.all in let o = ap length so_far.is_open in omega arith;
}

-- a word goes on the run line
run_gone_on : (plan : PlanValue) (text : List ℕ) (run : OpenRun) (w : WordValue) (later : List WordValue) → goes_on run w ≡ true
    → IsWritten Second plan text (Some run) (w ∷ later) → IsWritten Second plan (text ++ value_text w) (Some (longer run)) later
run_gone_on plan text run w later on so_far = record {
  lines = so_far.lines;
  last = so_far.last ++ w ∷ [];
  at = so_far.at;
  text_is = ap (λ l. l ++ value_text w) so_far.text_is ∙ joined-append (header Second ∷ so_far.lines) (run_text so_far.last) (value_text w)
      ∙ ap (joined (header Second ∷ so_far.lines)) (sym (run_text-more run so_far.last w so_far.is_open));
  leads = so_far.leads;
  is_open = last-more run so_far.last w so_far.is_open on;
  next = so_far.next ∙ sym (append_assoc so_far.last (w ∷ []) later);
  all = let a = so_far.all in let o = length-append so_far.last (w ∷ []) in omega arith;
}

-- where no run line stands open, a word begins one or has a line
begun_written : (plan : PlanValue) (text : List ℕ) (w : WordValue) (later : List WordValue) → IsWritten Second plan text None (w ∷ later)
    → IsWritten Second plan (text ++ begun_text w) (begun_run w) later
begun_written plan text w later so_far =
    elim (is_full w) as (λ t. is_full w ≡ t → IsWritten Second plan (text ++ cond t (run_text (w ∷ [])) (half_line w ++ 10 ∷ [])) (cond t (Some (longer (run_at w.address))) None) later) [
      | true ↦ (λ full. run_begun plan text w later full so_far)
      | false ↦ (λ half. line_written Second plan text (half_line w) w later (inl record { word = w; alone = refl; half = half; spelled = refl }) so_far)
    ] refl

second_written : (plan : PlanValue) (text : List ℕ) (run : Option OpenRun) (w : WordValue) (later : List WordValue) → IsWritten Second plan text run (w ∷ later)
    → IsWritten Second plan (text ++ second_piece run w) (second_run run w) later
second_written plan text None w later so_far = begun_written plan text w later so_far
second_written plan text (Some run) w later so_far =
    elim (goes_on run w) as (λ t. goes_on run w ≡ t → IsWritten Second plan (text ++ cond t (value_text w) (10 ∷ begun_text w)) (cond t (Some (longer run)) (begun_run w)) later) [
      | true ↦ (λ on. run_gone_on plan text run w later on so_far)
      | false ↦ (λ off. subst (λ l. IsWritten Second plan l (begun_run w) later) (append_assoc text (10 ∷ []) (begun_text w))
          (begun_written plan (text ++ 10 ∷ []) w later (run_ended plan text run (w ∷ later) so_far)))
    ] refl

first_written : (plan : PlanValue) (text : List ℕ) (run : Option OpenRun) (w : WordValue) (later : List WordValue) → IsWritten First plan text run (w ∷ later)
    → IsWritten First plan (text ++ (word_fields w ++ 10 ∷ [])) None later
first_written plan text None w later so_far = line_written First plan text (word_fields w) w later (record { word = w; alone = refl; spelled = refl }) so_far
first_written plan text (Some run) w later so_far = absurd so_far.is_open

piece_written : (version : Version) (plan : PlanValue) (text : List ℕ) (run : Option OpenRun) (w : WordValue) (later : List WordValue) → IsWritten version plan text run (w ∷ later)
    → IsWritten version plan (text ++ piece version run w) (run_after version run w) later
piece_written First plan text run w later so_far = first_written plan text run w later so_far
piece_written Second plan text run w later so_far = second_written plan text run w later so_far

pieces_written : (version : Version) (plan : PlanValue) (text : List ℕ) (run : Option OpenRun) (words later : List WordValue) → IsWritten version plan text run (words ++ later)
    → IsWritten version plan (text ++ pieces version run words) (run_over version run words) later
pieces_written version plan text run [] later so_far = subst (λ l. IsWritten version plan l run later) (sym (append-nil text)) so_far
pieces_written version plan text run (w ∷ words) later so_far =
    subst (λ l. IsWritten version plan l (run_over version (run_after version run w) words) later) (append_assoc text (piece version run w) (pieces version (run_after version run w) words))
    (pieces_written version plan (text ++ piece version run w) (run_after version run w) words later (piece_written version plan text run w (words ++ later) so_far))

header_written : (version : Version) (plan : PlanValue) → IsWritten version plan (header version ++ 10 ∷ []) None plan.words
header_written version plan = record {
  lines = [];
  last = [];
  at = 0;
  text_is = refl;
  leads = refl;
  is_open = refl;
  next = refl;
  all = omega arith;
}

-- the header and the first k words
pub words_written : (version : Version) (plan : PlanValue) (k : ℕ) → IsWritten version plan (words_text version plan k) (open_run version plan k) (drop k plan.words)
unfolding words_text
words_written version plan k =
    subst (λ l. IsWritten version plan l (open_run version plan k) (drop k plan.words)) (append_assoc (header version) (10 ∷ []) (pieces version None (take k plan.words)))
    (pieces_written version plan (header version ++ 10 ∷ []) None (take k plan.words) (drop k plan.words)
    (subst (λ l. IsWritten version plan (header version ++ 10 ∷ []) None l) (sym (take-append-drop k plan.words)) (header_written version plan)))
