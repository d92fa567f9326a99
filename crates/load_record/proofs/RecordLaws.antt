-- The laws of a record: each cut of it is a record, and the whole of it is read as what it was written of.
use Rattle.std.proofs.Common.{◌≡◌, ℕ, ◌+◌, ◌*◌, ◌≤◌, Bool, true, false, cond, List, [], ◌∷◌, ◌++◌, length, take, drop, Option, Some, None, IsSome, arith, ap, sym, refl, ◌∙◌, subst, append_assoc, length-append, length-drop, length-take, inl, inr, Ok}
use Rattle.std.proofs.lemmas.Bool.{false≢true}
use Rattle.std.specs.List.{slice_split}
use Rattle.tape_image.specs.Word.{WordValue}
use Rattle.tape_image.specs.Plan.{PlanValue, IsPlan}
use Rattle.host_core.specs.Opening.{refusal_of}
use Rattle.load_record.specs.declared.version.Version.{Version}
use Rattle.load_record.specs.declared.version.Version.TheVariants.{First, Second}
use Rattle.load_record.specs.declared.run.OpenRun.{OpenRun}
use Rattle.load_record.specs.Lines.{header, mark_line, half_line, value_text, run_text, is_full, goes_on}
use Rattle.load_record.specs.RecordText.{ending, mark_text, begun_text, piece, run_after, pieces, second_piece, open_run, words_text, record_text}
use Rattle.load_record.specs.Reading.{is_line_end, Lead, Says, nothing}
use Rattle.load_record.specs.Law.{SaysAtMost}
use Rattle.load_record.proofs.Runs.{torn_words, torn_longest, torn_short, run_counted, length-run_text}
use Rattle.load_record.proofs.Sound.{accepted-sound}
use Rattle.load_record.proofs.SoFar.{lead-append}
use Rattle.load_record.proofs.Joined.{HasNoEnd, joined, joined-append, joined-ended, joined-cut, front_of, front-no_end, no_end-split, ended-split, header-no_end, run-no_end}
use Rattle.load_record.proofs.Joined.Front.{inside, past}
use Rattle.load_record.proofs.Fronts.{FrontsHold, IsCutRead, cut_leads, lead-no_end, nothing_torn}
use Rattle.load_record.proofs.Written.{IsOpen, last-run, ending_written, words_written, words_only}

-- the text of a record: a header, lines that lead to a progress, and a last piece of which each front holds so many words
-- at most, and the whole so many, which makes k
pub record IsMade (version : Version) (plan : PlanValue) (text : List ℕ) (k : ℕ) (mark : Bool) : Type 0 where
  pub lines : List (List ℕ)
  pub last : List ℕ
  pub at : ℕ
  pub count : ℕ
  pub text_is : text ≡ joined (header version ∷ lines) last
  pub leads : Lead version plan lines nothing (record { verified = at; going = mark })
  pub no_end : HasNoEnd last
  pub fronts : FrontsHold version (drop at plan.words) last count
  pub whole : torn_words version (drop at plan.words) last ≡ count
  pub all : at + count ≡ k

-- the fronts of nothing, and of a run line that stands open
empty_fronts : (version : Version) (next : List WordValue) → FrontsHold version next [] 0
empty_fronts version next [] left e = let none = nothing_torn version next in omega arith
empty_fronts version next (c ∷ front) left e = absurd (cc e)

-- the run line that stands open holds its words, and each front of it as many at most
record HoldsOpen (version : Version) (next : List WordValue) (words : List WordValue) : Type 0 where
  fronts : FrontsHold version next (run_text words) (length words)
  whole : torn_words version next (run_text words) ≡ length words

no_run_open : (version : Version) (next words : List WordValue) → words ≡ [] → HoldsOpen version next words
no_run_open version next words none = subst (HoldsOpen version next) (sym none) (record { fronts = empty_fronts version next; whole = nothing_torn version next })

open_holds : (version : Version) (run : Option OpenRun) (next words later : List WordValue) → IsOpen version run words → next ≡ words ++ later → HoldsOpen version next words
open_holds version None next words later is e = no_run_open version next words is
open_holds First (Some run) next words later is e = absurd is
open_holds Second (Some run) next words later is e =
    let r = last-run run words is in
    record {
      fronts = λ front left f. let n = length-run_text words r in let l = ap length f in let k = length-append front left in torn_short next front (length words) (omega arith);
      whole = ap (λ l. torn_words Second l (run_text words)) e ∙ run_counted words later r;
    }

-- the text of the first k words
words_made : (version : Version) (plan : PlanValue) (k : ℕ) → k ≤ length plan.words → IsMade version plan (words_text version plan k) k false
words_made version plan k within =
    let w = words_written version plan k in
    let h = open_holds version (open_run version plan k) (drop w.at plan.words) w.last (drop k plan.words) w.is_open w.next in
    record {
      lines = w.lines;
      last = run_text w.last;
      at = w.at;
      count = length w.last;
      text_is = w.text_is;
      leads = w.leads;
      no_end = run-no_end w.last;
      fronts = h.fronts;
      whole = h.whole;
      all = let a = w.all in let l = length-drop k plan.words in omega arith;
    }

-- the text of all words and the mark
mark_made : (version : Version) (plan : PlanValue) (k : ℕ) → k ≡ length plan.words → IsSome plan.start → IsMade version plan (words_text version plan k ++ mark_text (open_run version plan k)) k true
mark_made version plan k full start =
    let w = ending_written version plan (words_text version plan k) (open_run version plan k) (drop k plan.words) (words_written version plan k) in
    let here : w.at ≡ length plan.words = (let a = w.all in let l = length-drop k plan.words in let n = ap length w.is_open in omega arith) in
    let none = nothing_torn version (drop w.at plan.words) in
    record {
      lines = w.lines ++ mark_line ∷ [];
      last = [];
      at = w.at;
      count = 0;
      text_is = sym (append_assoc (words_text version plan k) (ending (open_run version plan k)) (mark_line ++ 10 ∷ []))
          ∙ ap (λ l. l ++ (mark_line ++ 10 ∷ [])) (w.text_is ∙ ap (λ (l : List WordValue). joined (header version ∷ w.lines) (run_text l)) w.is_open)
          ∙ joined-append (header version ∷ w.lines) [] (mark_line ++ 10 ∷ []) ∙ joined-ended (header version ∷ w.lines) mark_line [];
      leads = lead-append version plan w.lines (mark_line ∷ []) nothing (words_only w.at) (record { verified = w.at; going = true }) w.leads
          (record { verified = w.at; going = true }, inr record { spelled = refl; due = record { no_mark = refl; all = here; has_start = start }; after_is = refl }, refl);
      no_end = tt;
      fronts = empty_fronts version (drop w.at plan.words);
      whole = none;
      all = omega arith;
    }

pub record_made : (version : Version) (plan : PlanValue) (k : ℕ) (mark : Bool) → refusal_of plan k mark ≡ None → IsMade version plan (record_text version plan k mark) k mark
record_made version plan k false fine = words_made version plan k (accepted-sound plan k false fine).within
record_made version plan k true fine = let due = (accepted-sound plan k true fine).marked refl in mark_made version plan k due.0 due.1

-- no piece has more than 24 bytes
begun_short : (w : WordValue) → length (begun_text w) ≤ 23
begun_short w = elim (is_full w) as (λ t. length (cond t (run_text (w ∷ [])) (half_line w ++ 10 ∷ [])) ≤ 23) [ true ↦ omega arith | false ↦ omega arith ]

second_short : (run : Option OpenRun) (w : WordValue) → length (second_piece run w) ≤ 24
second_short None w = let b = begun_short w in omega arith
second_short (Some run) w =
    let b = begun_short w in
    elim (goes_on run w) as (λ t. length (cond t (value_text w) (10 ∷ begun_text w)) ≤ 24) [ true ↦ omega arith | false ↦ omega arith ]

piece_short : (version : Version) (run : Option OpenRun) (w : WordValue) → length (piece version run w) ≤ 24
piece_short First run w = omega arith
piece_short Second run w = second_short run w

pieces_short : (version : Version) (run : Option OpenRun) (words : List WordValue) → length (pieces version run words) ≤ 24 * length words
pieces_short version run [] = omega arith
pieces_short version run (w ∷ words) =
    let a = piece_short version run w in
    let b = pieces_short version (run_after version run w) words in
    let l = length-append (piece version run w) (pieces version (run_after version run w) words) in omega arith

header_short : (version : Version) → length (header version) ≡ 8
header_short First = refl
header_short Second = refl

words_short : (version : Version) (plan : PlanValue) (k : ℕ) → length plan.words ≤ 28672 → length (words_text version plan k) ≤ 688137
unfolding words_text
words_short version plan k few =
    let h = header_short version in
    let p = pieces_short version None (take k plan.words) in
    let n = length-take k plan.words in
    let l = length-append (header version) (10 ∷ pieces version None (take k plan.words)) in
    omega arith

mark_short : (run : Option OpenRun) → length (mark_text run) ≤ 3
mark_short None = omega arith
mark_short (Some run) = omega arith

-- no record is longer than the limit
pub record_short : (version : Version) (plan : PlanValue) (k : ℕ) (mark : Bool) → IsPlan plan → length (record_text version plan k mark) ≤ 1048576
record_short version plan k false sound = let w = words_short version plan k sound.few in omega arith
record_short version plan k true sound =
    let w = words_short version plan k sound.few in
    let m = mark_short (open_run version plan k) in
    let l = length-append (words_text version plan k) (mark_text (open_run version plan k)) in omega arith

-- the whole text says k and the mark
pub whole_read : (version : Version) (plan : PlanValue) (text : List ℕ) (k : ℕ) (mark : Bool) → length text ≤ 1048576 → IsMade version plan text k mark → Says plan text (Ok (record { verified = k; going = mark }))
whole_read version plan text k mark short m = (
  short,
  inr record {
    version = version;
    lines = m.lines;
    torn = m.last;
    reached = record { verified = m.at; going = mark };
    whole = torn_words version (drop m.at plan.words) m.last;
    cut = record { pieces = ap (slice_split is_line_end) m.text_is ∙ joined-cut (header version ∷ m.lines) m.last (header-no_end version, lead-no_end version plan m.lines nothing _ m.leads) m.no_end };
    leads = m.leads;
    held = torn_longest version (drop m.at plan.words) m.last;
    counted = let e : m.at + torn_words version (drop m.at plan.words) m.last ≡ k = (let w = m.whole in let a = m.all in omega arith) in ap (λ (n : ℕ). record { verified = n; going = mark }) (sym e);
  },
)

-- a front that ends within the header is the empty record
within_header : (version : Version) (plan : PlanValue) (front left : List ℕ) (k : ℕ) (mark : Bool) → length front ≤ 1048576 → front ++ left ≡ header version → SaysAtMost plan front k mark
within_header version plan front left k mark short e = record {
  progress = nothing;
  says = (short, inl record { cut = record { pieces = no_end-split front (front-no_end front left (subst HasNoEnd (sym e) (header-no_end version))) }; none = refl });
  few = omega arith;
  marked = λ h. absurd (false≢true h);
}

past_header : (version : Version) (plan : PlanValue) (front behind : List ℕ) (k : ℕ) (mark : Bool) → length front ≤ 1048576 → front ≡ header version ++ 10 ∷ behind
    → IsCutRead version plan behind nothing k mark → SaysAtMost plan front k mark
past_header version plan front behind k mark short e c = record {
  progress = record { verified = c.reached.verified + torn_words version (drop c.reached.verified plan.words) c.torn; going = c.reached.going };
  says = (
    short,
    inr record {
      version = version;
      lines = c.lines;
      torn = c.torn;
      reached = c.reached;
      whole = torn_words version (drop c.reached.verified plan.words) c.torn;
      cut = record { pieces = ap (slice_split is_line_end) e ∙ ended-split (header version) behind (header-no_end version) ∙ ap (λ l. header version ∷ l) c.cut };
      leads = c.leads;
      held = torn_longest version (drop c.reached.verified plan.words) c.torn;
      counted = refl;
    },
  );
  few = c.few;
  marked = c.marked;
}

-- each front of the text says k words at most, and the mark only where the text has it
pub front_read : (version : Version) (plan : PlanValue) (text front rest : List ℕ) (k : ℕ) (mark : Bool) → length text ≤ 1048576 → IsMade version plan text k mark → front ++ rest ≡ text → SaysAtMost plan front k mark
front_read version plan text front rest k mark short m e =
    let n = ap length e in
    let l = length-append front rest in
    elim (front_of front rest (header version) (joined m.lines m.last) (e ∙ m.text_is)) [
      | inside left f ↦ within_header version plan front left k mark (omega arith) f
      | past behind f g ↦ past_header version plan front behind k mark (omega arith) f
          (cut_leads version plan m.lines m.last behind rest nothing (record { verified = m.at; going = mark }) k m.count m.leads m.no_end m.fronts (let a = m.all in omega arith) g)
    ]
