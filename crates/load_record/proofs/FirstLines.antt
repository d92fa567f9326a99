-- In version 1 the lines of a record are one for each word, and then the mark.
use Rattle.std.proofs.Common.{◌≡◌, ℕ, ◌+◌, ◌≤◌, Bool, true, false, cond, List, [], ◌∷◌, ◌++◌, length, map, take, drop, None, arith, ap, sym, refl, ◌∙◌, subst, append-nil, zero-add, length-append, length-drop, length-take-le, take-append-drop, inl, inr}
use Rattle.std.proofs.lemmas.List.{take_at, nil_from_length}
use Rattle.tape_image.specs.Word.{WordValue, word_fields}
use Rattle.tape_image.specs.Plan.{PlanValue}
use Rattle.host_core.specs.declared.progress.Progress.{Progress}
use Rattle.host_core.specs.Opening.{refusal_of}
use Rattle.load_record.specs.declared.version.Version.TheVariants.{First}
use Rattle.load_record.specs.Lines.{mark_line}
use Rattle.load_record.specs.Reading.{Adds, against, AddsWords, AddsMark, Lead, nothing}
use Rattle.load_record.specs.Law.{first_lines}
use Rattle.load_record.proofs.Sound.{IsSound, nothing-sound, adds_sound, sound-accepted, accepted-sound}
use Rattle.load_record.proofs.SoFar.{lead-append}
use Rattle.load_record.proofs.Written.{words_only, drop-past}

-- the lines of a mark that comes between two progresses
abbrev mark_between : Bool → Bool → List (List ℕ)
mark_between false true = mark_line ∷ []
mark_between _ _ = []

-- lines that lead from one progress to another are one for each word between them, and the mark if it comes
record AreBetween (plan : PlanValue) (lines : List (List ℕ)) (before after : Progress) : Type 0 where
  words : List WordValue
  later : List WordValue
  next : drop before.verified plan.words ≡ words ++ later
  lines_are : lines ≡ map word_fields words ++ mark_between before.going after.going
  count : after.verified ≡ before.verified + length words
  kept : before.going ≡ true → after.going ≡ true

no_mark_between : (going : Bool) → mark_between going going ≡ []
no_mark_between false = refl
no_mark_between true = refl

mark_stays : (going : Bool) → mark_between true going ≡ []
mark_stays false = refl
mark_stays true = refl

-- one more word in front
word_between : (plan : PlanValue) (line : List ℕ) (lines : List (List ℕ)) (before next after : Progress)
    → AddsWords First plan line before next → AreBetween plan lines next after → AreBetween plan (line ∷ lines) before after
word_between plan line lines before next after w more =
    let one = ap length w.holds.alone in
    let to = ap (λ (p : Progress). p.verified) w.after_is in
    let rest : w.later ≡ more.words ++ more.later =
    sym (drop-past before.verified w.words plan.words w.later w.next) ∙ ap (λ n. drop n plan.words) (sym to) ∙ more.next in
    let same = ap (λ (p : Progress). p.going) w.after_is in
    record {
      words = w.holds.word ∷ more.words;
      later = more.later;
      next = w.next ∙ ap (λ l. l ++ w.later) w.holds.alone ∙ ap (λ l. w.holds.word ∷ l) rest;
      lines_are = ap (λ l. l ∷ lines) w.holds.spelled ∙ ap (λ l. word_fields w.holds.word ∷ l) (more.lines_are ∙ ap (λ g. map word_fields more.words ++ mark_between g after.going) same);
      count = let n = more.count in omega arith;
      kept = λ h. more.kept (same ∙ h);
    }

-- the mark in front, behind which no word can come
mark_first : (plan : PlanValue) (line : List ℕ) (lines : List (List ℕ)) (before next after : Progress)
    → AddsMark plan line before next → AreBetween plan lines next after → AreBetween plan (line ∷ lines) before after
mark_first plan line lines before next after m more =
    let to = ap (λ (p : Progress). p.verified) m.after_is in
    let marked = ap (λ (p : Progress). p.going) m.after_is in
    let none : more.words ≡ [] = nil_from_length more.words
    (let e = ap length more.next ∙ length-append more.words more.later in let l = length-drop next.verified plan.words in let a = m.due.all in omega arith) in
    let nothing_more : lines ≡ [] = more.lines_are ∙ ap (λ l. map word_fields l ++ mark_between next.going after.going) none ∙ ap (λ g. mark_between g after.going) marked ∙ mark_stays after.going in
    let ends : after.going ≡ true = more.kept marked in
    record {
      words = [];
      later = drop before.verified plan.words;
      next = refl;
      lines_are = ap (λ l. l ∷ lines) m.spelled ∙ ap (λ l. mark_line ∷ l) nothing_more ∙ sym (ap (λ g. mark_between g after.going) m.due.no_mark ∙ ap (mark_between false) ends);
      count = let n = more.count in let l = ap length none in omega arith;
      kept = λ h. ends;
    }

line_between : (plan : PlanValue) (line : List ℕ) (lines : List (List ℕ)) (before next after : Progress)
    → Adds (against First plan) line before next → AreBetween plan lines next after → AreBetween plan (line ∷ lines) before after
line_between plan line lines before next after (inl w) more = word_between plan line lines before next after w more
line_between plan line lines before next after (inr m) more = mark_first plan line lines before next after m more

all_between : (plan : PlanValue) (lines : List (List ℕ)) (before after : Progress) → Lead First plan lines before after → AreBetween plan lines before after
all_between plan [] before after led =
    subst (AreBetween plan [] before) (sym led) (record {
      words = [];
      later = drop before.verified plan.words;
      next = refl;
      lines_are = sym (no_mark_between before.going);
      count = omega arith;
      kept = λ h. h;
    })
all_between plan (line ∷ lines) before after led = line_between plan line lines before led.0 after led.1 (all_between plan lines led.0 after led.2)

lead_sound : (plan : PlanValue) (lines : List (List ℕ)) (before after : Progress) → Lead First plan lines before after → IsSound plan before → IsSound plan after
lead_sound plan [] before after led sound = subst (IsSound plan) (sym led) sound
lead_sound plan (line ∷ lines) before after led sound = lead_sound plan lines led.0 after led.2 (adds_sound First plan line before led.0 led.1 sound)

mark_lines : (going : Bool) → mark_between false going ≡ cond going (mark_line ∷ []) []
mark_lines false = refl
mark_lines true = refl

pub first_lead : (plan : PlanValue) (lines : List (List ℕ)) (progress : Progress) → Lead First plan lines nothing progress
    → (refusal_of plan progress.verified progress.going ≡ None) × (lines ≡ first_lines plan progress.verified progress.going)
first_lead plan lines progress led =
    let b = all_between plan lines nothing progress led in
    let these : take progress.verified plan.words ≡ b.words =
    ap (take progress.verified) b.next ∙ take_at b.words b.later progress.verified (let n = b.count in omega arith) in (
      sound-accepted plan progress (lead_sound plan lines nothing progress led (nothing-sound plan)),
      b.lines_are ∙ ap (λ l. map word_fields b.words ++ l) (mark_lines progress.going) ∙ ap (λ (l : List WordValue). map word_fields l ++ cond progress.going (mark_line ∷ []) []) (sym these),
    )

-- the lines of some words lead past them
words_lead : (plan : PlanValue) (words later : List WordValue) (at : ℕ) → drop at plan.words ≡ words ++ later → Lead First plan (map word_fields words) (words_only at) (words_only (at + length words))
words_lead plan [] later at next = ap words_only (omega arith)
words_lead plan (w ∷ words) later at next = (
  words_only (at + 1),
  inl record { words = w ∷ []; later = words ++ later; next = next; holds = record { word = w; alone = refl; spelled = refl }; after_is = refl },
  subst (λ n. Lead First plan (map word_fields words) (words_only (at + 1)) (words_only n)) (omega arith)
      (words_lead plan words later (at + 1) (drop-past at (w ∷ []) plan.words (words ++ later) next)),
)

first_words_lead : (plan : PlanValue) (k : ℕ) → k ≤ length plan.words → Lead First plan (map word_fields (take k plan.words)) nothing (words_only k)
first_words_lead plan k few =
    subst (λ n. Lead First plan (map word_fields (take k plan.words)) nothing (words_only n)) (zero-add _ ∙ length-take-le k plan.words few)
    (words_lead plan (take k plan.words) (drop k plan.words) 0 (sym (take-append-drop k plan.words)))

these_lead : (plan : PlanValue) (k : ℕ) (going : Bool) → IsSound plan (record { verified = k; going = going }) → Lead First plan (first_lines plan k going) nothing (record { verified = k; going = going })
these_lead plan k false sound =
    subst (λ l. Lead First plan l nothing (words_only k)) (sym (append-nil (map word_fields (take k plan.words)))) (first_words_lead plan k sound.within)
these_lead plan k true sound =
    lead-append First plan (map word_fields (take k plan.words)) (mark_line ∷ []) nothing (words_only k) (record { verified = k; going = true }) (first_words_lead plan k sound.within)
    (record { verified = k; going = true }, inr record { spelled = refl; due = record { no_mark = refl; all = (sound.marked refl).0; has_start = (sound.marked refl).1 }; after_is = refl }, refl)

pub lead_first : (plan : PlanValue) (lines : List (List ℕ)) (progress : Progress) → (refusal_of plan progress.verified progress.going ≡ None) × (lines ≡ first_lines plan progress.verified progress.going)
    → Lead First plan lines nothing progress
lead_first plan lines progress h =
    subst (λ l. Lead First plan l nothing progress) (sym h.1) (these_lead plan progress.verified progress.going (accepted-sound plan progress.verified progress.going h.0))
