-- A text says one thing at most.
use Rattle.std.proofs.Common.{◌≡◌, ℕ, ◌+◌, List, [], ◌∷◌, ◌++◌, length, get_or, drop, arith, ap, sym, refl, ◌∙◌, subst, length-append, length-drop, ◌⊎◌, inl, inr, Result, Ok, Err}
use Rattle.std.proofs.lemmas.List.{same_from_push}
use Rattle.tape_image.specs.Word.{WordValue}
use Rattle.tape_image.specs.Plan.{PlanValue}
use Rattle.host_core.specs.declared.progress.Progress.{Progress}
use Rattle.load_record.specs.declared.version.Version.{Version}
use Rattle.load_record.specs.declared.version.Version.TheVariants.{First, Second}
use Rattle.load_record.specs.declared.reader.RecordError.{RecordError}
use Rattle.load_record.specs.declared.reader.RecordError.TheVariants.{NotARecord, Foreign}
use Rattle.load_record.specs.Lines.{header, HoldsWords}
use Rattle.load_record.specs.Reading.{IsCut, Adds, against, AddsWords, AddsMark, Lead, nothing, IsEmptyRecord, BeginsWithRun, IsRecord, HasNoHeader, IsForeign, Says}
use Rattle.load_record.proofs.Holdings.{holds_some}
use Rattle.load_record.proofs.Runs.{torn_words, one_longest, torn_longest, no_half_run, length-run_text}

-- a header names one version
one_version : (v w : Version) → header v ≡ header w → v ≡ w
one_version First First e = refl
one_version First Second e = absurd (let digits : 49 ≡ 50 = ap (λ l. get_or l 7 0) e in omega arith)
one_version Second First e = absurd (let digits : 50 ≡ 49 = ap (λ l. get_or l 7 0) e in omega arith)
one_version Second Second e = refl

-- a line holds one number of the next words
holds_once : (version : Version) (line : List ℕ) (words others later rest : List WordValue) → words ++ later ≡ others ++ rest
    → HoldsWords version line words → HoldsWords version line others → length words ≡ length others
holds_once First line words others later rest e h k = ap length h.alone ∙ sym (ap length k.alone)
holds_once Second line words others later rest e (inl h) (inl k) = ap length h.alone ∙ sym (ap length k.alone)
holds_once Second line words others later rest e (inl h) (inr k) =
    absurd (no_half_run h.word later others rest h.half (ap (λ l. l ++ later) (sym h.alone) ∙ e) k.run)
holds_once Second line words others later rest e (inr h) (inl k) =
    absurd (no_half_run k.word rest words later k.half (ap (λ l. l ++ rest) (sym k.alone) ∙ sym e) h.run)
holds_once Second line words others later rest e (inr h) (inr k) =
    let a = length-run_text words h.run in let b = length-run_text others k.run in
    let c = ap length (sym h.spelled ∙ k.spelled) in omega arith

-- where the mark is due, no word is left for a line to hold
words_or_mark : (version : Version) (plan : PlanValue) (line : List ℕ) (before after other : Progress)
    → AddsWords version plan line before after → AddsMark plan line before other → ⊥
words_or_mark version plan line before after other w m =
    let some = holds_some version line w.words w.holds in
    let l = length-drop before.verified plan.words in
    let n = ap length w.next ∙ length-append w.words w.later in
    let a = m.due.all in omega arith

adds_once : (version : Version) (plan : PlanValue) (line : List ℕ) (before after other : Progress)
    → Adds (against version plan) line before after → Adds (against version plan) line before other → after ≡ other
adds_once version plan line before after other (inl w) (inl u) =
    w.after_is ∙ ap (λ (n : ℕ). record { verified = before.verified + n; going = before.going }) (holds_once version line w.words u.words w.later u.later (sym w.next ∙ u.next) w.holds u.holds) ∙ sym u.after_is
adds_once version plan line before after other (inl w) (inr m) = absurd (words_or_mark version plan line before after other w m)
adds_once version plan line before after other (inr m) (inl w) = absurd (words_or_mark version plan line before other after w m)
adds_once version plan line before after other (inr m) (inr n) = m.after_is ∙ sym n.after_is

lead_once : (version : Version) (plan : PlanValue) (lines : List (List ℕ)) (before after other : Progress)
    → Lead version plan lines before after → Lead version plan lines before other → after ≡ other
lead_once version plan [] before after other a b = a ∙ sym b
lead_once version plan (line ∷ lines) before after other a b =
    let same = adds_once version plan line before a.0 b.0 a.1 b.1 in
    lead_once version plan lines a.0 after other a.2 (subst (λ p. Lead version plan lines p other) (sym same) b.2)

-- where lines lead on, each of them adds something to what those before it lead to
lead_on : (version : Version) (plan : PlanValue) (lines : List (List ℕ)) (line : List ℕ) (later : List (List ℕ)) (before reached after : Progress)
    → Lead version plan lines before reached → Lead version plan (lines ++ line ∷ later) before after → (next : Progress) × Adds (against version plan) line reached next
lead_on version plan [] line later before reached after a b = (b.0, subst (λ p. Adds (against version plan) line p b.0) (sym a) b.1)
lead_on version plan (first ∷ lines) line later before reached after a b =
    let same = adds_once version plan first before a.0 b.0 a.1 b.1 in
    lead_on version plan lines line later a.0 reached after a.2 (subst (λ p. Lead version plan (lines ++ line ∷ later) p after) (sym same) b.2)

-- of two fronts of a list, each followed by an element, one goes past the other, or they are one
data Meet (xs ys : List (List ℕ)) (x y : List ℕ) : Type 0 where
  same : xs ≡ ys → Meet xs ys x y
  past_first : (more : List (List ℕ)) → ys ≡ xs ++ x ∷ more → Meet xs ys x y
  past_second : (more : List (List ℕ)) → xs ≡ ys ++ y ∷ more → Meet xs ys x y

meet_more : (z w : List ℕ) (xs ys : List (List ℕ)) (x y : List ℕ) → z ≡ w → Meet xs ys x y → Meet (z ∷ xs) (w ∷ ys) x y
meet_more z w xs ys x y e (same s) = same cc
meet_more z w xs ys x y e (past_first more s) = past_first more cc
meet_more z w xs ys x y e (past_second more s) = past_second more cc

meet : (xs ys l m : List (List ℕ)) (x y : List ℕ) → xs ++ x ∷ l ≡ ys ++ y ∷ m → Meet xs ys x y
meet [] [] l m x y e = same refl
meet [] (w ∷ ys) l m x y e = past_first ys cc
meet (z ∷ xs) [] l m x y e = past_second xs cc
meet (z ∷ xs) (w ∷ ys) l m x y e = let t : xs ++ x ∷ l ≡ ys ++ y ∷ m = cc in let first : z ≡ w = cc in meet_more z w xs ys x y first (meet xs ys l m x y t)

-- a text is cut one way
cut_once : (text : List ℕ) (lines others : List (List ℕ)) (torn rest : List ℕ) → IsCut text lines torn → IsCut text others rest → (lines ≡ others) × (torn ≡ rest)
cut_once text lines others torn rest a b = same_from_push lines others torn rest (sym a.pieces ∙ b.pieces)

-- the lines of one text are the same lines, with the same header
record SameLines (v w : Version) (lines others : List (List ℕ)) : Type 0 where
  versions : v ≡ w
  same_lines : lines ≡ others

same_lines_of : (text : List ℕ) (v w : Version) (lines others : List (List ℕ)) (torn rest : List ℕ)
    → IsCut text (header v ∷ lines) torn → IsCut text (header w ∷ others) rest → SameLines v w lines others
same_lines_of text v w lines others torn rest a b =
    let e = (cut_once text (header v ∷ lines) (header w ∷ others) torn rest a b).0 in
    let heads : header v ≡ header w = cc in
    record { versions = one_version v w heads; same_lines = cc }

-- an empty record has no line
empty_or_lines : (text line : List ℕ) (lines : List (List ℕ)) (torn : List ℕ) → IsCut text [] text → IsCut text (line ∷ lines) torn → ⊥
empty_or_lines text line lines torn a b = let e = (cut_once text [] (line ∷ lines) text torn a b).0 in absurd (cc e)

-- what a record with these lines and this torn piece says
abbrev said : Version → PlanValue → Progress → List ℕ → Progress
said version plan reached torn = record { verified = reached.verified + torn_words version (drop reached.verified plan.words) torn; going = reached.going }

-- what a record says is what is counted in it
as_counted : (plan : PlanValue) (text : List ℕ) (p : Progress) (r : IsRecord plan text p) → p ≡ said r.version plan r.reached r.torn
as_counted plan text p r =
    let next = drop r.reached.verified plan.words in
    r.counted ∙ ap (λ (n : ℕ). record { verified = r.reached.verified + n; going = r.reached.going }) (one_longest (BeginsWithRun r.version r.torn) next r.whole _ r.held (torn_longest r.version next r.torn))

one_record : (plan : PlanValue) (text : List ℕ) (p q : Progress) → IsRecord plan text p → IsRecord plan text q → p ≡ q
one_record plan text p q a b =
    let s = same_lines_of text a.version b.version a.lines b.lines a.torn b.torn a.cut b.cut in
    let rest = (cut_once text (header a.version ∷ a.lines) (header b.version ∷ b.lines) a.torn b.torn a.cut b.cut).1 in
    let led : Lead b.version plan b.lines nothing a.reached =
    subst (λ v. Lead v plan b.lines nothing a.reached) s.versions (subst (λ l. Lead a.version plan l nothing a.reached) s.same_lines a.leads) in
    let reached = lead_once b.version plan b.lines nothing a.reached b.reached led b.leads in
    as_counted plan text p a ∙ ap (λ v. said v plan a.reached a.torn) s.versions ∙ ap (λ r. said b.version plan r a.torn) reached ∙ ap (said b.version plan b.reached) rest ∙ sym (as_counted plan text q b)

record_or_foreign : (plan : PlanValue) (text : List ℕ) (p : Progress) (n : ℕ) → IsRecord plan text p → IsForeign plan text n → ⊥
record_or_foreign plan text p n a b =
    let s = same_lines_of text a.version b.version a.lines (b.lines ++ b.line ∷ b.later) a.torn b.torn a.cut b.cut in
    let led : Lead b.version plan (b.lines ++ b.line ∷ b.later) nothing a.reached =
    subst (λ v. Lead v plan (b.lines ++ b.line ∷ b.later) nothing a.reached) s.versions (subst (λ l. Lead a.version plan l nothing a.reached) s.same_lines a.leads) in
    let next = lead_on b.version plan b.lines b.line b.later nothing b.reached a.reached b.leads led in
    b.wrong next.0 next.1

-- the first wrong line of a list is one
one_wrong : (version : Version) (plan : PlanValue) (xs ys : List (List ℕ)) (x y : List ℕ) (p q : Progress)
    → Lead version plan xs nothing p → ((after : Progress) → Adds (against version plan) x p after → ⊥)
    → Lead version plan ys nothing q → ((after : Progress) → Adds (against version plan) y q after → ⊥)
    → Meet xs ys x y → length xs ≡ length ys
one_wrong version plan xs ys x y p q a wrong b bad (same e) = ap length e
one_wrong version plan xs ys x y p q a wrong b bad (past_first more e) =
    let next = lead_on version plan xs x more nothing p q a (subst (λ l. Lead version plan l nothing q) e b) in absurd (wrong next.0 next.1)
one_wrong version plan xs ys x y p q a wrong b bad (past_second more e) =
    let next = lead_on version plan ys y more nothing q p b (subst (λ l. Lead version plan l nothing p) e a) in absurd (bad next.0 next.1)

one_foreign : (plan : PlanValue) (text : List ℕ) (m n : ℕ) → IsForeign plan text m → IsForeign plan text n → m ≡ n
one_foreign plan text m n a b =
    let s = same_lines_of text a.version b.version (a.lines ++ a.line ∷ a.later) (b.lines ++ b.line ∷ b.later) a.torn b.torn a.cut b.cut in
    let led : Lead b.version plan a.lines nothing a.reached = subst (λ v. Lead v plan a.lines nothing a.reached) s.versions a.leads in
    let wrong : (after : Progress) → Adds (against b.version plan) a.line a.reached after → ⊥ =
    subst (λ v. (after : Progress) → Adds (against v plan) a.line a.reached after → ⊥) s.versions a.wrong in
    let l = one_wrong b.version plan a.lines b.lines a.line b.line a.reached b.reached led wrong b.leads b.wrong (meet a.lines b.lines a.later b.later a.line b.line s.same_lines) in
    let i = a.number_is in let j = b.number_is in omega arith

no_header_or_header : (text : List ℕ) (version : Version) (lines : List (List ℕ)) (torn : List ℕ) → HasNoHeader text → IsCut text (header version ∷ lines) torn → ⊥
no_header_or_header text version lines torn a b =
    let e = (cut_once text (a.line ∷ a.later) (header version ∷ lines) a.torn torn a.cut b).0 in
    let heads : a.line ≡ header version = cc in a.wrong version heads

-- a text that says a progress says no other, and is not refused
one_progress : (plan : PlanValue) (text : List ℕ) (p q : Progress) → (IsEmptyRecord text p ⊎ IsRecord plan text p) → (IsEmptyRecord text q ⊎ IsRecord plan text q) → p ≡ q
one_progress plan text p q (inl a) (inl b) = a.none ∙ sym b.none
one_progress plan text p q (inl a) (inr b) = absurd (empty_or_lines text (header b.version) b.lines b.torn a.cut b.cut)
one_progress plan text p q (inr a) (inl b) = absurd (empty_or_lines text (header a.version) a.lines a.torn b.cut a.cut)
one_progress plan text p q (inr a) (inr b) = one_record plan text p q a b

progress_or_no_header : (plan : PlanValue) (text : List ℕ) (p : Progress) → (IsEmptyRecord text p ⊎ IsRecord plan text p) → HasNoHeader text → ⊥
progress_or_no_header plan text p (inl a) b = empty_or_lines text b.line b.later b.torn a.cut b.cut
progress_or_no_header plan text p (inr a) b = no_header_or_header text a.version a.lines a.torn b a.cut

progress_or_foreign : (plan : PlanValue) (text : List ℕ) (p : Progress) (n : ℕ) → (IsEmptyRecord text p ⊎ IsRecord plan text p) → IsForeign plan text n → ⊥
progress_or_foreign plan text p n (inl a) b = empty_or_lines text (header b.version) (b.lines ++ b.line ∷ b.later) b.torn a.cut b.cut
progress_or_foreign plan text p n (inr a) b = record_or_foreign plan text p n a b

-- a text is no record for one reason
no_record_or_progress : (plan : PlanValue) (text : List ℕ) (p : Progress) → Says plan text (Err NotARecord) → Says plan text (Ok p) → ⊥
no_record_or_progress plan text p (inl long) b = let short = b.0 in omega arith
no_record_or_progress plan text p (inr a) b = progress_or_no_header plan text p b.1 a.1

no_record_or_foreign : (plan : PlanValue) (text : List ℕ) (n : ℕ) → Says plan text (Err NotARecord) → Says plan text (Err (Foreign n)) → ⊥
no_record_or_foreign plan text n (inl long) b = let short = b.0 in omega arith
no_record_or_foreign plan text n (inr a) b = no_header_or_header text b.1.version (b.1.lines ++ b.1.line ∷ b.1.later) b.1.torn a.1 b.1.cut

pub one_answer : (plan : PlanValue) (text : List ℕ) (a b : Result Progress RecordError) → Says plan text a → Says plan text b → a ≡ b
one_answer plan text (Ok p) (Ok q) a b = ap Ok (one_progress plan text p q a.1 b.1)
one_answer plan text (Ok p) (Err NotARecord) a b = absurd (no_record_or_progress plan text p b a)
one_answer plan text (Ok p) (Err (Foreign n)) a b = absurd (progress_or_foreign plan text p n a.1 b.1)
one_answer plan text (Err NotARecord) (Ok q) a b = absurd (no_record_or_progress plan text q a b)
one_answer plan text (Err NotARecord) (Err NotARecord) a b = refl
one_answer plan text (Err NotARecord) (Err (Foreign n)) a b = absurd (no_record_or_foreign plan text n a b)
one_answer plan text (Err (Foreign m)) (Ok q) a b = absurd (progress_or_foreign plan text q m b.1 a.1)
one_answer plan text (Err (Foreign m)) (Err NotARecord) a b = absurd (no_record_or_foreign plan text m b a)
one_answer plan text (Err (Foreign m)) (Err (Foreign n)) a b = ap (λ k. Err (Foreign k)) (one_foreign plan text m n a.1 b.1)
