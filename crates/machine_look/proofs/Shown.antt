-- What an output shows of differences, as they are found.
use Rattle.std.proofs.Common.{◌≡◌, ℕ, zero, suc, ◌≤◌, true, false, cond, eqb, List, [], ◌∷◌, ◌++◌, length, Option, Some, refl, arith, ap, sym, subst, ◌∙◌, append_assoc, append-nil}
use Rattle.std.specs.Prelude.{drop}
use Rattle.std.specs.Io.KnownBytes.{Appends}
use Rattle.std.proofs.KnownBytes.{Appends-nil, Appends-trans}
use Rattle.std.proofs.lemmas.Bool.{eqb-true}
use Rattle.std.proofs.lemmas.Grind.{flat_map-append}
use Rattle.byte_io.specs.Output.{WritesPrefix}
use Rattle.byte_io.specs.Text.{line}
use Rattle.byte_io.proofs.Fronts.{front_behind, front_longer}
use Rattle.tape_image.specs.Word.{WordValue, merged}
use Rattle.reading_core.specs.declared.phase.End.{End}
use Rattle.engine.specs.Keeping.{IsKeptBy, KeeperCalls, KeepsEach, keeping}
use Rattle.engine.specs.Stopping.{keep_fault}
use Rattle.engine.specs.declared.stop.Stop.{Stop}
use Rattle.engine.specs.declared.stop.Stop.TheVariants.{Ended, KeepFailed, CutOff}
use Rattle.looking_engine.specs.Leading.{stop_of}
use Rattle.looking_engine.proofs.Numbers.{AreGiven}
use Rattle.machine_look.specs.declared.difference.Difference.{Difference}
use Rattle.machine_look.specs.Differences.{difference, differences}
use Rattle.machine_look.specs.Shown.{Shows, ShowsNext, ShowsPartOfNext, next_line}
use Rattle.machine_look.specs.VerifyReport.{difference_lines, difference_text, lines_of}
use Rattle.machine_look.proofs.Found.{none_at_first}

-- ---- the lines of differences

-- a number that does not stand
pub differs_line : (word : WordValue) (now : ℕ) → (merged word now ≡ now → ⊥) → lines_of (difference word now) ≡ line (difference_text (record { word = word; now = now }))
differs_line word now other =
    elim (eqb (merged word now) now) as (λ t. eqb (merged word now) now ≡ t → lines_of (cond {A = List Difference} t [] (record { word = word; now = now } ∷ [])) ≡ line (difference_text (record { word = word; now = now }))) [
      | true ↦ λ e. absurd (other (eqb-true _ _ e))
      | false ↦ λ e. append-nil (line (difference_text (record { word = word; now = now })))
    ] refl

pub at_most_one : (word : WordValue) (now : ℕ) → length (difference word now) ≤ 1
at_most_one word now =
    elim (eqb (merged word now) now) as (λ t. length (cond {A = List Difference} t [] (record { word = word; now = now } ∷ [])) ≤ 1) [
      | true ↦ omega arith
      | false ↦ omega arith
    ]

pub no_lines : (words : List WordValue) (numbers : List ℕ) → numbers ≡ [] → difference_lines words numbers ≡ []
no_lines words numbers none = ap (difference_lines words) none ∙ ap lines_of (none_at_first words [])

-- ---- one behind another

differences_append : (words : List WordValue) (one two : List ℕ) → differences words (one ++ two) ≡ differences words one ++ differences (drop (length one) words) two
differences_append [] [] two = refl
differences_append [] (n ∷ one) two = refl
differences_append (w ∷ words) [] two = refl
differences_append (w ∷ words) (n ∷ one) two =
    ap (λ l. difference w n ++ l) (differences_append words one two) ∙ sym (append_assoc (difference w n) (differences words one) (differences (drop (length one) words) two))

lines_append : (words : List WordValue) (one two : List ℕ) → difference_lines words (one ++ two) ≡ difference_lines words one ++ difference_lines (drop (length one) words) two
lines_append words one two =
    ap lines_of (differences_append words one two) ∙ flat_map-append (λ (d : Difference). line (difference_text d)) (differences words one) (differences (drop (length one) words) two)

next_is : (words : List WordValue) (number : ℕ) → next_line words number ≡ difference_lines words (number ∷ [])
next_is [] number = refl
next_is (w ∷ words) number = ap lines_of (sym (ap (λ l. difference w number ++ l) (none_at_first words []) ∙ append-nil (difference w number)))

behind_one : (k : ℕ) (words : List WordValue) → drop k (drop 1 words) ≡ drop (suc k) words
behind_one zero [] = refl
behind_one (suc k) [] = refl
behind_one k (w ∷ words) = refl

-- ---- what a keeper shows

-- the lines of these numbers are shown, and the words behind them are next
pub record AreShown {Name : Type 0} (words : List WordValue) (numbers : List ℕ) (words' : List WordValue) (out out' : Option (List ℕ)) (name name' : Name) : Type 0 where
  pub behind : words' ≡ drop (length numbers) words
  pub shown : Appends out out' (difference_lines words numbers)
  pub same : name' ≡ name

-- what a keeper's calls make of its words, its output and the name of that
pub record ShowsThem {K Name : Type 0} (calls : KeeperCalls K ℕ) (words : K → List WordValue) (out : K → Option (List ℕ)) (name : K → Name) : Type 0 where
  pub keeps : (a b : K) (n : ℕ) → calls.keeps a n b → ShowsNext (words a) n (words b) (out a) (out b) (name a) (name b)
  pub fails : (a b : K) (n : ℕ) → calls.fails a n b → ShowsPartOfNext (words a) n (out a) (out b) (name a) (name b)

shown_each : {K Name : Type 0} (calls : KeeperCalls K ℕ) (words : K → List WordValue) (out : K → Option (List ℕ)) (name : K → Name) → ShowsThem calls words out name → (old : K) (numbers : List ℕ) (new : K) → KeepsEach calls.keeps old numbers new
    → AreShown (words old) numbers (words new) (out old) (out new) (name old) (name new)
shown_each {K} calls words out name are old [] new each =
    let P : K → Type 0 = λ k. AreShown (words old) [] (words k) (out old) (out k) (name old) (name k) in
    subst P (sym each) (record { behind = refl; shown = subst (Appends (out old) (out old)) (sym (no_lines (words old) [] refl)) (Appends-nil (out old)); same = refl })
shown_each calls words out name are old (n ∷ numbers) new (mid, one, rest) =
    let s = are.keeps old mid n one in
    let r = shown_each calls words out name are mid numbers new rest in record {
      behind = r.behind ∙ (ap (drop (length numbers)) s.behind ∙ behind_one (length numbers) (words old));
      shown = subst (Appends (out old) (out new)) (ap (λ l. l ++ difference_lines (words mid) numbers) (next_is (words old) n)
          ∙ (ap (λ w. difference_lines (words old) (n ∷ []) ++ difference_lines w numbers) s.behind ∙ sym (lines_append (words old) (n ∷ []) numbers)))
          (Appends-trans (out old) (out mid) (out new) (next_line (words old) n) (difference_lines (words mid) numbers) s.shown r.shown);
      same = r.same ∙ s.same;
    }

shown_all : {K Name : Type 0} (calls : KeeperCalls K ℕ) (words : K → List WordValue) (out : K → Option (List ℕ)) (name : K → Name) → ShowsThem calls words out name → (old new : K) (numbers given : List ℕ) → numbers ≡ given → KeepsEach calls.keeps old given new
    → Appends (out old) (out new) (difference_lines (words old) numbers) × (name new ≡ name old)
shown_all calls words out name are old new numbers given all each =
    let r = shown_each calls words out name are old given new each in
    (subst (λ list. Appends (out old) (out new) (difference_lines (words old) list)) (sym all) r.shown, r.same)

pub shown_by : {K Name : Type 0} (calls : KeeperCalls K ℕ) (words : K → List WordValue) (out : K → Option (List ℕ)) (name : K → Name) → ShowsThem calls words out name → (stop : Stop End) (old new : K) (numbers given : List ℕ) → AreGiven stop numbers given
    → IsKeptBy calls (keeping given (keep_fault (Some stop))) old new → Shows (stop_of stop) (out old) (out new) (difference_lines (words old) numbers) × (name new ≡ name old)
shown_by calls words out name are (Ended end) old new numbers given all made = shown_all calls words out name are old new numbers given all made.kept_by
shown_by calls words out name are (CutOff cut) old new numbers given all made = shown_all calls words out name are old new numbers given all made.kept_by
shown_by calls words out name are (KeepFailed fault) old new numbers given (rest, all) made =
    let k = made.kept_by in
    let r = shown_each calls words out name are old k.kept k.next k.each in
    let f = are.fails k.next new k.last k.failing in
    let lines : difference_lines (words old) k.kept ++ next_line (words k.next) k.last ≡ difference_lines (words old) given =
    ap (λ l. difference_lines (words old) k.kept ++ l) (next_is (words k.next) k.last)
    ∙ (ap (λ w. difference_lines (words old) k.kept ++ difference_lines w (k.last ∷ [])) r.behind
    ∙ (sym (lines_append (words old) k.kept (k.last ∷ [])) ∙ ap (difference_lines (words old)) (sym k.items_are))) in
    let front = front_behind (out old) (out k.next) (out new) (difference_lines (words old) k.kept) (next_line (words k.next) k.last) r.shown f.shown in (
      subst (WritesPrefix (out old) (out new)) (sym (ap (difference_lines (words old)) all ∙ lines_append (words old) given rest))
          (front_longer (out old) (out new) (difference_lines (words old) given) (difference_lines (drop (length given) (words old)) rest) (subst (WritesPrefix (out old) (out new)) lines front)),
      f.same ∙ r.same,
    )
