-- In version 2 the run lines of a record are as long as they may be.
use Rattle.std.proofs.Common.{◌≡◌, ℕ, Bool, true, false, cond, List, [], ◌∷◌, ◌++◌, take, Some, None, ap, sym, refl, ◌∙◌, subst, append-nil, inl, inr, ◌&&◌, ◌==◌, nat_lt, rules}
use Rattle.std.proofs.lemmas.List.{append_assoc}
use Rattle.std.proofs.lemmas.Bool.{false≢true}
use Rattle.std.specs.List.{AllZip, flat_map}
use Rattle.octal.specs.Octal.{octal_text}
use Rattle.tape_image.specs.Word.{WordValue}
use Rattle.tape_image.specs.Plan.{PlanValue}
use Rattle.load_record.specs.declared.run.OpenRun.{OpenRun}
use Rattle.load_record.specs.declared.version.Version.TheVariants.{Second}
use Rattle.load_record.specs.Lines.{header, HoldsWords, IsRun, GoOn, goes_on, longer, run_at, is_full, run_text, values_text, value_text, half_line}
use Rattle.load_record.specs.RecordText.{ending, pieces, run_over, begun_text, begun_run, open_run, words_text}
use Rattle.load_record.specs.Runs.{AreLongest, HoldLongest, ended_lines}

-- a run line with these words more
abbrev behind : OpenRun → List WordValue → OpenRun
behind run [] = run
behind run (w ∷ ws) = behind (longer run) ws

goes_on_last : (run : OpenRun) (ws : List WordValue) (w : WordValue) → GoOn run (ws ++ w ∷ []) → goes_on (behind run ws) w ≡ true
goes_on_last run [] w on = on.0
goes_on_last run (x ∷ xs) w on = goes_on_last (longer run) xs w on.1

go_on_more : (run : OpenRun) (ws : List WordValue) (w : WordValue) → GoOn run ws → goes_on (behind run ws) w ≡ true → GoOn run (ws ++ w ∷ [])
go_on_more run [] w on last = (last, tt)
go_on_more run (x ∷ xs) w on last = (on.0, go_on_more (longer run) xs w on.1 last)

behind_more : (run : OpenRun) (ws : List WordValue) (w : WordValue) → behind run (ws ++ w ∷ []) ≡ longer (behind run ws)
behind_more run [] w = refl
behind_more run (x ∷ xs) w = behind_more (longer run) xs w

-- words of which none stands on an open line yet
record Closed (ws : List WordValue) : Type 0 where
  lines : List (List ℕ)
  groups : List (List WordValue)
  held : AllZip (HoldsWords Second) lines groups
  all : ws ≡ flat_map (λ group. group) groups
  longest : AreLongest groups
  text : pieces Second None ws ++ ending (run_over Second None ws) ≡ ended_lines lines

-- words behind a run line that stands open with some words: it takes more of them, and the rest has lines of its own
record Grown (x : WordValue) (xs : List WordValue) (run : OpenRun) (ws : List WordValue) : Type 0 where
  more : List WordValue
  lines : List (List ℕ)
  groups : List (List WordValue)
  is_run : IsRun (x ∷ (xs ++ more))
  held : AllZip (HoldsWords Second) lines groups
  all : ws ≡ more ++ flat_map (λ group. group) groups
  longest : AreLongest ((x ∷ (xs ++ more)) ∷ groups)
  text : pieces Second (Some run) ws ++ ending (run_over Second (Some run) ws) ≡ values_text more ++ 10 ∷ ended_lines lines

full_of : (a b c : Bool) → (a && (b && c)) ≡ true → c ≡ true
full_of true true c e = e
full_of true false c e = absurd (cc e)
full_of false b c e = absurd (cc e)

-- a first group in front of others, of which it could not have taken the first word
longest_first : (group : List WordValue) (groups : List (List WordValue)) →
    ((next : List WordValue) (more : List (List WordValue)) → groups ≡ next ∷ more → IsRun (group ++ take 1 next) → ⊥) → AreLongest groups → AreLongest (group ∷ groups)
longest_first group [] apart longest = tt
longest_first group (next ∷ more) apart longest = (apart next more refl, longest)

-- a word that begins a line, and those behind it
record Begun (w : WordValue) (ws : List WordValue) : Type 0 where
  lines : List (List ℕ)
  first : List WordValue
  rest : List (List WordValue)
  held : AllZip (HoldsWords Second) lines ((w ∷ first) ∷ rest)
  all : w ∷ ws ≡ (w ∷ first) ++ flat_map (λ group. group) rest
  longest : AreLongest ((w ∷ first) ∷ rest)
  text : begun_text w ++ (pieces Second (begun_run w) ws ++ ending (run_over Second (begun_run w) ws)) ≡ ended_lines lines

run_spelled : (w : WordValue) (more : List WordValue) (later : List ℕ) → run_text (w ∷ []) ++ (values_text more ++ 10 ∷ later) ≡ (run_text (w ∷ more) ++ 10 ∷ []) ++ later
run_spelled w more later =
    let a = octal_text w.address in
    let v = value_text w in
    let m = values_text more in
    ap (λ l. (a ++ l) ++ (m ++ 10 ∷ later)) (append-nil v)
    ∙ append_assoc a v (m ++ 10 ∷ later)
    ∙ ap (λ l. a ++ l) (sym (append_assoc v m (10 ∷ later)))
    ∙ sym (append_assoc a (v ++ m) (10 ∷ later))
    ∙ sym (append_assoc (a ++ (v ++ m)) (10 ∷ []) later)

-- a full word opens a run line
run_begun : (w : WordValue) (ws : List WordValue) → is_full w ≡ true → Grown w [] (longer (run_at w.address)) ws → Begun w ws
run_begun w ws full g = record {
  lines = run_text (w ∷ g.more) ∷ g.lines;
  first = g.more;
  rest = g.groups;
  held = (inr (record { run = g.is_run; spelled = refl }), g.held);
  all = ap (λ l. w ∷ l) g.all;
  longest = g.longest;
  text =
      ap (λ t. cond t (run_text (w ∷ [])) (half_line w ++ 10 ∷ []) ++ (pieces Second (cond t (Some (longer (run_at w.address))) None) ws ++ ending (run_over Second (cond t (Some (longer (run_at w.address))) None) ws))) full
      ∙ ap (λ l. run_text (w ∷ []) ++ l) g.text
      ∙ run_spelled w g.more (ended_lines g.lines);
}

-- a word that is not full has a line of its own
half_begun : (w : WordValue) (ws : List WordValue) → is_full w ≡ false → Closed ws → Begun w ws
half_begun w ws half c = record {
  lines = half_line w ∷ c.lines;
  first = [];
  rest = c.groups;
  held = (inl (record { word = w; alone = refl; half = half; spelled = refl }), c.held);
  all = ap (λ l. w ∷ l) c.all;
  longest = longest_first (w ∷ []) c.groups
      (λ next more e run. false≢true (sym half ∙ full_of (w.address == w.address) (nat_lt 0 16) (is_full w) run.0)) c.longest;
  text =
      ap (λ t. cond t (run_text (w ∷ [])) (half_line w ++ 10 ∷ []) ++ (pieces Second (cond t (Some (longer (run_at w.address))) None) ws ++ ending (run_over Second (cond t (Some (longer (run_at w.address))) None) ws))) half
      ∙ ap (λ l. (half_line w ++ 10 ∷ []) ++ l) c.text;
}

begun : (w : WordValue) (ws : List WordValue) → Closed ws → (is_full w ≡ true → Grown w [] (longer (run_at w.address)) ws) → Begun w ws
begun w ws c g =
    elim (is_full w) as (λ t. is_full w ≡ t → Begun w ws) [
      | true ↦ (λ full. run_begun w ws full (g full))
      | false ↦ (λ half. half_begun w ws half c)
    ] refl

closed : (w : WordValue) (ws : List WordValue) → Begun w ws → Closed (w ∷ ws)
closed w ws b = record {
  lines = b.lines;
  groups = (w ∷ b.first) ∷ b.rest;
  held = b.held;
  all = b.all;
  longest = b.longest;
  text = append_assoc (begun_text w) (pieces Second (begun_run w) ws) (ending (run_over Second (begun_run w) ws)) ∙ b.text;
}

-- the open line takes the word
grown_on : (x : WordValue) (xs : List WordValue) (run : OpenRun) (w : WordValue) (ws : List WordValue) → goes_on run w ≡ true →
    Grown x (xs ++ w ∷ []) (longer run) ws → Grown x xs run (w ∷ ws)
grown_on x xs run w ws on g =
    let same : (xs ++ w ∷ []) ++ g.more ≡ xs ++ w ∷ g.more = append_assoc xs (w ∷ []) g.more in
    record {
      more = w ∷ g.more;
      lines = g.lines;
      groups = g.groups;
      is_run = subst (λ l. IsRun (x ∷ l)) same g.is_run;
      held = g.held;
      all = ap (λ l. w ∷ l) g.all;
      longest = subst (λ l. AreLongest ((x ∷ l) ∷ g.groups)) same g.longest;
      text =
          ap (λ t. (cond t (value_text w) (10 ∷ begun_text w) ++ pieces Second (cond t (Some (longer run)) (begun_run w)) ws) ++ ending (run_over Second (cond t (Some (longer run)) (begun_run w)) ws)) on
          ∙ append_assoc (value_text w) (pieces Second (Some (longer run)) ws) (ending (run_over Second (Some (longer run)) ws))
          ∙ ap (λ l. value_text w ++ l) g.text
          ∙ sym (append_assoc (value_text w) (values_text g.more) (10 ∷ ended_lines g.lines));
    }

-- the open line does not take the word, which begins one of its own
grown_off : (x : WordValue) (xs : List WordValue) (run : OpenRun) (w : WordValue) (ws : List WordValue) → IsRun (x ∷ xs) →
    run ≡ behind (run_at x.address) (x ∷ xs) → goes_on run w ≡ false → Begun w ws → Grown x xs run (w ∷ ws)
grown_off x xs run w ws is_run is off b = record {
  more = [];
  lines = b.lines;
  groups = (w ∷ b.first) ∷ b.rest;
  is_run = subst (λ l. IsRun (x ∷ l)) (sym (append-nil xs)) is_run;
  held = b.held;
  all = b.all;
  longest = subst (λ l. AreLongest ((x ∷ l) ∷ (w ∷ b.first) ∷ b.rest)) (sym (append-nil xs))
      ((λ joined. false≢true (sym off ∙ ap (λ r. goes_on r w) is ∙ goes_on_last (run_at x.address) (x ∷ xs) w joined)), b.longest);
  text =
      ap (λ t. (cond t (value_text w) (10 ∷ begun_text w) ++ pieces Second (cond t (Some (longer run)) (begun_run w)) ws) ++ ending (run_over Second (cond t (Some (longer run)) (begun_run w)) ws)) off
      ∙ ap (λ l. 10 ∷ l) (append_assoc (begun_text w) (pieces Second (begun_run w) ws) (ending (run_over Second (begun_run w) ws)) ∙ b.text);
}

record Both (ws : List WordValue) : Type 0 where
  alone : Closed ws
  behind_open : (x : WordValue) (xs : List WordValue) (run : OpenRun) → IsRun (x ∷ xs) → run ≡ behind (run_at x.address) (x ∷ xs) → Grown x xs run ws

grown_none : (x : WordValue) (xs : List WordValue) (run : OpenRun) → IsRun (x ∷ xs) → Grown x xs run []
grown_none x xs run is_run = record {
  more = [];
  lines = [];
  groups = [];
  is_run = subst (λ l. IsRun (x ∷ l)) (sym (append-nil xs)) is_run;
  held = tt;
  all = refl;
  longest = tt;
  text = refl;
}

-- a full word is a run
one_run : (w : WordValue) → is_full w ≡ true → goes_on (run_at w.address) w ≡ true
one_run w full =
    let own : (w.address == w.address) ≡ true = search rules in
    ap (λ b. (w.address == w.address) && b) full ∙ ap (λ b. b && true) own

both : (ws : List WordValue) → Both ws
both [] = record {
  alone = record { lines = []; groups = []; held = tt; all = refl; longest = tt; text = refl };
  behind_open = λ x xs run is_run is. grown_none x xs run is_run;
}
both (w ∷ ws) =
    let later = both ws in
    let b : Begun w ws = begun w ws later.alone (λ full. later.behind_open w [] (longer (run_at w.address)) (one_run w full, tt) refl) in
    record {
      alone = closed w ws b;
      behind_open = λ x xs run is_run is.
          elim (goes_on run w) as (λ t. goes_on run w ≡ t → Grown x xs run (w ∷ ws)) [
            | true ↦ (λ on. grown_on x xs run w ws on (later.behind_open x (xs ++ w ∷ []) (longer run)
                (go_on_more (run_at x.address) (x ∷ xs) w is_run (ap (λ r. goes_on r w) (sym is) ∙ on))
                (ap longer is ∙ sym (behind_more (run_at x.address) (x ∷ xs) w))))
            | false ↦ (λ off. grown_off x xs run w ws is_run is off b)
          ] refl;
    }

pub longest : (plan : PlanValue) (k : ℕ) → (lines : List (List ℕ)) × HoldLongest lines (take k plan.words)
    × (words_text Second plan k ++ ending (open_run Second plan k) ≡ header Second ++ 10 ∷ ended_lines lines)
unfolding words_text
longest plan k =
    let c = (both (take k plan.words)).alone in (
      c.lines,
      record { groups = c.groups; held = c.held; all = c.all; longest = c.longest },
      append_assoc (header Second) (10 ∷ pieces Second None (take k plan.words)) (ending (open_run Second plan k)) ∙ ap (λ l. header Second ++ 10 ∷ l) c.text,
    )
