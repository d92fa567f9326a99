-- A script as far as it is played, line by line.
use Rattle.std.proofs.Common.{◌≡◌, ℕ, zero, suc, ◌+◌, ◌-◌, ◌<◌, ◌≤◌, ◌==◌, if◌then◌else◌, replicate, arith, unwrap_or, Bool, true, false, ◌||◌, cond, List, [], ◌∷◌, ◌++◌, Option, Some, None, ap, sym, refl, ◌∙◌, subst, append_assoc, append-nil}
use Rattle.std.specs.Prelude.{is_some}
use Rattle.std.proofs.lemmas.Bool.{false≢true}
use Rattle.std.proofs.lemmas.Bool.Decides.{nat_tests}
use Rattle.std.proofs.lemmas.List.Concat.{flat_map-append}
use Rattle.host_core.specs.declared.phase.End.{End}
use Rattle.line_world.specs.declared.event.Event.{Event}
use Rattle.line_world.specs.Scene.{Scene}
use Rattle.line_world.specs.World.{occurs, happens, after, possible_count, first_event}
use Rattle.loss_scripts.specs.declared.script.StepLine.{StepLine}
use Rattle.tape_commands.specs.Played.{is_over, IsCleanUntil, Plays, Played, not_possible_text, not_possible_lines}

-- these lines are left to play, and those before them that were not possible are told
pub record IsPlaying (start w : Scene) (all left : List StepLine) (text told : List ℕ) : Type 0 where
  pub so_far : List ℕ
  pub lines : told ≡ text ++ not_possible_lines so_far
  pub rest : (next : Scene) (numbers : List ℕ) → Played w left next numbers → Played start all next (so_far ++ numbers)

pub playing_none : (w : Scene) (all : List StepLine) (text : List ℕ) → IsPlaying w w all all text text
playing_none w all text = record { so_far = []; lines = sym (append-nil text); rest = λ next numbers played. played }

-- the number of a line that was not possible
abbrev told_of : StepLine → Bool → List ℕ
told_of l true = []
told_of l false = l.line ∷ []

told_more : (text before now : List ℕ) (so_far : List ℕ) (l : StepLine) (possible : Bool) → before ≡ text ++ not_possible_lines so_far
    → now ≡ before ++ cond possible [] (not_possible_text l.line) → now ≡ text ++ not_possible_lines (so_far ++ told_of l possible)
told_more text before now so_far l true told e =
    e ∙ append-nil before ∙ told ∙ ap (λ ns. text ++ not_possible_lines ns) (sym (append-nil so_far))
told_more text before now so_far l false told e =
    e ∙ ap (λ b. b ++ not_possible_text l.line) told ∙ append_assoc text (not_possible_lines so_far) (not_possible_text l.line)
    ∙ ap (λ r. text ++ (not_possible_lines so_far ++ r)) (sym (append-nil (not_possible_text l.line)))
    ∙ ap (λ r. text ++ r) (sym (flat_map-append not_possible_text so_far (l.line ∷ [])))

joined : (w between next : Scene) (l : StepLine) (left : List StepLine) (possible : Bool) (so_far numbers : List ℕ) → Plays w l.step between possible → Played between left next numbers
    → (others : List ℕ) × Played w (l ∷ left) next others × (so_far ++ others ≡ (so_far ++ told_of l possible) ++ numbers)
joined w between next l left true so_far numbers plays played =
    (numbers, (between, true, numbers, plays, played, refl), ap (λ ns. ns ++ numbers) (sym (append-nil so_far)))
joined w between next l left false so_far numbers plays played =
    (l.line ∷ numbers, (between, false, numbers, plays, played, refl), sym (append_assoc so_far (l.line ∷ []) numbers))

pub playing_more : (start w between : Scene) (all left rest : List StepLine) (l : StepLine) (text before now : List ℕ) (possible : Bool) → IsPlaying start w all left text before
    → left ≡ l ∷ rest → Plays w l.step between possible → now ≡ before ++ cond possible [] (not_possible_text l.line) → IsPlaying start between all rest text now
playing_more start w between all left rest l text before now possible so first plays told = record {
  so_far = so.so_far ++ told_of l possible;
  lines = told_more text before now so.so_far l possible so.lines told;
  rest = λ next numbers played.
      let more = joined w between next l rest possible so.so_far numbers plays played in
      subst (Played start all next) more.2 (so.rest next more.0 (subst (λ ls. Played w ls next more.0) (sym first) more.1));
}

pub playing_all : (start w : Scene) (all left : List StepLine) (text told : List ℕ) → IsPlaying start w all left text told → left ≡ []
    → (numbers : List ℕ) × Played start all w numbers × (told ≡ text ++ not_possible_lines numbers)
playing_all start w all left text told so none =
    (so.so_far, subst (Played start all w) (append-nil so.so_far) (so.rest w [] (subst (λ ls. Played w ls w []) (sym none) (refl, refl))), so.lines)

-- what is not over has no end
pub no_end : (sent : Bool) (o : Option End) → (sent || is_some o) ≡ false → o ≡ None
no_end true o off = absurd (false≢true (sym off))
no_end false None off = refl
no_end false (Some end) off = absurd (false≢true (sym off))

-- one event more on a clean line
pub until_more : (n : ℕ) (start w next : Scene) (event : Event) → is_over n w ≡ false → event ≡ first_event w → next ≡ happens w event
    → ((events : List Event) → IsCleanUntil n w events → (all : List Event) × IsCleanUntil n start all × (after w events ≡ after start all))
    → (events : List Event) → IsCleanUntil n next events → (all : List Event) × IsCleanUntil n start all × (after next events ≡ after start all)
until_more n start w next event on is_first is_next so events until =
    let more = so (event ∷ events) (on, is_first, subst (λ v. IsCleanUntil n v events) is_next until) in
    (more.0, more.1, ap (λ v. after v events) is_next ∙ more.2)

-- an event, so many times out of a count: these were possible, and the rest of the count leads to the world after all of it
pub record IsRepeating (start w : Scene) (event : Event) (times done : ℕ) : Type 0 where
  pub within : done ≤ times
  pub world : after start (replicate times event) ≡ after w (replicate (times - done) event)
  pub count : possible_count start (replicate times event) ≡ done + possible_count w (replicate (times - done) event)

pub repeating_none : (w : Scene) (event : Event) (times : ℕ) → IsRepeating w w event times 0
repeating_none w event times =
    let whole : times ≡ times - 0 = omega arith in
    record {
      within = omega arith;
      world = ap (λ m. after w (replicate m event)) whole;
      count = ap (λ m. possible_count w (replicate m event)) whole ∙ omega arith;
    }

-- a time more
after_more : (w next : Scene) (event : Event) (m left : ℕ) → m ≡ suc left → next ≡ happens w event → after w (replicate m event) ≡ after next (replicate left event)
after_more w next event m left is is_next = ap (λ k. after w (replicate k event)) is ∙ ap (λ v. after v (replicate left event)) (sym is_next)

count_more : (w next : Scene) (event : Event) (m left : ℕ) → m ≡ suc left → next ≡ happens w event → is_some (occurs w event) ≡ true
    → possible_count w (replicate m event) ≡ 1 + possible_count next (replicate left event)
count_more w next event m left is is_next possible =
    ap (λ k. possible_count w (replicate k event)) is ∙ ap (λ t. (if t then 1 else 0) + possible_count (happens w event) (replicate left event)) possible
    ∙ ap (λ v. 1 + possible_count v (replicate left event)) (sym is_next)

pub repeating_more : (start w next : Scene) (event : Event) (times done : ℕ) → IsRepeating start w event times done → done < times → next ≡ happens w event → is_some (occurs w event) ≡ true
    → IsRepeating start next event times (done + 1)
repeating_more start w next event times done so more is_next possible =
    let one : times - done ≡ suc (times - (done + 1)) = omega arith in
    record {
      within = omega arith;
      world = so.world ∙ after_more w next event (times - done) (times - (done + 1)) one is_next;
      count = so.count ∙ ap (λ k. done + k) (count_more w next event (times - done) (times - (done + 1)) one is_next possible) ∙ omega arith;
    }

none_occurs : (w : Scene) (event : Event) → is_some (occurs w event) ≡ false → happens w event ≡ w
none_occurs w event off = elim (occurs w event) as (λ o. is_some o ≡ false → unwrap_or o w ≡ w) [ None ↦ (λ e. refl) | Some v ↦ (λ e. absurd (false≢true (sym e))) ] off

-- what is not possible changes nothing, however often
stays : (w : Scene) (event : Event) (m : ℕ) → is_some (occurs w event) ≡ false → (after w (replicate m event) ≡ w) × (possible_count w (replicate m event) ≡ 0)
stays w event zero off = (refl, refl)
stays w event (suc m) off =
    let same = none_occurs w event off in
    let rest = stays w event m off in (
      ap (λ v. after v (replicate m event)) same ∙ rest.0,
      ap (λ t. (if t then 1 else 0) + possible_count (happens w event) (replicate m event)) off ∙ ap (λ v. 0 + possible_count v (replicate m event)) same ∙ omega (arith, rest.1),
    )

pub repeating_stopped : (start w next : Scene) (event : Event) (times done : ℕ) → IsRepeating start w event times done → done < times → next ≡ w → is_some (occurs w event) ≡ false
    → (next ≡ after start (replicate times event)) × (false ≡ (possible_count start (replicate times event) == times))
repeating_stopped start w next event times done so more same off =
    let stay = stays w event (times - done) off in
    let count : possible_count start (replicate times event) ≡ done = so.count ∙ omega (arith, stay.1) in
    (same ∙ sym (so.world ∙ stay.0), grind (arith, nat_tests))
