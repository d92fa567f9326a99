-- Looks in front of a life: what they leave is a line at which the life may begin.
use Rattle.std.proofs.Common.{◌≡◌, ℕ, ◌+◌, ◌≤◌, Bool, true, false, List, [], ◌∷◌, ◌++◌, length, unwrap_or, inl, inr, refl, arith, ap, sym, subst, ◌∙◌, append-nil, append_assoc}
use Rattle.std.specs.Prelude.{◌⊎◌, Contains, Ok, option_to_list}
use Rattle.std.proofs.lemmas.List.Elements.{Contains-append_cases, Contains-append_left, Contains-append_right}
use Rattle.tape_image.specs.Plan.{PlanValue, IsPlan}
use Rattle.tape_image.specs.Word.{merged}
use Rattle.odt_machine.specs.Laws.{is_running}
use Rattle.odt_machine.specs.Machine.{Machine, is_word, word_at}
use Rattle.odt_machine.specs.declared.mode.Mode.{Mode}
use Rattle.odt_machine.specs.declared.mode.Mode.TheVariants.{Prompt, Number, Opened, Typing, Running}
use Rattle.host_core.specs.declared.heard.Heard.{Heard}
use Rattle.host_core.specs.declared.progress.Progress.{Progress}
use Rattle.host_core.specs.Core.{word_nr}
use Rattle.line_world.specs.Invariant.{RunsAt, RunsWith}
use Rattle.line_world.specs.Safe.{FirstStand, OnlyImage}
use Rattle.line_world.specs.Site.{IsThere}
use Rattle.line_world.specs.Wire.{Wire, forgiven, sent}
use Rattle.line_world.proofs.Starts.{ends_join}
use Rattle.host_devices.specs.declared.item.Item.{Item}
use Rattle.host_devices.specs.declared.item.Item.TheVariants.{Sent, Heard as Came}
use Rattle.host_devices.specs.Dialogue.{keys_of}
use Rattle.honest_line.specs.Honest.{IsHonest, resting}
use Rattle.honest_line.specs.Moves.{Passes}
use Rattle.honest_line.specs.Trust.{IsTrusted}
use Rattle.honest_line.proofs.Going.{MayRun, passes_back}
use Rattle.honest_line.proofs.Wires.{none_moves}
use Rattle.load_engine.proofs.Sessions.{keys_join}
use Rattle.load_record.specs.Reading.{Says}
use Rattle.load_lives.specs.Lives.{IsLife, Life, PassesOver, Reopens, WireAndRecord, last_core}
use Rattle.load_lives.proofs.Chains.{HasComeToRest, Stood, Went, came_to_rest, later_stood, opens, trusted, went}
use Rattle.load_lives.proofs.Records.{says_once}
use Rattle.load_lives.proofs.Renewals.{Holds, other_losses, place}
use Rattle.load_lives.proofs.Starting.{reopened_run}
use Rattle.reading_core.specs.Reader.{Manner, Reader, begun_in}
use Rattle.reading_core.specs.Laws.{led}
use Rattle.reading_core.proofs.Turns.{fresh_in}
use Rattle.looking_law.specs.Belief.{IsReadyMachine, dialogue}
use Rattle.line_world.specs.Scene.{over as inquiring}
use Rattle.looking_law.specs.RecordLook.{HasLookedAs}
use Rattle.looking_law.specs.Splitting.{PartsAt}
use Rattle.looking_law.proofs.Believed.{dialogue_mirrored, honest_are_true, leave_ready, stopped_with}
use Rattle.looking_law.proofs.Mirrors.{IsMirrored}
use Rattle.looking_law.proofs.Never.{Never, looked_never, never_ends, none_in}
use Rattle.looking_law.proofs.Runs.{may_begin_in}
use Rattle.looking_law.proofs.Splits.{lines_split, nothing_lost, passes_fewer, passes_on, passes_split}
use Rattle.looking_law.proofs.Told.{reading_begins, readings_tidy, told_begins, told_honest, told_passes, way_before}
use Rattle.sample_looks.specs.LooksFirst.{AreLookingLives, IsLatestTrusted, IsLookingLife, LoadsMayFollow, LookingLife, LooksMayComeFirst, LooksMayStandAlone, typed}

-- ---- what looks leave

there_on : (plan : PlanValue) (m n : Machine) (i : ℕ) → n.memory ≡ m.memory → IsThere (place plan m i) → IsThere (place plan n i)
there_on plan m n i same there =
    subst (λ memory. (is_word memory (word_nr plan.words i).address ≡ true) × (merged (word_nr plan.words i) (word_at memory (word_nr plan.words i).address) ≡ word_at memory (word_nr plan.words i).address)) (sym same) there

-- no program runs, so none runs elsewhere
still_at : (start : ℕ) (mode : Mode) → RunsWith false mode → RunsAt start mode
still_at start Prompt still = tt
still_at start (Number v n) still = tt
still_at start (Opened a) still = tt
still_at start (Typing a v n) still = tt
still_at start (Running p) still = absurd (cc still)

-- from a line at rest
left_by : (manner : Manner) (plan : PlanValue) (before : List ℕ) (recorded : Progress) (looks : List Item) (w y : Wire) → HasLookedAs manner plan recorded looks → Holds plan before recorded w → Passes (resting w.machine w.up 0) looks y →
    Holds plan before recorded y
left_by manner plan before recorded looks w y h r passes =
    let first : Reader = begun_in manner h.addresses [] h.patience in
    let last : Reader = led first h.heard in
    let whole = told_passes (dialogue first h.heard) looks (resting w.machine w.up 0) y h.told passes in
    let end : Wire = sent y whole.0 in
    let reads = fresh_in manner h.addresses h.patience h.asked h.patient in
    let ready : IsReadyMachine w.machine = record { console = r.machine; stopped = stopped_with w.machine.mode (subst (λ g. RunsWith g w.machine.mode) h.unmarked r.running) } in
    let may = may_begin_in manner h.addresses h.patience w.machine ready in
    let k : IsMirrored w.machine.memory (inquiring last end) = dialogue_mirrored first h.heard w.machine w.up end reads may r.few whole.1 in
    record {
      machine = k.books.kept.machine;
      one_way = way_before y.down whole.0 y.up k.books.kept.one_way;
      few = k.books.kept.few;
      words = λ i below. there_on plan w.machine y.machine i k.same (r.words i below);
      running = subst (λ g. RunsWith g y.machine.mode) (sym h.unmarked) k.books.kept.running;
      at_start = still_at (unwrap_or plan.start 0) y.machine.mode k.books.kept.running;
      bytes = subst (OnlyImage before plan.image) (sym k.same) r.bytes;
    }

-- from any line on which no key is under way
left : (manner : Manner) (plan : PlanValue) (before : List ℕ) (recorded : Progress) (looks : List Item) (w y : Wire) → HasLookedAs manner plan recorded looks → Holds plan before recorded w → w.down ≡ [] → Passes w looks y →
    Holds plan before recorded y
left manner plan before recorded looks w y h r none passes =
    let here : Passes (resting w.machine w.up w.lost) looks y = subst (λ down. Passes (record w { down = down }) looks y) none passes in
    let f = passes_fewer w.lost looks (resting w.machine w.up 0) y (subst (λ n. Passes (resting w.machine w.up n) looks y) (nothing_lost w.lost) here) in
    subst (Holds plan before recorded) (sym f.1) (other_losses plan before recorded f.0 (w.lost + f.0.lost) (left_by manner plan before recorded looks w f.0 h r f.2))

-- ---- a life behind looks

-- what a life leaves with the looks in front of it
record WentOn (plan : PlanValue) (before keys : List ℕ) (l : LookingLife) (new : WireAndRecord) : Type 0 where
  pub stood : Stood plan before (keys ++ keys_of (l.looks ++ l.life.items)) new
  pub lost : ℕ
  pub fewer : lost ≤ new.wire.lost
  pub trusted : IsTrusted before (last_core plan l.life) new.wire.machine.memory (keys ++ keys_of (l.looks ++ l.life.items)) (length (option_to_list l.life.unsent) + lost)

-- the line of a life, and what it leaves of the record
record Lives (plan : PlanValue) (between : WireAndRecord) (looks : List Item) (life : Life) (new : WireAndRecord) : Type 0 where
  pub as_life : (x : Wire) (y : Wire) → PassesOver x life.items y → IsLife plan (record { wire = x; text = between.text }) life (record { wire = y; text = new.text })
  pub recorded : Progress
  pub says : Says plan between.text (Ok recorded)
  pub line : PassesOver between.wire (looks ++ life.items) new.wire

-- nobody looked
went_plain : (plan : PlanValue) (before keys : List ℕ) (between : WireAndRecord) (life : Life) (new : WireAndRecord) → IsPlan plan → Stood plan before keys between → Lives plan between [] life new →
    WentOn plan before keys (record { looks = []; life = life }) new
went_plain plan before keys between life new fits s l =
    let w : Went plan before keys life new = went plan before keys between life new fits s (l.as_life between.wire new.wire l.line) in
    record { stood = w.stood; lost = new.wire.lost; fewer = omega arith; trusted = w.trusted }

marked_not : (going : Bool) → going ≡ true → going ≡ false → ⊥
marked_not going e f = absurd (clash (sym e ∙ f))
  where
    clash : true ≡ false → ⊥
    clash e = absurd (cc e)

three : (keys : List ℕ) (looks items : List Item) → (keys ++ keys_of looks) ++ keys_of items ≡ keys ++ keys_of (looks ++ items)
three keys looks items = append_assoc keys (keys_of looks) (keys_of items) ∙ ap (λ more. keys ++ more) (sym (keys_join looks items))

-- where the looks end
record Between (plan : PlanValue) (before keys : List ℕ) (looks : List Item) (text : List ℕ) (z : Wire) : Type 0 where
  pub stood : Stood plan before (keys ++ keys_of looks) (record { wire = z; text = text })

looked : (manner : Manner) (plan : PlanValue) (before keys : List ℕ) (between : WireAndRecord) (recorded : Progress) (what : Heard) (more : List Item) (found z : Wire) → IsPlan plan → Stood plan before keys between →
    Says plan between.text (Ok recorded) → HasLookedAs manner plan recorded (Came what ∷ more) → Reopens between.wire found → Passes found (Came what ∷ more) z → Between plan before keys (Came what ∷ more) between.text z
looked manner plan before keys between recorded what more found z fits s says h reopens passes =
    let looks : List Item = Came what ∷ more in
    let same : s.progress ≡ recorded = says_once plan between.text s.progress recorded s.says says in
    let r : HasComeToRest plan before keys between.text looks z = came_to_rest plan before keys between found what more z fits s reopens passes in
    let there : Holds plan before recorded r.rest =
    subst (λ (p : Progress). Holds plan before p r.rest) (says_once plan between.text r.stood.progress recorded r.stood.says says) (r.stood.rests r.rest (none_moves r.rest)) in
    let never : Never (keys_of looks) = looked_never manner plan recorded looks h in
    let unset : s.progress.going ≡ false = ap (λ (p : Progress). p.going) same ∙ h.unmarked in
    record {
      stood = record {
        progress = recorded;
        says = says;
        rests = λ y moves. left manner plan before recorded looks r.rest y h there r.none_down (passes_on looks r.rest z y r.passes moves);
        last = ends_join keys (keys_of looks) s.last (never_ends (keys_of looks) never) (λ g. absurd (marked_not s.progress.going (s.marked g) unset));
        marked = λ g. elim (Contains-append_cases keys (keys_of looks) 71 g) [ inl early ↦ absurd (marked_not s.progress.going (s.marked early) unset) | inr now ↦ absurd (none_in (keys_of looks) never now) ];
      };
    }

went_behind : (plan : PlanValue) (before keys : List ℕ) (between : WireAndRecord) (what : Heard) (more : List Item) (life : Life) (new : WireAndRecord) → IsPlan plan → Stood plan before keys between →
    (l : Lives plan between (Came what ∷ more) life new) → (manner : Manner) → HasLookedAs manner plan l.recorded (Came what ∷ more) → WentOn plan before keys (record { looks = Came what ∷ more; life = life }) new
went_behind plan before keys between what more life new fits s l manner h =
    let looks : List Item = Came what ∷ more in
    let split = passes_split looks life.items l.line.found new.wire l.line.passes in
    let z : Wire = split.0 in
    let b : Between plan before keys looks between.text z = looked manner plan before keys between l.recorded what more l.line.found z fits s l.says h l.line.reopens split.1 in
    let f = passes_fewer z.lost life.items (forgiven z) new.wire (subst (λ n. Passes (record z { lost = n }) life.items new.wire) (nothing_lost z.lost) split.2) in
    let y : Wire = f.0 in
    let w : Went plan before (keys ++ keys_of looks) life (record { wire = y; text = new.text }) =
    went plan before (keys ++ keys_of looks) (record { wire = z; text = between.text }) life (record { wire = y; text = new.text }) fits b.stood (l.as_life z y (record { found = forgiven z; reopens = inl refl; passes = f.2 })) in
    record {
      stood = subst (λ list. Stood plan before list new) (three keys looks life.items)
          (subst (λ x. Stood plan before ((keys ++ keys_of looks) ++ keys_of life.items) (record { wire = x; text = new.text })) (sym f.1) (later_stood plan before ((keys ++ keys_of looks) ++ keys_of life.items) z.lost y new.text w.stood));
      lost = y.lost;
      fewer = omega (arith, ap (λ (x : Wire). x.lost) f.1);
      trusted = subst (λ list. IsTrusted before (last_core plan life) new.wire.machine.memory list (length (option_to_list life.unsent) + y.lost)) (three keys looks life.items)
          (subst (λ (x : Wire). IsTrusted before (last_core plan life) x.machine.memory ((keys ++ keys_of looks) ++ keys_of life.items) (length (option_to_list life.unsent) + y.lost)) (sym f.1) w.trusted);
    }

began : (manner : Manner) (plan : PlanValue) (recorded : Progress) (key : ℕ) (more : List Item) → HasLookedAs manner plan recorded (Sent key ∷ more) → ⊥
began manner plan recorded key more h =
    let first : Reader = begun_in manner h.addresses [] h.patience in
    told_begins (dialogue first h.heard) (Sent key ∷ more) h.told (reading_begins first h.heard)

went_on : (plan : PlanValue) (before keys : List ℕ) (between : WireAndRecord) (looks : List Item) (life : Life) (new : WireAndRecord) → IsPlan plan → Stood plan before keys between →
    (l : Lives plan between looks life new) → (looks ≡ []) ⊎ ((manner : Manner) × HasLookedAs manner plan l.recorded looks) → WentOn plan before keys (record { looks = looks; life = life }) new
went_on plan before keys between [] life new fits s l looked = went_plain plan before keys between life new fits s l
went_on plan before keys between (Sent key ∷ more) life new fits s l (inl none) = absurd (cc none)
went_on plan before keys between (Sent key ∷ more) life new fits s l (inr (manner, h)) = absurd (began manner plan l.recorded key more h)
went_on plan before keys between (Came what ∷ more) life new fits s l (inl none) = absurd (cc none)
went_on plan before keys between (Came what ∷ more) life new fits s l (inr (manner, h)) = went_behind plan before keys between what more life new fits s l manner h

one_more : (plan : PlanValue) (before keys : List ℕ) (between : WireAndRecord) (l : LookingLife) (new : WireAndRecord) → IsPlan plan → Stood plan before keys between → IsLookingLife plan between l new → WentOn plan before keys l new
one_more plan before keys between l new fits s is =
    went_on plan before keys between l.looks l.life new fits s
    (record {
      as_life = λ x y line. record { patient = is.patient; goes_on = is.goes_on; stopped = is.stopped; line = line; left = is.left };
      recorded = is.goes_on.recorded;
      says = is.goes_on.says;
      line = is.line;
    })
    is.looked

-- ---- all of them

stood : (plan : PlanValue) (before : List ℕ) (lives : List LookingLife) (old new : WireAndRecord) → IsPlan plan → Stood plan before [] old → AreLookingLives plan old lives new → Stood plan before (typed lives) new
stood plan before [] old new fits s same = subst (Stood plan before []) (sym same) s
stood plan before (l ∷ earlier) old new fits s lived = (one_more plan before (typed earlier) lived.0 l new fits (stood plan before earlier old lived.0 fits s lived.1) lived.2).stood

latest : (plan : PlanValue) (before : List ℕ) (lives : List LookingLife) (old new : WireAndRecord) → IsPlan plan → Stood plan before [] old → AreLookingLives plan old lives new → IsLatestTrusted plan before lives new
latest plan before [] old new fits s lived = tt
latest plan before (l ∷ earlier) old new fits s lived =
    let w = one_more plan before (typed earlier) lived.0 l new fits (stood plan before earlier old lived.0 fits s lived.1) lived.2 in
    (w.lost, w.fewer, w.trusted)

-- a program runs only where `G` was among the keys
typed_run : (plan : PlanValue) (lives : List LookingLife) (old new : WireAndRecord) → (MayRun old.wire → ⊥) → AreLookingLives plan old lives new → MayRun new.wire → Contains (typed lives) 71
typed_run plan [] old new still same may = absurd (still (subst (λ (s : WireAndRecord). MayRun s.wire) same may))
typed_run plan (l ∷ earlier) old new still (between, lived, is) may =
    let keys : List ℕ = keys_of (l.looks ++ l.life.items) in
    elim (reopened_run between.wire is.line.found keys is.line.reopens (passes_back (l.looks ++ l.life.items) is.line.found new.wire is.line.passes may)) [
      | inl before ↦ Contains-append_left (typed earlier) keys 71 (typed_run plan earlier old between still lived before)
      | inr now ↦ Contains-append_right (typed earlier) keys 71 now
    ]

pub come_first : LooksMayComeFirst
come_first plan old new lives fits may lived =
    let first = opens plan old fits may in (
      trusted plan old.wire.machine.memory (typed lives) new fits (stood plan old.wire.machine.memory lives old new fits first lived) (λ runs. typed_run plan lives old new still lived (inl runs)),
      latest plan old.wire.machine.memory lives old new fits first lived,
    )
  where
    still : MayRun old.wire → ⊥
    still (inl runs) = marked_not (is_running old.wire.machine.mode) runs may.begins.stopped
    still (inr has) = none_in [] tt (subst (λ (keys : List ℕ). Contains keys 71) may.none_down has)

-- ---- looks alone, and a load behind them

pub stand_alone : LooksMayStandAlone
stand_alone plan recorded manner looks old new says h line same = record {
  patient = omega arith;
  goes_on = record { recorded = recorded; says = says; fewer = omega arith; same_mark = refl };
  looked = inr (manner, h);
  stopped = refl;
  line = subst (λ items. PassesOver old.wire items new.wire) (sym (append-nil looks)) line;
  left = record { cut = inl same; whole = λ has. absurd (none_in [] tt has); alone = λ set. same };
}

pub may_follow : LoadsMayFollow
may_follow load might =
    let may = might.begins in
    let h = might.looked in
    let r : Reader = begun_in load.manner h.addresses [] h.patience in
    let ready : IsReadyMachine load.before = record { console = may.console; stopped = may.stopped } in
    let reader = fresh_in load.manner h.addresses h.patience h.asked h.patient in
    let looks = may_begin_in load.manner h.addresses h.patience load.before ready in
    let split : PartsAt load.before load.looks load.items load.lost load.behind =
    lines_split load.before load.behind load.looks load.items load.lost (readings_tidy r h.heard load.looks load.before reader looks h.told) might.listens might.honest in
    let whole : IsHonest load.before (dialogue r h.heard) split.lost_before split.between = told_honest (dialogue r h.heard) load.looks load.before split.between split.lost_before h.told split.before in
    let left : IsReadyMachine split.between = leave_ready r h.heard load.before split.between split.lost_before reader looks whole in
    let same : split.between.memory ≡ load.before.memory = (honest_are_true r h.heard reader load.before split.between split.lost_before looks whole).same in
    record {
      between = split.between;
      lost_before = split.lost_before;
      lost_after = split.lost_after;
      begins = record {
        begun = refl;
        console = left.console;
        stopped = left.stopped;
        verified = subst (FirstStand load.plan.words load.recorded.verified) (sym same) may.verified;
      };
      memory = same;
      after = split.after;
      losses = split.losses;
    }
