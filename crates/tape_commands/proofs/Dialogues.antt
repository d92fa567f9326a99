-- A load on a line that loses nothing, event by event, and what is written of it.
use Rattle.request_values.specs.Change.{◌⇒◌}
use Rattle.std.proofs.Common.{◌≡◌, ◌<◌, List, [], ◌∷◌, ◌++◌, ℕ, Option, Some, None, IsSome, replicate, false, refl, sym, ap, ◌∙◌, subst, inl, inr, arith, codes, append_assoc, append-nil}
use Rattle.std.specs.Prelude.{slice_get, length, is_some}
use Rattle.std.specs.List.{slice_range, flat_map}
use Rattle.std.proofs.lemmas.Bool.{false≢true}
use Rattle.std.proofs.lemmas.List.{take_rest, length-append}
use Rattle.std.proofs.Math.Seq.{drop-append_seam}
use Rattle.std.proofs.KnownBytes.{Appends-nil, Appends-trans}
use Rattle.std.specs.Io.KnownBytes.{Appends, Keeps}
use Rattle.tape_values.specs.Tape.{TapeValue}
use Rattle.request_values.specs.declared.request.Stage.{Stage}
use Rattle.tape_image.specs.Plan.{PlanValue, plan_of_all, starting}
use Rattle.odt_machine.specs.Machine.{Machine, IsMachine}
use Rattle.odt_machine.specs.KeyTable.{take_of}
use Rattle.host_core.specs.declared.phase.End.{End}
use Rattle.host_core.specs.Core.{ended, begun}
use Rattle.host_core.specs.Host.{IsHost}
use Rattle.line_world.specs.declared.event.Event.{Event}
use Rattle.line_world.specs.Scene.{Scene}
use Rattle.line_world.specs.Invariant.{IsKept}
use Rattle.line_world.specs.Opening.{opened}
use Rattle.line_world.specs.Runs.{RunsTo}
use Rattle.line_world.specs.World.{happens, after, first_event, first_of, IsCleanRun}
use Rattle.line_world.proofs.Opening.{opening_kept}
use Rattle.endings.specs.declared.command_fault.CommandFault.{CommandFault}
use Rattle.endings.specs.declared.command_fault.CommandFault.TheVariants as fault
use Rattle.byte_io.specs.Output.{WritesPrefix, WritesProperPrefix}
use Rattle.tape_blocks.specs.declared.layout.Layout.{Layout}
use Rattle.input_files.specs.Tapes.{AreTapes, AreAllTaken, AreTapesFault, tapes_of}
use Rattle.byte_io.specs.Text.{line}
use Rattle.tape_commands.specs.Report.{life_text, end_text, mode_name, held_word_text, report}
use Rattle.tape_commands.specs.Dialogue.{Talks, IsDialogueText, IsDialogue, IsDialogueInPart, IsDialogueFault, IsReportFault, IsTalkFault, dialogue_opening, dialogue_patience}
use Rattle.tape_commands.specs.declared.key_line.KeyLine.{KeyLine}
use Rattle.tape_commands.specs.KeyLines.{Answered, Gathers, Holds, Notes, answered_in, answered_keys, key_text, last_line}
use Rattle.tape_commands.specs.Rehearsal.{IsMachineFault, machine_of}
use Rattle.tape_commands.proofs.CleanRuns.{ComesToEnd, comes_to_end}
use Rattle.byte_io.proofs.Fronts.{front_behind, front_whole, prefix_behind, prefix_longer}
use Rattle.tape_commands.proofs.KeyTexts.{gathered_text}

-- events that end from one world on end from an earlier one on, lead to the same world and tell the same; what was told so far is written
pub record Conversation (start w : Scene) (under_way : KeyLine) (before now : Option (List ℕ)) : Type 0 where
  pub told : List ℕ
  pub gathered : List Answered
  pub gathers : Gathers gathered under_way
  pub written : Appends before now told
  pub goes : (events : List Event) → IsCleanRun w events
      → (all : List Event) × IsCleanRun start all × (after w events ≡ after start all) × (key_text (answered_keys start all) ≡ told ++ key_text (gathered ++ answered_keys w events))
  pub rest : (all : List Event) → IsCleanRun start all
      → (events : List Event) × IsCleanRun w events × (key_text (answered_keys start all) ≡ told ++ key_text (gathered ++ answered_keys w events))

pub conversation_none : (w : Scene) (under_way : KeyLine) (out : Option (List ℕ)) → Gathers [] under_way → Conversation w w under_way out out
conversation_none w under_way out gathers = record {
  told = [];
  gathered = [];
  gathers = gathers;
  written = Appends-nil out;
  goes = λ events clean. (events, clean, refl, refl);
  rest = λ all clean. (all, clean, refl);
}

-- where a life has no end, a clean line goes on with its next event
clean_more : (w : Scene) (events : List Event) → ended w.core.phase ≡ None → IsCleanRun w events
    → (more : List Event) × IsCleanRun (happens w (first_event w)) more × (answered_keys w events ≡ answered_in w (first_event w) ++ answered_keys (happens w (first_event w)) more)
clean_more w [] on clean = absurd (false≢true (sym (ap is_some on) ∙ clean))
clean_more w (event ∷ more) on clean = (
  more,
  subst (λ e. IsCleanRun (happens w e) more) clean.1 clean.2,
  ap (λ e. answered_in w e ++ answered_keys (happens w e) more) clean.1,
)

-- where a life has an end, nothing is left
clean_none : (w : Scene) (end : End) (events : List Event) → ended w.core.phase ≡ Some end → IsCleanRun w events → events ≡ []
clean_none w end [] is clean = refl
clean_none w end (event ∷ more) is clean = absurd (let none = clean.0 in cc)

-- the next event of a clean line, told
pub conversation_more : (start w next : Scene) (under_way noted : KeyLine) (before between now : Option (List ℕ)) → ended w.core.phase ≡ None → next ≡ happens w (first_event w)
    → ((gathered : List Answered) → Gathers gathered under_way → Notes gathered (answered_in w (first_event w)) noted (between ⇒ now))
    → Conversation start w under_way before between → Conversation start next noted before now
conversation_more start w next under_way noted before between now on is notes so =
    let more = notes so.gathered so.gathers in
    record {
      told = so.told ++ more.told;
      gathered = more.left;
      gathers = more.gathers;
      written = Appends-trans before between now so.told more.told so.written more.written;
      goes = λ events clean.
          let all = so.goes (first_event w ∷ events) (on, refl, subst (λ v. IsCleanRun v events) is clean) in (
            all.0,
            all.1,
            ap (λ v. after v events) is ∙ all.2,
            all.3 ∙ ap (λ l. so.told ++ l) (more.text (answered_keys (happens w (first_event w)) events))
                ∙ sym (append_assoc so.told more.told (key_text (more.left ++ answered_keys (happens w (first_event w)) events)))
                ∙ ap (λ v. (so.told ++ more.told) ++ key_text (more.left ++ answered_keys v events)) (sym is),
          );
      rest = λ all clean.
          let left = so.rest all clean in
          let later = clean_more w left.0 on left.1 in (
            later.0,
            subst (λ v. IsCleanRun v later.0) (sym is) later.1,
            left.2 ∙ ap (λ ks. so.told ++ key_text (so.gathered ++ ks)) later.2 ∙ ap (λ l. so.told ++ l) (more.text (answered_keys (happens w (first_event w)) later.0))
                ∙ sym (append_assoc so.told more.told (key_text (more.left ++ answered_keys (happens w (first_event w)) later.0)))
                ∙ ap (λ v. (so.told ++ more.told) ++ key_text (more.left ++ answered_keys v later.0)) (sym is),
          );
    }

-- a turn that fails
pub conversation_stops : (start w : Scene) (under_way : KeyLine) (before between now : Option (List ℕ)) → Conversation start w under_way before between → ended w.core.phase ≡ None
    → ((gathered : List Answered) → Gathers gathered under_way → (more : List Answered) → WritesPrefix between now (key_text (gathered ++ (answered_in w (first_event w) ++ more))))
    → (all : List Event) → IsCleanRun start all → WritesPrefix before now (key_text (answered_keys start all))
conversation_stops start w under_way before between now so on front all clean =
    let left = so.rest all clean in
    let later = clean_more w left.0 on left.1 in
    subst (WritesPrefix before now) (sym (left.2 ∙ ap (λ ks. so.told ++ key_text (so.gathered ++ ks)) later.2))
    (front_behind before between now so.told (key_text (so.gathered ++ (answered_in w (first_event w) ++ answered_keys (happens w (first_event w)) later.0))) so.written
    (front so.gathered so.gathers (answered_keys (happens w (first_event w)) later.0)))

-- a last line that fails
pub conversation_unfinished : (start w : Scene) (end : End) (under_way : KeyLine) (before between now : Option (List ℕ)) → Conversation start w under_way before between → ended w.core.phase ≡ Some end
    → ((held : List Answered) → Holds held under_way → WritesPrefix between now (last_line held))
    → (all : List Event) → IsCleanRun start all → WritesPrefix before now (key_text (answered_keys start all))
conversation_unfinished start w end under_way before between now so is front all clean =
    let left = so.rest all clean in
    let text : key_text (answered_keys start all) ≡ so.told ++ last_line so.gathered =
    left.2 ∙ ap (λ es. so.told ++ key_text (so.gathered ++ answered_keys w es)) (clean_none w end left.0 is left.1)
    ∙ ap (λ g. so.told ++ key_text g) (append-nil so.gathered) ∙ ap (λ l. so.told ++ l) (gathered_text so.gathered so.gathers.echoes) in
    subst (WritesPrefix before now) (sym text) (front_behind before between now so.told (last_line so.gathered) so.written (front so.gathered so.gathers.holds))

-- the end, and the line under way with it
pub conversation_ends : (start w : Scene) (end : End) (under_way : KeyLine) (before between now : Option (List ℕ)) → Conversation start w under_way before between → ended w.core.phase ≡ Some end
    → ((held : List Answered) → Holds held under_way → Appends between now (last_line held)) → Talks (start ⇒ w) end (before ⇒ now)
conversation_ends start w end under_way before between now so is finished =
    let all = so.goes [] (subst (λ o. IsSome o) (sym is) refl) in
    let text : key_text (answered_keys start all.0) ≡ so.told ++ last_line so.gathered =
    all.3 ∙ ap (λ g. so.told ++ key_text g) (append-nil so.gathered) ∙ ap (λ l. so.told ++ l) (gathered_text so.gathered so.gathers.echoes) in
    record {
      run = record { events = all.0; clean = all.1; world = all.2; end_is = is };
      told = subst (Appends before now) (sym text) (Appends-trans before between now so.told (last_line so.gathered) so.written (finished so.gathered so.gathers.holds));
    }

-- where no key is under way none is answered next
pub none_answered : (w : Scene) → slice_get w.down 0 ≡ None → answered_in w (first_event w) ≡ []
none_answered w none = quiet w.down w.up none
  where
    quiet : (down up : List ℕ) → slice_get down 0 ≡ None → answered_in (record w { down = down }) (first_of down up) ≡ []
    quiet [] [] none = refl
    quiet [] (u ∷ up) none = refl
    quiet (c ∷ down) up none = cc

-- the key under way is answered next, by what joins the answers under way
one_answered : (w next : Scene) (key : ℕ) → slice_get w.down 0 ≡ Some key → next ≡ happens w (first_event w)
    → (answered : Answered) × (answered_in w (first_event w) ≡ answered ∷ []) × (answered.key ≡ key) × (next.up ≡ w.up ++ answered.answer)
one_answered w next key some is = taken w.down some is
  where
    taken : (down : List ℕ) → slice_get down 0 ≡ Some key → next ≡ happens (record w { down = down }) (first_event (record w { down = down }))
        → (answered : Answered) × (answered_in (record w { down = down }) (first_event (record w { down = down })) ≡ answered ∷ []) × (answered.key ≡ key) × (next.up ≡ w.up ++ answered.answer)
    taken [] some is = cc
    taken (c ∷ down) some is = (record { key = c; answer = (take_of w.machine c).answer }, refl, cc, ap (λ (v : Scene). v.up) is)

-- what stands behind a list that was joined
joined_after : (xs ys : List ℕ) → slice_range (xs ++ ys) (length xs) (length (xs ++ ys)) ≡ ys
joined_after xs ys = take_rest (xs ++ ys) (length xs) ∙ drop-append_seam xs ys

answered_is : (a : Answered) (key : ℕ) (answer : List ℕ) → a.key ≡ key → a.answer ≡ answer → a ≡ record { key = key; answer = answer }
answered_is a key answer same_key same_answer = ap (λ k. record { key = k; answer = a.answer }) same_key ∙ ap (λ l. record { key = key; answer = l }) same_answer

-- the key under way is answered next, by the answers that were not there before
pub answered_next : (w next : Scene) (key : ℕ) (waiting up answer : List ℕ) → slice_get w.down 0 ≡ Some key → next ≡ happens w (first_event w) → waiting ≡ w.up → up ≡ next.up
    → answer ≡ slice_range up (length waiting) (length up) → answered_in w (first_event w) ≡ record { key = key; answer = answer } ∷ []
answered_next w next key waiting up answer first is waiting_is up_is answer_is =
    let one = one_answered w next key first is in
    let behind : slice_range up (length waiting) (length up) ≡ one.0.answer =
    ap (λ l. slice_range l (length waiting) (length l)) (up_is ∙ one.3)
    ∙ ap (λ l. slice_range (w.up ++ one.0.answer) (length l) (length (w.up ++ one.0.answer))) waiting_is ∙ joined_after w.up one.0.answer in
    one.1 ∙ ap (λ a. a ∷ []) (answered_is one.0 key answer one.2 (sym behind ∙ sym answer_is))

-- the world of a dialogue, from its parts
pub opens_dialogue : (stage : Stage) (tapes opened_tapes known : List TapeValue) (plan : PlanValue) (odt : Machine) (world : Scene) (waiting : List ℕ)
    → opened_tapes ≡ tapes → tapes ≡ known → plan ≡ starting (plan_of_all opened_tapes) stage.start → odt ≡ machine_of stage.console.style (replicate stage.console.words 0) → waiting ≡ []
    → world ≡ opened odt (begun plan 0 false dialogue_patience) waiting → world ≡ dialogue_opening known stage
opens_dialogue stage tapes opened_tapes known plan odt world waiting same is plan_is odt_is waits world_is =
    world_is ∙ ap (λ m. opened m (begun plan 0 false dialogue_patience) waiting) odt_is
    ∙ ap (λ ws. opened (machine_of stage.console.style (replicate stage.console.words 0)) (begun plan 0 false dialogue_patience) ws) waits
    ∙ ap (λ p. opened (machine_of stage.console.style (replicate stage.console.words 0)) (begun p 0 false dialogue_patience) []) plan_is
    ∙ ap (λ ts. dialogue_opening ts stage) (same ∙ is)

-- no tapes were taken
pub tapes_fault : (inputs rests : List (Option (List ℕ))) (out : Option (List ℕ)) (stage : Stage) (why : CommandFault) → Keeps out out → AreTapesFault inputs rests why → IsDialogueFault (inputs ⇒ rests) stage (out ⇒ out) why
tapes_fault inputs rests out stage (fault.Tape number refusal) keeps failed = (failed, keeps)
tapes_fault inputs rests out stage (fault.ReadTape number) keeps failed = (failed, keeps)
tapes_fault inputs rests out stage fault.Memory keeps failed = inl keeps
tapes_fault inputs rests out stage other keeps failed = absurd failed

-- no machine was made
pub machine_fault : (inputs rests : List (Option (List ℕ))) (out : Option (List ℕ)) (stage : Stage) (why : CommandFault) → AreAllTaken inputs rests → Keeps out out → IsMachineFault stage.console.words why
    → IsDialogueFault (inputs ⇒ rests) stage (out ⇒ out) why
machine_fault inputs rests out stage fault.TooLarge taken keeps failed = (taken, failed, keeps)
machine_fault inputs rests out stage fault.Memory taken keeps failed = inl keeps
machine_fault inputs rests out stage other taken keeps failed = absurd failed

some_report : (counts end mode words : List ℕ) → 0 < length (((line counts ++ end) ++ mode) ++ words)
some_report counts end mode words = omega (arith, length-append ((line counts ++ end) ++ mode) words, length-append (line counts ++ end) mode, length-append (line counts) end, length-append counts (10 ∷ []))

-- a report has some text
report_some : (w : Scene) → 0 < length (report w)
report_some w =
    some_report (life_text w) (line (codes "end " ++ end_text (ended w.core.phase))) (line (codes "odt " ++ mode_name w.machine.mode))
    (flat_map (λ word. line (held_word_text w.machine.memory word)) w.core.plan.words)

module _ (inputs rests : List (Option (List ℕ))) (stage : Stage) (tapes : List TapeValue) (layouts : List Layout) (are : AreTapes inputs rests tapes layouts) (world : Scene)
    (opens : world ≡ dialogue_opening (tapes_of are.texts) stage) where
  -- the text of a run from there
  text_is : (last : Scene) (end : End) (run : RunsTo world last end) → IsDialogueText (inputs ⇒ rests) stage end (key_text (answered_keys world run.events) ++ report last)
  text_is last end run =
      subst (λ v. (r : RunsTo v last end) → IsDialogueText (inputs ⇒ rests) stage end (key_text (answered_keys v r.events) ++ report last)) (sym opens)
      (λ r. record { texts = are.texts; taken = are.taken; last = last; run = r; told = refl }) run

  kept : IsMachine (machine_of stage.console.style (replicate stage.console.words 0)) → IsHost world.core → IsKept world
  kept machine host =
      subst IsKept (sym opens)
      (opening_kept (machine_of stage.console.style (replicate stage.console.words 0)) (starting (plan_of_all (tapes_of are.texts)) stage.start) 0 dialogue_patience [] machine (subst (λ (w : Scene). IsHost w.core) opens host) (omega arith) refl (λ i below. absurd (omega arith)))

  -- the conversation stopped
  pub stopped_in_talk : (odt : Machine) (before now : Option (List ℕ)) (why : CommandFault) → odt ≡ machine_of stage.console.style (replicate stage.console.words 0) → IsMachine odt → IsHost world.core → IsTalkFault why
      → ((events : List Event) → IsCleanRun world events → WritesPrefix before now (key_text (answered_keys world events))) → IsDialogueFault (inputs ⇒ rests) stage (before ⇒ now) why
  stopped_in_talk odt before now why odt_is machine host talk front = told why talk
    where
      ends : ComesToEnd world
      ends = comes_to_end world (kept (subst IsMachine odt_is machine) host)

      part : IsDialogueInPart (inputs ⇒ rests) stage (before ⇒ now)
      part = record {
        end = ends.end;
        text = key_text (answered_keys world ends.run.events) ++ report ends.last;
        is_text = text_is ends.last ends.end ends.run;
        written = prefix_longer before now (key_text (answered_keys world ends.run.events)) (report ends.last) (report_some ends.last) (front ends.run.events ends.run.clean);
      }

      told : (other : CommandFault) → IsTalkFault other → IsDialogueFault (inputs ⇒ rests) stage (before ⇒ now) other
      told fault.Write talk = part
      told fault.Memory talk = inr part
      told other talk = absurd talk

  -- the report was not made
  no_report : (last : Scene) (end : End) (before now : Option (List ℕ)) → Talks (world ⇒ last) end (before ⇒ now) → IsDialogueInPart (inputs ⇒ rests) stage (before ⇒ now)
  no_report last end before now talks = record {
    end = end;
    text = key_text (answered_keys world talks.run.events) ++ report last;
    is_text = text_is last end talks.run;
    written = prefix_longer before now (key_text (answered_keys world talks.run.events)) (report last) (report_some last) (front_whole before now (key_text (answered_keys world talks.run.events)) talks.told);
  }

  -- the report was written in part
  report_in_part : (last : Scene) (end : End) (before between now : Option (List ℕ)) → Talks (world ⇒ last) end (before ⇒ between) → WritesProperPrefix between now (report last) → IsDialogueInPart (inputs ⇒ rests) stage (before ⇒ now)
  report_in_part last end before between now talks written = record {
    end = end;
    text = key_text (answered_keys world talks.run.events) ++ report last;
    is_text = text_is last end talks.run;
    written = prefix_behind before between now (key_text (answered_keys world talks.run.events)) (report last) talks.told written;
  }

  -- the report was not written whole
  pub report_failed : (last : Scene) (end : End) (before between now : Option (List ℕ)) (why : CommandFault) → Talks (world ⇒ last) end (before ⇒ between) → IsReportFault between now (report last) why → IsDialogueFault (inputs ⇒ rests) stage (before ⇒ now) why
  report_failed last end before between now fault.Write talks failed = report_in_part last end before between now talks failed
  report_failed last end before between now fault.Memory talks failed = inr (no_report last end before now (subst (λ between. Talks (world ⇒ last) end (before ⇒ between)) (sym failed) talks))
  report_failed last end before between now other talks failed = absurd failed

  -- all was written
  pub dialogue_made : (last : Scene) (end : End) (before between now : Option (List ℕ)) → Talks (world ⇒ last) end (before ⇒ between) → Appends between now (report last) → IsDialogue (inputs ⇒ rests) stage (before ⇒ now) end
  dialogue_made last end before between now talks written = record {
    text = key_text (answered_keys world talks.run.events) ++ report last;
    is_text = text_is last end talks.run;
    written = Appends-trans before between now (key_text (answered_keys world talks.run.events)) (report last) talks.told written;
  }
