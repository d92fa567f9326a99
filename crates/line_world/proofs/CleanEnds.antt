-- How a load ends on a line that loses nothing: what the host then says, and what memory holds.
use Rattle.std.proofs.Common.{◌≡◌, ◌≢◌, ℕ, ◌+◌, ◌<◌, ◌≤◌, ◌⊎◌, Bool, true, false, ltb, Some, None, Option, List, [], ◌∷◌, length, inl, inr, refl, arith, ap, sym, subst, ◌∙◌}
use Rattle.std.specs.Prelude.{◌==◌, ◌&&◌, if◌then◌else◌, IsSome}
use Rattle.std.specs.Option.{is_none}
use Rattle.std.proofs.lemmas.Bool.Decides.{nat_tests}
use Rattle.octal.specs.Octal.{digit_of}
use Rattle.tape_image.specs.Memory.{top_of}
use Rattle.tape_image.specs.Word.{WordValue}
use Rattle.tape_image.specs.Plan.{PlanValue}
use Rattle.tape_image.specs.Overlay.{IsOverlay}
use Rattle.odt_machine.specs.Machine.{Machine, is_word}
use Rattle.host_core.specs.declared.heard.Heard.{Heard}
use Rattle.host_core.specs.declared.heard.Heard.TheVariants.{Got, Quiet as Silence}
use Rattle.host_core.specs.declared.phase.Visit.TheVariants.{Look}
use Rattle.host_core.specs.declared.phase.End.{End}
use Rattle.host_core.specs.declared.phase.End.TheVariants.{Loaded, Started, Uncertain, MaybeStarted, GaveUp, NoWord, WontHold}
use Rattle.host_core.specs.declared.phase.Phase.{Phase}
use Rattle.host_core.specs.declared.phase.Phase.TheVariants.{Settle, Sync, Address, Go, Ended}
use Rattle.host_core.specs.declared.turn.Turn.{Turn}
use Rattle.host_core.specs.declared.turn.Turn.TheVariants.{Next, Mark, Stop, Stray, Timeout}
use Rattle.host_core.specs.Core.{Core, word_nr, word_under_way, start_of, first_phase, ended}
use Rattle.host_core.specs.Host.{IsHost, EndFits, MarkFits, PhaseFits, IsPastMark, basis_of}
use Rattle.host_core.specs.PhaseTable.{Move, move, taken, turn_of, hears, waits, sends, listens, after_words}
use Rattle.host_core.proofs.Turns.{kept}
use Rattle.host_core.proofs.Frame.{on_test, on_move}
use Rattle.line_world.specs.declared.event.Event.{Event}
use Rattle.host_core.specs.Console.{resynchronise_of}
use Rattle.line_world.specs.Scene.{Scene, Toll, toll_of}
use Rattle.line_world.specs.World.{happens, after, first_of, IsCleanRun}
use Rattle.line_world.specs.Site.{site, site_of, IsThere, ground}
use Rattle.line_world.specs.Invariant.{IsKept, InPhase, EndIsPaid}
use Rattle.line_world.specs.Safe.{OnlyImage}
use Rattle.line_world.specs.CleanText.{clean_text}
use Rattle.line_world.specs.CleanLine.{IsAtOpening, LiesIn, full_end, StopsAtWord, LoadsClean}
use Rattle.line_world.proofs.Frame.{scene}
use Rattle.line_world.proofs.Silence.{past_mark}
use Rattle.line_world.proofs.Events.{Steps, kept_event, kept_events, steps_events, all_standing, under_mark, loaded}

-- ---- no step ends a life as one that began with the mark set

-- the life has not ended so
abbrev NoMaybe : Phase → Type 0
NoMaybe phase = phase ≡ Ended MaybeStarted → ⊥

-- a step that sets the mark goes on to the echo of `G`
abbrev MarkGoes : Move → Type 0
MarkGoes m = m.next.going ≡ true → m.next.phase ≡ Go

not_both : (b : Bool) → b ≡ false → b ≡ true → ⊥
not_both b e f = cc

words_go : (core : Core) (start : Option ℕ) → core.going ≡ false → MarkGoes (after_words core start)
words_go core None e f = absurd (not_both core.going e f)
words_go core (Some s) e f = absurd (not_both core.going e f)

mark_goes : (core : Core) (turn : Turn) → core.going ≡ false → MarkGoes (taken core turn)
mark_goes core Next e =
    on_move MarkGoes (ltb core.verified (length core.plan.words)) (sends core (digit_of (word_under_way core).address 1) (Address Look 1)) (after_words core core.plan.start)
    (λ _ f. absurd (not_both core.going e f)) (λ _. words_go core core.plan.start e)
mark_goes core Mark e = λ f. refl
mark_goes core Stray e =
    on_move MarkGoes (ltb core.spent core.patience) (listens (record core { spent = core.spent + 1 }) Settle) (listens core (Ended GaveUp))
    (λ _ f. absurd (not_both core.going e f)) (λ _ f. absurd (not_both core.going e f))
mark_goes core Timeout e =
    on_move MarkGoes (ltb core.spent core.patience) (sends (record core { spent = core.spent + 1 }) (resynchronise_of core.careful) (Sync 0)) (listens core (Ended GaveUp))
    (λ _ f. absurd (not_both core.going e f)) (λ _ f. absurd (not_both core.going e f))
mark_goes core turn e = λ f. absurd (not_both core.going e f)

-- under the mark only the echo of `G` is awaited, or the life is over
marked_hears : (core : Core) (word : WordValue) (start : ℕ) (phase : Phase) (c : ℕ) → IsPastMark phase → NoMaybe phase → NoMaybe (taken core (hears core.careful word start phase c)).next.phase
marked_hears core word start Go c past none = on_test (λ v. NoMaybe (taken core (if v then Stop Started else Stop Uncertain)).next.phase) (c == 71) (λ _ e. cc) (λ _ e. cc)
marked_hears core word start (Ended end) c past none = none
marked_hears core word start phase c past none = absurd past

marked_waits : (core : Core) (phase : Phase) → IsPastMark phase → NoMaybe phase → NoMaybe (taken core (waits core.careful phase)).next.phase
marked_waits core Go past none = λ e. cc
marked_waits core (Ended end) past none = none
marked_waits core phase past none = absurd past

marked_move : (core : Core) (heard : Heard) → IsPastMark core.phase → NoMaybe core.phase → NoMaybe (move core heard).next.phase
marked_move core (Got c) past none = marked_hears core (word_under_way core) (start_of core) core.phase c past none
marked_move core Silence past none = marked_waits core core.phase past none

no_maybe : (core : Core) (heard : Heard) → IsHost core → NoMaybe core.phase → NoMaybe (move core heard).next.phase
no_maybe core heard h none = elim core.going as (λ v. core.going ≡ v → NoMaybe (move core heard).next.phase) [
  | true ↦ λ e. marked_move core heard (past_mark core h.mark e) none
  | false ↦ λ e over.
      let going : (move core heard).next.going ≡ true = subst (λ p. PhaseFits p (basis_of (move core heard).next)) over (kept core heard h).fits in
      apart (move core heard).next.phase over (mark_goes core (turn_of core heard) e going)
] refl
  where
    apart : (phase : Phase) → phase ≡ Ended MaybeStarted → phase ≡ Go → ⊥
    apart phase e f = cc

first_no_maybe : (plan : PlanValue) → NoMaybe (first_phase plan 0 false)
first_no_maybe plan = on_test (λ v. NoMaybe (if v then Ended Loaded else Settle)) (0 == length plan.words && is_none plan.start) (λ _ e. cc) (λ _ e. cc)

-- ---- on a line that loses nothing

-- nothing more is lost
record StaysClean (w next : Scene) : Type 0 where
  pub lost : next.lost ≡ w.lost
  pub phase : NoMaybe next.core.phase

clean_event : (m : Machine) (core : Core) (down up : List ℕ) (lost : Toll) → IsHost core → NoMaybe core.phase → StaysClean (scene m core down up lost) (happens (scene m core down up lost) (first_of down up))
clean_event m core (c ∷ down) up lost h none = record { lost = refl; phase = none }
clean_event m core [] (c ∷ up) lost h none = record { lost = refl; phase = no_maybe core (Got c) h none }
clean_event m core [] [] lost h none = record { lost = refl; phase = no_maybe core Silence h none }

clean_events : (w : Scene) (events : List Event) → IsKept w → NoMaybe w.core.phase → IsCleanRun w events → StaysClean w (after w events)
clean_events w [] k none run = record { lost = refl; phase = none }
clean_events w (event ∷ events) k none run =
    let first : StaysClean w (happens w event) = subst (λ (e : Event). StaysClean w (happens w e)) (sym run.1) (clean_event w.machine w.core w.down w.up (toll_of w) k.host none) in
    let rest = clean_events (happens w event) events (kept_event w event k) first.phase run.2 in
    record { lost = rest.lost ∙ first.lost; phase = rest.phase }

-- an end that came without a loss
record Ending (w now : Scene) (end : End) : Type 0 where
  pub kept : IsKept now
  pub steps : Steps w now
  pub lost : now.lost ≡ 0
  pub fits : EndFits end (basis_of now.core)
  pub paid : EndIsPaid end now.machine.memory now.core.patience now.core.spent now.lost
  pub mark : MarkFits now.core.going now.core.plan.start (Ended end)
  pub other : end ≢ MaybeStarted

ended_is : (phase : Phase) (end : End) → ended phase ≡ Some end → phase ≡ Ended end
ended_is (Ended e) end is = cc
ended_is phase end is = absurd (cc)

ending : (w : Scene) (events : List Event) (end : End) → IsAtOpening w → IsKept w → IsCleanRun w events → ended (after w events).core.phase ≡ Some end → Ending w (after w events) end
ending w events end o k run is =
    let now = after w events in
    let over : now.core.phase ≡ Ended end = ended_is now.core.phase end is in
    let at_end : IsKept now = kept_events w events k in
    let first : NoMaybe w.core.phase = subst NoMaybe (sym (ap (λ (core : Core). core.phase) o.fresh)) (first_no_maybe w.core.plan) in
    let clean : StaysClean w now = clean_events w events k first run in
    record {
      kept = at_end;
      steps = steps_events w events k;
      lost = clean.lost ∙ o.none_lost;
      fits = subst (λ (p : Phase). PhaseFits p (basis_of now.core)) over at_end.host.fits;
      paid = (subst (λ (p : Phase). InPhase p (ground now) (site now) now.down now.up now.core.patience now.core.spent (toll_of now)) over at_end.phase).1;
      mark = subst (λ (p : Phase). MarkFits now.core.going now.core.plan.start p) over at_end.host.mark;
      other = λ e. clean.phase (over ∙ ap Ended e);
    }

-- ---- the two ways in which such a load ends

-- the words that lie in memory are the same all the way
lies_same : (w now : Scene) (i : ℕ) → Steps w now → is_word now.machine.memory (word_nr now.core.plan.words i).address ≡ is_word w.machine.memory (word_nr w.core.plan.words i).address
lies_same w now i s = ap (λ (p : PlanValue). is_word now.machine.memory (word_nr p.words i).address) s.plan ∙ same_size w.machine.memory now.machine.memory (word_nr w.core.plan.words i).address s.bytes.size
  where
    same_size : (memory other : List ℕ) (a : ℕ) → length other ≡ length memory → is_word other a ≡ is_word memory a
    same_size memory other a same = rw same refl

past_lies : (memory : List ℕ) (a : ℕ) → top_of memory ≤ a → is_word memory a ≡ true → ⊥
past_lies memory a past lies = grind (arith, nat_tests)

started_full : (start : Option ℕ) → IsSome start → Started ≡ full_end start
started_full None h = absurd (cc h)
started_full (Some s) h = refl

mark_start : (going : Bool) (start : Option ℕ) (phase : Phase) → going ≡ true → MarkFits going start phase → IsSome start
mark_start true start phase e h = h.0
mark_start false start phase e h = absurd (not_both false refl e)

standing_loaded : (going : Bool) (verified n i : ℕ) → verified ≡ n → i < n → i < (if going then n else verified)
standing_loaded true verified n i all below = below
standing_loaded false verified n i all below = omega arith

-- every word of the plan stands
abbrev AllStand : Scene → Type 0
AllStand now = (i : ℕ) → i < length now.core.plan.words → IsThere (site_of now i)

loaded_stand : (now : Scene) → IsKept now → now.core.verified ≡ length now.core.plan.words → AllStand now
loaded_stand now k all i below = k.words i (standing_loaded now.core.going now.core.verified (length now.core.plan.words) i all below)

marked_stand : (now : Scene) → IsKept now → now.core.going ≡ true → AllStand now
marked_stand now k e i below = k.words i (under_mark now.core.going now.core.verified (length now.core.plan.words) i e below)

-- the end of a load whose plan is this one: all words were loaded, or the word under way does not lie in memory
abbrev EndIsOf : Scene → End → Type 0
EndIsOf now end =
    ((end ≡ full_end now.core.plan.start) × AllStand now)
    ⊎ ((end ≡ NoWord (word_nr now.core.plan.words now.core.verified).address) × (now.core.verified < length now.core.plan.words) × (LiesIn now now.core.verified → ⊥))

end_is_of : (w now : Scene) (end : End) → Ending w now end → EndIsOf now end
end_is_of w now Loaded e = inl (ap full_end (sym e.fits.1), loaded_stand now e.kept e.fits.0)
end_is_of w now Started e = inl (started_full now.core.plan.start (mark_start now.core.going now.core.plan.start (Ended Started) e.fits e.mark), marked_stand now e.kept e.fits)
end_is_of w now Uncertain e = absurd (let paid = e.paid in let lost = e.lost in omega arith)
end_is_of w now MaybeStarted e = absurd (e.other refl)
end_is_of w now GaveUp e = absurd (let paid = e.paid in let lost = e.lost in omega arith)
end_is_of w now (NoWord a) e = inr (ap NoWord e.fits.1, e.fits.0, λ lies. past_lies now.machine.memory a e.paid (ap (is_word now.machine.memory) e.fits.1 ∙ lies))
end_is_of w now (WontHold a) e = absurd e.paid

-- every word was loaded: memory is the overlay, and no mishap was met
pub record EndsWhole (before now : Scene) (end : End) : Type 0 where
  pub end_is : end ≡ full_end before.core.plan.start
  pub overlay : IsOverlay before.machine.memory before.core.plan.image now.machine.memory
  pub spent : now.core.spent ≡ 0

whole_ends : (w now : Scene) (end : End) → Ending w now end → AllStand now → end ≡ full_end now.core.plan.start → EndsWhole w now end
whole_ends w now end e stand is = record {
  end_is = is ∙ ap (λ (p : PlanValue). full_end p.start) e.steps.plan;
  overlay = subst (λ (p : PlanValue). IsOverlay w.machine.memory p.image now.machine.memory) e.steps.plan
      (loaded w.machine.memory now e.kept.host.image stand (subst (λ (p : PlanValue). OnlyImage w.machine.memory p.image now.machine.memory) (sym e.steps.plan) e.steps.bytes)).overlay;
  spent = let spent = e.kept.spent in let lost = e.lost in omega arith;
}

-- where every word of the plan lies in memory, all of them are loaded
clean_whole : (w : Scene) (events : List Event) (end : End) → IsAtOpening w → IsKept w → IsCleanRun w events → ended (after w events).core.phase ≡ Some end →
    ((i : ℕ) → i < length w.core.plan.words → LiesIn w i) → EndsWhole w (after w events) end
clean_whole w events end o k run is lies =
    let now = after w events in
    let e : Ending w now end = ending w events end o k run is in
    let size : length now.core.plan.words ≡ length w.core.plan.words = ap (λ (p : PlanValue). length p.words) e.steps.plan in
    elim (end_is_of w now end e) [
      | inl whole ↦ whole_ends w now end e whole.1 whole.0
      | inr missing ↦ absurd (missing.2 (lies_same w now now.core.verified e.steps ∙ lies now.core.verified (let below = missing.1 in omega arith)))
    ]

-- where one does not, the load stops at the first of them
clean_missing : (w : Scene) (events : List Event) (end : End) → IsAtOpening w → IsKept w → IsCleanRun w events → ended (after w events).core.phase ≡ Some end →
    (i : ℕ) → i < length w.core.plan.words → (LiesIn w i → ⊥) → ((j : ℕ) → j < i → LiesIn w j) → StopsAtWord w (after w events) end i
clean_missing w events end o k run is i inside past before =
    let now = after w events in
    let e : Ending w now end = ending w events end o k run is in
    let size : length now.core.plan.words ≡ length w.core.plan.words = ap (λ (p : PlanValue). length p.words) e.steps.plan in
    elim (end_is_of w now end e) [
      | inl whole ↦ absurd (past (sym (lies_same w now i e.steps) ∙ (whole.1 i (omega arith)).0))
      | inr missing ↦
          let at : now.core.verified ≡ i = place now.core.verified i
          (λ less. missing.2 (lies_same w now now.core.verified e.steps ∙ before now.core.verified less))
          (λ more. past (sym (lies_same w now i e.steps) ∙ (e.kept.words i (all_standing now.core.going now.core.verified (length now.core.plan.words) i e.kept.host.within more)).0)) in
          record {
            end_is = missing.0 ∙ ap (λ (p : PlanValue). NoWord (word_nr p.words now.core.verified).address) e.steps.plan ∙ ap (λ (j : ℕ). NoWord (word_nr w.core.plan.words j).address) at;
            verified = at;
          }
    ]
  where
    place : (v i : ℕ) → (v < i → ⊥) → (i < v → ⊥) → v ≡ i
    place v i not_less not_more = elim (three v i) [ inl same ↦ same | inr other ↦ elim other [ inl less ↦ absurd (not_less less) | inr more ↦ absurd (not_more more) ] ]
      where
        three : (v i : ℕ) → (v ≡ i) ⊎ ((v < i) ⊎ (i < v))
        three v i = grind arith

-- with the keys of the whole load, how a load on such a line ends
pub clean_ends : (w : Scene) (events : List Event) (keys : List ℕ) (end : End) → IsAtOpening w → IsKept w → IsCleanRun w events → ended (after w events).core.phase ≡ Some end →
    (((i : ℕ) → i < length w.core.plan.words → LiesIn w i) → keys ≡ clean_text w.core.careful w.core.plan.words w.machine.memory w.core.plan.start) → LoadsClean w (after w events) keys end
clean_ends w events keys end o k run is keys_are = record {
  whole = λ lies. let all = clean_whole w events end o k run is lies in record { end_is = all.end_is; overlay = all.overlay; keys_are = keys_are lies; spent = all.spent };
  missing = clean_missing w events end o k run is;
}
