-- A load is a life.
use Rattle.std.proofs.Common.{◌≡◌, ◌≤◌, ◌<◌, ◌^◌, ◌+◌, ◌-◌, ◌⊎◌, ℕ, Bool, true, false, not, ◌&&◌, ◌||◌, if◌then◌else◌, List, [], ◌∷◌, ◌++◌, length, Option, Some, None, Ok, refl, sym, subst, ap, ◌∙◌, inl, inr, arith, append-nil, append_assoc}
use Rattle.std.specs.Prelude.{Contains, ◌==◌, is_none, is_some, option_to_list}
use Rattle.std.specs.Io.KnownBytes.{Keeps}
use Rattle.std.proofs.KnownBytes.{Keeps-trans}
use Rattle.tape_values.specs.Told.{IsAsTold}
use Rattle.tape_image.specs.Plan.{PlanValue, IsPlan}
use Rattle.host_core.specs.declared.progress.Progress.{Progress}
use Rattle.host_core.specs.Console.{go}
use Rattle.host_core.specs.Core.{Core, begun, begun_by}
use Rattle.host_core.specs.Laws.{led}
use Rattle.host_devices.specs.declared.item.Item.{Item}
use Rattle.host_devices.specs.Dialogue.{dialogue, keys_of}
use Rattle.host_devices.specs.Turns.{most_turns}
use Rattle.load_engine.specs.Driving.{LoadSession, LoadStop as Stop, driving}
use Rattle.engine.specs.Stopping.{keep_fault, line_fault}
use Rattle.engine.specs.declared.stop.Stop.TheVariants.{Ended, KeepFailed, CutOff}
use Rattle.host_devices.specs.declared.item.Kept.{Kept}
use Rattle.engine.specs.Keeping.{IsKeptBy, KeptBy}
use Rattle.engine.specs.Session.{SessionTold}
use Rattle.load_engine.specs.Driven.{told_by as session_told_by}
use Rattle.load_engine.proofs.Sessions.{core_is, session_said}
use Rattle.load_lives.specs.Keepers.{WentOutAt}
use Rattle.load_lives.specs.Lives.{Life, WireAndRecord, GoesOnFrom, IsLeft, PassesOver, last_core}
use Rattle.load_lives.specs.Stops.{IsBeginning, WentOut}
use Rattle.load_lives.proofs.Records.{says_sound}
use Rattle.load_lives.proofs.Stopping.{unsent_out}
use Rattle.request_values.specs.declared.options.LoadOptions.{LoadOptions}
use Rattle.load_record.specs.declared.version.Version.TheVariants.{Second}
use Rattle.load_record.specs.Keeper.{Keeper, HoldsRecord}
use Rattle.load_record.specs.Reading.{Says}
use Rattle.load_record.specs.RecordText.{record_text}
use Rattle.exchange_law.specs.Law.{said_all}
use Rattle.stub_engine.specs.Keeping.{words_kept}
use Rattle.stub_engine.proofs.Sessions.{said_append}
use Rattle.exchange_law.specs.Start.{program as stub_program}
use Rattle.exchange_law.specs.Line.{Link, Passes}
use Rattle.exchange_law.proofs.Links.{passes_split}
use Rattle.load_lives.proofs.FastFirst.{passes_fewer}
use Rattle.stub_engine.specs.Parts.{AreWorth, StubsStop, in_vain_after}
use Rattle.stub_engine.specs.declared.typist.Typist.{Typist}
use Rattle.load_lives.specs.FastLives.{FastLife, LinkAndRecord, PassesAt, last_core as fast_core}
use Rattle.load_lives.specs.FastLooksFirst.{FastLookingLife, IsFastLookingLife}
use Rattle.load_lives.specs.StubParts.{ArePlain, AreStubParts, StubPart, stubs_said, verified_after, verified_by}
use Rattle.host_devices.specs.Devices.{Devices, LineTold, devices}
use Rattle.looking_law.specs.RecordLook.{HasLooked, HasLookedAs}
use Rattle.sample_looks.specs.declared.finding.Finding.{Finding}
use Rattle.sample_looks.specs.declared.finding.Finding.TheVariants.{AllStand, Stale, Unfinished}
use Rattle.sample_looks.specs.LooksFirst.{LookingLife, IsLookingLife, SampleLooks}
use Rattle.sample_looks.proofs.OfRecord.{are_of_the_record}
use Rattle.machine_load.specs.declared.load_end.LoadEnd.{LoadEnd}
use Rattle.machine_load.specs.declared.load_end.LoadEnd.TheVariants.{Driven}
use Rattle.machine_load.specs.declared.looks.Looks.{Looks}
use Rattle.machine_load.specs.declared.stubs.Stubs.{Stubs}
use Rattle.machine_load.specs.Asked.{opened_as, task, ◌⇒◌}
use Rattle.machine_load.specs.Driving.{IsDrivenOn}
use Rattle.machine_load.specs.Lives.{AgainGoesOut, CameToAFastLife, CameToTwoFastLives, FiledLoad, GoesOut, HostGoesOut, LooksGoOut, PartsGoOut, StubsGoOut, LoadsAreFastLives, LoadsAreLives, of_file, with_losses}
use Rattle.machine_load.specs.Load.{SurroundingsTold, Finish, IsBusyLife, IsLoad, IsOpening, IsHeldUp, IsIdleLife, IsLived, words_taken}
use Rattle.machine_load.specs.Looks.{AreLooks, behind_looks, care_of, held_up_by, highest_of, vouched_for}
use Rattle.reading_core.specs.Reader.{Manner, manner_of}
use Rattle.machine_load.specs.Parts.{AreBrought, AreKept, ArePartsOver, Course, Held, IsDrivenUnless, LooksAgain, Unless, held, held_back, host_of, stop_of, stubs_of, told_by, turns_of, typist_for}
use Rattle.load_engine.specs.Driven.{IsDriven, turns_give}
use Rattle.machine_load.specs.Stubs.{hindrance_of}
use Rattle.machine_load.proofs.Faults.{all_stand}
use Rattle.machine_load.proofs.Highest.{is_highest}
use Rattle.machine_load.proofs.Renewed.{EachKept, HoldsFront, host_holds, stubs_front, stubs_held, written_says}

-- a load that is not careful begins with a plain host
plain_core : {told : Option (List ℕ)} (plan : PlanValue) (options : LoadOptions) {core : Core} (o : IsOpening told plan options core) → options.careful ≡ false →
    core ≡ begun plan (words_taken options.recheck o.said) o.said.going options.patience
plain_core plan options o plain = o.core_is ∙ ap (λ careful. begun_by careful plan (words_taken options.recheck o.said) o.said.going options.patience) plain

-- no more words count as verified than the record says
fewer : (none : Bool) (n : ℕ) → (if none then 0 else n) ≤ n
fewer true n = omega arith
fewer false n = omega arith

-- what is told of a record is its text
told_text : (told : Option (List ℕ)) (text old : List ℕ) → IsAsTold told text → told ≡ Some old → text ≡ old
told_text None text old is same = absurd (cc same)
told_text (Some told) text old is same = is ∙ some_of told old same
  where
    value : List ℕ → Option (List ℕ) → List ℕ
    value otherwise (Some x) = x
    value otherwise None = otherwise

    some_of : (a b : List ℕ) → Some a ≡ Some b → a ≡ b
    some_of a b is = ap (value a) is

same_text : (a b : List ℕ) → Some a ≡ Some b → a ≡ b
same_text a b is = told_text (Some b) a b (ap_value is) refl
  where
    value : Option (List ℕ) → List ℕ
    value (Some x) = x
    value None = a

    ap_value : Some a ≡ Some b → a ≡ b
    ap_value same = ap value same

went_out : (stop : Stop) (all told items : List Item) → WentOutAt stop all told items → WentOut all told items
went_out (KeepFailed fault) all told items out = inl out
went_out (CutOff cut) all told items out = out
went_out (Ended end) all told items out = out

-- a record that is kept is the text that it was
kept_text : (told told' : Option (List ℕ)) (old new : List ℕ) → Keeps told told' → told ≡ Some old → told' ≡ Some new → new ≡ old
kept_text told told' old new kept was is = subst (Keeps (Some old)) is (subst (λ o. Keeps o told') was kept)

-- no key is among none
none_sent : Contains (keys_of []) go → ⊥
none_sent (k, below, is) = omega (arith, below)

-- ---- looks

-- no more words count behind looks than before them
vouched_below : (verified : ℕ) (finding : Finding) → vouched_for verified finding ≤ verified
vouched_below verified AllStand = omega arith
vouched_below verified (Stale address) = omega arith
vouched_below verified Unfinished = omega arith

-- a life may go on behind looks as it might have before them
abbrev goes_behind : (plan : PlanValue) (text : List ℕ) (v : ℕ) (finding : Finding) → GoesOnFrom plan text (record { verified = v; going = false })
    → GoesOnFrom plan text (record { verified = vouched_for v finding; going = false })
goes_behind plan text v finding goes = record {
  recorded = goes.recorded;
  says = goes.says;
  fewer = omega (arith, goes.fewer, vouched_below v finding);
  same_mark = goes.same_mark;
}

-- no more words count than the plan has
none_over : (plan : PlanValue) (v : ℕ) (text : List ℕ) (going : Bool) → GoesOnFrom plan text (record { verified = v; going = going }) → v ≤ length plan.words
none_over plan v text going goes = let sound = says_sound plan text goes.recorded goes.says in omega (arith, goes.fewer, sound.within)

less_patience : (patience spent : ℕ) → patience < 2 ^ 32 → patience - spent < 2 ^ 32
less_patience patience spent long = omega (arith, long)

-- the looks of a life are at words that its record says, and at the plan's highest where that is asked for
of_record : (careful : Bool) (plan : PlanValue) (asked : Bool) (v patience : ℕ) (recorded : Progress) (looks : Looks) (before after : LineTold) (items : List Item) → patience < 2 ^ 32 → v ≤ recorded.verified → v ≤ length plan.words → false ≡ recorded.going
    → (l : AreLooks (begun_by careful plan v false patience) asked looks before after) → LooksGoOut l items → HasLookedAs (manner_of (care_of careful) []) plan recorded items
of_record careful plan asked v patience recorded looks before after items long fewer within same l out =
    let first : Core = begun_by careful plan v false patience in
    let sampled : SampleLooks = record { plan = plan; recorded = record { verified = v; going = false }; samples = l.samples; beyond = highest_of first asked; manner = manner_of (care_of careful) []; patience = patience; items = items } in
    let looked : HasLookedAs (manner_of (care_of careful) []) plan sampled.recorded items =
    are_of_the_record sampled (record { unmarked = refl; samples = l.of_record; beyond = is_highest first asked within; asked = l.rise; patient = long })
    (record { turns = most_turns; stop = looks.stop; last = l.looked.reader; line = before.said; line' = after.said; inquired = l.looked.inquired.turns.session; out = out }) in record {
      unmarked = sym same;
      addresses = looked.addresses;
      asked = looked.asked;
      of_plan = λ k d low. elim (looked.of_plan k d low) [ inl one ↦ inl (one.0, omega (arith, one.1, fewer), one.2) | inr highest ↦ inr highest ];
      patience = looked.patience;
      patient = looked.patient;
      heard = looked.heard;
      told = looked.told;
    }

-- ---- a life at a station

-- a life of this plan came to this core, and said these items while it looked, with its stubs and behind them
abbrev FastLives : PlanValue → Core → List Item → List Item → List Item → LinkAndRecord → LinkAndRecord → Type 0
FastLives plan last looks front rest old new =
    (l : FastLookingLife) × (fast_core plan l.life ≡ last) × (l.looks ≡ looks) × (l.life.front ≡ front) × (l.life.rest ≡ rest) × IsFastLookingLife stub_program plan old l new

-- no device failed in stubs that hindered nothing
unhindered : (stop : StubsStop) → hindrance_of stop ≡ None → (line_fault (Some stop) ≡ None) × (keep_fault (Some stop) ≡ None)
unhindered (Ended end) e = (refl, refl)
unhindered (KeepFailed fault) e = absurd (cc e)
unhindered (CutOff cut) e = absurd (cc e)

-- the stubs of a load that is not careful are typed by plain hosts
plain_parts : (typist : Typist) (tape : PlanValue) (v n : ℕ) (parts : List StubPart) → typist.careful ≡ false → AreWorth typist tape v n parts → ArePlain parts
plain_parts typist tape v n [] plain worth = tt
plain_parts typist tape v n (part ∷ more) plain worth = (worth.0.typed.0 ∙ plain, plain_parts typist tape (verified_after tape v part) (in_vain_after tape v n part) more plain worth.1)

-- a life that goes on without the mark behind so many words, over a record that was read
module _ (plan : PlanValue) (v patience : ℕ) (looks front rest : List Item) (old new : LinkAndRecord) (fits : IsPlan plan) (long : patience < 2 ^ 32) (goes : GoesOnFrom plan old.text (record { verified = v; going = false })) (looked : (looks ≡ []) ⊎ HasLooked plan goes.recorded looks) (passes : PassesAt stub_program old.link (looks ++ (front ++ rest)) new.link) where
  abbrev first : Core
  first = begun plan v false patience

  left_of : (core : Core) (keep : Keeper) → HoldsFront plan core rest keep → keep.text ≡ Some new.text → IsLeft plan (record { verified = v; going = false }) core rest old.text new.text
  left_of core keep holds is =
      let same : holds.text ≡ new.text = same_text holds.text new.text (sym holds.held ∙ is) in record {
        cut = inr (subst (λ text. (missing : List ℕ) × (text ++ missing ≡ record_text Second plan core.verified core.going)) same holds.front);
        whole = λ has. sym same ∙ holds.whole has;
        alone = λ set. absurd (cc set);
      }

  front_left : (core : Core) (keep : Keeper) → HoldsFront plan core rest keep → keep.text ≡ Some new.text → (missing : List ℕ) × (new.text ++ missing ≡ record_text Second plan core.verified core.going)
  front_left core keep holds is = subst (λ text. (missing : List ℕ) × (text ++ missing ≡ record_text Second plan core.verified core.going)) (same_text holds.text new.text (sym holds.held ∙ is)) holds.front

  -- its host went on behind stubs
  behind : (parts : List StubPart) (w : ℕ) (core : Core) (stop : Stop) (before after : SessionTold Kept) (keep : Keeper) → w ≡ verified_by plan v parts → AreStubParts stub_program plan v parts → ArePlain parts → stubs_said plan v parts ≡ front
      → (session : LoadSession most_turns (driving (begun plan w false patience) core (Some stop)) before after) → WentOutAt stop (dialogue (begun plan w false patience) session.heard) session.said rest
      → HoldsFront plan core rest keep → keep.text ≡ Some new.text → FastLives plan core looks front rest old new
  behind parts w core stop before after keep here are plain said_is session out holds is =
      let all = dialogue (begun plan w false patience) session.heard in
      let turns = driving (begun plan w false patience) core (Some stop) in
      let u = unsent_out (Some stop) all session.said rest (session_said most_turns turns before after session) (went_out stop all session.said rest out) in
      let life : FastLife = record { progress = record { verified = v; going = false }; stubs = parts; patience = patience; heard = session.heard; front = front; rest = rest; unsent = option_to_list u.0 } in
      let came : fast_core plan life ≡ core = ap (λ n. led (begun plan n false patience) session.heard) (sym here) ∙ sym (core_is most_turns turns before after session) in (
        record { looks = looks; life = life },
        came,
        refl,
        refl,
        refl,
        record {
          patient = long;
          goes_on = goes;
          looked = looked;
          alone = λ set. absurd (cc set);
          stubs = are;
          plain = plain;
          stops = inr (record { front = said_is; key = u.0; rest = ap (λ n. dialogue (begun plan n false patience) session.heard) (sym here) ∙ u.1; last = refl });
          line = passes;
          left = subst (λ (c : Core). IsLeft plan (record { verified = v; going = false }) c rest old.text new.text) (sym came) (left_of core keep holds is);
          renews = λ unset. inr (inr (subst (λ (c : Core). (missing : List ℕ) × (new.text ++ missing ≡ record_text Second plan c.verified c.going)) (sym came) (front_left core keep holds is)));
        },
      )

  -- it stopped with its stubs
  within : (parts : List StubPart) (w : ℕ) (unsent : List ℕ) (keep : Keeper) → w ≡ verified_by plan v parts → AreStubParts stub_program plan v parts → ArePlain parts → stubs_said plan v parts ≡ front ++ said_all unsent → rest ≡ []
      → HoldsFront plan (begun plan w false patience) rest keep → keep.text ≡ Some new.text → FastLives plan (begun plan w false patience) looks front rest old new
  within parts w unsent keep here are plain said_is none holds is =
      let life : FastLife = record { progress = record { verified = v; going = false }; stubs = parts; patience = patience; heard = []; front = front; rest = rest; unsent = unsent } in
      let came : fast_core plan life ≡ begun plan w false patience = ap (λ n. begun plan n false patience) (sym here) in (
        record { looks = looks; life = life },
        came,
        refl,
        refl,
        refl,
        record {
          patient = long;
          goes_on = goes;
          looked = looked;
          alone = λ set. absurd (cc set);
          stubs = are;
          plain = plain;
          stops = inl (record { front = said_is; unheard = refl; unsaid = none });
          line = passes;
          left = subst (λ (c : Core). IsLeft plan (record { verified = v; going = false }) c rest old.text new.text) (sym came) (left_of (begun plan w false patience) keep holds is);
          renews = λ unset. inr (inr (subst (λ (c : Core). (missing : List ℕ) × (new.text ++ missing ≡ record_text Second plan c.verified c.going)) (sym came) (front_left (begun plan w false patience) keep holds is)));
        },
      )

-- stubs that hinder nothing have said all of it, and what they verified is kept
record AreThrough (plan : PlanValue) (w : ℕ) (all front : List Item) (keeping : Keeper) : Type 0 where
  said : all ≡ front
  held : HoldsRecord keeping plan w

through : (plan : PlanValue) (v patience : ℕ) (stubs : Stubs) (front : List Item) (before between : Devices) (keeper keeping : Keeper) → hindrance_of stubs.stop ≡ None → HoldsRecord keeper plan v
    → (brought : AreBrought (stubs_of (begun plan v false patience) (Some stubs)) before between) → AreKept of_file.calls (stubs_of (begun plan v false patience) (Some stubs)) keeper keeping
    → StubsGoOut (stubs_of (begun plan v false patience) (Some stubs)) before between brought front → AreThrough plan stubs.tally.verified (stubs_said plan v brought.all.brought.parts) front keeping
through plan v patience stubs front before between keeper keeping free holds brought kept (sent, later, unsent_is, front_is) = record {
  said =
      let nothing = brought.all.brought.all_sent none_failed.0 none_failed.1 in
      let none_sent = none_left sent later (sym nothing ∙ unsent_is) in
      brought.all.brought.items ∙ (ap (λ keys. brought.all.brought.said ++ said_all keys) (nothing ∙ sym none_sent) ∙ sym front_is);
  held = stubs_held plan v stubs.tally.verified keeper keeping holds brought.all.grows brought.all.within (subst (λ fault. EachKept fault keeper (words_kept plan.words v stubs.tally.verified) keeping) none_failed.1 kept.each);
}
  where
    none_failed : (line_fault (Some stubs.stop) ≡ None) × (keep_fault (Some stubs.stop) ≡ None)
    none_failed = unhindered stubs.stop free

    none_left : (sent later : List ℕ) → [] ≡ sent ++ later → sent ≡ []
    none_left [] later e = refl
    none_left (key ∷ sent) later e = absurd (cc e)

-- the course of a life that began without the mark
abbrev course_by : Bool → PlanValue → ℕ → ℕ → Option Stubs → Option Looks → Core → LoadEnd → Course
course_by careful plan v patience stubs again core end = record { first = begun_by careful plan v false patience; stubs = stubs; again = again; core = core; end = end }

-- that of a plain one
abbrev course_at : PlanValue → ℕ → ℕ → Option Stubs → Option Looks → Core → LoadEnd → Course
course_at plan v patience stubs again core end = course_by false plan v patience stubs again core end

-- what the host made of its keeper, by how the life ended
kept_out : (course : Course) (stop : Stop) (keeper keeper' : Keeper) → course.end ≡ Driven stop → IsKeptBy of_file.calls (turns_give (turns_of course)) keeper keeper'
    → IsKeptBy of_file.calls (turns_give (driving (host_of course) course.core (Some stop))) keeper keeper'
kept_out course stop keeper keeper' is kept = subst (λ end. IsKeptBy of_file.calls (turns_give (driving (host_of course) course.core (stop_of end))) keeper keeper') is kept

-- a life whose record is as it was, and that said nothing behind its looks
alone_lived : (plan : PlanValue) (w kept : ℕ) (going : Bool) (looks front rest : List Item) (old new : LinkAndRecord) → kept < 2 ^ 32 → (goes : GoesOnFrom plan old.text (record { verified = w; going = going })) → (looks ≡ []) ⊎ HasLooked plan goes.recorded looks
    → new.text ≡ old.text → front ≡ [] → rest ≡ [] → PassesAt stub_program old.link (looks ++ (front ++ rest)) new.link → FastLives plan (begun plan w going kept) looks front rest old new
alone_lived plan w kept going looks front rest old new long goes looked same no_front no_rest passes = (
  record { looks = looks; life = record { progress = record { verified = w; going = going }; stubs = []; patience = kept; heard = []; front = front; rest = rest; unsent = [] } },
  refl,
  refl,
  refl,
  refl,
  record {
    patient = long;
    goes_on = goes;
    looked = looked;
    alone = λ set. refl;
    stubs = tt;
    plain = tt;
    stops = inl (record { front = sym no_front ∙ sym (append-nil front); unheard = refl; unsaid = no_rest });
    line = passes;
    left = record { cut = inl same; whole = λ has. absurd (none_sent (subst (λ items. Contains (keys_of items) go) no_rest has)); alone = λ set. same };
    renews = λ unset. inr (inl (ap (λ items. keys_of (items ++ rest)) no_front ∙ ap keys_of no_rest, same));
  },
)

-- ---- two lives in a row

-- a line parts where one host ends and the next begins
record Parted (items more : List Item) (old new : Link) : Type 0 where
  between : Link
  first : PassesAt stub_program old items between
  lost : ℕ
  fewer : lost ≤ new.lost
  second : PassesAt stub_program between more (record new { lost = lost })

parted : (items more : List Item) (old new : Link) → PassesAt stub_program old (items ++ more) new → Parted items more old new
parted items more old new passes =
    let split = passes_split stub_program items more passes.found new passes.passes in
    let z : Link = split.0 in
    let f = passes_fewer stub_program z.lost more (record z { lost = 0 }) new (subst (λ n. Passes stub_program (record z { lost = n }) more new) (none z.lost) split.2) in
    let y : Link = f.0 in record {
      between = z;
      first = record { found = passes.found; reopens = passes.reopens; passes = split.1 };
      lost = y.lost;
      fewer = omega (arith, ap (λ (x : Link). x.lost) f.1);
      second = record { found = record z { lost = 0 }; reopens = inl refl; passes = subst (Passes stub_program (record z { lost = 0 }) more) (ap (λ (x : Link). record x { lost = y.lost }) (sym f.1)) f.2 };
    }
  where
    none : (k : ℕ) → k ≡ k + 0
    none k = omega arith

-- two lives: the first came to no more than its stubs, the second brought in none
record TwoLives (plan : PlanValue) (last : Core) (looks front again rest : List Item) (old new : LinkAndRecord) : Type 0 where
  between : LinkAndRecord
  core : Core
  first : FastLives plan core looks front [] old between
  lost : ℕ
  fewer : lost ≤ new.link.lost
  second : FastLives plan last again [] rest between (with_losses new lost)

-- one life, or two where words were looked at again
abbrev OneOrTwo : PlanValue → Core → List Item → List Item → List Item → List Item → LinkAndRecord → LinkAndRecord → Type 0
OneOrTwo plan last looks front again rest old new = (FastLives plan last looks front rest old new × (again ≡ [])) ⊎ TwoLives plan last looks front again rest old new

-- a second life: it looks again at words of the record that the first left, and goes on where all stand
module _ (plan : PlanValue) (v w patience : ℕ) (again rest : List Item) (old new : LinkAndRecord) (fits : IsPlan plan) (long : patience < 2 ^ 32) (within : w ≤ length plan.words) (recorded : old.text ≡ record_text Second plan w false) (passes : PassesAt stub_program old.link (again ++ rest) new.link) where
  abbrev progress : Progress
  progress = record { verified = w; going = false }

  abbrev goes : GoesOnFrom plan old.text progress
  goes = record { recorded = progress; says = subst (λ text. Says plan text (Ok progress)) (sym recorded) (written_says plan w fits within); fewer = omega arith; same_mark = refl }

  looked_again : (looks : Looks) (before seen : LineTold) → (l : AreLooks (begun plan w false patience) false looks before seen) → LooksGoOut l again → HasLooked plan progress again
  looked_again looks before seen l out = of_record false plan false w patience progress looks before seen again long (omega arith) within refl l out

  second_life : (stubs : Stubs) (looks : Looks) (held : Option LoadEnd) (core : Core) (end : LoadEnd) (before seen after : Devices) (keeping keeper' : Keeper) → w ≡ stubs.tally.verified → held_up_by looks ≡ held → HoldsRecord keeping plan w
      → (l : AreLooks (begun plan w false patience) false looks before.line seen.line) → LooksGoOut l again → (host : IsDrivenUnless held (course_at plan v patience (Some stubs) (Some looks) core end) seen after)
      → Unless held (IsKeptBy of_file.calls (turns_give (turns_of (course_at plan v patience (Some stubs) (Some looks) core end))) keeping keeper') (λ why. keeper' ≡ keeping)
      → HostGoesOut held (course_at plan v patience (Some stubs) (Some looks) core end) seen after host rest → keeper'.text ≡ Some new.text → FastLives plan core again [] rest old new
  second_life stubs looks (Some why) core end before seen after keeping keeper' here is_held holds l went host kept out is =
      subst (λ (c : Core). FastLives plan c again [] rest old new) (sym (host.core ∙ ap (λ n. behind_looks (begun plan n false patience) looks) (sym here)))
      (alone_lived plan (vouched_for w looks.finding) (patience - looks.spent) false again [] rest old new (less_patience patience looks.spent long) (goes_behind plan old.text w looks.finding goes)
      (inr (looked_again looks before.line seen.line l went)) (same_text new.text old.text (sym is ∙ (ap (λ (k : Keeper). k.text) kept ∙ (holds.written ∙ ap Some (sym recorded))))) refl out passes)
  second_life stubs looks None core end before seen after keeping keeper' here free holds l went host kept out is =
      behind plan (vouched_for w looks.finding) (patience - looks.spent) again [] rest old new fits (less_patience patience looks.spent long) (goes_behind plan old.text w looks.finding goes)
      (inr (looked_again looks before.line seen.line l went)) passes [] (vouched_for w looks.finding) core host.stop (session_told_by seen) (session_told_by after) keeper' refl tt tt refl session out'
      (host_holds false plan (vouched_for w looks.finding) (patience - looks.spent) host.stop core (session_told_by seen) (session_told_by after) keeping keeper' rest fits (less_patience patience looks.spent long)
      (omega (arith, within, vouched_below w looks.finding)) still session out' by) is
    where
      still : HoldsRecord keeping plan (vouched_for w looks.finding)
      still = subst (λ finding. HoldsRecord keeping plan (vouched_for w finding)) (sym (all_stand l.samples _ looks.stop looks.finding l.looked.found free)) holds

      same_host : behind_looks (begun plan stubs.tally.verified false patience) looks ≡ (begun plan (vouched_for w looks.finding) false (patience - looks.spent))
      same_host = ap (λ n. behind_looks (begun plan n false patience) looks) (sym here)

      driven : (d : IsDriven most_turns (driving (begun plan (vouched_for w looks.finding) false (patience - looks.spent)) core (Some host.stop)) seen after) × WentOutAt host.stop (dialogue (begun plan (vouched_for w looks.finding) false (patience - looks.spent)) d.session.heard) d.session.said rest
      driven =
          subst (λ (c : Core). (d : IsDriven most_turns (driving c core (Some host.stop)) seen after) × WentOutAt host.stop (dialogue c d.session.heard) d.session.said rest) same_host (host.driven, out)

      session : LoadSession most_turns (driving (begun plan (vouched_for w looks.finding) false (patience - looks.spent)) core (Some host.stop)) (session_told_by seen) (session_told_by after)
      session = driven.0.session

      out' : WentOutAt host.stop (dialogue (begun plan (vouched_for w looks.finding) false (patience - looks.spent)) session.heard) session.said rest
      out' = driven.1

      by : KeptBy of_file.calls (turns_give (driving (begun plan (vouched_for w looks.finding) false (patience - looks.spent)) core (Some host.stop))) keeping keeper'
      by = subst (λ (c : Core). KeptBy of_file.calls (turns_give (driving c core (Some host.stop))) keeping keeper') same_host (kept_out (course_at plan v patience (Some stubs) (Some looks) core end) host.stop keeping keeper' host.end_is kept).kept_by

-- ---- the parts of a life

module _ (plan : PlanValue) (v patience : ℕ) (looks front again rest : List Item) (old new : LinkAndRecord) (fits : IsPlan plan) (long : patience < 2 ^ 32) (goes : GoesOnFrom plan old.text (record { verified = v; going = false })) (looked : (looks ≡ []) ⊎ HasLooked plan goes.recorded looks) (passes : PassesAt stub_program old.link (looks ++ (front ++ (again ++ rest))) new.link) where
  abbrev begins : Core
  begins = begun plan v false patience

  -- where nothing was said again
  single : again ≡ [] → PassesAt stub_program old.link (looks ++ (front ++ rest)) new.link
  single none = subst (λ items. PassesAt stub_program old.link (looks ++ (front ++ (items ++ rest))) new.link) none passes

  -- two lives, by where the first ends
  abbrev lines : Type 0
  lines = Parted (looks ++ front) (again ++ rest) old.link new.link

  parted_there : lines
  parted_there = parted (looks ++ front) (again ++ rest) old.link new.link (subst (λ items. PassesAt stub_program old.link items new.link) (sym (append_assoc looks front (again ++ rest))) passes)

  -- the parts behind stubs that stopped so, by what hinders the host and by whether the last of them was in vain
  behind_stubs : (stubs : Stubs) (hindered : Option Stop) (vain : Bool) (seen_again : Option Looks) (core : Core) (end : LoadEnd) (before between seen after : Devices) (keeper keeping keeper' : Keeper) → hindrance_of stubs.stop ≡ hindered → HoldsRecord keeper plan v
      → (brought : AreBrought (stubs_of begins (Some stubs)) before between) → (see : LooksAgain (is_none hindered && vain) (begun plan stubs.tally.verified false patience) seen_again between seen)
      → (host : IsDrivenUnless (held_back hindered seen_again) (course_at plan v patience (Some stubs) seen_again core end) seen after)
      → AreKept of_file.calls (stubs_of begins (Some stubs)) keeper keeping
      → Unless (held_back hindered seen_again) (IsKeptBy of_file.calls (turns_give (turns_of (course_at plan v patience (Some stubs) seen_again core end))) keeping keeper') (λ why. keeper' ≡ keeping)
      → StubsGoOut (stubs_of begins (Some stubs)) before between brought front → AgainGoesOut (is_none hindered && vain) (begun plan stubs.tally.verified false patience) seen_again between seen see again
      → HostGoesOut (held_back hindered seen_again) (course_at plan v patience (Some stubs) seen_again core end) seen after host rest → keeper'.text ≡ Some new.text → OneOrTwo plan core looks front again rest old new
  behind_stubs stubs (Some hindered) vain None core end before between seen after keeper keeping keeper' is_hindered holds brought see host kept host_kept (sent, later, unsent_is, front_is) none out is =
      inl (
        subst (λ (c : Core). FastLives plan c looks front rest old new) (sym host.core)
            (within plan v patience looks front rest old new fits long goes looked (single none) brought.all.brought.parts stubs.tally.verified later keeping brought.all.brought.verified brought.all.brought.are_parts (plain_parts (typist_for begins) plan v 0 brought.all.brought.parts refl brought.all.brought.worth) said_is out
            (record {
              text = held.0;
              held = held.1;
              front = held.2;
              whole = λ has. absurd (none_sent (subst (λ items. Contains (keys_of items) go) out has));
            })
            (subst (λ (keeper : Keeper). keeper.text ≡ Some new.text) host_kept is)),
        none,
      )
    where
      held : (text : List ℕ) × (keeping.text ≡ Some text) × IsBeginning text (record_text Second plan stubs.tally.verified false)
      held = stubs_front plan v stubs.tally.verified keeper keeping holds brought.all.grows brought.all.within stubs.stop kept.each

      said_is : stubs_said plan v brought.all.brought.parts ≡ front ++ said_all later
      said_is =
          brought.all.brought.items ∙ (ap (λ keys. brought.all.brought.said ++ said_all keys) unsent_is ∙ (ap (λ items. brought.all.brought.said ++ items) (said_append sent later)
          ∙ (sym (append_assoc brought.all.brought.said (said_all sent) (said_all later)) ∙ ap (λ items. items ++ said_all later) (sym front_is))))
  behind_stubs stubs (Some hindered) vain (Some seen_again) core end before between seen after keeper keeping keeper' is_hindered holds brought see host kept host_kept went none out is = absurd (cc see.0)
  behind_stubs stubs None false None core end before between seen after keeper keeping keeper' free holds brought see host kept host_kept went none out is =
      let t = through plan v patience stubs front before between keeper keeping free holds brought kept went in
      inl (
        behind plan v patience looks front rest old new fits long goes looked (single none) brought.all.brought.parts stubs.tally.verified core host.stop (session_told_by seen) (session_told_by after) keeper' brought.all.brought.verified brought.all.brought.are_parts (plain_parts (typist_for begins) plan v 0 brought.all.brought.parts refl brought.all.brought.worth) t.said host.driven.session out
            (host_holds false plan stubs.tally.verified patience host.stop core (session_told_by seen) (session_told_by after) keeping keeper' rest fits long brought.all.within t.held host.driven.session out
            (kept_out (course_at plan v patience (Some stubs) None core end) host.stop keeping keeper' host.end_is host_kept).kept_by) is,
        none,
      )
  behind_stubs stubs None false (Some seen_again) core end before between seen after keeper keeping keeper' free holds brought see host kept host_kept went none out is = absurd (cc see.0)
  behind_stubs stubs None true None core end before between seen after keeper keeping keeper' free holds brought see host kept host_kept went out_again out is = absurd (cc see.again_is)
  behind_stubs stubs None true (Some seen_again) core end before between seen after keeper keeping keeper' free holds brought see host kept host_kept went out_again out is =
      let t = through plan v patience stubs front before between keeper keeping free holds brought kept went in
      let w : ℕ = stubs.tally.verified in
      let middle : LinkAndRecord = record { link = parted_there.between; text = record_text Second plan w false } in
      let same : see.looks ≡ seen_again = sym (is_some seen_again see.looks see.again_is) in
      let seen_so : (l : AreLooks (begun plan w false patience) false seen_again between.line seen.line) × LooksGoOut l again =
      subst (λ (s : Looks). (l : AreLooks (begun plan w false patience) false s between.line seen.line) × LooksGoOut l again) same (see.looked, out_again) in
      inr (record {
        between = middle;
        core = begun plan w false patience;
        first = within plan v patience looks front [] old middle fits long goes looked (subst (λ items. PassesAt stub_program old.link items parted_there.between) (ap (λ items. looks ++ items) (sym (append-nil front))) parted_there.first) brought.all.brought.parts w [] keeping
            brought.all.brought.verified brought.all.brought.are_parts (plain_parts (typist_for begins) plan v 0 brought.all.brought.parts refl brought.all.brought.worth) (t.said ∙ sym (append-nil front)) refl
            (record {
              text = record_text Second plan w false;
              held = t.held.written;
              front = ([], append-nil (record_text Second plan w false));
              whole = λ has. absurd (none_sent has);
            })
            t.held.written;
        lost = parted_there.lost;
        fewer = parted_there.fewer;
        second = second_life plan v w patience again rest middle (with_losses new parted_there.lost) fits long brought.all.within refl parted_there.second stubs seen_again (held_up_by seen_again) core end between seen after keeping keeper' refl refl t.held seen_so.0 seen_so.1 host host_kept out is;
      })
    where
      is_some : (a b : Looks) → Some a ≡ Some b → a ≡ b
      is_some a b same = ap value same
        where
          value : Option Looks → Looks
          value (Some x) = x
          value None = a

  -- no more words than the plan has
  fewer_than_all : v ≤ length plan.words
  fewer_than_all = none_over plan v old.text false goes

  -- the parts of a life
  parts_lived : (stubs : Option Stubs) (seen_again : Option Looks) (core : Core) (end : LoadEnd) (before after : Held Keeper) → HoldsRecord before.keeper plan v → (parts : ArePartsOver of_file.calls (course_at plan v patience stubs seen_again core end) before after)
      → PartsGoOut parts front again rest → after.keeper.text ≡ Some new.text → OneOrTwo plan core looks front again rest old new
  parts_lived None None core end before after holds parts (none, (not_again, out)) is =
      inl (
        behind plan v patience looks front rest old new fits long goes looked (single not_again) [] v core parts.rest.gone.host.stop (session_told_by (devices parts.rest.seen (of_file.calls.told parts.between.keeper))) (session_told_by (told_by of_file.calls after)) after.keeper refl tt tt (sym none) parts.rest.gone.host.driven.session out
            (host_holds false plan v patience parts.rest.gone.host.stop core (session_told_by (devices parts.rest.seen (of_file.calls.told parts.between.keeper))) (session_told_by (told_by of_file.calls after)) parts.between.keeper after.keeper rest fits long fewer_than_all
            (subst (λ (k : Keeper). HoldsRecord k plan v) (sym parts.stubs_kept) holds) parts.rest.gone.host.driven.session out
            (kept_out (course_at plan v patience None None core end) parts.rest.gone.host.stop parts.between.keeper after.keeper parts.rest.gone.host.end_is parts.rest.kept).kept_by) is,
        not_again,
      )
  parts_lived None (Some seen_again) core end before after holds parts (none, (not_again, out)) is = absurd (cc parts.rest.gone.looks.0)
  parts_lived (Some stubs) seen_again core end before after holds parts (went, (out_again, out)) is =
      behind_stubs stubs (hindrance_of stubs.stop) (not (stubs.tally.in_vain == 0)) seen_again core end (told_by of_file.calls before) (told_by of_file.calls parts.between) (devices parts.rest.seen (of_file.calls.told parts.between.keeper)) (told_by of_file.calls after)
      before.keeper parts.between.keeper after.keeper refl holds parts.stubs parts.rest.gone.looks parts.rest.gone.host parts.stubs_kept parts.rest.kept went out_again out is

-- a life that goes on with a progress, once its record was read
module _ (plan : PlanValue) (v patience : ℕ) (told : Option (List ℕ)) (between after : SurroundingsTold) (finish : Finish) (looks front again rest : List Item) (old new : LinkAndRecord) (fits : IsPlan plan) (long : patience < 2 ^ 32) (was : told ≡ Some old.text) (read : Keeps told between.record_text) (is : after.record_text ≡ Some new.text) (passes : PassesAt stub_program old.link (looks ++ (front ++ (again ++ rest))) new.link) where
  abbrev Came : Core → Type 0
  Came core = OneOrTwo plan core looks front again rest old new

  -- one whose record is as it was, and that said nothing behind its looks
  left_alone : (w kept : ℕ) (going : Bool) → kept < 2 ^ 32 → (goes : GoesOnFrom plan old.text (record { verified = w; going = going })) → (looks ≡ []) ⊎ HasLooked plan goes.recorded looks → Keeps between.record_text after.record_text → front ≡ [] → again ≡ [] → rest ≡ []
      → Came (begun plan w going kept)
  left_alone w kept going long goes looked alone no_front not_again no_rest = inl (
    alone_lived plan w kept going looks front rest old new long goes looked (kept_text told after.record_text old.text new.text (Keeps-trans told between.record_text after.record_text read alone) was is) no_front no_rest
        (subst (λ items. PassesAt stub_program old.link (looks ++ (front ++ (items ++ rest))) new.link) not_again passes),
    not_again,
  )

  -- one that is over at once
  idle_fast : {fast writable : Bool} (going : Bool) → GoesOnFrom plan old.text (record { verified = v; going = going }) → IsIdleLife (opened_as (begun plan v going patience) fast writable) (between ⇒ after) finish → looks ≡ [] → front ≡ [] → again ≡ [] → rest ≡ [] → Came finish.core
  idle_fast going goes idle no_looks no_front not_again no_rest =
      subst Came (sym idle.over.same) (left_alone v patience going long goes (inl no_looks) idle.left_alone.record_same no_front not_again no_rest)

  -- one that its looks hold up
  held_fast : {fast writable : Bool} (going : Bool) → GoesOnFrom plan old.text (record { verified = v; going = going }) → (held : IsHeldUp (opened_as (begun plan v going patience) fast writable) (between ⇒ after) finish)
      → LooksGoOut held.first_looks.looked looks → front ≡ [] → again ≡ [] → rest ≡ [] → Came finish.core
  held_fast {fast} true goes held out no_front not_again no_rest = absurd (cc held.first_looks.goes_on)
  held_fast {fast} false goes held out no_front not_again no_rest =
      subst Came (sym held.core_is)
      (left_alone (vouched_for v held.first_looks.looks.finding) (patience - held.first_looks.looks.spent) false (less_patience patience held.first_looks.looks.spent long)
      (goes_behind plan old.text v held.first_looks.looks.finding goes)
      (inr (of_record false plan (fast || false) v patience goes.recorded held.first_looks.looks held.first_looks.line held.first_looks.behind looks long goes.fewer (none_over plan v old.text false goes) goes.same_mark held.first_looks.looked out))
      held.first_looks.record_same no_front not_again no_rest)

  -- one that is driven
  driven_fast : {fast writable : Bool} (going : Bool) → GoesOnFrom plan old.text (record { verified = v; going = going }) → (life : IsBusyLife (IsDrivenOn of_file) (opened_as (begun plan v going patience) fast writable) (between ⇒ after) finish)
      → LooksGoOut life.first_looks.looked looks → PartsGoOut life.driven.parts front again rest → Came finish.core
  driven_fast {fast} true goes life looked out = absurd (cc life.first_looks.goes_on)
  driven_fast {fast} false goes life looked out =
      parts_lived plan (vouched_for v life.first_looks.looks.finding) (patience - life.first_looks.looks.spent) looks front again rest old new fits (less_patience patience life.first_looks.looks.spent long)
      (goes_behind plan old.text v life.first_looks.looks.finding goes)
      (inr (of_record false plan (fast || false) v patience goes.recorded life.first_looks.looks life.first_looks.line life.first_looks.behind looks long goes.fewer (none_over plan v old.text false goes) goes.same_mark life.first_looks.looked looked))
      passes finish.stubs finish.again finish.core finish.end (held life.first_looks.behind life.driven.keeper) (held life.driven.line' life.driven.keeper') life.driven.begun_so life.driven.parts out (sym life.driven.left ∙ is)

  fast_lived : {fast writable : Bool} (going : Bool) → GoesOnFrom plan old.text (record { verified = v; going = going }) → (life : IsLived (IsDrivenOn of_file) (opened_as (begun plan v going patience) fast writable) (between ⇒ after) finish) → GoesOut life looks front again rest
      → Came finish.core
  fast_lived going goes (inl idle) (no_looks, no_front, not_again, no_rest) = idle_fast going goes idle no_looks no_front not_again no_rest
  fast_lived going goes (inr (inl held)) (looked, no_front, not_again, no_rest) = held_fast going goes held looked no_front not_again no_rest
  fast_lived going goes (inr (inr life)) (looked, out) = driven_fast going goes life looked out

came_to : (load : FiledLoad) (old new : LinkAndRecord) → OneOrTwo load.plan load.finish.core load.looks load.front load.again load.rest old new → CameToAFastLife load old new ⊎ CameToTwoFastLives load old new
came_to load old new (inl (l, not_again)) = inl (record { life = l.0; core = l.1; looks = l.2; front = l.3; not_again = not_again; rest = l.4; is_life = l.5 })
came_to load old new (inr two) = inr (record {
  first = two.first.0;
  looks = two.first.2;
  front = two.first.3;
  no_rest = two.first.4;
  between = two.between;
  is_first = two.first.5;
  second = two.second.0;
  core = two.second.1;
  again = two.second.2;
  no_front = two.second.3;
  rest = two.second.4;
  lost = two.lost;
  fewer = two.fewer;
  is_second = two.second.5;
})

pub loads_are_fast_lives : LoadsAreFastLives
loads_are_fast_lives load old new plain made passes = came_to load old new l
  where
    plan : PlanValue
    plan = load.plan

    options : LoadOptions
    options = load.options

    promised : IsLoad (IsDrivenOn of_file) (task plan options) (load.before ⇒ load.after) load.finish
    promised = made.promised

    said : Progress
    said = promised.opened.opening.said

    goes : GoesOnFrom plan old.text (record { verified = words_taken options.recheck said; going = said.going })
    goes = record {
      recorded = said;
      says = subst (λ text. Says plan text (Ok said)) (told_text load.before.record_text promised.opened.opening.opened.text old.text promised.opened.opening.opened.is_record made.found) promised.opened.opening.opened.says;
      fewer = fewer (options.recheck && not said.going) said.verified;
      same_mark = refl;
    }

    l : OneOrTwo plan load.finish.core load.looks load.front load.again load.rest old new
    l =
        subst (λ (core : Core). (life : IsLived (IsDrivenOn of_file) (opened_as core options.fast promised.writable) (promised.between ⇒ load.after) load.finish) → GoesOut life load.looks load.front load.again load.rest → OneOrTwo plan load.finish.core load.looks load.front load.again load.rest old new) (sym (plain_core plan options promised.opened.opening plain))
        (fast_lived plan (words_taken options.recheck said) options.patience load.before.record_text promised.between load.after load.finish load.looks load.front load.again load.rest old new made.fits made.patient made.found promised.opened.record_read made.left passes said.going goes) promised.life made.out

-- ---- a life at a machine

-- a life of this plan came to this core, and said these items while it looked and behind its looks
abbrev Lives : PlanValue → Core → List Item → List Item → WireAndRecord → WireAndRecord → Type 0
Lives plan last looks items old new = (l : LookingLife) × (last_core plan l.life ≡ last) × (l.looks ≡ looks) × (l.life.items ≡ items) × IsLookingLife plan old l new

-- a life without stubs that goes on without the mark behind so many words
module _ (careful : Bool) (plan : PlanValue) (v patience : ℕ) (looks items : List Item) (old new : WireAndRecord) (fits : IsPlan plan) (long : patience < 2 ^ 32) (goes : GoesOnFrom plan old.text (record { verified = v; going = false })) (looked : (looks ≡ []) ⊎ ((manner : Manner) × HasLookedAs manner plan goes.recorded looks)) (passes : PassesOver old.wire (looks ++ items) new.wire) where
  -- its host alone
  host_life : (core : Core) (stop : Stop) (before behind : Devices) (keeper keeper' : Keeper) → HoldsRecord keeper plan v
      → (host : IsDriven most_turns (driving (begun_by careful plan v false patience) core (Some stop)) before behind) → IsKeptBy of_file.calls (turns_give (driving (begun_by careful plan v false patience) core (Some stop))) keeper keeper'
      → WentOutAt stop (dialogue (begun_by careful plan v false patience) host.session.heard) host.session.said items → keeper'.text ≡ Some new.text → Lives plan core looks items old new
  host_life core stop before behind keeper keeper' holds host kept out held =
      let sound = says_sound plan old.text goes.recorded goes.says in
      let front = host_holds careful plan v patience stop core (session_told_by before) (session_told_by behind) keeper keeper' items fits long (omega (arith, goes.fewer, sound.within)) holds host.session out kept.kept_by in
      let same : front.text ≡ new.text = same_text front.text new.text (sym front.held ∙ held) in
      let all = dialogue (begun_by careful plan v false patience) host.session.heard in
      let u = unsent_out (Some stop) all host.session.said items host.said (went_out stop all host.session.said items out) in
      let life : Life = record { careful = careful; patience = patience; progress = record { verified = v; going = false }; heard = host.session.heard; items = items; unsent = u.0 } in (
        record { looks = looks; life = life },
        sym host.core,
        refl,
        refl,
        record {
          patient = long;
          goes_on = goes;
          looked = looked;
          stopped = u.1;
          line = passes;
          left = subst (λ (c : Core). IsLeft plan (record { verified = v; going = false }) c items old.text new.text) host.core (record {
            cut = inr (subst (λ text. (missing : List ℕ) × (text ++ missing ≡ record_text Second plan core.verified core.going)) same front.front);
            whole = λ has. sym same ∙ front.whole has;
            alone = λ set. absurd (cc set);
          });
        },
      )

  parts_alone : (stubs : Option Stubs) (seen_again : Option Looks) (core : Core) (end : LoadEnd) (before after : Held Keeper) (again : List Item) → is_some stubs ≡ false → HoldsRecord before.keeper plan v
      → (parts : ArePartsOver of_file.calls (course_by careful plan v patience stubs seen_again core end) before after) → PartsGoOut parts [] again items → after.keeper.text ≡ Some new.text → Lives plan core looks items old new
  parts_alone None None core end before after again none holds parts (nothing, (not_again, out)) is =
      host_life core parts.rest.gone.host.stop (devices parts.rest.seen (of_file.calls.told parts.between.keeper)) (told_by of_file.calls after) parts.between.keeper after.keeper (subst (λ (k : Keeper). HoldsRecord k plan v) (sym parts.stubs_kept) holds)
      parts.rest.gone.host.driven (kept_out (course_by careful plan v patience None None core end) parts.rest.gone.host.stop parts.between.keeper after.keeper parts.rest.gone.host.end_is parts.rest.kept) out is
  parts_alone None (Some seen_again) core end before after again none holds parts (nothing, (not_again, out)) is = absurd (cc parts.rest.gone.looks.0)
  parts_alone (Some stubs) seen_again core end before after again none holds parts went is = absurd (cc none)

-- a life without stubs, once its record was read
module _ (careful : Bool) (plan : PlanValue) (v patience : ℕ) (told : Option (List ℕ)) (between after : SurroundingsTold) (finish : Finish) (looks items : List Item) (old new : WireAndRecord) (fits : IsPlan plan) (long : patience < 2 ^ 32) (was : told ≡ Some old.text) (read : Keeps told between.record_text) (is : after.record_text ≡ Some new.text) (passes : PassesOver old.wire (looks ++ items) new.wire) where
  -- one whose record is as it was, and that said nothing behind its looks
  alone_life : (w kept : ℕ) (going : Bool) → kept < 2 ^ 32 → (goes : GoesOnFrom plan old.text (record { verified = w; going = going })) → (looks ≡ []) ⊎ ((manner : Manner) × HasLookedAs manner plan goes.recorded looks) → Keeps between.record_text after.record_text → items ≡ []
      → Lives plan (begun_by careful plan w going kept) looks items old new
  alone_life w kept going long goes looked alone out = (
    record { looks = looks; life = record { careful = careful; patience = kept; progress = record { verified = w; going = going }; heard = []; items = []; unsent = None } },
    refl,
    refl,
    sym out,
    record {
      patient = long;
      goes_on = goes;
      looked = looked;
      stopped = refl;
      line = subst (λ list. PassesOver old.wire (looks ++ list) new.wire) out passes;
      left = record { cut = inl same; whole = λ has. absurd (none_sent has); alone = λ set. same };
    },
  )
    where
      same : new.text ≡ old.text
      same = kept_text told after.record_text old.text new.text (Keeps-trans told between.record_text after.record_text read alone) was is

  held_life : {fast writable : Bool} (going : Bool) → GoesOnFrom plan old.text (record { verified = v; going = going }) → (held : IsHeldUp (opened_as (begun_by careful plan v going patience) fast writable) (between ⇒ after) finish)
      → LooksGoOut held.first_looks.looked looks → items ≡ [] → Lives plan finish.core looks items old new
  held_life {fast} true goes held looked out = absurd (cc held.first_looks.goes_on)
  held_life {fast} false goes held looked out =
      subst (λ (core : Core). Lives plan core looks items old new) (sym held.core_is)
      (alone_life (vouched_for v held.first_looks.looks.finding) (patience - held.first_looks.looks.spent) false (less_patience patience held.first_looks.looks.spent long)
      (goes_behind plan old.text v held.first_looks.looks.finding goes)
      (inr (manner_of (care_of careful) [], of_record careful plan (fast || careful) v patience goes.recorded held.first_looks.looks held.first_looks.line held.first_looks.behind looks long goes.fewer (none_over plan v old.text false goes) goes.same_mark held.first_looks.looked looked))
      held.first_looks.record_same out)

  driven_life : {writable : Bool} (going : Bool) (again : List Item) → GoesOnFrom plan old.text (record { verified = v; going = going }) → (life : IsBusyLife (IsDrivenOn of_file) (opened_as (begun_by careful plan v going patience) false writable) (between ⇒ after) finish)
      → LooksGoOut life.first_looks.looked looks → PartsGoOut life.driven.parts [] again items → Lives plan finish.core looks items old new
  driven_life true again goes life looked out = absurd (cc life.first_looks.goes_on)
  driven_life false again goes life looked out =
      parts_alone careful plan (vouched_for v life.first_looks.looks.finding) (patience - life.first_looks.looks.spent) looks items old new fits (less_patience patience life.first_looks.looks.spent long)
      (goes_behind plan old.text v life.first_looks.looks.finding goes)
      (inr (manner_of (care_of careful) [], of_record careful plan (false || careful) v patience goes.recorded life.first_looks.looks life.first_looks.line life.first_looks.behind looks long goes.fewer (none_over plan v old.text false goes) goes.same_mark life.first_looks.looked looked))
      passes finish.stubs finish.again finish.core finish.end (held life.first_looks.behind life.driven.keeper) (held life.driven.line' life.driven.keeper') again life.driven.stubs_asked life.driven.begun_so life.driven.parts out (sym life.driven.left ∙ is)

  lived : {writable : Bool} (going : Bool) (again : List Item) → GoesOnFrom plan old.text (record { verified = v; going = going }) → (life : IsLived (IsDrivenOn of_file) (opened_as (begun_by careful plan v going patience) false writable) (between ⇒ after) finish) → GoesOut life looks [] again items
      → Lives plan finish.core looks items old new
  lived going again goes (inl idle) (no_looks, none, not_again, out) =
      subst (λ (core : Core). Lives plan core looks items old new) (sym idle.over.same) (alone_life v patience going long goes (inl no_looks) idle.left_alone.record_same out)
  lived going again goes (inr (inl held)) (looked, none, not_again, out) = held_life going goes held looked out
  lived going again goes (inr (inr life)) (looked, out) = driven_life going again goes life looked out

pub loads_are_lives : LoadsAreLives
loads_are_lives load old new plain made passes = record { life = l.0; core = l.1; looks = l.2; rest = l.3; is_life = l.4 }
  where
    plan : PlanValue
    plan = load.plan

    options : LoadOptions
    options = load.options

    promised : IsLoad (IsDrivenOn of_file) (task plan options) (load.before ⇒ load.after) load.finish
    promised = made.promised

    said : Progress
    said = promised.opened.opening.said

    goes : GoesOnFrom plan old.text (record { verified = words_taken options.recheck said; going = said.going })
    goes = record {
      recorded = said;
      says = subst (λ text. Says plan text (Ok said)) (told_text load.before.record_text promised.opened.opening.opened.text old.text promised.opened.opening.opened.is_record made.found) promised.opened.opening.opened.says;
      fewer = fewer (options.recheck && not said.going) said.verified;
      same_mark = refl;
    }

    out : GoesOut promised.life load.looks [] load.again load.rest
    out = subst (λ front. GoesOut promised.life load.looks front load.again load.rest) plain.unsaid made.out

    l : Lives plan load.finish.core load.looks load.rest old new
    l =
        subst (λ (core : Core). (life : IsLived (IsDrivenOn of_file) (opened_as core options.fast promised.writable) (promised.between ⇒ load.after) load.finish) → GoesOut life load.looks [] load.again load.rest → Lives plan load.finish.core load.looks load.rest old new) (sym promised.opened.opening.core_is)
        (subst (λ fast. (life : IsLived (IsDrivenOn of_file) (opened_as (begun_by options.careful plan (words_taken options.recheck said) said.going options.patience) fast promised.writable) (promised.between ⇒ load.after) load.finish) → GoesOut life load.looks [] load.again load.rest → Lives plan load.finish.core load.looks load.rest old new) (sym plain.unasked)
        (lived options.careful plan (words_taken options.recheck said) options.patience load.before.record_text promised.between load.after load.finish load.looks load.rest old new made.fits made.patient made.found promised.opened.record_read made.left passes said.going load.again goes)) promised.life out
