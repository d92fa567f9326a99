-- What one host of a test of a bus makes of the line.
use Rattle.std.proofs.Common.{◌≡◌, ℕ, ◌+◌, ◌*◌, ◌/◌, ◌<◌, Bool, true, false, nat_lt, if◌then◌else◌, List, [], ◌∷◌, ◌++◌, Option, Some, None, Ok, Err, refl, arith, sym, subst, inl, inr, append-nil}
use Rattle.std.specs.Prelude.{◌==◌, All}
use Rattle.std.specs.List.{fold}
use Rattle.std.proofs.lemmas.List.Elements.{All-append, All-cons, All-head, All-nil, All-tail}
use Rattle.std.proofs.lemmas.Bool.Decides.{nat_tests}
use Rattle.host_core.specs.Core.{Core, begun as begun_load, ended as load_ended}
use Rattle.host_core.specs.Host.{IsHost}
use Rattle.host_devices.specs.declared.item.Item.{Item}
use Rattle.host_devices.specs.declared.item.Kept.{Kept}
use Rattle.host_devices.specs.Told.{Gains, SaysNothing}
use Rattle.host_devices.proofs.Told.{gains_kept, gains_none}
use Rattle.engine.specs.Session.{session_told}
use Rattle.engine.specs.Stopping.{TellsEnd}
use Rattle.engine.specs.declared.stop.Stop.TheVariants as load
use Rattle.host_core.specs.declared.phase.End.TheVariants as loaded
use Rattle.load_engine.specs.Driving.{LoadSession, LoadStop, driving}
use Rattle.looking_engine.specs.Inquired.{Inquired, inquiry}
use Rattle.looking_engine.specs.Stopping.{LookStop, TellsEnd as TellsLookEnd}
use Rattle.reading_core.specs.declared.phase.End.TheVariants as looked
use Rattle.reading_core.specs.Addresses.{AreAddresses, IsAddress}
use Rattle.reading_core.specs.Reader.{Reader, begun, ended}
use Rattle.engine.specs.declared.stop.Stop.{Stop}
use Rattle.memory_core.specs.declared.phase.End.{End}
use Rattle.memory_core.specs.declared.phase.End.TheVariants as core
use Rattle.memory_core.specs.declared.seen.Seen.{Seen}
use Rattle.memory_core.specs.Seen.{old_in}
use Rattle.memory_core.specs.declared.stage.Borrowed.{Borrowed}
use Rattle.memory_core.specs.Tester.{Tester, borrowed}
use Rattle.memory_report.specs.declared.findings.Word.{Word}
use Rattle.memory_report.specs.declared.test_end.TestEnd.TheVariants as test
use Rattle.memory_report.specs.Words.{is_bad}
use Rattle.machine_probe.specs.PuttingBack.{IsDeposit}
use Rattle.machine_probe.specs.declared.putting_back.Deposit.{Deposit}
use Rattle.machine_probe.specs.Runs.{OnLine}
use Rattle.machine_memory.specs.declared.course.Place.{Place}
use Rattle.machine_memory.specs.declared.course.Place.TheVariants.{Trying, Testing, Marking, Looking, PuttingBack, LookingAgain, Over}
use Rattle.machine_memory.specs.declared.memory_options.MemoryOptions.{MemoryOptions}
use Rattle.machine_memory.specs.Bus.{neighbours, number_at}
use Rattle.machine_memory.specs.BusCourse.{again_from, behind_look, behind_mark, behind_put_back, behind_second_look, bus_begins, first_good, good_also, in_bus, on_from, put_back_next, stopped_load, then_bus}
use Rattle.machine_memory.specs.BusRuns.{HasBack, IsDepositLed, IsLookAgainStep, IsLookLed, IsLookStep, IsMarkStep, IsNamedStep, IsPutBackStep, IsReady, IsRestored, IsUnlent}
use Rattle.machine_memory.specs.Course.{AreWords, IsWithin, Standing, behind_test, by_stop}
use Rattle.machine_memory.specs.Words.{words_of}
use Rattle.machine_memory.specs.Options.{probe_options}
use Rattle.machine_memory.specs.Runs.{IsCutLook, IsStepAt}
use Rattle.machine_memory.specs.Turns.{most_turns}

-- ---- one host

pub deposit_led : (options : MemoryOptions) (address number turns : ℕ) (deposit : Deposit) (last : Core) (stop : LoadStop) (line line' : Option (List Item)) (kept : List Kept) → IsDeposit (probe_options options address) number deposit → turns ≡ most_turns →
    TellsEnd stop (load_ended last.phase) → LoadSession turns (driving deposit.core last (Some stop)) (session_told line (Some deposit.keeper.kept)) (session_told line' (Some kept)) → OnLine (IsDepositLed options address number stop) line line'
deposit_led options address number turns deposit last stop line line' kept of limit end s = record {
  parts = s.said ∷ [];
  are = record {
    said = s.said;
    part = refl;
    plan = deposit.core.plan;
    plan_is = of.plan;
    host = subst IsHost of.begun_is of.host;
    last = last;
    kept = kept;
    session = subst (λ (n : ℕ). LoadSession n (driving (begun_load deposit.core.plan 0 false options.patience) last (Some stop)) (session_told (Some []) (Some [])) (session_told (Some s.said) (Some kept))) limit
        (subst (λ (ks : List Kept). LoadSession turns (driving (begun_load deposit.core.plan 0 false options.patience) last (Some stop)) (session_told (Some []) (Some ks)) (session_told (Some s.said) (Some kept))) of.empty
        (subst (λ (core : Core). LoadSession turns (driving core last (Some stop)) (session_told (Some []) (Some deposit.keeper.kept)) (session_told (Some s.said) (Some kept))) of.begun_is (record {
          heard = s.heard;
          said = s.said;
          given = s.given;
          kept = s.kept;
          host = s.host;
          goes_on = s.goes_on;
          within = s.within;
          done = s.done;
          news = s.news;
          on_line = refl;
          at_keeper = s.at_keeper;
        })));
    end = end;
  };
  on_line = subst (Gains line line') (sym (append-nil s.said)) s.on_line;
}

pub look_led : (options : MemoryOptions) (at first turns : ℕ) (core last : Reader) (stop : LookStop) (line line' : Option (List Item)) → core ≡ begun (neighbours at first) [] options.patience → turns ≡ most_turns →
    TellsLookEnd stop (ended last.phase) → Inquired turns (inquiry core last (Some stop)) line line' → OnLine (IsLookLed options at first last stop) line line'
look_led options at first turns core last stop line line' begins limit end s = record {
  parts = s.said ∷ [];
  are = record {
    said = s.said;
    part = refl;
    inquired = subst (λ (n : ℕ). Inquired n (inquiry (begun (neighbours at first) [] options.patience) last (Some stop)) (Some []) (Some s.said)) limit
        (subst (λ (r : Reader). Inquired turns (inquiry r last (Some stop)) (Some []) (Some s.said)) begins (record {
          heard = s.heard;
          said = s.said;
          host = s.host;
          goes_on = s.goes_on;
          within = s.within;
          items = s.items;
          unkept = s.unkept;
          on_line = refl;
        }));
    end = end;
  };
  on_line = subst (Gains line line') (sym (append-nil s.said)) s.on_line;
}

pub mark_step : (options : MemoryOptions) (word : Borrowed) (place number : ℕ) (before after : Standing) (stop : LoadStop) (line line' : Option (List Item)) → number ≡ number_at place word.old →
    OnLine (IsDepositLed options word.address number stop) line line' → after ≡ behind_mark before word place stop → OnLine (IsMarkStep options word place before after) line line'
mark_step options word place number before after stop line line' same led is =
    record { parts = led.parts; are = record { stop = stop; deposit_led = subst (λ (n : ℕ). IsDepositLed options word.address n stop led.parts) same led.are; after_is = is }; on_line = led.on_line }

pub put_back_step : (options : MemoryOptions) (word : Borrowed) (before after : Standing) (stop : LoadStop) (line line' : Option (List Item)) →
    OnLine (IsDepositLed options word.address word.old stop) line line' → after ≡ behind_put_back before word stop → OnLine (IsPutBackStep options word before after) line line'
put_back_step options word before after stop line line' led is = record { parts = led.parts; are = record { stop = stop; deposit_led = led.are; after_is = is }; on_line = led.on_line }

pub look_step : (options : MemoryOptions) (word : Borrowed) (first : ℕ) (before after : Standing) (last : Reader) (stop : LookStop) (line line' : Option (List Item)) →
    OnLine (IsLookLed options word.address first last stop) line line' → after ≡ behind_look before word last stop → OnLine (IsLookStep options word first before after) line line'
look_step options word first before after last stop line line' led is = record { parts = led.parts; are = record { last = last; stop = stop; look_led = led.are; after_is = is }; on_line = led.on_line }

pub second_look_step : (options : MemoryOptions) (word : Borrowed) (first : ℕ) (before after : Standing) (last : Reader) (stop : LookStop) (line line' : Option (List Item)) →
    OnLine (IsLookLed options word.address first last stop) line line' → after ≡ behind_second_look before word last stop → OnLine (IsLookAgainStep options word first before after) line line'
second_look_step options word first before after last stop line line' led is = record { parts = led.parts; are = record { last = last; stop = stop; look_led = led.are; after_is = is }; on_line = led.on_line }

pub named_step : (options : MemoryOptions) (word : Borrowed) (before after : Standing) (stop : LoadStop) (line line' : Option (List Item)) →
    OnLine (IsDepositLed options word.address word.old stop) line line' → after ≡ stopped_load before word stop → OnLine (IsNamedStep options word before after) line line'
named_step options word before after stop line line' led is = record { parts = led.parts; are = record { stop = stop; deposit_led = led.are; after_is = is }; on_line = led.on_line }

-- a step at a mark, or a look, is one or the other
pub marked_or : (options : MemoryOptions) (word : Borrowed) (place : ℕ) (before after : Standing) (line line' : Option (List Item)) → OnLine (IsMarkStep options word place before after) line line' → OnLine (IsStepAt options (Marking word place) before after) line line'
marked_or options word place before after line line' step = record { parts = step.parts; are = inl step.are; on_line = step.on_line }

pub or_named : (options : MemoryOptions) (word : Borrowed) (place : ℕ) (before after : Standing) (line line' : Option (List Item)) → OnLine (IsNamedStep options word before after) line line' → OnLine (IsStepAt options (Marking word place) before after) line line'
or_named options word place before after line line' step = record { parts = step.parts; are = inr step.are; on_line = step.on_line }

pub looked_or : (options : MemoryOptions) (word : Borrowed) (first : ℕ) (before after : Standing) (line line' : Option (List Item)) → OnLine (IsLookStep options word first before after) line line' → OnLine (IsStepAt options (Looking word first) before after) line line'
looked_or options word first before after line line' step = record { parts = step.parts; are = inl step.are; on_line = step.on_line }

pub look_or_named : (options : MemoryOptions) (word : Borrowed) (first : ℕ) (before after : Standing) (line line' : Option (List Item)) → OnLine (IsNamedStep options word before after) line line' → OnLine (IsStepAt options (Looking word first) before after) line line'
look_or_named options word first before after line line' step = record { parts = step.parts; are = inr step.are; on_line = step.on_line }

-- the host that puts back is there
pub back_is : (options : MemoryOptions) (word : Borrowed) (back : Option Deposit) (deposit : Deposit) → HasBack options word back → back ≡ Some deposit → IsDeposit (probe_options options word.address) word.old deposit
back_is options word back deposit has is = subst (HasBack options word) is has

-- ---- cut off

-- an old number that stands again
pub restored : (options : MemoryOptions) (word : Borrowed) (stop : LoadStop) (line line' : Option (List Item)) → OnLine (IsDepositLed options word.address word.old stop) line line' → stop ≡ load.Ended loaded.Loaded → OnLine (IsRestored options word) line line'
restored options word stop line line' led is = subst (λ (s : LoadStop). OnLine (IsDepositLed options word.address word.old s) line line') is led

pub look_cut : (options : MemoryOptions) (word : Borrowed) (first : ℕ) (last : Reader) (stop : LookStop) (line line' : Option (List Item)) → OnLine (IsLookLed options word.address first last stop) line line' → OnLine (IsCutLook options word first) line line'
look_cut options word first last stop line line' led = record { parts = led.parts; are = inr (last, stop, led.are); on_line = led.on_line }

pub no_look : (options : MemoryOptions) (word : Borrowed) (first : ℕ) (line : Option (List Item)) → OnLine (IsCutLook options word first) line line
no_look options word first line = record { parts = []; are = inl refl; on_line = gains_none line }

pub no_deposit : (line line' : Option (List Item)) → SaysNothing line line' → OnLine (λ parts. parts ≡ []) line line'
no_deposit line line' none = record { parts = []; are = refl; on_line = gains_kept line line' none }

-- ---- what comes next lies within what was asked for

next_mark_within : (to place : ℕ) (word : Borrowed) (more : Bool) → IsAddress word.address → IsWithin to (if more then Marking word (place + 1) else Looking word 0)
next_mark_within to place word true is = is
next_mark_within to place word false is = (is, record { even = refl; below = omega arith })

pub mark_within : (to place : ℕ) (s : Standing) (word : Borrowed) (stop : LoadStop) → IsAddress word.address → IsWithin to (behind_mark s word place stop).place
mark_within to place s word (load.Ended loaded.Loaded) is = next_mark_within to place word (nat_lt place 3) is
mark_within to place s word (load.Ended (loaded.WontHold address)) is = is
mark_within to place s word (load.Ended (loaded.NoWord address)) is = tt
mark_within to place s word (load.Ended loaded.Started) is = tt
mark_within to place s word (load.Ended loaded.Uncertain) is = tt
mark_within to place s word (load.Ended loaded.MaybeStarted) is = tt
mark_within to place s word (load.Ended loaded.GaveUp) is = tt
mark_within to place s word (load.KeepFailed fault) is = tt
mark_within to place s word (load.CutOff cut) is = tt

pub mark_words : (place : ℕ) (s : Standing) (word : Borrowed) (stop : LoadStop) → (behind_mark s word place stop).words ≡ s.words
mark_words place s word (load.Ended loaded.Loaded) = refl
mark_words place s word (load.Ended (loaded.WontHold address)) = refl
mark_words place s word (load.Ended (loaded.NoWord address)) = refl
mark_words place s word (load.Ended loaded.Started) = refl
mark_words place s word (load.Ended loaded.Uncertain) = refl
mark_words place s word (load.Ended loaded.MaybeStarted) = refl
mark_words place s word (load.Ended loaded.GaveUp) = refl
mark_words place s word (load.KeepFailed fault) = refl
mark_words place s word (load.CutOff cut) = refl

put_back_next_within : (to : ℕ) (word : Borrowed) (marked : List ℕ) → IsWithin to (put_back_next word marked)
put_back_next_within to word [] = tt
put_back_next_within to word (address ∷ marked) = record { even = refl; below = omega arith }

pub put_back_within : (to : ℕ) (s : Standing) (word : Borrowed) (stop : LoadStop) → IsWithin to (behind_put_back s word stop).place
put_back_within to s word (load.Ended loaded.Loaded) = put_back_next_within to word s.bus.marked
put_back_within to s word (load.Ended (loaded.WontHold address)) = tt
put_back_within to s word (load.Ended (loaded.NoWord address)) = tt
put_back_within to s word (load.Ended loaded.Started) = tt
put_back_within to s word (load.Ended loaded.Uncertain) = tt
put_back_within to s word (load.Ended loaded.MaybeStarted) = tt
put_back_within to s word (load.Ended loaded.GaveUp) = tt
put_back_within to s word (load.KeepFailed fault) = tt
put_back_within to s word (load.CutOff cut) = tt

pub stopped_within : (to : ℕ) (s : Standing) (word : Borrowed) (stop : LoadStop) → IsWithin to (stopped_load s word stop).place
stopped_within to s word (load.Ended loaded.Loaded) = tt
stopped_within to s word (load.Ended (loaded.WontHold address)) = tt
stopped_within to s word (load.Ended (loaded.NoWord address)) = tt
stopped_within to s word (load.Ended loaded.Started) = tt
stopped_within to s word (load.Ended loaded.Uncertain) = tt
stopped_within to s word (load.Ended loaded.MaybeStarted) = tt
stopped_within to s word (load.Ended loaded.GaveUp) = tt
stopped_within to s word (load.KeepFailed fault) = tt
stopped_within to s word (load.CutOff cut) = tt

pub stopped_words : (s : Standing) (word : Borrowed) (stop : LoadStop) → (stopped_load s word stop).words ≡ s.words
stopped_words s word (load.Ended loaded.Loaded) = refl
stopped_words s word (load.Ended (loaded.WontHold address)) = refl
stopped_words s word (load.Ended (loaded.NoWord address)) = refl
stopped_words s word (load.Ended loaded.Started) = refl
stopped_words s word (load.Ended loaded.Uncertain) = refl
stopped_words s word (load.Ended loaded.MaybeStarted) = refl
stopped_words s word (load.Ended loaded.GaveUp) = refl
stopped_words s word (load.KeepFailed fault) = refl
stopped_words s word (load.CutOff cut) = refl

pub stopped_ready : (s : Standing) (word : Borrowed) (stop : LoadStop) → IsUnlent (stopped_load s word stop).place
stopped_ready s word (load.Ended loaded.Loaded) options back = tt
stopped_ready s word (load.Ended (loaded.WontHold address)) options back = tt
stopped_ready s word (load.Ended (loaded.NoWord address)) options back = tt
stopped_ready s word (load.Ended loaded.Started) options back = tt
stopped_ready s word (load.Ended loaded.Uncertain) options back = tt
stopped_ready s word (load.Ended loaded.MaybeStarted) options back = tt
stopped_ready s word (load.Ended loaded.GaveUp) options back = tt
stopped_ready s word (load.KeepFailed fault) options back = tt
stopped_ready s word (load.CutOff cut) options back = tt

-- the host that puts back stays where a word is lent
next_mark_ready : (options : MemoryOptions) (place : ℕ) (word : Borrowed) (back : Option Deposit) (more : Bool) → HasBack options word back → IsReady options (if more then Marking word (place + 1) else Looking word 0) back
next_mark_ready options place word back true has = has
next_mark_ready options place word back false has = has

pub mark_ready : (options : MemoryOptions) (place : ℕ) (s : Standing) (word : Borrowed) (stop : LoadStop) (back : Option Deposit) → HasBack options word back → IsReady options (behind_mark s word place stop).place back
mark_ready options place s word (load.Ended loaded.Loaded) back has = next_mark_ready options place word back (nat_lt place 3) has
mark_ready options place s word (load.Ended (loaded.WontHold address)) back has = has
mark_ready options place s word (load.Ended (loaded.NoWord address)) back has = tt
mark_ready options place s word (load.Ended loaded.Started) back has = tt
mark_ready options place s word (load.Ended loaded.Uncertain) back has = tt
mark_ready options place s word (load.Ended loaded.MaybeStarted) back has = tt
mark_ready options place s word (load.Ended loaded.GaveUp) back has = tt
mark_ready options place s word (load.KeepFailed fault) back has = tt
mark_ready options place s word (load.CutOff cut) back has = tt

on_ready : (options : MemoryOptions) (word : Borrowed) (next : Option ℕ) (back : Option Deposit) → HasBack options word back → IsReady options (on_from word next) back
on_ready options word None back has = has
on_ready options word (Some next) back has = has

pub look_ready : (options : MemoryOptions) (s : Standing) (word : Borrowed) (last : Reader) (stop : LookStop) (back : Option Deposit) → HasBack options word back → IsReady options (behind_look s word last stop).place back
look_ready options s word last (Ok looked.Complete) back has = has
look_ready options s word last (Ok (looked.NoWord gap)) back has = on_ready options word (in_bus gap) back has
look_ready options s word last (Ok looked.GaveUp) back has = tt
look_ready options s word last (Err cut) back has = tt

put_back_next_ready : (word : Borrowed) (marked : List ℕ) → IsUnlent (put_back_next word marked)
put_back_next_ready word [] options back = tt
put_back_next_ready word (address ∷ marked) options back = tt

pub put_back_ready : (s : Standing) (word : Borrowed) (stop : LoadStop) → IsUnlent (behind_put_back s word stop).place
put_back_ready s word (load.Ended loaded.Loaded) options back = put_back_next_ready word s.bus.marked options back
put_back_ready s word (load.Ended (loaded.WontHold address)) options back = tt
put_back_ready s word (load.Ended (loaded.NoWord address)) options back = tt
put_back_ready s word (load.Ended loaded.Started) options back = tt
put_back_ready s word (load.Ended loaded.Uncertain) options back = tt
put_back_ready s word (load.Ended loaded.MaybeStarted) options back = tt
put_back_ready s word (load.Ended loaded.GaveUp) options back = tt
put_back_ready s word (load.KeepFailed fault) options back = tt
put_back_ready s word (load.CutOff cut) options back = tt

again_ready : (word : Borrowed) (next : Option ℕ) → IsUnlent (again_from word next)
again_ready word None options back = tt
again_ready word (Some next) options back = tt

pub second_look_ready : (s : Standing) (word : Borrowed) (last : Reader) (stop : LookStop) → IsUnlent (behind_second_look s word last stop).place
second_look_ready s word last (Ok looked.Complete) options back = tt
second_look_ready s word last (Ok (looked.NoWord gap)) options back = again_ready word (in_bus gap) options back
second_look_ready s word last (Ok looked.GaveUp) options back = tt
second_look_ready s word last (Err cut) options back = tt

pub put_back_words : (s : Standing) (word : Borrowed) (stop : LoadStop) → (behind_put_back s word stop).words ≡ s.words
put_back_words s word (load.Ended loaded.Loaded) = refl
put_back_words s word (load.Ended (loaded.WontHold address)) = refl
put_back_words s word (load.Ended (loaded.NoWord address)) = refl
put_back_words s word (load.Ended loaded.Started) = refl
put_back_words s word (load.Ended loaded.Uncertain) = refl
put_back_words s word (load.Ended loaded.MaybeStarted) = refl
put_back_words s word (load.Ended loaded.GaveUp) = refl
put_back_words s word (load.KeepFailed fault) = refl
put_back_words s word (load.CutOff cut) = refl

next_is : (gap : ℕ) → nat_lt gap 0o157776 ≡ true → IsAddress (gap / 2 * 2 + 2)
next_is gap low = record { even = omega arith; below = below gap low }
  where
    below : (gap : ℕ) → nat_lt gap 0o157776 ≡ true → gap / 2 * 2 + 2 < 0o160000
    below gap low = grind (arith, nat_tests)

look_on_within : (to gap : ℕ) (word : Borrowed) (more : Bool) → nat_lt gap 0o157776 ≡ more → IsAddress word.address → IsWithin to (on_from word (if more then Some (gap / 2 * 2 + 2) else None))
look_on_within to gap word true low is = (is, next_is gap low)
look_on_within to gap word false high is = is

again_within : (to gap : ℕ) (word : Borrowed) (more : Bool) → nat_lt gap 0o157776 ≡ more → IsWithin to (again_from word (if more then Some (gap / 2 * 2 + 2) else None))
again_within to gap word true low = next_is gap low
again_within to gap word false high = tt

pub look_within : (to : ℕ) (s : Standing) (word : Borrowed) (r : Reader) (stop : LookStop) → IsAddress word.address → IsWithin to (behind_look s word r stop).place
look_within to s word r (Ok looked.Complete) is = is
look_within to s word r (Ok (looked.NoWord gap)) is = look_on_within to gap word (nat_lt gap 0o157776) refl is
look_within to s word r (Ok looked.GaveUp) is = tt
look_within to s word r (Err cut) is = tt

pub look_words : (s : Standing) (word : Borrowed) (r : Reader) (stop : LookStop) → (behind_look s word r stop).words ≡ s.words
look_words s word r (Ok looked.Complete) = refl
look_words s word r (Ok (looked.NoWord gap)) = refl
look_words s word r (Ok looked.GaveUp) = refl
look_words s word r (Err cut) = refl

pub second_look_within : (to : ℕ) (s : Standing) (word : Borrowed) (r : Reader) (stop : LookStop) → IsWithin to (behind_second_look s word r stop).place
second_look_within to s word r (Ok looked.Complete) = tt
second_look_within to s word r (Ok (looked.NoWord gap)) = again_within to gap word (nat_lt gap 0o157776) refl
second_look_within to s word r (Ok looked.GaveUp) = tt
second_look_within to s word r (Err cut) = tt

pub second_look_words : (s : Standing) (word : Borrowed) (r : Reader) (stop : LookStop) → (behind_second_look s word r stop).words ≡ s.words
second_look_words s word r (Ok looked.Complete) = refl
second_look_words s word r (Ok (looked.NoWord gap)) = refl
second_look_words s word r (Ok looked.GaveUp) = refl
second_look_words s word r (Err cut) = refl

-- ---- where the test of the bus begins

-- what holds of each tested word holds of the first good one
good_keeps : (P : Borrowed → Type 0) (found : Option Borrowed) (next : Word) → ((word : Borrowed) → found ≡ Some word → P word) → P (record { address = next.address; old = old_in next.seen }) → (word : Borrowed) → good_also found next ≡ Some word → P word
good_keeps P (Some other) next earlier here word is = earlier word is
good_keeps P None next earlier here word is = by (is_bad next) is
  where
    by : (bad : Bool) → (if bad then None else Some (record { address = next.address; old = old_in next.seen })) ≡ Some word → P word
    by true e = absurd (cc e)
    by false e = subst P (cc e) here

pub good_has : (P : Borrowed → Type 0) (words : List Word) (found : Option Borrowed) → ((word : Borrowed) → found ≡ Some word → P word) → All (λ (w : Word). P (record { address = w.address; old = old_in w.seen })) words →
    (word : Borrowed) → fold good_also found words ≡ Some word → P word
good_has P [] found earlier all word is = earlier word is
good_has P (next ∷ words) found earlier all word is =
    let here : Word → Type 0 = λ (w : Word). P (record { address = w.address; old = old_in w.seen }) in
    good_has P words (good_also found next) (good_keeps P found next earlier (All-head here next words all)) (All-tail here next words all) word is

no_good : (P : Borrowed → Type 0) (word : Borrowed) → None ≡ Some word → P word
no_good P word e = absurd (cc e)

pub first_good_has : (P : Borrowed → Type 0) (words : List Word) → All (λ (w : Word). P (record { address = w.address; old = old_in w.seen })) words → (word : Borrowed) → first_good words ≡ Some word → P word
first_good_has P words all word is = good_has P words None (no_good P) all word is

begins_within : (to every : ℕ) (s : Standing) (place : Place) (borrowed found : Option Borrowed) → ((word : Borrowed) → found ≡ Some word → IsAddress word.address) → IsWithin to s.place → IsWithin to (bus_begins every s place borrowed found).place
begins_within to every s (Over test.Tested) None (Some word) good within = by (every == 1)
  where
    by : (each : Bool) → IsWithin to (if each then record s { bus = record s.bus { at = Some word.address }; place = Marking word 0 } else s).place
    by true = good word refl
    by false = within
begins_within to every s (Over test.Tested) None None good within = within
begins_within to every s (Over test.Tested) (Some other) found good within = within
begins_within to every s (Over test.NotTrusted) borrowed found good within = within
begins_within to every s (Over (test.NoWord address)) borrowed found good within = within
begins_within to every s (Over test.GaveUp) borrowed found good within = within
begins_within to every s (Over (test.CutOff cut)) borrowed found good within = within
begins_within to every s (Trying address) borrowed found good within = within
begins_within to every s (Testing address) borrowed found good within = within
begins_within to every s (Marking word place) borrowed found good within = within
begins_within to every s (Looking word first) borrowed found good within = within
begins_within to every s (PuttingBack word) borrowed found good within = within
begins_within to every s (LookingAgain word first) borrowed found good within = within

pub then_within : (to every : ℕ) (s : Standing) → AreWords s.words → IsWithin to s.place → IsWithin to (then_bus every s).place
then_within to every s are within = begins_within to every s s.place s.borrowed (first_good s.words) (first_good_has (λ (word : Borrowed). IsAddress word.address) s.words are) within

begins_words : (every : ℕ) (s : Standing) (place : Place) (borrowed found : Option Borrowed) → (bus_begins every s place borrowed found).words ≡ s.words
begins_words every s (Over test.Tested) None (Some word) = by (every == 1)
  where
    by : (each : Bool) → (if each then record s { bus = record s.bus { at = Some word.address }; place = Marking word 0 } else s).words ≡ s.words
    by true = refl
    by false = refl
begins_words every s (Over test.Tested) None None = refl
begins_words every s (Over test.Tested) (Some other) found = refl
begins_words every s (Over test.NotTrusted) borrowed found = refl
begins_words every s (Over (test.NoWord address)) borrowed found = refl
begins_words every s (Over test.GaveUp) borrowed found = refl
begins_words every s (Over (test.CutOff cut)) borrowed found = refl
begins_words every s (Trying address) borrowed found = refl
begins_words every s (Testing address) borrowed found = refl
begins_words every s (Marking word place) borrowed found = refl
begins_words every s (Looking word first) borrowed found = refl
begins_words every s (PuttingBack word) borrowed found = refl
begins_words every s (LookingAgain word first) borrowed found = refl

pub then_words : (every : ℕ) (s : Standing) → (then_bus every s).words ≡ s.words
then_words every s = begins_words every s s.place s.borrowed (first_good s.words)

-- ---- the words that a core tested have addresses

zip_all : (P : ℕ → Type 0) (addresses : List ℕ) (seen : List Seen) → All P addresses → All (λ (word : Word). P word.address) (words_of addresses seen)
zip_all P [] seen all = All-nil (λ (word : Word). P word.address)
zip_all P (address ∷ addresses) [] all = All-nil (λ (word : Word). P word.address)
zip_all P (address ∷ addresses) (one ∷ seen) all =
    All-cons (λ (word : Word). P word.address) (record { address = address; seen = one }) (words_of addresses seen) (All-head P address addresses all) (zip_all P addresses seen (All-tail P address addresses all))

stop_words : (to : ℕ) (s : Standing) (stopped : Stop End) (word : Option Borrowed) → (by_stop to s stopped word).words ≡ s.words
stop_words to s (load.Ended core.Complete) word = refl
stop_words to s (load.Ended (core.NoWord gap)) None = refl
stop_words to s (load.Ended (core.NoWord gap)) (Some word) = refl
stop_words to s (load.Ended core.GaveUp) word = refl
stop_words to s (load.KeepFailed fault) word = refl
stop_words to s (load.CutOff cut) word = refl

pub test_words : (to : ℕ) (s : Standing) (t : Tester) (stopped : Stop End) → AreWords s.words → AreAddresses t.addresses → AreWords (behind_test to s t stopped).words
test_words to s t stopped are asked =
    subst AreWords (sym (stop_words to (record s { words = s.words ++ words_of t.addresses t.seen }) stopped (borrowed t)))
    (All-append (λ (word : Word). IsAddress word.address) s.words (words_of t.addresses t.seen) are (zip_all IsAddress t.addresses t.seen asked.each))

pub then_are : (every : ℕ) (s : Standing) → AreWords s.words → AreWords (then_bus every s).words
then_are every s are = subst AreWords (sym (then_words every s)) are
