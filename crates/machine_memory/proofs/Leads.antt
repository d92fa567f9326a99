-- What one host makes of the line.
use Rattle.std.proofs.Common.{◌≡◌, ℕ, ◌+◌, ◌*◌, ◌/◌, ◌%◌, ◌≤◌, Bool, true, false, nat_le, if◌then◌else◌, List, [], ◌∷◌, ◌++◌, Option, Some, None, Result, Ok, Err, IfOk, OnErr, refl, arith, sym, subst, inl, inr, append-nil}
use Rattle.std.proofs.lemmas.Bool.Decides.{nat_tests}
use Rattle.host_devices.specs.declared.item.Item.{Item}
use Rattle.host_devices.specs.Told.{Gains}
use Rattle.host_devices.proofs.Told.{gains_none}
use Rattle.engine.specs.declared.stop.Stop.{Stop}
use Rattle.engine.specs.declared.stop.Stop.TheVariants as stop
use Rattle.engine.specs.Stopping.{TellsEnd}
use Rattle.memory_core.specs.declared.phase.End.{End}
use Rattle.memory_core.specs.declared.phase.End.TheVariants as core
use Rattle.memory_core.specs.declared.stage.Borrowed.{Borrowed}
use Rattle.memory_core.specs.Addresses.{every_address}
use Rattle.memory_core.specs.Tester.{Tester, begun, borrowed, ended}
use Rattle.memory_engine.specs.Tested.{NoKeepFault, Tested, testing}
use Rattle.reading_core.specs.Addresses.{IsAddress, IsRange}
use Rattle.probe_report.specs.declared.findings.Findings.{Findings}
use Rattle.probe_report.specs.declared.findings.Sighting.{Sighting}
use Rattle.probe_report.specs.declared.findings.Sighting.TheVariants as look
use Rattle.probe_report.specs.declared.judging.Verdict.{Verdict}
use Rattle.probe_report.specs.declared.judging.Verdict.TheVariants.{Forgets, Stores, Unknown}
use Rattle.machine_probe.specs.Runs.{OnLine}
use Rattle.machine_memory.specs.declared.memory_options.MemoryOptions.{MemoryOptions}
use Rattle.machine_memory.specs.BusCourse.{then_bus}
use Rattle.machine_memory.specs.BusRuns.{IsUnlent}
use Rattle.machine_memory.specs.Course.{IsWithin, Standing, behind_test, behind_trial, by_first, by_stop, by_verdict, next_bank, test_next, try_next}
use Rattle.probe_report.specs.Judging.{verdict_of}
use Rattle.machine_memory.specs.Words.{words_of}
use Rattle.machine_memory.specs.Turns.{most_turns}
use Rattle.machine_probe.specs.Follow.{IsTriedOut, IsUntried}
use Rattle.machine_memory.specs.declared.course.Place.TheVariants.{Trying, Testing}
use Rattle.machine_memory.specs.Options.{probe_options}
use Rattle.machine_memory.specs.Runs.{IsCutStep, IsTestLed, IsTestStep, IsTryStep}

-- ---- results

pub map_ok : {T E : Type 0} (r : Result T E) (P Q : T → Type 0) → ((x : T) → P x → Q x) → IfOk r P → IfOk r Q
map_ok (Ok x) P Q f p = f x p
map_ok (Err e) P Q f p = tt

pub map_err : {T E : Type 0} (r : Result T E) (P Q : Type 0) → (P → Q) → OnErr r P → OnErr r Q
map_err (Ok x) P Q f p = tt
map_err (Err e) P Q f p = f p

pub holds_on_error : {T E : Type 0} (r : Result T E) (P : Type 0) → P → OnErr r P
holds_on_error (Ok x) P p = tt
holds_on_error (Err e) P p = p

-- ---- one host

pub test_led : (options : MemoryOptions) (at : ℕ) (first last : Tester) (stopped : Stop End) (turns : ℕ) (line line' : Option (List Item)) → first ≡ begun (every_address at options.to options.every) options.patience → turns ≡ most_turns →
    Tested turns (testing first last (Some stopped)) line line' → TellsEnd stopped (ended last.phase) → NoKeepFault stopped → OnLine (IsTestLed options at last stopped) line line'
test_led options at first last stopped turns line line' begins limit s end fault = record {
  parts = s.said ∷ [];
  are = record {
    said = s.said;
    part = refl;
    tested = subst (λ (n : ℕ). Tested n (testing (begun (every_address at options.to options.every) options.patience) last (Some stopped)) (Some []) (Some s.said)) limit
        (subst (λ (t : Tester). Tested turns (testing t last (Some stopped)) (Some []) (Some s.said)) begins (record {
          heard = s.heard;
          said = s.said;
          given = s.given;
          kept = s.kept;
          host = s.host;
          goes_on = s.goes_on;
          within = s.within;
          done = s.done;
          news = s.news;
          on_line = refl;
          at_keeper = tt;
        }));
    end = end;
    no_fault = fault;
  };
  on_line = subst (Gains line line') (sym (append-nil s.said)) s.on_line;
}

pub test_step : (options : MemoryOptions) (at : ℕ) (before after : Standing) (last : Tester) (stopped : Stop End) (line line' : Option (List Item)) → OnLine (IsTestLed options at last stopped) line line' →
    after ≡ then_bus options.every (behind_test options.to before last stopped) → OnLine (IsTestStep options at before after) line line'
test_step options at before after last stopped line line' led is = record { parts = led.parts; are = record { last = last; stop = stopped; test_led = led.are; after_is = is }; on_line = led.on_line }

pub test_cut : (options : MemoryOptions) (at : ℕ) (last : Tester) (stopped : Stop End) (line line' : Option (List Item)) → OnLine (IsTestLed options at last stopped) line line' → OnLine (IsCutStep options (Testing at)) line line'
test_cut options at last stopped line line' led = record { parts = led.parts; are = inr (last, stopped, led.are); on_line = led.on_line }

pub try_step : (options : MemoryOptions) (at : ℕ) (before after : Standing) (f : Findings) (line line' : Option (List Item)) → OnLine (IsTriedOut (probe_options options at) f) line line' →
    after ≡ behind_trial options.to before f → OnLine (IsTryStep options at before after) line line'
try_step options at before after f line line' tried is = record { parts = tried.parts; are = record { f = f; tried = tried.are; after_is = is }; on_line = tried.on_line }

pub try_cut : (options : MemoryOptions) (at : ℕ) (f : Findings) (line line' : Option (List Item)) → OnLine (IsTriedOut (probe_options options at) f) line line' → OnLine (IsCutStep options (Trying at)) line line'
try_cut options at f line line' tried = record { parts = tried.parts; are = inr (f, tried.are); on_line = tried.on_line }

pub untried_cut : (options : MemoryOptions) (at : ℕ) (line line' : Option (List Item)) → OnLine (IsUntried (probe_options options at)) line line' → OnLine (IsCutStep options (Trying at)) line line'
untried_cut options at line line' tried = record { parts = tried.parts; are = inl tried.are; on_line = tried.on_line }

pub nothing_cut : (options : MemoryOptions) (at : ℕ) (line : Option (List Item)) → OnLine (IsCutStep options (Testing at)) line line
nothing_cut options at line = record { parts = []; are = inl refl; on_line = gains_none line }

-- ---- what comes next lies within what was asked for

low : (a b : ℕ) → nat_le a b ≡ true → a ≤ b
low a b e = grind (arith, nat_tests)

even_bank : (n : ℕ) → ((n + 1) * 0o20000) % 2 ≡ 0
even_bank n = omega arith

range_at : (to a b : ℕ) → a ≡ b → IsRange a to → IsRange b to
range_at to a b same is = subst (λ n. IsRange n to) same is

some_is : (a b : ℕ) → Some a ≡ Some b → a ≡ b
some_is a b e = cc e

bank_within : (address to : ℕ) (high more : Bool) → nat_le ((address / 0o20000 + 1) * 0o20000) to ≡ more → IsAddress to →
    (next : ℕ) → (if high then None else if more then Some ((address / 0o20000 + 1) * 0o20000) else None) ≡ Some next → IsRange next to
bank_within address to true more f is next e = absurd (cc e)
bank_within address to false false f is next e = absurd (cc e)
bank_within address to false true f is next e =
    let order : (address / 0o20000 + 1) * 0o20000 ≤ to = low _ _ f in
    range_at to ((address / 0o20000 + 1) * 0o20000) next (some_is _ _ e) (record {
      from_is = record { even = even_bank (address / 0o20000); below = omega (arith, order, is.below) };
      to_is = is;
      order = order;
    })

next_within : (address to : ℕ) → IsAddress to → (next : ℕ) → next_bank address to ≡ Some next → IsRange next to
next_within address to is next e = bank_within address to (nat_le 0o160000 address) (nat_le ((address / 0o20000 + 1) * 0o20000) to) refl is next e

try_within : (address to : ℕ) → IsAddress to → (next : Option ℕ) → next_bank address to ≡ next → IsWithin to (try_next address next)
try_within address to is None e = tt
try_within address to is (Some next) e = next_within address to is next e

more_within : (address to : ℕ) → IsAddress to → (next : Option ℕ) → next_bank address to ≡ next → IsWithin to (test_next next)
more_within address to is None e = tt
more_within address to is (Some next) e = next_within address to is next e

first_within : (to : ℕ) (s : Standing) (f : Findings) (first : Sighting) → IsAddress to → IsWithin to (by_first to s f first).place
first_within to s f (look.Number old) is = tt
first_within to s f look.NoWord is = try_within f.address to is (next_bank f.address to) refl
first_within to s f look.GaveUp is = tt
first_within to s f (look.CutOff cut) is = tt

verdict_within : (to : ℕ) (s : Standing) (f : Findings) (verdict : Verdict) → IsRange f.address to → IsWithin to (by_verdict to s f verdict).place
verdict_within to s f Forgets range = range
verdict_within to s f Stores range = tt
verdict_within to s f Unknown range = first_within to s f f.first range.to_is

-- behind a trial
pub trial_within : (to : ℕ) (s : Standing) (f : Findings) → IsRange f.address to → IsWithin to (behind_trial to s f).place
trial_within to s f range = verdict_within to s f (verdict_of f) range

stop_within : (to : ℕ) (s : Standing) (stopped : Stop End) (word : Option Borrowed) → IsAddress to → IsWithin to (by_stop to s stopped word).place
stop_within to s (stop.Ended core.Complete) word is = tt
stop_within to s (stop.Ended (core.NoWord gap)) None is = more_within gap to is (next_bank gap to) refl
stop_within to s (stop.Ended (core.NoWord gap)) (Some word) is = tt
stop_within to s (stop.Ended core.GaveUp) word is = tt
stop_within to s (stop.KeepFailed fault) word is = tt
stop_within to s (stop.CutOff cut) word is = tt

-- and behind a test
pub test_within : (to : ℕ) (s : Standing) (t : Tester) (stopped : Stop End) → IsAddress to → IsWithin to (behind_test to s t stopped).place
test_within to s t stopped is = stop_within to (record s { words = s.words ++ words_of t.addresses t.seen }) stopped (borrowed t) is

-- ---- a trial tests no word

first_words : (to : ℕ) (s : Standing) (f : Findings) (first : Sighting) → (by_first to s f first).words ≡ s.words
first_words to s f (look.Number old) = refl
first_words to s f look.NoWord = refl
first_words to s f look.GaveUp = refl
first_words to s f (look.CutOff cut) = refl

verdict_words : (to : ℕ) (s : Standing) (f : Findings) (verdict : Verdict) → (by_verdict to s f verdict).words ≡ s.words
verdict_words to s f Forgets = refl
verdict_words to s f Stores = refl
verdict_words to s f Unknown = first_words to s f f.first

pub trial_words : (to : ℕ) (s : Standing) (f : Findings) → (behind_trial to s f).words ≡ s.words
trial_words to s f = verdict_words to s f (verdict_of f)

-- ---- and lends none

try_ready : (address : ℕ) (next : Option ℕ) → IsUnlent (try_next address next)
try_ready address None options back = tt
try_ready address (Some next) options back = tt

first_ready : (to : ℕ) (s : Standing) (f : Findings) (first : Sighting) → IsUnlent (by_first to s f first).place
first_ready to s f (look.Number old) options back = tt
first_ready to s f look.NoWord options back = try_ready f.address (next_bank f.address to) options back
first_ready to s f look.GaveUp options back = tt
first_ready to s f (look.CutOff cut) options back = tt

verdict_ready : (to : ℕ) (s : Standing) (f : Findings) (verdict : Verdict) → IsUnlent (by_verdict to s f verdict).place
verdict_ready to s f Forgets options back = tt
verdict_ready to s f Stores options back = tt
verdict_ready to s f Unknown options back = first_ready to s f f.first options back

pub trial_ready : (to : ℕ) (s : Standing) (f : Findings) → IsUnlent (behind_trial to s f).place
trial_ready to s f = verdict_ready to s f (verdict_of f)
