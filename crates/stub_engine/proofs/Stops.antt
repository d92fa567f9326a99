-- What stops say of failures.
use Rattle.std.proofs.Common.{◌≡◌, ℕ, [], Option, Some, None, refl, ap, ◌∙◌}
use Rattle.host_core.specs.declared.phase.End.{End}
use Rattle.host_core.specs.declared.phase.End.TheVariants.{Loaded, Started, Uncertain, MaybeStarted, GaveUp, NoWord, WontHold}
use Rattle.host_devices.specs.Failures.{CountsFault}
use Rattle.tape_image.specs.Plan.{PlanValue}
use Rattle.load_engine.specs.Driving.{LoadStop}
use Rattle.engine.specs.declared.stop.Stop.TheVariants.{Ended, KeepFailed, CutOff}
use Rattle.engine.specs.Stopping.{line_fault, keep_fault}
use Rattle.stub_engine.specs.declared.stop.StubsEnd.{StubsEnd}
use Rattle.stub_engine.specs.declared.stop.StubsEnd.TheVariants.{TooFewWords, NoRoom, InVain, NotStarted, Memory}
use Rattle.stub_engine.specs.declared.tally.Tally.{Tally}
use Rattle.stub_engine.specs.Brought.{TellsInVain}
use Rattle.stub_engine.specs.Exchanging.{ExchangeStop}
use Rattle.stub_engine.specs.Parts.{StubsStop, TellsEnd as EndsSo, why_ended, why_left, why_unstarted}
use Rattle.stub_engine.specs.Planning.{IsUnplanned}

pub is_some : {A : Type 0} (a : A) → Some a ≡ None → ⊥
is_some {A} a e = absurd (cc e)

-- ---- where no stub is planned

-- nothing else is said of it
pub record IsWhole (end : StubsEnd) : Type 0 where
  pub ends : EndsSo (Some (Ended end)) []
  pub in_vain : (tally : Tally) → TellsInVain (Some (Ended end)) tally

pub unplanned_whole : {tape : PlanValue} {from : ℕ} (end : StubsEnd) → IsUnplanned tape from end → IsWhole end
unplanned_whole TooFewWords u = record { ends = tt; in_vain = λ tally. tt }
unplanned_whole NoRoom u = record { ends = tt; in_vain = λ tally. tt }
unplanned_whole Memory u = record { ends = tt; in_vain = λ tally. tt }
unplanned_whole InVain u = absurd u.2
unplanned_whole (NotStarted end) u = absurd u.2

-- ---- behind an exchange

-- its stop names the same fault of the line
pub line_left : (stop : ExchangeStop) (answer : Option StubsStop) → answer ≡ why_left stop → line_fault answer ≡ line_fault (Some stop)
line_left stop answer is = ap line_fault is ∙ by stop
  where
    by : (stop : ExchangeStop) → line_fault (why_left stop) ≡ line_fault (Some stop)
    by (Ended end) = refl
    by (KeepFailed fault) = refl
    by (CutOff cut) = refl

-- and of the keeper
pub keep_left : (stop : ExchangeStop) (answer : Option StubsStop) → answer ≡ why_left stop → keep_fault answer ≡ keep_fault (Some stop)
keep_left stop answer is = ap keep_fault is ∙ by stop
  where
    by : (stop : ExchangeStop) → keep_fault (why_left stop) ≡ keep_fault (Some stop)
    by (Ended end) = refl
    by (KeepFailed fault) = refl
    by (CutOff cut) = refl

pub vain_left : (stop : ExchangeStop) (tally : Tally) → TellsInVain (why_left stop) tally
vain_left (Ended end) tally = tt
vain_left (KeepFailed fault) tally = tt
vain_left (CutOff cut) tally = tt

-- ---- behind a host that was to bring in a stub

pub ended_whole : (end : End) → (line_fault (why_ended end) ≡ None) × (keep_fault (why_ended end) ≡ None)
ended_whole Loaded = (refl, refl)
ended_whole Started = (refl, refl)
ended_whole Uncertain = (refl, refl)
ended_whole MaybeStarted = (refl, refl)
ended_whole GaveUp = (refl, refl)
ended_whole (NoWord address) = (refl, refl)
ended_whole (WontHold address) = (refl, refl)

pub line_unstarted : (stop : LoadStop) → line_fault (why_unstarted stop) ≡ line_fault (Some stop)
line_unstarted (Ended end) = (ended_whole end).0
line_unstarted (KeepFailed fault) = refl
line_unstarted (CutOff cut) = refl

pub keep_unstarted : (stop : LoadStop) → keep_fault (Some stop) ≡ None → keep_fault (why_unstarted stop) ≡ None
keep_unstarted (Ended end) whole = (ended_whole end).1
keep_unstarted (KeepFailed fault) whole = absurd (is_some fault whole)
keep_unstarted (CutOff cut) whole = refl

-- three in vain are not said of it
pub vain_unstarted : (stop : LoadStop) (tally : Tally) → TellsInVain (why_unstarted stop) tally
vain_unstarted (Ended end) tally = by end
  where
    by : (end : End) → TellsInVain (why_ended end) tally
    by Loaded = tt
    by Started = tt
    by Uncertain = tt
    by MaybeStarted = tt
    by GaveUp = tt
    by (NoWord address) = tt
    by (WontHold address) = tt
vain_unstarted (KeepFailed fault) tally = tt
vain_unstarted (CutOff cut) tally = tt

-- where an exchange follows, the line has not failed
pub started_counts : (stop : LoadStop) (l l' : ℕ) → why_unstarted stop ≡ None → CountsFault (line_fault (Some stop)) l l' → l' ≡ l
started_counts (Ended end) l l' follows h = h
started_counts (KeepFailed fault) l l' follows h = absurd (is_some _ follows)
started_counts (CutOff cut) l l' follows h = absurd (is_some _ follows)
