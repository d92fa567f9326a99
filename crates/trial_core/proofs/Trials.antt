-- A step of a trial keeps what holds of every trial, and sends a digit, `/` or `Z` at most.
use Rattle.std.proofs.Common.{◌≡◌, ◌+◌, Bool, true, nat_lt, if◌then◌else◌, arith}
use borrow.Author.Tests.{ltb-true}
use Rattle.host_core.specs.declared.heard.Heard.{Heard}
use Rattle.host_core.specs.Console.{resynchronise}
use Rattle.host_core.proofs.Frame.{on_test}
use Rattle.trial_core.specs.declared.phase.Phase.{Phase}
use Rattle.trial_core.specs.declared.phase.Phase.TheVariants.{Settle, Sync, Ended}
use Rattle.trial_core.specs.declared.phase.End.TheVariants.{GaveUp}
use Rattle.trial_core.specs.declared.turn.Turn.{Turn}
use Rattle.trial_core.specs.declared.turn.Turn.TheVariants.{Listen, Key, Stop, Stray, Timeout}
use Rattle.trial_core.specs.declared.trial.Trial.{Trial}
use Rattle.trial_core.specs.Trial.{IsTrial, PhaseFits}
use Rattle.trial_core.specs.TrialTable.{TrialStep, KeyTries, ask, listens, noted, sends, taken, turn_of}
use Rattle.trial_core.proofs.Turns.{TurnFits, turn_fits, z_tries}

-- a trial that has come to another phase, perhaps with a mishap more
moved : (t : Trial) (phase : Phase) → IsTrial t → PhaseFits phase → IsTrial (record t { phase = phase })
moved t phase h f = record { address = h.address; digits = h.digits; patient = h.patient; long = h.long; fits = f }

mishap : (t : Trial) (phase : Phase) → IsTrial t → nat_lt t.spent t.patience ≡ true → PhaseFits phase → IsTrial (record t { spent = t.spent + 1; phase = phase })
mishap t phase h more f = record { address = h.address; digits = h.digits; patient = omega (arith, ltb-true _ _ more); long = h.long; fits = f }

either : (P : TrialStep → Type 0) (test : Bool) (a b : TrialStep) → (test ≡ true → P a) → P b → P (if test then a else b)
either P test a b is isnt = on_test (λ v. P (if v then a else b)) test is (λ _. isnt)

taken_kept : (t : Trial) (turn : Turn) → IsTrial t → TurnFits turn → IsTrial (taken t turn).next
taken_kept t (Listen phase) h f = moved t phase h f
taken_kept t (Key key phase) h f = moved t phase h f.0
taken_kept t (Stop end) h f = moved t (Ended end) h tt
taken_kept t Stray h f =
    either (λ a. IsTrial a.next) (nat_lt t.spent t.patience) (listens (record t { spent = t.spent + 1 }) Settle) (listens t (Ended GaveUp))
    (λ more. mishap t Settle h more tt)
    (moved t (Ended GaveUp) h tt)
taken_kept t Timeout h f =
    either (λ a. IsTrial a.next) (nat_lt t.spent t.patience) (sends (record t { spent = t.spent + 1 }) resynchronise (Sync 0)) (listens t (Ended GaveUp))
    (λ more. mishap t (Sync 0) h more (omega arith))
    (moved t (Ended GaveUp) h tt)

taken_tries : (t : Trial) (turn : Turn) → TurnFits turn → KeyTries (taken t turn).key
taken_tries t (Listen phase) f = tt
taken_tries t (Key key phase) f = f.1
taken_tries t (Stop end) f = tt
taken_tries t Stray f =
    either (λ a. KeyTries a.key) (nat_lt t.spent t.patience) (listens (record t { spent = t.spent + 1 }) Settle) (listens t (Ended GaveUp)) (λ _. tt) tt
taken_tries t Timeout f =
    either (λ a. KeyTries a.key) (nat_lt t.spent t.patience) (sends (record t { spent = t.spent + 1 }) resynchronise (Sync 0)) (listens t (Ended GaveUp)) (λ _. z_tries) tt

-- what was seen of the console's style says nothing of whether a trial is one
seen_kept : (t : Trial) (heard : Heard) → IsTrial t → IsTrial (noted t heard)
seen_kept t heard h = record { address = h.address; digits = h.digits; patient = h.patient; long = h.long; fits = h.fits }

pub kept : (t : Trial) (heard : Heard) → IsTrial t → IsTrial (ask t heard).next
kept t heard h = taken_kept (noted t heard) (turn_of t heard) (seen_kept t heard h) (turn_fits t heard h.fits)

pub tries : (t : Trial) (heard : Heard) → IsTrial t → KeyTries (ask t heard).key
tries t heard h = taken_tries (noted t heard) (turn_of t heard) (turn_fits t heard h.fits)
