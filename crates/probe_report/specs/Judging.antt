-- What a probe's findings say of a console (this project's choice).
use Rattle.std.specs.Prelude.{ℕ, ◌/◌, ◌==◌, ◌||◌, if◌then◌else◌, Bool, Option, Some}
use Rattle.trial_core.specs.Digits.{digits_for}
use Rattle.probe_report.specs.declared.findings.TrialFindings.{TrialFindings}
use Rattle.probe_report.specs.declared.findings.Findings.{Findings}
use Rattle.probe_report.specs.declared.findings.Sighting.{Sighting}
use Rattle.probe_report.specs.declared.findings.Sighting.TheVariants.{Number}
use Rattle.probe_report.specs.declared.findings.TrialEnd.{TrialEnd}
use Rattle.probe_report.specs.declared.findings.TrialEnd.TheVariants.{Tried}
use Rattle.probe_report.specs.declared.judging.Verdict.{Verdict}
use Rattle.probe_report.specs.declared.judging.Verdict.TheVariants.{Forgets, Stores, Unknown}

-- the same number before the trial and behind it: that says something only where the trial came to its end
abbrev pub on_same_number : TrialEnd → Verdict
on_same_number Tried = Forgets
on_same_number end = Unknown

-- a console that stores makes this number of the three digits of a trial: of all of them where it came to its end, else maybe of the
-- first one or two, since each is typed once the one before was echoed
abbrev pub is_stored : ℕ → ℕ → TrialEnd → Bool
is_stored digits now Tried = now == digits
is_stored digits now end = now == digits || now == digits / 0o10 || now == digits / 0o100

-- a number before the trial, and one behind it: another one that the digits don't make says nothing
abbrev pub on_numbers : ℕ → ℕ → TrialEnd → Verdict
on_numbers old now end =
    if now == old then on_same_number end
    else if is_stored (digits_for old) now end then Stores
    else Unknown

-- a first look, the trial and a second look, as far as they were made
abbrev pub on_looks : Sighting → Option TrialFindings → Option Sighting → Verdict
on_looks (Number old) (Some trial) (Some (Number now)) = on_numbers old now trial.end
on_looks first trial second = Unknown

-- the same of all that was found
abbrev pub verdict_of : Findings → Verdict
verdict_of findings = on_looks findings.first findings.trial findings.second
