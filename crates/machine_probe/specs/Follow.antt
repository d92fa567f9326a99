-- Which runs a probe makes.
use Rattle.std.specs.Prelude.{◌≡◌, ◌⊎◌, ℕ, Bool, true, false, List, [], ◌++◌, Option, Some, None}
use Rattle.host_devices.specs.declared.item.Item.{Item}
use Rattle.engine.specs.declared.stop.Cut.TheVariants.{LineFailed}
use Rattle.probe_report.specs.declared.findings.TrialFindings.{TrialFindings}
use Rattle.probe_report.specs.declared.findings.Findings.{Findings}
use Rattle.probe_report.specs.declared.findings.Sighting.{Sighting}
use Rattle.probe_report.specs.declared.findings.Sighting.TheVariants as look
use Rattle.probe_report.specs.declared.findings.TrialEnd.{TrialEnd}
use Rattle.probe_report.specs.declared.findings.TrialEnd.TheVariants as trial
use Rattle.probe_report.specs.declared.judging.Verdict.{Verdict}
use Rattle.probe_report.specs.declared.judging.Verdict.TheVariants.{Forgets, Stores}
use Rattle.probe_report.specs.Judging.{verdict_of}
use Rattle.machine_probe.specs.declared.probe_options.ProbeOptions.{ProbeOptions}
use Rattle.machine_probe.specs.PuttingBack.{PutsBack}
use Rattle.machine_probe.specs.Runs.{LooksAt, IsSearch, IsTrialOf}

-- the look read a number
abbrev pub is_number : Sighting → Bool
is_number (look.Number number) = true
is_number sighting = false

-- the number that a look read
abbrev pub number_in : Sighting → ℕ
number_in (look.Number number) = number
number_in sighting = 0

-- the line goes on behind a trial with this end
abbrev pub has_line : TrialEnd → Bool
has_line (trial.CutOff (LineFailed fault)) = false
has_line end = true

-- there was a trial, and the line goes on behind it
abbrev pub goes_on : Option TrialFindings → Bool
goes_on None = false
goes_on (Some attempt) = has_line attempt.end

-- the console stored the digits: the second look read another number, which they make
abbrev pub stores : Verdict → Bool
stores Stores = true
stores verdict = false

-- the console forgot the digits: both looks read the same number, and the trial came to its end
abbrev pub forgets : Verdict → Bool
forgets Forgets = true
forgets verdict = false

-- a run was made exactly where it is wanted, and gave this; where it was not made, nothing was said
abbrev pub MadeWhere : {A : Type 0} → Bool → (A → List (List Item) → Type 0) → Option A → List (List Item) → Type 0
MadeWhere {A} true run (Some found) parts = run found parts
MadeWhere {A} false run None parts = parts ≡ []
MadeWhere {A} wanted run found parts = ⊥

-- the same of a run in which characters are counted that no loss explains: where it was not made, there are none
abbrev pub CountedWhere : {A : Type 0} → Bool → (ℕ → A → List (List Item) → Type 0) → ℕ → Option A → List (List Item) → Type 0
CountedWhere {A} wanted run changed found parts = MadeWhere wanted (run changed) found parts × (found ≡ None → changed ≡ 0)

-- what a probe does before it decides gave these findings: a look, a trial where that read a number, and a second look behind every trial whose
-- line goes on
pub record IsTried (options : ProbeOptions) (f : Findings) (parts : List (List Item)) : Type 0 where
  pub in_look : List (List Item)
  pub in_trial : List (List Item)
  pub in_second_look : List (List Item)
  pub parts_are : parts ≡ in_look ++ (in_trial ++ in_second_look)
  pub look : LooksAt options f.changes.first f.first in_look
  pub trial : MadeWhere (is_number f.first) (IsTrialOf options (number_in f.first)) f.trial in_trial
  pub second_look : CountedWhere (goes_on f.trial) (LooksAt options) f.changes.second f.second in_second_look

-- the runs of a probe gave these findings: it tried, and then the old number is put back where the console stored another, and memory's end is
-- searched where it forgets
pub record IsProbe (options : ProbeOptions) (f : Findings) (parts : List (List Item)) : Type 0 where
  pub address : f.address ≡ options.address
  pub in_tries : List (List Item)
  pub in_deposit : List (List Item)
  pub in_search : List (List Item)
  pub parts_are : parts ≡ in_tries ++ (in_deposit ++ in_search)
  pub tried : IsTried options f in_tries
  pub deposit : MadeWhere (stores (verdict_of f)) (PutsBack options (number_in f.first)) f.put_back in_deposit
  pub search : CountedWhere (forgets (verdict_of f)) (IsSearch options) f.changes.search f.search in_search

-- a console was tried out, and gave these findings: the old number was put back where it stored another, and memory's end was not searched
pub record IsTriedOut (options : ProbeOptions) (f : Findings) (parts : List (List Item)) : Type 0 where
  pub address : f.address ≡ options.address
  pub in_tries : List (List Item)
  pub in_deposit : List (List Item)
  pub parts_are : parts ≡ in_tries ++ in_deposit
  pub tried : IsTried options f in_tries
  pub deposit : MadeWhere (stores (verdict_of f)) (PutsBack options (number_in f.first)) f.put_back in_deposit

-- no digit was typed: there was a look at most
abbrev pub IsUntried : ProbeOptions → List (List Item) → Type 0
IsUntried options parts = (parts ≡ []) ⊎ ((changed : ℕ) × (sighting : Sighting) × LooksAt options changed sighting parts)

-- a probe found the same number again, and did not search memory's end
pub record IsUnsearched (options : ProbeOptions) (parts : List (List Item)) : Type 0 where
  pub f : Findings
  pub tried : IsTried options f parts
  pub same : forgets (verdict_of f) ≡ true

-- where a probe may be broken off: behind its first look, with no digit typed, or behind a second look that read the same number
abbrev pub IsBrokenOff : ProbeOptions → List (List Item) → Type 0
IsBrokenOff options parts = ((changed : ℕ) × (sighting : Sighting) × LooksAt options changed sighting parts) ⊎ IsUnsearched options parts
