-- What a probe makes ready before it is needed.
use Rattle.std.specs.Prelude.{◌≡◌, Option, Some, None, ⊤}
use Rattle.probe_report.specs.declared.findings.Sighting.{Sighting}
use Rattle.probe_report.specs.declared.findings.Sighting.TheVariants.{Number}
use Rattle.looking_law.specs.Again.{looker}
use Rattle.machine_probe.specs.declared.probe_options.ProbeOptions.{ProbeOptions}
use Rattle.machine_probe.specs.declared.putting_back.Deposit.{Deposit}
use Rattle.machine_probe.specs.declared.runs.Lookers.{Lookers}
use Rattle.machine_probe.specs.PuttingBack.{IsDeposit}

-- both hosts look at the word
pub record AreLookers (options : ProbeOptions) (lookers : Lookers) : Type 0 where
  pub first : lookers.first ≡ looker options.address options.patience
  pub second : lookers.second ≡ looker options.address options.patience

-- where a look read a number, it can be put back
abbrev pub HasDeposit : ProbeOptions → Sighting → Option Deposit → Type 0
HasDeposit options (Number old) (Some deposit) = IsDeposit options old deposit
HasDeposit options (Number old) None = ⊥
HasDeposit options sighting deposit = ⊤
