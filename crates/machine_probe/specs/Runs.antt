-- The runs of a probe: each with what was said in its parts. All but a search have one part.
use Rattle.std.specs.Prelude.{◌≡◌, ℕ, List, [], ◌∷◌, Option, Some}
use Rattle.host_devices.specs.declared.item.Item.{Item}
use Rattle.host_devices.specs.Told.{Gains}
use Rattle.machine_probe.specs.declared.search.Search.{Search}
use Rattle.machine_probe.specs.MemoryEnd.{IsFound}
use Rattle.machine_probe.specs.Passes.{Searches, ahead, limits, three_passes}
use Rattle.looking_law.specs.Rows.{in_a_row}
use Rattle.probe_report.specs.declared.findings.TrialFindings.{TrialFindings}
use Rattle.probe_report.specs.declared.findings.Extent.{Extent}
use Rattle.probe_report.specs.declared.findings.Sighting.{Sighting}
use Rattle.reading_core.specs.Reader.{Reader, ended}
use Rattle.looking_engine.specs.Stopping.{LookStop, TellsEnd, TrialStop}
use Rattle.looking_engine.specs.Inquired.{Inquired, inquiry}
use Rattle.looking_engine.specs.Conducted.{Conducted, trying}
use Rattle.trial_core.specs.declared.trial.Trial.{Trial}
use Rattle.trial_core.specs.Trial.{begun_trial, ended as trial_ended}
use Rattle.looking_law.specs.Again.{looker}
use Rattle.machine_probe.specs.declared.probe_options.ProbeOptions.{ProbeOptions}
use Rattle.machine_probe.specs.Came.{trial_findings_of, extent_of, first_of, sighting_of}
use Rattle.machine_probe.specs.Turns.{turns_of}

-- a look at the word gave this, and so many characters came in it that no loss explains
pub record LooksAt (options : ProbeOptions) (changed : ℕ) (sighting : Sighting) (parts : List (List Item)) : Type 0 where
  pub said : List Item
  pub part : parts ≡ said ∷ []
  pub stop : LookStop
  pub last : Reader
  pub inquired : Inquired (turns_of options.patience) (inquiry (looker options.address options.patience) last (Some stop)) (Some []) (Some said)
  pub end : TellsEnd stop (ended last.phase)
  pub sighting_is : sighting ≡ sighting_of stop (first_of last.values)
  pub changed_is : changed ≡ last.foreign

-- a trial of the word, which holds this number, gave this
pub record IsTrialOf (options : ProbeOptions) (old : ℕ) (attempt : TrialFindings) (parts : List (List Item)) : Type 0 where
  pub said : List Item
  pub part : parts ≡ said ∷ []
  pub stop : TrialStop
  pub last : Trial
  pub conducted : Conducted (turns_of options.patience) (trying (begun_trial options.address old options.patience) last (Some stop)) (Some []) (Some said)
  pub end : TellsEnd stop (trial_ended last.phase)
  pub findings_are : attempt ≡ trial_findings_of last stop

-- a search of memory's end gave this, a part for each of its passes, and so many characters came in them that no loss explains
pub record IsSearch (options : ProbeOptions) (changed : ℕ) (extent : Extent) (parts : List (List Item)) : Type 0 where
  pub search : Search
  pub passes : Searches three_passes (ahead (limits options.patience (turns_of options.patience)) 0) search changed parts
  pub extent_is : extent ≡ extent_of search
  pub found : IsFound options.patience search changed parts

-- runs were made over a line that told this and then that: it gained what was said in their parts
pub record OnLine (runs : List (List Item) → Type 0) (line line' : Option (List Item)) : Type 0 where
  pub parts : List (List Item)
  pub are : runs parts
  pub on_line : Gains line line' (in_a_row parts)
