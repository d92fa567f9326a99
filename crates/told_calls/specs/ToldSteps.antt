-- The steps that a list of the program stands for.
use Rattle.std.specs.Prelude.{ℕ, List, map, Option, Some, Vec, option_map}
use Rattle.std.specs.String.{string_bytes}
use Rattle.record_file.specs.DiskStep.{DiskStep, DiskRequest}
use Rattle.record_file.specs.DiskStep as disk
use Rattle.told_calls.specs.declared.told_file.ToldFile.{ToldFile}
use Rattle.told_calls.specs.declared.told_step.ToldRequest.{ToldRequest}
use Rattle.told_calls.specs.declared.told_step.ToldRequest.TheVariants.{Look, LookAtName, FindSoleFile, FindFile, Resolve}
use Rattle.told_calls.specs.declared.told_step.ToldRequest.TheVariants.{Open, Hold, Link, Rename, Remove, SyncFolder, Cut, SyncFile}
use Rattle.told_calls.specs.declared.told_step.ToldStep.{ToldStep}
use Rattle.told_calls.specs.declared.told_step.ToldStep.TheVariants.{Did, Failed, LedTo}

abbrev pub request_of : ToldRequest → DiskRequest
request_of (Look name) = disk.Look (string_bytes name)
request_of (LookAtName name) = disk.LookAtName (string_bytes name)
request_of (FindSoleFile name) = disk.FindSoleFile (string_bytes name)
request_of (FindFile name text) = disk.FindFile (string_bytes name) (Some text.items)
request_of (Resolve name) = disk.Resolve (string_bytes name)
request_of (Open access name) = disk.Open access (string_bytes name)
request_of (Hold name) = disk.Hold (string_bytes name)
request_of (Link from to) = disk.Link (string_bytes from) (string_bytes to)
request_of (Rename from to left) = disk.Rename (string_bytes from) (string_bytes to) (Some left.items)
request_of (Remove name) = disk.Remove (string_bytes name)
request_of (SyncFolder name) = disk.SyncFolder (string_bytes name)
request_of (Cut text length) = disk.Cut (Some text.items) length
request_of (SyncFile text) = disk.SyncFile (Some text.items)

abbrev pub step_of : ToldStep → DiskStep
step_of (Did request) = disk.Did (request_of request)
step_of (Failed request) = disk.Failed (request_of request)
step_of (LedTo name target) = disk.LedTo (string_bytes name) (string_bytes target)

-- the whole list, where there is one
abbrev pub steps_of : {A : Type 0} → Option (Vec ToldStep A) → Option (List DiskStep)
steps_of asked = option_map (λ steps. map step_of steps.items) asked

-- what was written to a file
abbrev pub written_to : ToldFile → Option (List ℕ)
written_to file = Some file.written.items
