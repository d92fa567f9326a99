-- What a load, a look, a probe or a test of a real machine comes to: the exit status, or the failure that names what was at fault.
use Rattle.std.specs.Prelude.{◌≡◌, ℕ, Bool, if◌then◌else◌, List, Result, Ok, Err}
use Rattle.host_devices.specs.declared.fault.LineFault.{LineFault}
use Rattle.load_engine.specs.Driving.{LoadStop as Stop}
use Rattle.engine.specs.declared.stop.Cut.{Cut}
use Rattle.engine.specs.declared.stop.Cut.TheVariants as why
use Rattle.engine.specs.declared.stop.Stop.TheVariants as stop
use Rattle.machine_load.specs.declared.fault.LoadFault.TheVariants as load
use Rattle.machine_load.specs.declared.load_end.LoadEnd.{LoadEnd}
use Rattle.machine_load.specs.declared.load_end.LoadEnd.TheVariants as load_end
use Rattle.machine_look.specs.declared.look_fault.LookFault.TheVariants as look
use Rattle.machine_look.specs.declared.save_end.SaveEnd.{SaveEnd}
use Rattle.machine_look.specs.declared.save_end.SaveEnd.TheVariants as save
use Rattle.machine_look.specs.declared.verify_end.VerifyEnd.{VerifyEnd}
use Rattle.machine_look.specs.declared.verify_end.VerifyEnd.TheVariants as verify
use Rattle.machine_memory.specs.declared.memory_end.MemoryEnd.{MemoryEnd}
use Rattle.memory_report.specs.declared.test_end.TestEnd.{TestEnd}
use Rattle.memory_report.specs.declared.test_end.TestEnd.TheVariants as test
use Rattle.machine_probe.specs.declared.probe_fault.ProbeFault.TheVariants as probe_fault
use Rattle.probe_report.specs.declared.probe_end.ProbeEnd.{ProbeEnd}
use Rattle.probe_report.specs.declared.probe_end.ProbeEnd.TheVariants as probe
use Rattle.endings.specs.declared.failure.Failure.{Failure}
use Rattle.endings.specs.declared.failure.Failure.TheVariants.{CannotWrite, CannotWriteFile, RecordInUse, RecordRefused, RecordStale}
use Rattle.endings.specs.declared.failure.Failure.TheVariants.{FileIsThere, PartIsThere, PartNotOfSave, PartStale}
use Rattle.endings.specs.declared.failure.Failure.TheVariants.{CannotConnect, LineFailed, StartInDoubt, NoMemory}
use Rattle.endings.specs.declared.status.Status.{Status}
use Rattle.endings.specs.declared.status.Status.TheVariants.{Done, Differs, NotLoaded}
use Rattle.requests.specs.declared.request_fault.RequestFault.{RequestFault}
use Rattle.requests.specs.declared.request_fault.RequestFault.TheVariants.{Load, Look, Probe, Shelf}
use Rattle.tape_shelf.specs.declared.shelf.ShelfFault.TheVariants as shelf
use Rattle.input_files.specs.Opening.{Name}
use Rattle.endings.specs.Failure.{NamesFile}
use Rattle.endings.specs.Status.{end_status}

-- the failure is of this kind, and this is what it names
abbrev pub Names : (Name → Failure) → List ℕ → Failure → Type 0
Names kind text failure = (name : Name) × (failure ≡ kind name) × (name.now ≡ text)

-- the failure that a fault is, where the console has this name, and the record or the new file that one
abbrev pub IsFailureOf : RequestFault → List ℕ → List ℕ → Failure → Type 0
IsFailureOf (Load load.ReadRecord) console file failure = NamesFile file failure
IsFailureOf (Load load.RecordInUse) console file failure = Names RecordInUse file failure
IsFailureOf (Load (load.Record reason)) console file failure = failure ≡ RecordRefused reason
IsFailureOf (Load load.WriteRecord) console file failure = Names CannotWriteFile file failure
IsFailureOf (Look look.IsThere) console file failure = Names FileIsThere file failure
IsFailureOf (Shelf shelf.IsThere) console file failure = Names FileIsThere file failure
IsFailureOf (Look look.PartIsThere) console file failure = Names PartIsThere file failure
IsFailureOf (Shelf shelf.PartIsThere) console file failure = Names PartIsThere file failure
IsFailureOf (Look look.NotOfSave) console file failure = Names PartNotOfSave file failure
IsFailureOf (Shelf shelf.NotOfSave) console file failure = Names PartNotOfSave file failure
IsFailureOf (Look look.WriteTape) console file failure = Names CannotWriteFile file failure
IsFailureOf (Shelf shelf.Write) console file failure = Names CannotWriteFile file failure
IsFailureOf (Load load.Connect) console file failure = Names CannotConnect console failure
IsFailureOf (Look look.Connect) console file failure = Names CannotConnect console failure
IsFailureOf (Probe probe_fault.Connect) console file failure = Names CannotConnect console failure
IsFailureOf (Load (load.WriteOutput marked)) console file failure = failure ≡ CannotWrite
IsFailureOf (Look look.WriteOutput) console file failure = failure ≡ CannotWrite
IsFailureOf (Probe probe_fault.WriteOutput) console file failure = failure ≡ CannotWrite
IsFailureOf (Load load.Memory) console file failure = failure ≡ NoMemory
IsFailureOf (Look look.Memory) console file failure = failure ≡ NoMemory
IsFailureOf (Probe probe_fault.Memory) console file failure = failure ≡ NoMemory
IsFailureOf (Shelf shelf.Memory) console file failure = failure ≡ NoMemory

-- how the program ends where an engine was cut off: where its line failed, that is a failure and no ending
abbrev pub after_cut : Cut → Result Status Failure
after_cut (why.LineFailed fault) = Err (LineFailed fault)
after_cut why.TurnsOver = Ok NotLoaded

-- how a load fails whose line did: once the start was typed, or may have been, it says so
abbrev pub line_failure : Bool → LineFault → Failure
line_failure marked fault = if marked then StartInDoubt fault else LineFailed fault

-- how a load fails all the same whose engine stopped so: the line failed, or the record's keeper
abbrev pub IsStopFailure : Stop → Bool → List ℕ → Failure → Type 0
IsStopFailure (stop.CutOff (why.LineFailed fault)) marked file failure = failure ≡ line_failure marked fault
IsStopFailure (stop.KeepFailed fault) marked file failure = Names CannotWriteFile file failure
IsStopFailure other marked file failure = ⊥

-- how the program ended where the engine stopped so: where its line or its keeper failed, that is a failure and no ending
abbrev pub IsStopStatus : Stop → Status → Type 0
IsStopStatus (stop.Ended end) status = status ≡ end_status end
IsStopStatus (stop.CutOff why.TurnsOver) status = status ≡ NotLoaded
IsStopStatus other status = ⊥

-- how a load that was reported fails all the same: its engine failed, or that of its looks; or memory does not hold what its record says
abbrev pub IsLoadEndFailure : LoadEnd → Bool → List ℕ → Failure → Type 0
IsLoadEndFailure (load_end.Driven stop) marked file failure = IsStopFailure stop marked file failure
IsLoadEndFailure (load_end.Unfinished stop) marked file failure = IsStopFailure stop marked file failure
IsLoadEndFailure (load_end.Stale address) marked file failure = failure ≡ RecordStale

-- how the program ended where a load ended so and was reported
abbrev pub IsLoadEndStatus : LoadEnd → Status → Type 0
IsLoadEndStatus (load_end.Driven stop) status = IsStopStatus stop status
IsLoadEndStatus (load_end.Unfinished stop) status = IsStopStatus stop status
IsLoadEndStatus (load_end.Stale address) status = ⊥

-- how the program ends after a `verify` that ended so
abbrev pub after_verify : VerifyEnd → Result Status Failure
after_verify verify.Same = Ok Done
after_verify verify.Differs = Ok Differs
after_verify verify.Changed = Ok NotLoaded
after_verify (verify.NoWord address) = Ok NotLoaded
after_verify verify.GaveUp = Ok NotLoaded
after_verify (verify.CutOff cut) = after_cut cut

-- how the program ended where a `save` ended so
abbrev pub IsSaveEndStatus : SaveEnd → Status → Type 0
IsSaveEndStatus save.Saved status = status ≡ Done
IsSaveEndStatus save.Changed status = status ≡ NotLoaded
IsSaveEndStatus (save.NoWord address) status = status ≡ NotLoaded
IsSaveEndStatus save.GaveUp status = status ≡ NotLoaded
IsSaveEndStatus (save.CutOff cut) status = after_cut cut ≡ Ok status
IsSaveEndStatus other status = ⊥

-- how a `save` to a file of this name fails that ended so: its line failed, or memory does not hold what is beside the file
abbrev pub IsSaveEndFailure : SaveEnd → List ℕ → Failure → Type 0
IsSaveEndFailure (save.CutOff cut) file failure = after_cut cut ≡ Err failure
IsSaveEndFailure (save.Stale address) file failure = Names PartStale file failure
IsSaveEndFailure other file failure = ⊥

-- how the program ends after a `probe` that ended so
abbrev pub after_probe : ProbeEnd → Result Status Failure
after_probe probe.Probed = Ok Done
after_probe probe.NotTrusted = Ok NotLoaded
after_probe probe.NoPrompt = Ok NotLoaded
after_probe probe.GaveUp = Ok NotLoaded
after_probe (probe.NoWord address) = Ok NotLoaded
after_probe (probe.CutOff cut) = after_cut cut

-- how the program ends after a test of memory that ended so, where it is good or not
abbrev pub by_test : Bool → TestEnd → Result Status Failure
by_test good test.Tested = Ok (if good then Done else Differs)
by_test good test.NotTrusted = Ok NotLoaded
by_test good (test.NoWord address) = Ok NotLoaded
by_test good test.GaveUp = Ok NotLoaded
by_test good (test.CutOff cut) = after_cut cut

abbrev pub after_test : MemoryEnd → Result Status Failure
after_test tested = by_test tested.good tested.end
