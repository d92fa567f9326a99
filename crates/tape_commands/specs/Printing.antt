-- What becomes of a request that does nothing but print: what the files that it names and standard input held decides what is written, and the
-- status or the failure.
use Rattle.std.specs.Prelude.{◌≡◌, ⊤}
use Rattle.endings.specs.declared.failure.Failure.{Failure}
use Rattle.endings.specs.declared.status.Status.{Status}
use Rattle.endings.specs.declared.status.Status.TheVariants.{Done}
use Rattle.input_files.specs.Intake.{Intake}
use Rattle.request_values.specs.Change.{◌⇒◌}
use Rattle.request_values.specs.declared.request.PrintRequest.{PrintRequest}
use Rattle.request_values.specs.declared.request.PrintRequest.TheVariants.{CheckInput, Check, Dialogue, Rehearse, «Type» as TypeKeys}
use Rattle.tape_commands.specs.Checking.{AreChecked, AreUnchecked, IsInputChecked, IsInputUnchecked}
use Rattle.tape_commands.specs.declared.printing.InputNames.{InputNames}
use Rattle.tape_commands.specs.declared.printing.InputNames.TheVariants.{Nothing, Tapes, Scripted}
use Rattle.tape_commands.specs.Rehearsing.{AreRehearsed, AreUnrehearsed}
use Rattle.tape_commands.specs.Showing.{AreShown, AreUnshown}
use Rattle.tape_commands.specs.Typing.{IsTypedThrough, IsTypingFailure}

-- these are the names of a request
abbrev pub AreNamesOf : PrintRequest → InputNames → Type 0
AreNamesOf CheckInput Nothing = ⊤
AreNamesOf (Check names options) (Tapes tapes) = tapes.now ≡ names.items
AreNamesOf (Dialogue names stage) (Tapes tapes) = tapes.now ≡ names.items
AreNamesOf (Rehearse rehearsal) (Scripted scripted) = scripted.now ≡ rehearsal
AreNamesOf (TypeKeys console) Nothing = ⊤
AreNamesOf request names = ⊥

-- no file was opened
abbrev pub OpensNothing : Intake → Intake → Type 0
OpensNothing before after = after.opened ≡ before.opened

-- the request was done, and the program ends so
abbrev pub IsPrinted : PrintRequest → Intake → Intake → Status → Type 0
IsPrinted CheckInput before after status = IsInputChecked before.held after.held status × OpensNothing before after
IsPrinted (Check names options) before after status = AreChecked names.items options (before ⇒ after) status
IsPrinted (Dialogue names stage) before after status = AreShown names.items stage (before ⇒ after) status
IsPrinted (Rehearse rehearsal) before after status = AreRehearsed rehearsal before after status
IsPrinted (TypeKeys console) before after status = IsTypedThrough console before.held after.held × (status ≡ Done) × OpensNothing before after

-- it failed
abbrev pub IsUnprinted : PrintRequest → Intake → Intake → Failure → Type 0
IsUnprinted CheckInput before after failure = IsInputUnchecked before.held after.held failure × OpensNothing before after
IsUnprinted (Check names options) before after failure = AreUnchecked names.items options (before ⇒ after) failure
IsUnprinted (Dialogue names stage) before after failure = AreUnshown names.items stage (before ⇒ after) failure
IsUnprinted (Rehearse rehearsal) before after failure = AreUnrehearsed rehearsal before after failure
IsUnprinted (TypeKeys console) before after failure = IsTypingFailure console before.held after.held failure × OpensNothing before after
