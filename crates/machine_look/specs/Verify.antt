-- What `verify` does (this project's own).
use Rattle.std.specs.Prelude.{◌≡◌, ℕ, List, [], length, Option, Some, None}
use Rattle.std.specs.Io.KnownBytes.{Appends}
use Rattle.tape_image.specs.Plan.{PlanValue}
use Rattle.tape_image.specs.Word.{WordValue}
use Rattle.odt_machine.specs.Machine.{Machine}
use Rattle.line_world.specs.Safe.{FirstStand}
use Rattle.byte_io.specs.Output.{WritesAllBut}
use Rattle.reading_core.specs.Addresses.{addresses_of}
use Rattle.reading_core.specs.Reader.{Reader, begun_in, ended, manner_of}
use Rattle.reading_core.specs.declared.care.Care.{Care}
use Rattle.looking_engine.specs.Stopping.{LookStop}
use Rattle.request_values.specs.Change.{Change, ◌⇒◌}
use Rattle.machine_look.specs.declared.verify_end.VerifyEnd.{VerifyEnd}
use Rattle.machine_look.specs.declared.verify_end.VerifyEnd.TheVariants.{Same}
use Rattle.machine_look.specs.declared.verifying.VerifyOptions.{VerifyOptions}
use Rattle.machine_look.specs.Differences.{differences}
use Rattle.console_lines.specs.Console.{ConsoleTold}
use Rattle.machine_look.specs.Look.{AsksOnce, IsLook, IsLookOf, OverHonestLine}
use Rattle.machine_look.specs.Trust.{is_trusted}
use Rattle.machine_look.specs.VerifyReport.{difference_lines, verify_end, verify_report}

-- a memory is what it was, and every word stands in it
abbrev pub IsSameWith : List WordValue → Machine → Machine → Type 0
IsSameWith words before now = (now.memory ≡ before.memory) × FirstStand words (length words) now.memory

-- the host that is to look at a plan's words, each as often as is asked, and expects what the plan says
abbrev pub verifier : PlanValue → VerifyOptions → Reader
verifier plan options = begun_in (manner_of options.care plan.words) (addresses_of plan.words) [] options.patience

-- a plan's words were looked at, and so it ended; over an honest line nothing is heard that no loss explains, and where it ends as `Same`
-- every word stands
pub record IsVerified (plan : PlanValue) (options : VerifyOptions) (console : Change ConsoleTold) (end : VerifyEnd) : Type 0 where
  pub last : Reader
  pub stop : LookStop
  pub look : IsLook (verifier plan options ⇒ last) stop (console.before.lines ⇒ console.after.lines)
  pub asked : AsksOnce (ended (verifier plan options).phase) console.before.call console.before.asked console.after.asked
  pub end_is : end ≡ verify_end (is_trusted options.care last.foreign) (length (differences plan.words last.values)) stop
  pub stand : end ≡ Same → OverHonestLine look (IsSameWith plan.words)
  pub none_foreign : OverHonestLine look (λ before now. last.foreign ≡ 0)

-- it was reported, too
pub record IsVerifyReported (plan : PlanValue) (options : VerifyOptions) (console : Change ConsoleTold) (end : VerifyEnd) : Type 0 where
  pub verified : IsVerified plan options console end
  pub reported : Appends console.before.out console.after.out (verify_report options.care plan.words verified.last verified.stop)

-- what is to be reported of a look: the differences, and behind the last of them how it ended
abbrev pub report_of : Care → List WordValue → Reader → Option LookStop → List ℕ
report_of care words last (Some stop) = verify_report care words last stop
report_of care words last None = difference_lines words last.values

-- a front of the report of what was read by then was written, and nothing else: words were looked at up to the end of the look, or to a difference
-- that could not be shown
pub record IsComparisonCutShort (words : List WordValue) (first : Reader) (console : Change ConsoleTold) : Type 0 where
  pub last : Reader
  pub stop : Option LookStop
  pub look : IsLookOf (first ⇒ last) stop (console.before.lines ⇒ console.after.lines)
  pub asked : AsksOnce (ended first.phase) console.before.call console.before.asked console.after.asked
  pub missing : List ℕ
  pub reported : WritesAllBut console.before.out console.after.out (report_of first.manner.care words last stop) missing
