use Rattle.std.proofs.Common.{◌≡◌, ℕ, List, Option, true, refl, sym, subst}
use Rattle.endings.specs.Held.{Held}
use Rattle.command_line.specs.declared.wanted.Wanted.{Wanted}
use Rattle.request_values.specs.declared.request.MachineRequest.{MachineRequest}
use Rattle.request_values.specs.declared.request.Request.TheVariants.{Machine}
use Rattle.requests.specs.declared.attempted.Attempted.{Attempted}
use Rattle.run_log.specs.LogLine.{IsLogged}
use Rattle.run_log.specs.Report.{AreNotesSince, Noted}
use Rattle.ldaodt.specs.Answer.{IsLoggedIf, IsRunLogged, is_logged_if}
use Rattle.ldaodt.proofs.program.log_if_wanted.Goals as goal

-- the line of a run at a machine, where it is wanted
logged : (wanted : Wanted) (request : MachineRequest) (ended : Attempted) (first : Option (List ℕ)) (held held' : Held) (report : Noted) → wanted.log ≡ true → wanted.request ≡ Machine request
    → held' ≡ record held { err = held'.err } → AreNotesSince first held.out report → IsLogged (record { request = request; status = ended.status; report = report; changed = ended.changed }) held.err held'.err → IsLoggedIf first wanted ended held held'
logged wanted request ended first held held' report on is same noted line =
    subst (λ log. is_logged_if log wanted.request first ended held held') (sym on)
    (subst (λ r. IsRunLogged r first ended held held') (sym is) (same, (report, noted, line)))

pub returns-in-Machine : goal.returns-in-Machine
returns-in-Machine g c =
    rw (← c.streams.view_is)
    (logged c.args.wanted.now c.in-Machine.request c.args.ended g.F.FirstHeld.held _ _ c.notes-report.result.now c.if-not-wanted.false c.in-Machine.is refl c.notes-report.ensures c.log_run.ensures)
