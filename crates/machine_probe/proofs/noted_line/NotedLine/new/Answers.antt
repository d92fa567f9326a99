use Rattle.std.proofs.Common.{[], subst, sym}
use Rattle.probe_report.specs.Notes.{notes_of}
use Rattle.machine_probe.specs.Noted.{AreNotesSince}
use Rattle.machine_probe.proofs.Noting.{noted_at_first}
use Rattle.machine_probe.proofs.noted_line.NotedLine.new.Goals as goal

pub invariant_of-result : goal.invariant_of-result
invariant_of-result g c =
    let told = g.L.Line.told c.args.line in
    subst (λ notes. AreNotesSince g.E.FirstTold.told told notes) (sym c.new.ensures)
    (subst (λ first. AreNotesSince first told (notes_of [])) c.requires.opening (noted_at_first told c.requires.fresh))
