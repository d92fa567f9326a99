use Rattle.std.proofs.Common.{ap, ◌∙◌, Some}
use Rattle.probe_report.specs.Notes.{Noted}
use Rattle.probe_report.proofs.Noting.{noted_sent}
use Rattle.probe_report.proofs.notes.Notes.sends.Goals as goal

pub returns : goal.returns
returns c items is = ap (λ (n : Noted). record n { last_key = Some c.args.key }) (c.self.view_is ∙ is) ∙ noted_sent items c.args.key
