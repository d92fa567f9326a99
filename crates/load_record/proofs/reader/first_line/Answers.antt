use Rattle.std.proofs.Common.{ap, sym, ◌∙◌, ◌∷◌, ◌+◌, take}
use Rattle.std.specs.List.{slice_split}
use Rattle.std.proofs.lemmas.List.{take_rest}
use Rattle.load_record.specs.Reading.{is_line_end}
use Rattle.load_record.proofs.Cuts.{cut_at, cut_nowhere}
use Rattle.load_record.proofs.reader.first_line.Goals as goal

pub returns-in_err-end-clause-cut : goal.returns-in_err-end-clause-cut
returns-in_err-end-clause-cut c = rw c.from_residual.ensures (cut_nowhere c.args.text.now (sym c.line_end.ensures ∙ c.in_err-end.was))

pub returns-clause-cut : goal.returns-clause-cut
returns-clause-cut c =
    let text = c.args.text.now in
    let end = c.in_ok-end.end in
    cut_at text end (sym c.line_end.ensures ∙ c.in_ok-end.was)
    ∙ ap (λ rest. take end text ∷ slice_split is_line_end rest) (sym (take_rest text (end + 1)))
