use Rattle.std.proofs.Common.{ap, sym, ◌∙◌, ◌∷◌, ◌+◌, drop, length}
use Rattle.std.specs.Str.Lines.{lines}
use Rattle.std.proofs.lemmas.List.{take_rest}
use Rattle.std.proofs.Math.Seq.{drop-length}
use Rattle.loss_scripts.proofs.Lines.{lines_at, lines_last}
use Rattle.loss_scripts.proofs.script.first_line.Goals as goal

pub returns-in-Some-clause-lines : goal.returns-in-Some-clause-lines
returns-in-Some-clause-lines c =
    let text = c.args.text.now in
    let end = c.in-Some.end in
    lines_at text end (sym c.line_end.ensures ∙ c.in-Some.is) ∙ ap (λ line. line ∷ lines (drop (end + 1) text)) (sym c.without_return.ensures) ∙ ap (λ rest. c.without_return.result.now ∷ lines rest) (sym (take_rest text (end + 1)))

pub returns-in-None-clause-lines : goal.returns-in-None-clause-lines
returns-in-None-clause-lines c =
    let text = c.args.text.now in
    lines_last text (sym c.line_end.ensures ∙ c.in-None.is) c.requires ∙ ap (λ rest. text ∷ lines rest) (sym (take_rest text (length text) ∙ drop-length text))
