use Rattle.std.proofs.Common.{[], ◌∙◌, ap, refl, sym, subst, Ok, Err}
use Rattle.std.proofs.lemmas.Result.{err_from_is_err_and}
use Rattle.tape_blocks.specs.Reading.{IsReading}
use Rattle.tape_blocks.proofs.Readings.{complete}
use Rattle.tape_blocks.proofs.Feeding.{fed_and_finished, fed_complete, finished_complete}
use Rattle.tape_blocks.proofs.reader.read_tape.Goals as goal

pub returns-in_err-fed-clause-complete : goal.returns-in_err-fed-clause-complete
returns-in_err-fed-clause-complete c =
    let p = err_from_is_err_and c.from_residual.result c.from_residual.ensures.1 in
    fed_complete c.args.bytes.now c.from_residual.result c.in_err-fed.field-0.0 (p.1 ∙ ap (λ e. Err e) p.2)
    (c.in_err-fed.ensures.answered [] c.new-reader.ensures.stands)

pub returns-in_err-tape-clause-complete : goal.returns-in_err-tape-clause-complete
returns-in_err-tape-clause-complete c =
    let p = err_from_is_err_and c.from_residual-in_err-tape.result c.from_residual-in_err-tape.ensures.1 in
    finished_complete c.args.bytes.now c.from_residual-in_err-tape.result c.in_err-tape.field-0.0 (p.1 ∙ ap (λ e. Err e) p.2)
    (c.in_err-tape.ensures.answered c.args.bytes.now (c.in_ok-fed.ensures.stands [] c.new-reader.ensures.stands))

pub returns-clause-answered : goal.returns-clause-answered
returns-clause-answered c =
    subst (λ n. IsReading c.args.bytes.now (Ok (c.in_ok-tape.tape, n))) (sym c.used.ensures)
    (fed_and_finished c.args.bytes.now c.in_ok-fed.fed c.in_ok-tape.tape (c.in_ok-fed.ensures.answered [] c.new-reader.ensures.stands)
    (c.in_ok-tape.ensures.answered c.args.bytes.now (c.in_ok-fed.ensures.stands [] c.new-reader.ensures.stands)))

pub returns-clause-complete : goal.returns-clause-complete
returns-clause-complete c =
    complete c.args.bytes.now _ (Ok (c.in_ok-tape.tape, c.used.result)) refl (returns-clause-answered c)
