use Rattle.std.proofs.Common.{ap, ◌∙◌, sym, subst, Err}
use Rattle.tape_blocks.specs.Refusal.{missing_fault}
use Rattle.tape_blocks.specs.TapeReader.{IsFinished, ReaderValue}
use Rattle.tape_blocks.specs.declared.fault.ReadError.TheVariants.{Tape}
use Rattle.tape_blocks.specs.declared.reader_state.ReaderState.TheVariants.{Open, Failed}
use Rattle.tape_blocks.proofs.Feeding.{failed_finishes, open_finishes, came_open, same_outcome}
use Rattle.tape_blocks.proofs.reader.TapeReader.finish_with_places.Goals as goal

pub returns-in-Open-clause-answered : goal.returns-in-Open-clause-answered
returns-in-Open-clause-answered c = λ fed h.
    let read = came_open c.self.inside.partial c.self.inside.state c.args.self fed c.self.view_is c.in-Open.is h in
    let is = c.into.ensures ∙ ap (λ f. Tape f) (c.missing.ensures fed read) in
    subst (λ e. IsFinished fed (Err e)) (sym is)
    (subst (λ (r : ReaderValue). IsFinished fed (Err (Tape (missing_fault fed r.place)))) (sym c.self.view_is)
    (open_finishes c.args.self fed (same_outcome c.self.inside.partial c.self.inside.state Open c.args.self c.self.view_is c.in-Open.is) h))

pub returns-in-Failed-clause-answered : goal.returns-in-Failed-clause-answered
returns-in-Failed-clause-answered c = λ fed h.
    failed_finishes c.args.self c.in-Failed.error fed
    (same_outcome c.self.inside.partial c.self.inside.state (Failed c.in-Failed.error) c.args.self c.self.view_is c.in-Failed.is) h
