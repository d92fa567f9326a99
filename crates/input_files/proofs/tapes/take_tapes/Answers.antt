use Rattle.std.proofs.Common.{get_or, rules, sym, subst}
use Rattle.input_files.specs.TapeFile.{IsRefusedInput}
use Rattle.input_files.proofs.TapeInput.{takes_at_most, refused_reading, tape_taken}
use Rattle.input_files.proofs.TapesInput.{are_tapes, at_most_all, stops, taken_at_most, taking_more}
use Rattle.input_files.proofs.tapes.take_tapes.Goals as goal

pub returns-in-Err-Tape-clause-err : goal.returns-in-Err-Tape-clause-err
returns-in-Err-Tape-clause-err g c =
    let input = g.R.Read.remaining (get_or c.loop-place.inputs c.loop-place.place c.index-inputs-place.result) in (
      input,
      stops g.R.Read.remaining c.args.inputs.now c.loop-place.inputs c.loop-place.place c.index-inputs-place.result c.read_with_layout.new.input _ _ c.loop-place.invariant c.loop-place-test.true,
      subst (IsRefusedInput input) (sym c.in-Err-Tape.fault-is) (refused_reading input _ c.in-Err-Tape.field-0 c.in-Err-Tape.fault c.in-Err-Tape.field-0-is c.in-Err-Tape.ensures.reading),
    )

pub returns-in-Err-Io-clause-err : goal.returns-in-Err-Io-clause-err
returns-in-Err-Io-clause-err g c = (_, stops g.R.Read.remaining c.args.inputs.now c.loop-place.inputs c.loop-place.place c.index-inputs-place.result c.read_with_layout.new.input _ _ c.loop-place.invariant c.loop-place-test.true)

pub loop-place-preserved : goal.loop-place-preserved
loop-place-preserved g c =
    taking_more g.R.Read.remaining c.args.inputs.now c.loop-place.inputs c.loop-place.place c.index-inputs-place.result c.read_with_layout.new.input _ _ c.loop-place.invariant c.loop-place-test.true
    c.in-Ok.ensures.reading.taken c.in-Ok.tape c.in-Ok.layout c.add.new.self.tapes.items c.add.new.self.layouts.items
    (tape_taken _ _ c.in-Ok.tape c.in-Ok.layout.size c.in-Ok.ensures.reading) c.in-Ok.ensures.laid (takes_at_most _ _ _ c.read_with_layout.ensures.reading) c.in_ok-add-in-Ok.ensures.tapes c.in_ok-add-in-Ok.ensures.layouts

pub returns-in_err-add-in-Ok-clause-at_most : goal.returns-in_err-add-in-Ok-clause-at_most
returns-in_err-add-in-Ok-clause-at_most g c = at_most_all g.R.Read.remaining c.args.inputs.now c.loop-place.inputs c.loop-place.place c.index-inputs-place.result c.read_with_layout.new.input _ _ c.loop-place.invariant c.loop-place-test.true (takes_at_most _ _ _ c.read_with_layout.ensures.reading)

pub returns-in-Err-Tape-clause-at_most : goal.returns-in-Err-Tape-clause-at_most
returns-in-Err-Tape-clause-at_most g c = at_most_all g.R.Read.remaining c.args.inputs.now c.loop-place.inputs c.loop-place.place c.index-inputs-place.result c.read_with_layout.new.input _ _ c.loop-place.invariant c.loop-place-test.true (takes_at_most _ _ _ c.read_with_layout.ensures.reading)

pub returns-in-Err-Io-clause-at_most : goal.returns-in-Err-Io-clause-at_most
returns-in-Err-Io-clause-at_most g c = at_most_all g.R.Read.remaining c.args.inputs.now c.loop-place.inputs c.loop-place.place c.index-inputs-place.result c.read_with_layout.new.input _ _ c.loop-place.invariant c.loop-place-test.true (takes_at_most _ _ _ c.read_with_layout.ensures.reading)

pub returns-in-Err-Memory-clause-at_most : goal.returns-in-Err-Memory-clause-at_most
returns-in-Err-Memory-clause-at_most g c = at_most_all g.R.Read.remaining c.args.inputs.now c.loop-place.inputs c.loop-place.place c.index-inputs-place.result c.read_with_layout.new.input _ _ c.loop-place.invariant c.loop-place-test.true (takes_at_most _ _ _ c.read_with_layout.ensures.reading)

pub returns-clause-ok : goal.returns-clause-ok
returns-clause-ok g c = are_tapes g.R.Read.remaining _ _ _ _ _ c.loop-place.invariant (search rules)

pub returns-clause-at_most : goal.returns-clause-at_most
returns-clause-at_most g c = taken_at_most g.R.Read.remaining _ _ _ _ _ c.loop-place.invariant (search rules)
