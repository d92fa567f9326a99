use Rattle.std.proofs.Common.{rules, ◌<◌, length}
use Rattle.tape_commands.proofs.Texts.{next_text}
use Rattle.tape_commands.proofs.check_text.check_text.Goals as goal

pub loop-place-preserved : goal.loop-place-preserved
loop-place-preserved c texts are =
    let within : c.loop-place.place < length c.args.taken.now.tapes.items = search rules in
    next_text c.args.taken.now.tapes.items c.args.taken.now.layouts.items texts c.loop-place.place c.index.result.now c.index-in-loop-place.result.now c.loop-place.report.items c.put_tape.new.report.items are within
    c.index.ensures c.index-in-loop-place.ensures (c.loop-place.invariant texts are) c.in_ok-put_tape.ensures
