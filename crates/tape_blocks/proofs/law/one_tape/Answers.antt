use Rattle.std.proofs.Common.{[], append-nil, sym}
use Rattle.tape_blocks.proofs.Fronts.{one_tape_begins}
use Rattle.tape_blocks.proofs.law.one_tape.Goals as goal

pub returns : goal.returns
returns c = λ text more blocks others start other a b.
    let r = one_tape_begins text _ more [] blocks others start other a b (sym (append-nil _)) in
    (r.rests, r.blocks, r.starts)
