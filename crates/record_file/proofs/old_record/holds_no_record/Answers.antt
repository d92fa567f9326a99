use Rattle.record_file.proofs.OldRecords.{begins_first, second_decides}
use Rattle.record_file.proofs.old_record.holds_no_record.Goals as goal

pub returns-then-begins : goal.returns-then-begins
returns-then-begins c = begins_first c.args.text.now c.begins.result c.begins.ensures.0 c.if-begins.true

pub returns : goal.returns
returns c =
    second_decides c.args.text.now c.has_line.result c.begins.result c.begins-2.result c.has_line.ensures.1 c.begins.ensures.1
    c.begins-2.ensures.0 c.begins-2.ensures.1 c.if-has_line.false c.if-begins.false
