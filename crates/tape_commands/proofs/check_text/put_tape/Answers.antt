use Rattle.tape_commands.proofs.Canonical.{canonical}
use Rattle.tape_commands.proofs.Texts.{three_lines}
use Rattle.tape_commands.proofs.check_text.put_tape.Goals as goal

pub returns : goal.returns
returns c =
    three_lines c.put_canonical.result c.args.report.now.items c.put_counts.new.report.items c.put_start.new.report.items c.put_canonical.new.report.items c.args.tape.now c.args.size _ c.start.result
    c.in_ok-put_counts.ensures c.start.ensures.value c.in_ok-put_start.ensures c.put_canonical.ensures
    (λ text is long. canonical text c.args.tape.now c.args.size c.written_length.result long (c.written_length.ensures.plain text is))
