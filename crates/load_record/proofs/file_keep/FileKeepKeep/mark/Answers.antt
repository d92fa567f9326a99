use Rattle.load_record.proofs.Keeping.{failed_before}
use Rattle.load_record.proofs.file_keep.FileKeepKeep.mark.Goals as goal

pub returns-then-is_broken-clause-err : goal.returns-then-is_broken-clause-err
returns-then-is_broken-clause-err g c =
    failed_before c.args.self.now c.settle.new.self c.settle.result _ (c.is_broken.ensures.0 c.if-is_broken.true) c.settle.ensures.err c.settle.ensures.text
