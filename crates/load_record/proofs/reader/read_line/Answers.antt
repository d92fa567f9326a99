use Rattle.std.proofs.Common.{subst}
use Rattle.load_record.specs.Reading.{HoldsCount}
use Rattle.load_record.proofs.Steps.{adds_words}
use Rattle.load_record.proofs.reader.read_line.Goals as goal

pub returns-then-count-gt0 : goal.returns-then-count-gt0
returns-then-count-gt0 c = record {
  exact = adds_words c.args.version c.args.plan.now c.args.line.now c.args.before c.words_held-count.result
      (subst (λ next. HoldsCount c.args.version c.args.line.now next c.words_held-count.result) c.words_after.ensures.words c.words_held-count.ensures)
      c.if-count-gt0.true;
}
