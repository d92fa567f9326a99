use Rattle.load_record.proofs.Pieces.{words_prefix, words_more}
use Rattle.load_record.proofs.Writing.{on_err}
use Rattle.load_record.proofs.output.write_words.Goals as goal

pub loop-word-preserved : goal.loop-word-preserved
loop-word-preserved g c =
    words_more c.args.words.now c.loop-word.word-index c.word-item.result c.loop-word.run c.in_ok-run.run' _ _ _ c.loop-word-test.true c.word-item.is c.loop-word.invariant c.in_ok-run.ensures.ok

pub returns-in_err-run-clause-err : goal.returns-in_err-run-clause-err
returns-in_err-run-clause-err g c =
    on_err c.from_residual.result _
    (words_prefix c.args.words.now c.loop-word.word-index c.word-item.result c.loop-word.run _ _ _ c.loop-word-test.true c.word-item.is c.loop-word.invariant.0 c.loop-word.invariant.1 c.in_err-run.ensures.err)
