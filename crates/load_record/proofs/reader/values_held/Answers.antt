use Rattle.std.proofs.lemmas.Grind.{common_steps}
use Rattle.std.proofs.Common.{arith}
use Rattle.load_record.proofs.Runs.{counted_values}
use Rattle.load_record.proofs.reader.values_held.Goals as goal

pub loop-word-preserved : goal.loop-word-preserved
loop-word-preserved c = grind (arith, common_steps)

pub returns-then-not-goes_on : goal.returns-then-not-goes_on
returns-then-not-goes_on c = counted_values _ c.args.next.now c.args.text.now _ (grind (arith, common_steps))

pub returns : goal.returns
returns c = counted_values _ c.args.next.now c.args.text.now _ (grind (arith, common_steps))
