-- What is left gives the count that the whole gives.
use Rattle.std.proofs.Common.{◌≡◌, drop}
use Rattle.load_record.specs.Lines.{run_at}
use Rattle.load_record.proofs.Runs.{values_held}
use Rattle.load_record.proofs.reader.values_held.Given as goal

abbrev pub invariant-loop-word : goal.invariant-loop-word
invariant-loop-word l = values_held l.run (drop l.word-index l.next) l.left ≡ values_held (run_at l.address) l.next l.text
