use Rattle.std.proofs.Common.{rules}
use Rattle.command_line.proofs.process_words.failure_of.Goals as goal

pub returns-in-InvalidData-clause-word : goal.returns-in-InvalidData-clause-word
returns-in-InvalidData-clause-word c = search rules
