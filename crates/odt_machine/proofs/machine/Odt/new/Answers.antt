use Rattle.std.proofs.Common.{rules}
use Rattle.odt_machine.proofs.machine.Odt.new.Goals as goal

pub returns-clause-ok : goal.returns-clause-ok
returns-clause-ok c = search rules

pub returns-then-words-gt-LARGEST_WORDS-clause-too_large : goal.returns-then-words-gt-LARGEST_WORDS-clause-too_large
returns-then-words-gt-LARGEST_WORDS-clause-too_large c = search rules
