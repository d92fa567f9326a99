use Rattle.std.proofs.Common.{rules}
use Rattle.console_lines.proofs.Copied.{cut_at_once, on_err}
use Rattle.console_lines.proofs.listening.copy_next.Goals as goal

pub returns-in_err-write_and_flush-in-Ok-Got-clause-cut : goal.returns-in_err-write_and_flush-in-Ok-Got-clause-cut
returns-in_err-write_and_flush-in-Ok-Got-clause-cut g c =
    on_err _ _ (cut_at_once _ _ c.in-Ok-Got.character (search rules) (search rules))

pub returns-in_ok-write_and_flush-in-Ok-Got-clause-copied : goal.returns-in_ok-write_and_flush-in-Ok-Got-clause-copied
returns-in_ok-write_and_flush-in-Ok-Got-clause-copied g c = search rules

pub returns-in-Ok-Quiet-clause-copied : goal.returns-in-Ok-Quiet-clause-copied
returns-in-Ok-Quiet-clause-copied g c = search rules

pub returns-in-Err-clause-copied : goal.returns-in-Err-clause-copied
returns-in-Err-clause-copied g c = search rules
