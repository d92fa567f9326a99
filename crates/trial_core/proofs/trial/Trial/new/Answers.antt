use Rattle.std.proofs.Common.{rules}
use Rattle.trial_core.proofs.Lives.{types_only_trying}
use Rattle.trial_core.proofs.trial.Trial.new.Goals as goal

pub returns-clause-kept : goal.returns-clause-kept
returns-clause-kept c = search rules

pub returns-clause-later : goal.returns-clause-later
returns-clause-later c = types_only_trying _ (returns-clause-kept c)

pub returns-clause-begun : goal.returns-clause-begun
returns-clause-begun c = search rules
