use Rattle.std.proofs.Common.{rules, subst, sym}
use Rattle.trial_core.specs.Trial.{IsTrial}
use Rattle.trial_core.specs.TrialTable.{KeyTries}
use Rattle.trial_core.proofs.Trials.{kept, tries}
use Rattle.trial_core.proofs.trial.Trial.step.Goals as goal

pub returns-clause-asked : goal.returns-clause-asked
returns-clause-asked c = search rules

pub returns-clause-key : goal.returns-clause-key
returns-clause-key c = search rules

pub returns-clause-tries : goal.returns-clause-tries
returns-clause-tries c = subst KeyTries (sym (returns-clause-key c)) (tries c.args.self c.args.heard c.requires)

pub returns-clause-kept : goal.returns-clause-kept
returns-clause-kept c = subst IsTrial (sym (returns-clause-asked c)) (kept c.args.self c.args.heard c.requires)
