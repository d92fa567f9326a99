-- What holds of a trial over everything that it may ever hear.
use Rattle.std.specs.Prelude.{ℕ, All, List, [], ◌∷◌, ◌++◌, option_to_list}
use Rattle.host_core.specs.declared.heard.Heard.{Heard}
use Rattle.trial_core.specs.declared.trial.Trial.{Trial}
use Rattle.trial_core.specs.TrialTable.{ask, IsTrying}

-- the trial that a list of heard things makes
abbrev pub led : Trial → List Heard → Trial
led t [] = t
led t (heard ∷ more) = led (ask t heard).next more

-- the characters that answer a list of heard things
abbrev pub replay : Trial → List Heard → List ℕ
replay t [] = []
replay t (heard ∷ more) = option_to_list (ask t heard).key ++ replay (ask t heard).next more

-- whatever is heard, this trial types digits, `/`, `Z` and `a` alone
abbrev pub TypesOnlyTrying : Trial → Type 0
TypesOnlyTrying t = (heard : List Heard) → All IsTrying (replay t heard)
