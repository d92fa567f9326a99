-- Each sync is needed.
use Rattle.std.proofs.Common.{[], inl, inr, refl}
use Rattle.disk_law.specs.Disk.{Nothing, File}
use Rattle.disk_law.specs.Laws.{SyncsAreNeeded}

pub syncs_are_needed : SyncsAreNeeded
syncs_are_needed name text mark anything i =
    (File i anything (inr (inl (refl, inl (refl, refl)))) (inr (refl, [], inr (refl, refl), tt)), λ kind. Nothing (inl (inl refl)))
