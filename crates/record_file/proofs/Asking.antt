-- What was asked, and how that went.
use Rattle.std.proofs.Common.{◌≡◌, List, [], Option, ◌∷◌, true, false, Result, Ok, Err}
use Rattle.host_devices.specs.Told.{HasAsked, Tells}
use Rattle.record_file.specs.DiskStep.{DiskStep, DiskRequest, Did, Failed, answered}
use Rattle.std.specs.Result.{is_err, IfErr, IfOk, IsErr}

pub asked_one : {P : List DiskStep → Type 0} (a b : Option (List DiskStep)) (steps : List DiskStep) → Tells a b steps → P steps → HasAsked a b P
asked_one a b steps g p = (steps, g, p)

-- what was asked went well, or it did not
pub tells_failed : {A E : Type 0} (a b : Option (List DiskStep)) (request : DiskRequest) (result : Result A E) → Tells a b (answered request result ∷ [])
    → true ≡ is_err result → Tells a b (Failed request ∷ [])
tells_failed a b request (Ok value) g is = absurd (cc is)
tells_failed a b request (Err error) g is = g

pub tells_done : {A E : Type 0} (a b : Option (List DiskStep)) (request : DiskRequest) (result : Result A E) → Tells a b (answered request result ∷ [])
    → false ≡ is_err result → Tells a b (Did request ∷ [])
tells_done a b request (Ok value) g is = g
tells_done a b request (Err error) g is = absurd (cc is)

-- what holds where something failed, whatever the fault
pub on_err : {A E X : Type 0} (result : Result A E) → X → IfErr result (λ _. X)
on_err (Ok value) x = tt
on_err (Err error) x = x

pub not_ok : {A E : Type 0} (P : A → Type 0) (result : Result A E) → IsErr result → IfOk result P
not_ok P (Ok value) is = absurd (cc is)
not_ok P (Err error) is = tt
