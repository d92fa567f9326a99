-- What a `?` on a failure answers.
use Rattle.std.proofs.Common.{◌≡◌, Result, Ok, Err, IfErr, sym, subst}
use Rattle.std.specs.Result.{IsErrAnd}

-- an error that is known has what holds of it
pub error_is : {T E : Type 0} (r : Result T E) (x : E) (P : E → Type 0) → IsErrAnd r (λ e. e ≡ x) → P x → IfErr r P
error_is (Ok y) x P h p = tt
error_is (Err e) x P h p = subst P (sym h) p
