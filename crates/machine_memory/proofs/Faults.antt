-- Results that are errors.
use Rattle.std.proofs.Common.{◌≡◌, Result, Ok, Err, IfErr, IfOk, IsErrAnd, OnErr, OnOk, subst, sym}

-- what is known of the error that a result has is known of the result
pub error_is : {T E : Type 0} (r : Result T E) (error : E) (P : E → Type 0) → IsErrAnd r (λ e. e ≡ error) → P error → IfErr r P
error_is (Ok x) error P is h = tt
error_is (Err e) error P is h = subst P (sym is) h

-- a result with an error says nothing of a value
pub no_value : {T E : Type 0} (r : Result T E) (error : E) (P : T → Type 0) → IsErrAnd r (λ e. e ≡ error) → IfOk r P
no_value (Ok x) error P is = absurd is
no_value (Err e) error P is = tt

pub no_ok : {T E : Type 0} (r : Result T E) (error : E) (P : Type 0) → IsErrAnd r (λ e. e ≡ error) → OnOk r P
no_ok (Ok x) error P is = absurd is
no_ok (Err e) error P is = tt

-- what holds anyway holds where a result is an error
pub on_error : {T E : Type 0} (r : Result T E) (P : Type 0) → P → OnErr r P
on_error (Ok x) P holds = tt
on_error (Err e) P holds = holds
