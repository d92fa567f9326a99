-- A reason that is said.
use Rattle.std.proofs.Common.{List, ℕ, Result, Ok, Err, OnOk, OnErr, inl, inr}
use Rattle.endings.specs.FaultOutput.{StandardError, IsSaidInPart, IsSaidOnError, IsSaidWhole}

pub said_on_error : {T E : Type 0} (r : Result T E) (err err' : StandardError) (text : List ℕ) → OnOk r (IsSaidWhole err err' text) → OnErr r (IsSaidInPart err err' text)
    → IsSaidOnError err err' text
said_on_error (Ok done) err err' text whole part = inl whole
said_on_error (Err fault) err err' text whole part = inr part
