-- Why no stub is planned.
use Rattle.std.proofs.Common.{◌≡◌, ℕ, Result, Ok, Err, IfErr, subst, sym}
use Rattle.std.specs.Result.{IsErrAnd}
use Rattle.tape_image.specs.Plan.{PlanValue}
use Rattle.stub_engine.specs.declared.stop.StubsEnd.{StubsEnd}
use Rattle.stub_engine.specs.declared.stop.StubsEnd.TheVariants.{Memory}
use Rattle.stub_engine.specs.Planning.{IsNotLaidOut, IsTried, IsUnplanned}
use Rattle.stub_engine.specs.Planning.IsTried.{One}

-- an answer that passes on why none was laid out
pub passed_on : {T : Type 0} (tape : PlanValue) (from count : ℕ) (r : Result T StubsEnd) (end : StubsEnd) → IsErrAnd r (λ e. e ≡ end)
    → IsTried tape from count → IsNotLaidOut tape from count end → IfErr r (IsUnplanned tape from)
passed_on tape from count (Ok stub) end is tried why = tt
passed_on tape from count (Err e) end is tried why = subst (IsUnplanned tape from) (sym is) (count, tried, why)

-- an answer whose only fault is want of memory
pub starved : {T : Type 0} (tape : PlanValue) (from : ℕ) (r : Result T StubsEnd) → IfErr r (λ end. end ≡ Memory) → IfErr r (IsUnplanned tape from)
starved tape from (Ok stub) is = tt
starved tape from (Err e) is = subst (IsUnplanned tape from) (sym is) (1, One, tt)
