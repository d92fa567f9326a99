-- What a `?` on a failed write answers.
use Rattle.std.proofs.Common.{◌≡◌, Result, Ok, Err, IfErr, sym, subst}
use Rattle.std.specs.Result.{IsErrAnd}
use Rattle.endings.specs.declared.command_fault.CommandFault.{CommandFault}

-- a fault that is known has what holds of it
pub fault_is : {T : Type 0} (r : Result T CommandFault) (fault : CommandFault) (P : CommandFault → Type 0) → IsErrAnd r (λ e. e ≡ fault) → P fault → IfErr r P
fault_is (Ok x) fault P h p = tt
fault_is (Err e) fault P h p = subst P (sym h) p
