use Rattle.std.proofs.lemmas.Result.{IfErr-weaker, on_ok_weaker}
use Rattle.tape_commands.proofs.Texts.{one_each}
use Rattle.tape_commands.proofs.check.check_to.Goals as goal

pub returns-clause-ok : goal.returns-clause-ok
returns-clause-ok g c = on_ok_weaker c.write_check.result (λ of. of _ _ c.in_ok-taken.ensures.ok) c.write_check.ensures.ok

pub returns-clause-err : goal.returns-clause-err
returns-clause-err g c = IfErr-weaker c.write_check.result _ _ (λ fault of. of _ _ c.in_ok-taken.ensures.ok) c.write_check.ensures.err

pub write_check-requires : goal.write_check-requires
write_check-requires g c = one_each _ _ _ _ c.in_ok-taken.ensures.ok
