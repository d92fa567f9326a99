use Rattle.std.proofs.lemmas.Result.{IfErr-weaker, on_ok_weaker}
use Rattle.tape_commands.proofs.rehearse.rehearse_to.Goals as goal

pub returns-clause-ok : goal.returns-clause-ok
returns-clause-ok g c =
    on_ok_weaker c.write_rehearsal.result (λ of. (of.0, of.1 _ _ c.in_ok-taken.ensures.ok, of.2)) c.write_rehearsal.ensures.ok

pub returns-clause-err : goal.returns-clause-err
returns-clause-err g c = IfErr-weaker c.write_rehearsal.result _ _ (λ fault of. of _ _ c.in_ok-taken.ensures.ok) c.write_rehearsal.ensures.err
