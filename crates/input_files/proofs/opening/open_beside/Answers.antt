use Rattle.std.proofs.lemmas.Result.{IfErr-weaker, IfOk-weaker}
use Rattle.input_files.proofs.Tried.{buffered, no_retry, unbuffered}
use Rattle.input_files.proofs.opening.open_beside.Goals as goal

pub returns-in-Ok : goal.returns-in-Ok
returns-in-Ok g c = record {
  ok = IfOk-weaker c.buffered.result _ _
      (λ file is. buffered g.F.File.Read.remaining c.args.name c.in-Ok.opened _ _ _ _ _ is c.in-Ok.ensures.tried)
      c.buffered.ensures.ok;
  err = IfErr-weaker c.buffered.result _ _
      (λ failure is. unbuffered g.F.File.Read.remaining c.args.name c.in-Ok.opened failure _ _ _ _ is c.in-Ok.ensures.tried)
      c.buffered.ensures.err;
}

pub returns-in-Err-clause-err : goal.returns-in-Err-clause-err
returns-in-Err-clause-err g c = no_retry c.args.name _ _ c.in-Err.ensures.starved
