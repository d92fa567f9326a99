use Rattle.std.proofs.Common.{[]}
use Rattle.std.proofs.lemmas.Result.{IfErr-weaker, IfOk-weaker}
use Rattle.input_files.proofs.Tried.{buffered, once, unbuffered}
use Rattle.input_files.proofs.opening.open.Goals as goal

pub returns : goal.returns
returns g c = record {
  ok = IfOk-weaker c.buffered.result _ _
      (λ file is. buffered g.F.File.Read.remaining c.args.name c.open_input.result _ [] [] _ _ is (once _ _ [] _ _ c.open_input.ensures.opened))
      c.buffered.ensures.ok;
  err = IfErr-weaker c.buffered.result _ _
      (λ failure is. unbuffered g.F.File.Read.remaining c.args.name c.open_input.result failure [] [] _ _ is (once _ _ [] _ _ c.open_input.ensures.opened))
      c.buffered.ensures.err;
}
