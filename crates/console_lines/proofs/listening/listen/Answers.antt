use Rattle.std.proofs.Common.{rules, arith}
use Rattle.console_lines.proofs.Copied.{cut_behind, more_heard, on_err}
use Rattle.console_lines.proofs.listening.listen.Goals as goal

pub returns-in_err-heard-clause-cut : goal.returns-in_err-heard-clause-cut
returns-in_err-heard-clause-cut g c =
    on_err _ _ (cut_behind c.loop.silent c.loop.counter _ _ _ c.loop.invariant.so_far (search rules))

pub loop-preserved : goal.loop-preserved
loop-preserved g c = record {
  so_far = rw (c.silences_then-silent.ensures.count) (
      more_heard c.loop.silent c.loop.counter c.in-Some.heard _ _ _ c.loop.invariant.so_far (rw (c.in-Some.is) at c.in_ok-heard.ensures.copied));
  at_most = omega (arith, c.silences_then-silent.ensures.at_most, c.if-silent-silences.false);
}

pub returns-in-None-clause-copied : goal.returns-in-None-clause-copied
returns-in-None-clause-copied g c = search rules
