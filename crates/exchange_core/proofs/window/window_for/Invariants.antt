use Rattle.exchange_core.specs.Window.{IsFirstTogether}
use Rattle.exchange_core.proofs.Together.{IsHighest}
use Rattle.exchange_core.proofs.window.window_for.Given as goal

abbrev pub invariant-loop-number : goal.invariant-loop-number
invariant-loop-number l = record {
  together : IsFirstTogether l.fn.plan.words l.fn.from l.first l.number;
  window : IsHighest l.fn.plan.words l.fn.from l.fn.size l.number l.window;
}
