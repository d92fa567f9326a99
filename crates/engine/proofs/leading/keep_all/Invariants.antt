use Rattle.std.proofs.Common.{take}
use Rattle.engine.specs.Giving.{Keeps}
use Rattle.engine.specs.Keeping.{calls_of}
use Rattle.engine.proofs.leading.keep_all.Given as goal

abbrev pub invariant-loop-number : goal.invariant-loop-number
invariant-loop-number g l = Keeps (calls_of g.K.Keep) l.fn.keep (take l.number (g.H.Host.news_in l.fn.host l.fn.step)) l.keep
