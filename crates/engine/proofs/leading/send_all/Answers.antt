use Rattle.std.proofs.Common.{◌∙◌}
use Rattle.engine.proofs.Fronts.{sent_more, sent_stops}
use Rattle.engine.proofs.leading.send_all.Goals as goal

pub loop-key-preserved : goal.loop-key-preserved
loop-key-preserved g c = record {
  said = sent_more c.args.keys.now c.loop-key.key-index 0 (g.L.Line.told c.args.line.now) (g.L.Line.told c.loop-key.line) (g.L.Line.told c.send.new.self) c.loop-key-test.true c.loop-key.invariant.said c.in_default.ensures.sent;
  counted = c.in_default.ensures.counted ∙ c.loop-key.invariant.counted;
}

pub returns-in-Err-clause-not_sent : goal.returns-in-Err-clause-not_sent
returns-in-Err-clause-not_sent g c =
    sent_stops c.args.keys.now c.loop-key.key-index (g.L.Line.told c.args.line.now) (g.L.Line.told c.loop-key.line) (g.L.Line.told c.send.new.self) c.loop-key-test.true c.loop-key.invariant.said c.in-Err.ensures.not_sent
