use Rattle.std.proofs.Common.{◌≡◌, ◌≤◌, length, take}
use Rattle.stub_engine.proofs.hosting.ExchangeHostHost.keys.Given as goal

abbrev pub invariant-loop-key : goal.invariant-loop-key
invariant-loop-key l = record {
  same : l.keys.items ≡ take l.key-index l.key-items;
  all : l.key-items ≡ l.fn.step.keys.items;
  few : length l.key-items ≤ 32;
}
