use Rattle.std.proofs.Common.{◌+◌, ◌-◌, ◌*◌, ◌≤◌, length, None}
use Rattle.host_devices.specs.Devices.{devices_of}
use Rattle.engine.specs.Keeping.{progress_calls}
use Rattle.stub_engine.specs.Brought.{AreStubs, stubs_give}
use Rattle.stub_engine.specs.Keeping.{IsKeptBy}
use Rattle.stub_engine.specs.Parts.{bringing}
use Rattle.stub_engine.specs.Tallies.{begun}
use Rattle.stub_engine.proofs.Bounds.{AreBounded}
use Rattle.stub_engine.proofs.stubs.bring_in.Given as goal

abbrev pub invariant-loop-tally : goal.invariant-loop-tally
invariant-loop-tally g l = record {
  stubs : AreStubs (bringing l.fn.plan l.fn.typist (begun l.fn.verified, l.tally) None) (devices_of g.L.Line g.K.Keep l.fn.line l.fn.keep) (devices_of g.L.Line g.K.Keep l.line l.keep);
  kept_by : IsKeptBy (progress_calls g.K.Keep) (stubs_give (bringing l.fn.plan l.fn.typist (begun l.fn.verified, l.tally) None)) l.fn.keep l.keep;
  near : l.tally.verified ≤ l.fn.verified + 28672;
  bounded : AreBounded l.fn.verified l.tally;
}

abbrev pub decreases-loop-tally : goal.decreases-loop-tally
decreases-loop-tally g l = 4 * (length l.plan.words - l.tally.verified) + (3 - l.tally.in_vain)
