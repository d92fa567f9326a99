use Rattle.std.proofs.Common.{◌≡◌, None}
use Rattle.host_devices.specs.Devices.{line_told}
use Rattle.engine.specs.Keeping.{calls_of}
use Rattle.engine.specs.Led.{IsLed, scene}
use Rattle.engine.specs.Session.{turns_of}
use Rattle.engine.proofs.leading.lead.Given as goal

abbrev pub invariant-loop : goal.invariant-loop
invariant-loop g l = record {
  whole : IsLed (calls_of g.K.Keep) l.counter (turns_of g.H.Host.ways l.fn.host l.host None) (scene (line_told g.L.Line l.fn.line) l.fn.keep) (scene (line_told g.L.Line l.line) l.keep);
  kept : g.H.Host.is_host l.host;
  end : l.end ≡ g.H.Host.ways.ended l.host;
}
