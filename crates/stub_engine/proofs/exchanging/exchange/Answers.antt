use Rattle.host_devices.specs.Devices.{line_told}
use Rattle.engine.specs.Keeping.{progress_calls}
use Rattle.engine.specs.Led.{scene}
use Rattle.stub_engine.specs.declared.hosting.ExchangeHost.{ExchangeHost}
use Rattle.stub_engine.proofs.Carried.{carried_out, kept_out}
use Rattle.stub_engine.proofs.exchanging.exchange.Goals as goal

pub returns-clause-led : goal.returns-clause-led
returns-clause-led g c =
    let host : ExchangeHost = record { plan = c.args.plan; chunks = c.args.chunks; state = c.new-state.result } in
    carried_out (progress_calls g.K.Keep) c.args.turns host c.lead-stop.new.host c.args.from c.args.duplex c.lead-stop.result (scene (line_told g.L.Line c.args.line.now) c.args.keep.now)
    (scene (line_told g.L.Line c.lead-stop.new.line) c.lead-stop.new.keep) c.requires.chunks c.new-state.ensures c.lead-stop.ensures.led

pub returns-clause-kept : goal.returns-clause-kept
returns-clause-kept g c =
    let host : ExchangeHost = record { plan = c.args.plan; chunks = c.args.chunks; state = c.new-state.result } in
    kept_out (progress_calls g.K.Keep) c.args.turns host c.lead-stop.new.host c.args.from c.args.duplex c.lead-stop.result (scene (line_told g.L.Line c.args.line.now) c.args.keep.now)
    (scene (line_told g.L.Line c.lead-stop.new.line) c.lead-stop.new.keep) c.requires.chunks c.new-state.ensures c.lead-stop.ensures.led
