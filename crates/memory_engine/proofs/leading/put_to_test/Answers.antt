use Rattle.host_devices.specs.Devices.{line_told}
use Rattle.memory_engine.proofs.Testings.{made, never_unkept}
use Rattle.memory_engine.proofs.leading.put_to_test.Goals as goal

pub returns-clause-tested : goal.returns-clause-tested
returns-clause-tested g c =
    made _ c.args.turns c.args.core c.lead-stop.new.host.core c.lead-stop.result (line_told g.L.Line c.args.line.now) (line_told g.L.Line c.lead-stop.new.line) c.end.ensures.kept c.lead-stop.ensures.kept
    c.lead-stop.ensures.led.session _ _ c.lead-stop.ensures.led

pub returns-clause-told : goal.returns-clause-told
returns-clause-told g c = never_unkept _ (λ a item b never. never) c.args.turns c.args.core c.lead-stop.new.host.core c.lead-stop.result _ _ c.lead-stop.ensures.led
