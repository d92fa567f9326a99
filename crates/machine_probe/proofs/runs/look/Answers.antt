use Rattle.std.proofs.Common.{ap, ◌∙◌}
use Rattle.host_devices.specs.Devices.{line_told}
use Rattle.machine_probe.specs.Came.{first_of}
use Rattle.machine_probe.proofs.Joins.{look_is}
use Rattle.machine_probe.proofs.Left.{look_leaves}
use Rattle.machine_probe.proofs.runs.look.Goals as goal

pub returns-clause-made : goal.returns-clause-made
returns-clause-made g c =
    look_is c.args.options c.args.core c.inquire-core.result.0 c.inquire-core.result.1 c.turns.result c.first_of.result c.sighting_of-sighting.result c.foreign_count.result (g.L.Line.told c.args.line.now) (g.L.Line.told c.inquire-core.new.line)
    c.requires c.turns.ensures c.inquire-core.ensures.inquired.turns.session c.inquire-core.ensures.inquired.turns.end (c.first_of.ensures ∙ ap first_of c.values.ensures.value) c.sighting_of-sighting.ensures c.foreign_count.ensures

pub returns-clause-left : goal.returns-clause-left
returns-clause-left g c =
    look_leaves (line_told g.L.Line c.args.line.now) (line_told g.L.Line c.inquire-core.new.line) c.inquire-core.result.1 c.first_of.result c.sighting_of-sighting.result
    c.sighting_of-sighting.ensures c.inquire-core.ensures.inquired.turns.counted c.inquire-core.ensures.inquired.turns.named
