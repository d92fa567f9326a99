use Rattle.host_devices.specs.declared.item.Item.TheVariants.{Heard}
use Rattle.machine_probe.proofs.Noting.{noted_too, still_noted}
use Rattle.machine_probe.proofs.noted_line.NotedLineLine.hear.Goals as goal

pub invariant_of-self : goal.invariant_of-self
invariant_of-self g c = still_noted g.E.FirstTold.told _ _ _ c.in_err-heard.ensures.not_heard c.self.invariant

pub invariant_of-self-2 : goal.invariant_of-self-2
invariant_of-self-2 g c = noted_too g.E.FirstTold.told _ _ _ _ (Heard c.in_ok-heard.heard) c.in_ok-heard.ensures.heard c.hears.ensures c.self.invariant
