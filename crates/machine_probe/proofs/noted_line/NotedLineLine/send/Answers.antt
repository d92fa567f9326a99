use Rattle.host_devices.specs.declared.item.Item.TheVariants.{Sent}
use Rattle.machine_probe.proofs.Noting.{noted_too, still_noted}
use Rattle.machine_probe.proofs.noted_line.NotedLineLine.send.Goals as goal

pub invariant_of-self : goal.invariant_of-self
invariant_of-self g c = still_noted g.E.FirstTold.told _ _ _ c.in_err-send.ensures.not_sent c.self.invariant

pub invariant_of-self-2 : goal.invariant_of-self-2
invariant_of-self-2 g c = noted_too g.E.FirstTold.told _ _ _ _ (Sent c.args.key) c.in_ok-send.ensures.sent c.sends.ensures c.self.invariant
