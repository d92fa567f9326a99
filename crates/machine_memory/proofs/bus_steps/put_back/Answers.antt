use Rattle.std.proofs.Common.{subst, sym}
use Rattle.machine_memory.specs.BusRuns.{IsUnlent}
use Rattle.machine_memory.specs.Course.{IsWithin, Standing}
use Rattle.machine_memory.proofs.BusLeads.{put_back_ready, put_back_step, put_back_within}
use Rattle.machine_memory.proofs.bus_steps.put_back.Goals as goal

pub returns-clause-made : goal.returns-clause-made
returns-clause-made g c options has =
    let told = g.L.Line.told in
    let led = c.lead_deposit-stop in
    put_back_step options c.args.word c.args.course c.behind_put_back.result led.result (told c.args.line.now) (told led.new.line) (led.ensures options c.args.word.address c.args.word.old has) c.behind_put_back.ensures

pub returns-clause-within : goal.returns-clause-within
returns-clause-within g c to = subst (λ (s : Standing). IsWithin to s.place) (sym c.behind_put_back.ensures) (put_back_within to c.args.course c.args.word c.lead_deposit-stop.result)

pub returns-clause-ready : goal.returns-clause-ready
returns-clause-ready g c = subst (λ (s : Standing). IsUnlent s.place) (sym c.behind_put_back.ensures) (put_back_ready c.args.course c.args.word c.lead_deposit-stop.result)
