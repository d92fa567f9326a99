use Rattle.std.proofs.Common.{refl}
use Rattle.std.proofs.Common.{subst, sym}
use Rattle.machine_memory.specs.BusRuns.{IsUnlent}
use Rattle.machine_memory.specs.Course.{Standing}
use Rattle.machine_memory.proofs.BusLeads.{look_cut, look_led, second_look_ready, second_look_step}
use Rattle.machine_memory.proofs.Leads.{holds_on_error, map_ok}
use Rattle.machine_memory.proofs.bus_steps.look_again.Goals as goal

pub returns-clause-made : goal.returns-clause-made
returns-clause-made g c =
    let told = g.L.Line.told in
    let core = c.inquire-core.result.0 in
    let stop = c.inquire-core.result.1 in
    map_ok c.behind_second_look.result _ _
    (λ after is. second_look_step c.args.options c.args.word c.args.first c.args.course after core stop (told c.args.line.now) (told c.inquire-core.new.line)
    (look_led c.args.options c.args.word.address c.args.first _ c.in_ok-core.core core stop (told c.args.line.now) (told c.inquire-core.new.line)
    c.in_ok-core.ensures refl c.inquire-core.ensures.inquired.turns.end c.inquire-core.ensures.inquired.turns.session) is)
    c.behind_second_look.ensures

pub returns-clause-cut : goal.returns-clause-cut
returns-clause-cut g c =
    let told = g.L.Line.told in
    let core = c.inquire-core.result.0 in
    let stop = c.inquire-core.result.1 in
    holds_on_error c.behind_second_look.result _
    (look_cut c.args.options c.args.word c.args.first core stop (told c.args.line.now) (told c.inquire-core.new.line)
    (look_led c.args.options c.args.word.address c.args.first _ c.in_ok-core.core core stop (told c.args.line.now) (told c.inquire-core.new.line)
    c.in_ok-core.ensures refl c.inquire-core.ensures.inquired.turns.end c.inquire-core.ensures.inquired.turns.session))

pub returns-clause-ready : goal.returns-clause-ready
returns-clause-ready g c =
    map_ok c.behind_second_look.result _ _
    (λ after is. subst (λ (s : Standing). IsUnlent s.place) (sym is) (second_look_ready c.args.course c.args.word c.inquire-core.result.0 c.inquire-core.result.1))
    c.behind_second_look.ensures
