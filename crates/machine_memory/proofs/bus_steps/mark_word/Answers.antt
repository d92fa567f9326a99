use Rattle.std.proofs.Common.{◌∙◌, sym}
use Rattle.machine_memory.proofs.BusLeads.{back_is, mark_step, marked_or, named_step, or_named, restored}
use Rattle.machine_memory.proofs.Leads.{map_err, map_ok}
use Rattle.machine_memory.proofs.bus_steps.mark_word.Goals as goal

pub returns-in-Err-clause-made : goal.returns-in-Err-clause-made
returns-in-Err-clause-made g c =
    let told = g.L.Line.told in
    let led = c.lead_deposit-stop-in-Err in
    let has = back_is c.args.options c.args.word c.args.back.now c.unwrap.result c.requires.back (sym c.take.ensures.value ∙ c.unwrap.ensures) in
    map_ok c.behind_want.result _ _
    (λ after is. or_named c.args.options c.args.word c.args.place c.args.course after (told c.args.line.now) (told led.new.line)
    (named_step c.args.options c.args.word c.args.course after led.result (told c.args.line.now) (told led.new.line) (led.ensures c.args.options c.args.word.address c.args.word.old has) is))
    c.behind_want.ensures.named

pub returns-in-Err-clause-cut : goal.returns-in-Err-clause-cut
returns-in-Err-clause-cut g c =
    let told = g.L.Line.told in
    let led = c.lead_deposit-stop-in-Err in
    let has = back_is c.args.options c.args.word c.args.back.now c.unwrap.result c.requires.back (sym c.take.ensures.value ∙ c.unwrap.ensures) in
    map_err c.behind_want.result _ _
    (λ is. restored c.args.options c.args.word led.result (told c.args.line.now) (told led.new.line) (led.ensures c.args.options c.args.word.address c.args.word.old has) is)
    c.behind_want.ensures.restored

pub returns-in-Ok-clause-made : goal.returns-in-Ok-clause-made
returns-in-Ok-clause-made g c =
    let told = g.L.Line.told in
    let number = c.number_at-number.result in
    let led = c.lead_deposit-stop in
    marked_or c.args.options c.args.word c.args.place c.args.course c.behind_mark.result (told c.args.line.now) (told led.new.line)
    (mark_step c.args.options c.args.word c.args.place number c.args.course c.behind_mark.result led.result (told c.args.line.now) (told led.new.line)
    c.number_at-number.ensures (led.ensures c.args.options c.args.word.address number c.in-Ok.ensures) c.behind_mark.ensures)
