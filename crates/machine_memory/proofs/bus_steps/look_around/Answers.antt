use Rattle.std.proofs.Common.{◌∙◌, arith, ap, length, refl, subst, sym}
use Rattle.reading_core.specs.Reader.{Reader}
use Rattle.machine_memory.specs.BusRuns.{IsReady}
use Rattle.machine_memory.specs.Course.{AreWords, Standing}
use Rattle.machine_memory.proofs.BusLeads.{back_is, look_led, look_or_named, look_ready, look_step, look_words, looked_or, named_step, restored}
use Rattle.machine_memory.proofs.Leads.{map_err, map_ok}
use Rattle.machine_memory.proofs.bus_steps.look_around.Goals as goal

pub behind_look-requires-clause-ample : goal.behind_look-requires-clause-ample
behind_look-requires-clause-ample g c =
    let room = c.in-Ok.ensures in
    let i = c.inquire-core.ensures.inquired in
    omega (arith, room.ample, ap length room.same, i.kept.within, ap length (i.same_addresses ∙ ap (λ (r : Reader). r.addresses) room.begins))

pub returns-in-Ok-clause-made : goal.returns-in-Ok-clause-made
returns-in-Ok-clause-made g c =
    let told = g.L.Line.told in
    let core = c.inquire-core.result.0 in
    let stop = c.inquire-core.result.1 in
    looked_or c.args.options c.args.word c.args.first c.args.course c.behind_look.result (told c.args.line.now) (told c.inquire-core.new.line)
    (look_step c.args.options c.args.word c.args.first c.args.course c.behind_look.result core stop (told c.args.line.now) (told c.inquire-core.new.line)
    (look_led c.args.options c.args.word.address c.args.first _ c.in-Ok.room.core core stop (told c.args.line.now) (told c.inquire-core.new.line)
    c.in-Ok.ensures.begins refl c.inquire-core.ensures.inquired.turns.end c.inquire-core.ensures.inquired.turns.session) c.behind_look.ensures)

pub returns-in-Ok-clause-ready : goal.returns-in-Ok-clause-ready
returns-in-Ok-clause-ready g c =
    subst (λ (s : Standing). IsReady c.args.options s.place c.args.back.now) (sym c.behind_look.ensures)
    (look_ready c.args.options c.args.course c.args.word c.inquire-core.result.0 c.inquire-core.result.1 c.args.back.now c.requires.back)

pub returns-in-Err-clause-made : goal.returns-in-Err-clause-made
returns-in-Err-clause-made g c =
    let told = g.L.Line.told in
    let led = c.lead_deposit-stop in
    let has = back_is c.args.options c.args.word c.args.back.now c.unwrap.result c.requires.back (sym c.take.ensures.value ∙ c.unwrap.ensures) in
    map_ok c.behind_want.result _ _
    (λ after is. look_or_named c.args.options c.args.word c.args.first c.args.course after (told c.args.line.now) (told led.new.line)
    (named_step c.args.options c.args.word c.args.course after led.result (told c.args.line.now) (told led.new.line) (led.ensures c.args.options c.args.word.address c.args.word.old has) is))
    c.behind_want.ensures.named

pub returns-in-Err-clause-cut : goal.returns-in-Err-clause-cut
returns-in-Err-clause-cut g c =
    let told = g.L.Line.told in
    let led = c.lead_deposit-stop in
    let has = back_is c.args.options c.args.word c.args.back.now c.unwrap.result c.requires.back (sym c.take.ensures.value ∙ c.unwrap.ensures) in
    map_err c.behind_want.result _ _
    (λ is. restored c.args.options c.args.word led.result (told c.args.line.now) (told led.new.line) (led.ensures c.args.options c.args.word.address c.args.word.old has) is)
    c.behind_want.ensures.restored

pub returns-in-Ok-clause-words : goal.returns-in-Ok-clause-words
returns-in-Ok-clause-words g c =
    subst AreWords (sym (ap (λ (s : Standing). s.words) c.behind_look.ensures ∙ look_words c.args.course c.args.word c.inquire-core.result.0 c.inquire-core.result.1)) c.requires.words
