use Rattle.tape_commands.proofs.Rehearsals.{rehearsal_made}
use Rattle.tape_commands.proofs.rehearse.rehearsal.Goals as goal

pub returns-clause-ok : goal.returns-clause-ok
returns-clause-ok c =
    rehearsal_made c.args.tapes.now c.args.script.now c.in_ok-plan.plan c.in_ok-odt.odt c.store_words.new.odt c.open_world-world.result c.play.new.world _ _ _ _ _ _
    c.in_ok-odt.ensures.ok c.deref.ensures.value c.in_default.ensures.ok c.in_default.ensures.lie c.as_slice.ensures.value
    c.in_ok-plan.ensures.plan c.open_world-world.ensures.world c.deref-2.ensures.value c.new-text.ensures.items c.in_ok-play.ensures c.in_ok-put_report.ensures
