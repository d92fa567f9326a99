use Rattle.std.proofs.Common.{[], sym, ◌∙◌}
use Rattle.tape_commands.proofs.Plays.{no_end, until_more}
use Rattle.tape_commands.proofs.play.run_until.Goals as goal

pub loop-world-smaller : goal.loop-world-smaller
loop-world-smaller c = c.apply.ensures.work c.next_event-event.ensures (no_end _ _ (sym c.is_over.ensures ∙ c.loop-world-test.true))

pub loop-world-preserved : goal.loop-world-preserved
loop-world-preserved c = until_more c.args.sent c.args.world.now _ _ _ (sym c.is_over.ensures ∙ c.loop-world-test.true) c.next_event-event.ensures c.apply.ensures.world c.loop-world.invariant

pub returns : goal.returns
returns c = let end = c.loop-world.invariant [] (sym c.is_over.ensures ∙ c.loop-world-test.false) in end
