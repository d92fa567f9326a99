use Rattle.std.proofs.Common.{sym, ◌∙◌}
use Rattle.tape_commands.proofs.Plays.{repeating_none, repeating_more, repeating_stopped}
use Rattle.tape_commands.proofs.play.repeat.Goals as goal

pub loop-done-init : goal.loop-done-init
loop-done-init c = repeating_none c.args.world.now c.args.event c.args.times

pub loop-done-preserved : goal.loop-done-preserved
loop-done-preserved c =
    repeating_more c.args.world.now _ _ c.args.event c.args.times _ c.loop-done.invariant c.loop-done-test.true c.apply.ensures.world (sym c.apply.ensures.possible ∙ c.if-not-apply.false)

pub returns-then-not-apply-clause-world : goal.returns-then-not-apply-clause-world
returns-then-not-apply-clause-world c =
    (repeating_stopped c.args.world.now _ _ c.args.event c.args.times _ c.loop-done.invariant c.loop-done-test.true c.if-not-apply.ensures.unchanged (sym c.apply.ensures.possible ∙ c.if-not-apply.true)).0

pub returns-then-not-apply-clause-possible : goal.returns-then-not-apply-clause-possible
returns-then-not-apply-clause-possible c =
    (repeating_stopped c.args.world.now _ _ c.args.event c.args.times _ c.loop-done.invariant c.loop-done-test.true c.if-not-apply.ensures.unchanged (sym c.apply.ensures.possible ∙ c.if-not-apply.true)).1
