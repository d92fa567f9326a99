use Rattle.std.proofs.Common.{arith}
use Rattle.std.proofs.lemmas.List.{drop_more}
use Rattle.std.proofs.Math.ListN.{drop_of_length-le}
use Rattle.tape_commands.proofs.Plays.{playing_none, playing_more, playing_all}
use Rattle.tape_commands.proofs.play.play.Goals as goal

pub loop-line-init : goal.loop-line-init
loop-line-init c = playing_none c.args.world.now c.args.steps.now c.args.text.now.items

pub loop-line-preserved : goal.loop-line-preserved
loop-line-preserved c =
    let played = c.in_ok-play_line.ensures in
    playing_more c.args.world.now _ _ c.args.steps.now _ _ _ c.args.text.now.items _ _ played.0 c.loop-line.invariant (drop_more c.args.steps.now c.loop-line.line-index _ (omega arith)) played.1 played.2

pub returns : goal.returns
returns c = playing_all c.args.world.now _ c.args.steps.now _ c.args.text.now.items _ c.loop-line.invariant (drop_of_length-le c.args.steps.now c.loop-line-test.false)
