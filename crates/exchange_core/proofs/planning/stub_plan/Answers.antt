use Rattle.exchange_core.proofs.Stubs.{ok_behind, ok_stub}
use Rattle.exchange_core.proofs.planning.stub_plan.Goals as goal

pub returns-clause-stub : goal.returns-clause-stub
returns-clause-stub c =
    ok_stub c.of.result c.args.plan.now c.args.from c.args.window c.args.words.now c.in_ok-tape.tape c.requires.window c.requires.some c.in_ok-tape.ensures c.of.ensures.plan c.of.ensures.bytes c.of.ensures.sound

pub returns-clause-behind : goal.returns-clause-behind
returns-clause-behind c =
    ok_behind c.of.result c.args.plan.now c.args.from c.args.window c.args.words.now c.in_ok-tape.ensures.sound c.requires.window (returns-clause-stub c)
