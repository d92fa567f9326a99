use Rattle.std.proofs.Common.{◌≡◌, ◌+◌, ◌∙◌, Some, None, subst, sym, arith}
use Rattle.host_devices.specs.Devices.{line_told}
use Rattle.engine.specs.Keeping.{calls_of}
use Rattle.engine.specs.Led.{IsLed, scene}
use Rattle.engine.specs.Session.{turns_of}
use Rattle.engine.specs.declared.stop.Cut.TheVariants.{TurnsOver}
use Rattle.engine.specs.declared.stop.Stop.TheVariants.{CutOff}
use Rattle.engine.proofs.Sessions.{led_ended, led_none, led_over, led_wider, turns_join}
use Rattle.engine.proofs.leading.lead.Goals as goal

pub loop-init : goal.loop-init
loop-init g c = record {
  whole = led_none g.H.Host.ways (calls_of g.K.Keep) c.args.host.now (scene (line_told g.L.Line c.args.line.now) c.args.keep.now);
  kept = c.requires;
  end = c.end-end.ensures;
}

pub loop-preserved : goal.loop-preserved
loop-preserved g c = record {
  whole = turns_join g.H.Host.ways (calls_of g.K.Keep) c.loop.counter 1 None c.args.host.now c.loop.host c.turn.new.host (scene (line_told g.L.Line c.args.line.now) c.args.keep.now) (scene (line_told g.L.Line c.loop.line) c.loop.keep)
      (scene (line_told g.L.Line c.turn.new.line) c.turn.new.keep) c.loop.invariant.whole c.in_default-turn.ensures.turn;
  kept = c.in_default-turn.ensures.kept;
  end = c.end-end-in-loop.ensures;
}

pub returns-in-Some-clause-led : goal.returns-in-Some-clause-led
returns-in-Some-clause-led g c =
    led_ended g.H.Host.ways (calls_of g.K.Keep) c.in-Some.end c.loop.counter c.args.turns c.args.host.now c.loop.host (scene (line_told g.L.Line c.args.line.now) c.args.keep.now) (scene (line_told g.L.Line c.loop.line) c.loop.keep)
    (sym c.loop.invariant.end ∙ c.in-Some.is) c.loop.auto.counter-end c.loop.invariant.whole

pub returns-in-Err-clause-led : goal.returns-in-Err-clause-led
returns-in-Err-clause-led g c =
    led_wider g.H.Host.ways (calls_of g.K.Keep) c.in-Err.stop (c.loop.counter + 1) c.args.turns c.args.host.now c.turn.new.host (scene (line_told g.L.Line c.args.line.now) c.args.keep.now) (scene (line_told g.L.Line c.turn.new.line) c.turn.new.keep)
    c.in-Err.ensures.only_fails (omega (arith, c.loop-test.true))
    (turns_join g.H.Host.ways (calls_of g.K.Keep) c.loop.counter 1 (Some c.in-Err.stop) c.args.host.now c.loop.host c.turn.new.host (scene (line_told g.L.Line c.args.line.now) c.args.keep.now) (scene (line_told g.L.Line c.loop.line) c.loop.keep)
    (scene (line_told g.L.Line c.turn.new.line) c.turn.new.keep) c.loop.invariant.whole c.in-Err.ensures.turn)

pub returns-in-Some-end-clause-led : goal.returns-in-Some-end-clause-led
returns-in-Some-end-clause-led g c =
    led_ended g.H.Host.ways (calls_of g.K.Keep) c.in-Some-end.end c.loop.counter c.args.turns c.args.host.now c.loop.host (scene (line_told g.L.Line c.args.line.now) c.args.keep.now) (scene (line_told g.L.Line c.loop.line) c.loop.keep)
    (sym c.loop.invariant.end ∙ c.in-Some-end.is) c.loop.auto.counter-end c.loop.invariant.whole

pub returns-in-None-clause-led : goal.returns-in-None-clause-led
returns-in-None-clause-led g c =
    let before = scene (line_told g.L.Line c.args.line.now) c.args.keep.now in
    let after = scene (line_told g.L.Line c.loop.line) c.loop.keep in
    let all : c.loop.counter ≡ c.args.turns = omega (arith, c.loop-test.false, c.loop.auto.counter-end) in
    subst (λ n. IsLed (calls_of g.K.Keep) n (turns_of g.H.Host.ways c.args.host.now c.loop.host (Some (CutOff TurnsOver))) before after) all
    (led_over g.H.Host.ways (calls_of g.K.Keep) c.loop.counter c.args.host.now c.loop.host before after (sym c.loop.invariant.end ∙ c.in-None.is) c.loop.invariant.whole)
