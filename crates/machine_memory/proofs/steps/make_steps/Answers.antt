use Rattle.std.proofs.Common.{arith}
use Rattle.machine_memory.proofs.Faults.{on_error}
use Rattle.machine_memory.proofs.Rows.{all_steps, cut_more, no_step, step_more}
use Rattle.machine_memory.proofs.steps.make_steps.Goals as goal

pub loop-init : goal.loop-init
loop-init g c = (c.requires.within, c.requires.words, c.requires.ready, no_step c.args.options c.args.course (g.L.Line.told c.args.line.now))

pub loop-preserved : goal.loop-preserved
loop-preserved g c =
    let told = g.L.Line.told in (
      c.in_ok-course.ensures.within,
      c.in_ok-course.ensures.words,
      c.in_ok-course.ensures.ready,
      step_more c.loop.counter c.args.options c.args.course c.loop.course c.in_ok-course.course (told c.args.line.now) (told c.loop.line) (told c.step.new.line) c.loop.invariant.3 c.in_ok-course.ensures.made,
    )

pub returns-in_err-course-clause-cut : goal.returns-in_err-course-clause-cut
returns-in_err-course-clause-cut g c =
    let told = g.L.Line.told in
    on_error c.from_residual.result _ (cut_more c.loop.counter c.args.options c.args.course c.loop.course (told c.args.line.now) (told c.loop.line) (told c.step.new.line) c.loop.invariant.3 c.in_err-course.ensures.cut)

pub returns-clause-made : goal.returns-clause-made
returns-clause-made g c =
    let told = g.L.Line.told in
    all_steps c.loop.counter c.args.options c.args.course c.loop.course (told c.args.line.now) (told c.loop.line) (omega (arith, c.loop.auto.counter-end, c.loop-test.false)) c.loop.invariant.3
