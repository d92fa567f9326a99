use Rattle.std.proofs.Common.{◌≡◌, IfOk, OnErr, ap, subst, sym, ◌∙◌}
use Rattle.machine_probe.specs.Runs.{OnLine}
use Rattle.machine_memory.specs.declared.course.Place.{Place}
use Rattle.machine_memory.specs.declared.course.Place.TheVariants.{Marking, PuttingBack, Trying}
use Rattle.machine_memory.specs.Course.{Standing}
use Rattle.machine_memory.specs.BusRuns.{HasBack, IsReady}
use Rattle.machine_memory.specs.Runs.{IsCutStep, IsStepAt}
use Rattle.machine_memory.proofs.steps.step.Goals as goal

pub returns-in-Trying-clause-cut : goal.returns-in-Trying-clause-cut
returns-in-Trying-clause-cut g c =
    let told = g.L.Line.told in
    let is : c.args.course.place ≡ Trying c.in-Trying.at = sym (ap (λ (s : Standing). s.place) c.course.view_is) ∙ c.in-Trying.is in
    subst (λ (place : Place). OnErr c.try_at.result (OnLine (IsCutStep c.args.options place) (told c.args.line.now) (told c.try_at.new.line))) (sym is) c.try_at.ensures.cut

pub returns-in-Marking-clause-made : goal.returns-in-Marking-clause-made
returns-in-Marking-clause-made g c =
    let told = g.L.Line.told in
    let is : c.args.course.place ≡ Marking c.in-Marking.word c.in-Marking.place = sym (ap (λ (s : Standing). s.place) c.course.view_is) ∙ c.in-Marking.is in
    subst (λ (place : Place). IfOk c.mark_word.result (λ next. OnLine (IsStepAt c.args.options place c.args.course next) (told c.args.line.now) (told c.mark_word.new.line))) (sym is) c.mark_word.ensures.made

pub returns-in-PuttingBack-clause-made : goal.returns-in-PuttingBack-clause-made
returns-in-PuttingBack-clause-made g c =
    let told = g.L.Line.told in
    let is : c.args.course.place ≡ PuttingBack c.in-PuttingBack.word = sym (ap (λ (s : Standing). s.place) c.course.view_is) ∙ c.in-PuttingBack.is in
    let has = subst (HasBack c.args.options c.in-PuttingBack.word) (sym c.take.ensures.value ∙ c.unwrap.ensures) (subst (λ (place : Place). IsReady c.args.options place c.args.back.now) is c.requires.ready) in
    subst (λ (place : Place). OnLine (IsStepAt c.args.options place c.args.course c.put_back.result) (told c.args.line.now) (told c.put_back.new.line)) (sym is) (c.put_back.ensures.made c.args.options has)

pub returns-in-PuttingBack-clause-within : goal.returns-in-PuttingBack-clause-within
returns-in-PuttingBack-clause-within g c = c.put_back.ensures.within c.args.options.to
