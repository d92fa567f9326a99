use Rattle.std.proofs.Common.{refl, ap, subst, sym, ◌∙◌}
use Rattle.machine_memory.specs.BusCourse.{then_bus}
use Rattle.machine_memory.specs.Course.{AreWords, IsWithin, Standing, behind_test}
use Rattle.machine_memory.proofs.BusLeads.{test_words, then_are, then_within}
use Rattle.machine_memory.proofs.Faults.{on_error}
use Rattle.machine_memory.proofs.Leads.{test_cut, test_led, test_step, test_within}
use Rattle.machine_memory.proofs.steps.test_from.Goals as goal

pub returns-clause-made : goal.returns-clause-made
returns-clause-made g c =
    let told = g.L.Line.told in
    test_step c.args.options c.args.at c.args.course c.then_bus-next.result c.put_to_test-core.result.0 c.put_to_test-core.result.1 (told c.args.line.now) (told c.put_to_test-core.new.line)
    (test_led c.args.options c.args.at c.in_ok-core.core c.put_to_test-core.result.0 c.put_to_test-core.result.1 _ (told c.args.line.now) (told c.put_to_test-core.new.line)
    c.in_ok-core.ensures.begun refl c.put_to_test-core.ensures.tested.session c.put_to_test-core.ensures.tested.end c.put_to_test-core.ensures.told)
    (c.then_bus-next.ensures ∙ ap (then_bus c.args.options.every) c.in_ok-next.ensures)

pub returns-in_err-next-clause-cut : goal.returns-in_err-next-clause-cut
returns-in_err-next-clause-cut g c =
    let told = g.L.Line.told in
    on_error c.from_residual-in_err-next.result _
    (test_cut c.args.options c.args.at c.put_to_test-core.result.0 c.put_to_test-core.result.1 (told c.args.line.now) (told c.put_to_test-core.new.line)
    (test_led c.args.options c.args.at c.in_ok-core.core c.put_to_test-core.result.0 c.put_to_test-core.result.1 _ (told c.args.line.now) (told c.put_to_test-core.new.line)
    c.in_ok-core.ensures.begun refl c.put_to_test-core.ensures.tested.session c.put_to_test-core.ensures.tested.end c.put_to_test-core.ensures.told))

pub returns-clause-within : goal.returns-clause-within
returns-clause-within g c =
    let last = c.put_to_test-core.result.0 in
    let next : Standing = behind_test c.args.options.to c.args.course last c.put_to_test-core.result.1 in
    subst (λ (s : Standing). IsWithin c.args.options.to s.place) (sym (c.then_bus-next.ensures ∙ ap (then_bus c.args.options.every) c.in_ok-next.ensures))
    (then_within c.args.options.to c.args.options.every next (test_words c.args.options.to c.args.course last c.put_to_test-core.result.1 c.requires.words c.put_to_test-core.ensures.tested.kept.asked)
    (test_within c.args.options.to c.args.course last c.put_to_test-core.result.1 c.requires.within.to_is))

pub returns-clause-words : goal.returns-clause-words
returns-clause-words g c =
    let last = c.put_to_test-core.result.0 in
    let next : Standing = behind_test c.args.options.to c.args.course last c.put_to_test-core.result.1 in
    subst (λ (s : Standing). AreWords s.words) (sym (c.then_bus-next.ensures ∙ ap (then_bus c.args.options.every) c.in_ok-next.ensures))
    (then_are c.args.options.every next (test_words c.args.options.to c.args.course last c.put_to_test-core.result.1 c.requires.words c.put_to_test-core.ensures.tested.kept.asked))

pub back_for-requires : goal.back_for-requires
back_for-requires g c =
    let last = c.put_to_test-core.result.0 in
    let next : Standing = behind_test c.args.options.to c.args.course last c.put_to_test-core.result.1 in
    subst (λ (s : Standing). IsWithin c.args.options.to s.place) (sym (c.next.view_is ∙ (c.then_bus-next.ensures ∙ ap (then_bus c.args.options.every) c.in_ok-next.ensures)))
    (then_within c.args.options.to c.args.options.every next (test_words c.args.options.to c.args.course last c.put_to_test-core.result.1 c.requires.words c.put_to_test-core.ensures.tested.kept.asked)
    (test_within c.args.options.to c.args.course last c.put_to_test-core.result.1 c.requires.within.to_is))

pub returns-in_err-back-clause-cut : goal.returns-in_err-back-clause-cut
returns-in_err-back-clause-cut g c =
    let told = g.L.Line.told in
    on_error c.from_residual-in_err-back.result _
    (test_cut c.args.options c.args.at c.put_to_test-core.result.0 c.put_to_test-core.result.1 (told c.args.line.now) (told c.put_to_test-core.new.line)
    (test_led c.args.options c.args.at c.in_ok-core.core c.put_to_test-core.result.0 c.put_to_test-core.result.1 _ (told c.args.line.now) (told c.put_to_test-core.new.line)
    c.in_ok-core.ensures.begun refl c.put_to_test-core.ensures.tested.session c.put_to_test-core.ensures.tested.end c.put_to_test-core.ensures.told))
