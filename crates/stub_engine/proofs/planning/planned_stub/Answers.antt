use Rattle.std.proofs.Common.{◌≡◌, List, length, arith, ap, subst}
use Rattle.tape_image.specs.Word.{WordValue}
use Rattle.stub_engine.specs.Planning.{IsTried}
use Rattle.stub_engine.specs.Planning.IsTried.{One, More}
use Rattle.stub_engine.specs.Planning.HasNoRoom.{MoreStretches}
use Rattle.stub_engine.proofs.Layouts.{few_stretches}
use Rattle.stub_engine.proofs.Unplanned.{passed_on, starved}
use Rattle.stub_engine.proofs.planning.planned_stub.Goals as goal

pub laid_out-requires-2 : goal.laid_out-requires-2
laid_out-requires-2 c =
    let few = few_stretches c.args.plan.now c.args.from 1 c.in_ok-first.first c.in_ok-first.ensures.layout in
    record { few = omega (arith, few, c.len-count.ensures) }

pub returns-then-words-from-lt-LEAST_GAIN-clause-unplanned :
    goal.returns-then-words-from-lt-LEAST_GAIN-clause-unplanned
returns-then-words-from-lt-LEAST_GAIN-clause-unplanned c =
    let words = ap (λ (list : List WordValue). length list) c.words.ensures.value in
    (1, One, λ i window. (let within = window.within in omega (arith, words, within, c.if-words-from-lt-LEAST_GAIN.true)))

pub returns-in_err-first-clause-unplanned : goal.returns-in_err-first-clause-unplanned
returns-in_err-first-clause-unplanned c =
    passed_on c.args.plan.now c.args.from 1 c.from_residual.result c.in_err-first.field-0.0 c.from_residual.ensures.1 One c.in_err-first.ensures.unplanned

pub returns-in_err-layout-clause-unplanned : goal.returns-in_err-layout-clause-unplanned
returns-in_err-layout-clause-unplanned c =
    let first = c.in_ok-first.first in
    let many : length first.stretches.items ≡ c.len-count.result = omega (arith, c.len-count.ensures) in
    let tried = subst (IsTried c.args.plan.now c.args.from) many
    (More first c.in_ok-first.ensures.layout) in
    passed_on c.args.plan.now c.args.from c.len-count.result c.from_residual-in_err-layout.result c.in_err-layout.field-0.0
    c.from_residual-in_err-layout.ensures.1 tried c.in_err-layout.ensures.unplanned

pub returns-then-len-count-clause-unplanned : goal.returns-then-len-count-clause-unplanned
returns-then-len-count-clause-unplanned c =
    let first = c.in_ok-first.first in
    let layout = c.in_ok-layout.layout in
    let many : length first.stretches.items ≡ c.len-count.result = omega (arith, c.len-count.ensures) in
    let tried = subst (IsTried c.args.plan.now c.args.from) many
    (More first c.in_ok-first.ensures.layout) in (
      c.len-count.result,
      tried,
      MoreStretches layout c.in_ok-layout.ensures.layout
          (omega (arith, c.len.ensures, c.if-len-count.true)),
    )

pub returns-clause-unplanned : goal.returns-clause-unplanned
returns-clause-unplanned c = starved c.args.plan.now c.args.from c.brought_in_by.result c.brought_in_by.ensures.memory
