use Rattle.std.proofs.Common.{subst, ◌+◌}
use Rattle.loss_scripts.specs.Script.{MayCome}
use Rattle.loss_scripts.specs.Draft.{Joins}
use Rattle.loss_scripts.proofs.OneLine.{one_meaning}
use Rattle.loss_scripts.proofs.Scripts.{reading_none, reading_more, reading_wrong, reading_all, next_number, joins_by, comes_not_by, size_of}
use Rattle.loss_scripts.proofs.OneScript.{only_script, only_refusal}
use Rattle.loss_scripts.proofs.Codes.{empty_by_test}
use Rattle.loss_scripts.proofs.script.read_script.Goals as goal

pub loop-rest-init : goal.loop-rest-init
loop-rest-init c = reading_none c.args.text.now c.new-draft.result c.new-draft.ensures

pub returns-then-not-may_come-clause-read : goal.returns-then-not-may_come-clause-read
returns-then-not-may_come-clause-read c =
    let so = c.loop-rest.invariant in
    let added = c.in_ok-may_come.ensures so.said so.holds (next_number _ _ _ _ so) in
    reading_wrong c.args.text.now c.loop-rest.rest.now c.first_line.result.0.now c.first_line.result.1.now c.loop-rest.draft c.loop-rest.number so c.first_line.ensures.lines
    (λ other is may. comes_not_by (Joins so.said c.in-Some.said c.add.new.self) (MayCome so.said c.in-Some.said → ⊥) _ c.if-not-may_come.true added (subst (MayCome so.said) (one_meaning _ other c.in-Some.said is c.in-Some.ensures.found) may)) (c.if-text-gt-SCRIPT_LIMIT.false)

pub returns-in_default-clause-alone : goal.returns-in_default-clause-alone
returns-in_default-clause-alone c =
    only_refusal c.args.text.now (c.loop-rest.number + 1)
    (reading_wrong c.args.text.now c.loop-rest.rest.now c.first_line.result.0.now c.first_line.result.1.now c.loop-rest.draft c.loop-rest.number c.loop-rest.invariant c.first_line.ensures.lines
    (λ other is may. c.in_default.ensures.none other is) c.if-text-gt-SCRIPT_LIMIT.false)

pub returns-then-not-may_come-clause-alone : goal.returns-then-not-may_come-clause-alone
returns-then-not-may_come-clause-alone c =
    let so = c.loop-rest.invariant in
    let added = c.in_ok-may_come.ensures so.said so.holds (next_number _ _ _ _ so) in
    only_refusal c.args.text.now (c.loop-rest.number + 1)
    (reading_wrong c.args.text.now c.loop-rest.rest.now c.first_line.result.0.now c.first_line.result.1.now c.loop-rest.draft c.loop-rest.number so c.first_line.ensures.lines
    (λ other is may. comes_not_by (Joins so.said c.in-Some.said c.add.new.self) (MayCome so.said c.in-Some.said → ⊥) _ c.if-not-may_come.true added (subst (MayCome so.said) (one_meaning _ other c.in-Some.said is c.in-Some.ensures.found) may)) (c.if-text-gt-SCRIPT_LIMIT.false))

pub returns-clause-alone : goal.returns-clause-alone
returns-clause-alone c =
    let so = c.loop-rest.invariant in
    let lines = reading_all c.args.text.now c.loop-rest.rest.now c.loop-rest.draft c.loop-rest.number so (empty_by_test _ _ c.is_empty.ensures c.loop-rest-test.false) in
    only_script c.args.text.now c.finish.result (c.finish.ensures c.args.text.now so.said c.if-text-gt-SCRIPT_LIMIT.false lines so.in_order so.holds)

pub loop-rest-preserved : goal.loop-rest-preserved
loop-rest-preserved c =
    let so = c.loop-rest.invariant in
    let added = c.in_ok-may_come.ensures so.said so.holds (next_number _ _ _ _ so) in
    reading_more c.args.text.now c.loop-rest.rest.now c.first_line.result.0.now c.first_line.result.1.now c.loop-rest.draft c.add.new.self c.loop-rest.number c.in-Some.said so c.first_line.ensures.lines c.first_line.ensures.shorter
    c.in-Some.ensures.found (joins_by (Joins so.said c.in-Some.said c.add.new.self) (MayCome so.said c.in-Some.said → ⊥) _ c.if-not-may_come.false added)

pub returns-clause-size : goal.returns-clause-size
returns-clause-size c =
    let so = c.loop-rest.invariant in
    let lines = reading_all c.args.text.now c.loop-rest.rest.now c.loop-rest.draft c.loop-rest.number so (empty_by_test _ _ c.is_empty.ensures c.loop-rest-test.false) in
    size_of c.args.text.now c.finish.result (c.finish.ensures c.args.text.now so.said c.if-text-gt-SCRIPT_LIMIT.false lines so.in_order so.holds)
