use Rattle.std.proofs.Common.{◌<◌, length, arith, ap, sym, subst}
use Rattle.loss_scripts.proofs.Codes.{Gathers, gathers_none, gathers_more, wait_made, wait_only, empty_by_test, some_by_test, some_if_not, length_by_test, room_by_test}
use Rattle.loss_scripts.proofs.line.waiting.Goals as goal
use Rattle.loss_scripts.proofs.line.waiting.Goals.{else-is_empty-via-then-is_empty+else-not-is_empty, else-is_empty-via-else-is_empty}

pub loop-character-init : goal.loop-character-init
loop-character-init c = (subst (Gathers c.in_ok-rest.rest.now c.in_ok-rest.rest.now) (sym c.new-waiting.ensures) (gathers_none _), omega (arith, ap length c.new-waiting.ensures))

pub loop-character-preserved : goal.loop-character-preserved
loop-character-preserved c =
    let room : length c.loop-character.waiting.items < 32 = room_by_test _ _ c.is_full.ensures.value c.if-is_full.false c.is_full.ensures.fits in
    (subst (Gathers c.in_ok-rest.rest.now c.in-Some.after.now) (sym c.push.ensures.items) (gathers_more _ _ _ _ _ c.loop-character.invariant.0 c.in-Some.ensures.found), omega (arith, c.push.ensures.len))

pub returns-then-not-is_empty-clause-found : goal.returns-then-not-is_empty-clause-found
returns-then-not-is_empty-clause-found c =
    wait_made c.args.text.now _ _ _ c.in_ok-rest.ensures.found c.loop-character.invariant.0 (empty_by_test _ _ c.is_empty.ensures c.if-is_empty.true) (some_if_not _ _ c.is_empty-then-is_empty.ensures c.if-not-is_empty.true) c.loop-character.invariant.1

pub returns-else-is_empty-clause-none : goal.returns-else-is_empty-clause-none
returns-else-is_empty-clause-none c characters is =
    let end = wait_only c.args.text.now _ _ _ characters c.in_ok-rest.ensures.found c.loop-character.invariant.0 (λ code rest. c.in_default.ensures.none code rest) is in
    let some = is.some in
    elim c.else-is_empty.branch [
      | else-is_empty-via-then-is_empty+else-not-is_empty w ↦ (let none = length_by_test _ w.if-not-is_empty.ensures in omega arith)
      | else-is_empty-via-else-is_empty w ↦ some_by_test _ _ c.is_empty.ensures w.if-is_empty.false end.1
    ]
