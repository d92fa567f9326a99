use Rattle.std.proofs.Common.{arith}
use Rattle.loss_scripts.proofs.Numbers.{nine_digits, no_number, digit_more}
use Rattle.loss_scripts.proofs.line.number.Goals as goal

pub returns-in_err-digit-clause-none : goal.returns-in_err-digit-clause-none
returns-in_err-digit-clause-none c =
    rw c.from_residual.ensures (no_number c.args.text.now c.loop-character.character-index c.from.result (omega arith) c.from.ensures c.in_err-digit.ensures.value)

pub overflow_mul-value : goal.overflow_mul-value
overflow_mul-value c =
    let small = nine_digits _ _ _ c.loop-character.invariant.digits c.loop-character.invariant.value (omega arith) (omega arith) in
    omega arith

pub overflow_add-value : goal.overflow_add-value
overflow_add-value c =
    let small = nine_digits _ _ _ c.loop-character.invariant.digits c.loop-character.invariant.value (omega arith) (omega arith) in
    omega (arith, c.in_ok-digit.ensures.value.0, c.in_ok-digit.ensures.value.1)

pub loop-character-preserved : goal.loop-character-preserved
loop-character-preserved c =
    let more = digit_more c.args.text.now c.loop-character.character-index c.loop-character.value c.from.result c.loop-character.invariant.digits c.loop-character.invariant.value (omega arith) c.from.ensures c.in_ok-digit.ensures.value.0 in
    record {
      digits = more.0;
      value = omega (arith, more.1, c.in_ok-digit.ensures.value.1, c.from-in-loop-character.ensures);
    }
