use Rattle.std.proofs.Math.Nat.{div-one}
use Rattle.octal.proofs.Digits.{octal_text-only}
use Rattle.octal.proofs.text.oct6.Goals as goal

pub returns-clause-only_one : goal.returns-clause-only_one
returns-clause-only_one c =
    λ other is. rw (c.digit_at.ensures, c.digit_at-2.ensures, c.digit_at-3.ensures, c.digit_at-4.ensures, c.digit_at-5.ensures, c.digit_at-6.ensures, div-one) (octal_text-only c.args.word other is)
