use Rattle.std.proofs.Common.{◌≡◌, arith, ap, sym, subst, Some}
use Rattle.octal.specs.Octal.{IsOct6}
use Rattle.octal.proofs.Digits.{typed-is, one_word, octal_text-only}
use Rattle.octal.proofs.Heads.{octal_text-is}
use Rattle.octal.proofs.text.read_oct6.Goals as goal

typed : (c : goal.After-loop-character) → IsOct6 c.loop-character.word c.args.text.now
typed c = typed-is c.args.text.now c.loop-character.character-index c.loop-character.word c.told-text (omega arith) c.loop-character.invariant.value c.loop-character.invariant.digits c.if-text-gt49.false

pub returns-clause-exact : goal.returns-clause-exact
returns-clause-exact c = λ word. (
  λ some. let same : c.loop-character.word ≡ word = (cc) in subst (λ w. IsOct6 w c.args.text.now) same (typed c),
  λ is. ap Some (one_word c.loop-character.word word c.args.text.now (typed c) is),
)

pub returns-clause-gives_back : goal.returns-clause-gives_back
returns-clause-gives_back c = λ word small is.
    ap Some (one_word c.loop-character.word word c.args.text.now (typed c) (subst (IsOct6 word) (sym is) (octal_text-is word small)))

pub returns-clause-only_text : goal.returns-clause-only_text
returns-clause-only_text c = octal_text-only c.loop-character.word c.args.text.now (typed c)
