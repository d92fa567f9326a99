use Rattle.std.proofs.Common.{arith, sym, subst}
use Rattle.octal.specs.Octal.{IsOct6}
use Rattle.loss_scripts.proofs.Forms.{six_characters}
use Rattle.loss_scripts.proofs.line.word.Goals as goal

pub returns-in-len6 : goal.returns-in-len6
returns-in-len6 c word =
    let same = six_characters c.args.text.now (omega arith) in
    let exact = c.read_oct6.ensures.exact word in
    (λ some. subst (IsOct6 word) same (exact.0 some), λ is. exact.1 (subst (IsOct6 word) (sym same) is))
