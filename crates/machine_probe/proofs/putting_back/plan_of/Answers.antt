use Rattle.std.proofs.Common.{List, [], ◌∷◌, IfOk, arith, ap, subst, ◌∙◌}
use Rattle.tape_values.specs.Block.{BlockValue, block_at}
use Rattle.tape_values.specs.Tape.{TapeValue}
use Rattle.machine_probe.specs.PuttingBack.{IsPlanOfWord}
use Rattle.machine_probe.proofs.OneWord.{plan_made}
use Rattle.machine_probe.proofs.putting_back.plan_of.Goals as goal

abbrev tape_of : List BlockValue → TapeValue
tape_of blocks = record { blocks = blocks; start = 1 }

pub returns-in-Ok : goal.returns-in-Ok
returns-in-Ok c =
    subst (λ made. IfOk made (IsPlanOfWord c.args.address c.args.old)) c.in-Ok.is
    (plan_made c.args.address c.args.old c.unwrap-tape.result c.of.result c.requires (omega (arith, c.ranges.old.fits))
    ((rw c.unwrap-tape.ensures at c.new.ensures.made) ∙ ap tape_of c.in_ok-blocks.ensures.items ∙ ap (λ bytes. tape_of (block_at c.args.address bytes ∷ [])) c.in_ok-bytes.ensures.items)
    c.of.ensures.plan c.of.ensures.bytes c.of.ensures.words)
