use Rattle.std.proofs.Common.{◌∙◌, List, ℕ, sym, subst}
use Rattle.std.specs.Prelude.{OnErr}
use Rattle.byte_io.specs.Output.{WritesPrefix}
use Rattle.machine_look.proofs.Shown.{differs_line}
use Rattle.machine_look.proofs.difference.show_difference.Goals as goal

pub returns-clause-cut_short : goal.returns-clause-cut_short
returns-clause-cut_short g c =
    subst (λ (text : List ℕ). OnErr c.write_and_flush.result (WritesPrefix (g.W.Write.contents c.args.out.now) (g.W.Write.contents c.write_and_flush.new.out) text))
    (c.deref.ensures.0 ∙ (c.difference_line.ensures.items ∙ sym (differs_line c.args.word c.args.now (λ same. absurd (cc (c.if-stands.ensures.merged.1 same)))))) c.write_and_flush.ensures.err
