use Rattle.std.proofs.Common.{◌≡◌, ◌∙◌, ap, arith}
use Rattle.std.proofs.lemmas.List.{take_all}
use Rattle.tape_values.specs.Tape.{TapeValue, written_length}
use Rattle.tape_values.proofs.Plain.{plain-length}
use Rattle.std.proofs.lemmas.Grind.{common_steps}
use Rattle.tape_values.proofs.tape.Tape.written_length.Goals as goal

pub returns-clause-plain : goal.returns-clause-plain
returns-clause-plain c =
    let whole = take_all c.loop-block.block-index c.deref-block-items.result.now c.loop-block-test.false in
    let counted : c.loop-block.length ≡ written_length c.args.self.now.blocks =
    c.loop-block.invariant ∙ ap written_length (whole ∙ c.deref-block-items.ensures.value ∙ ap (λ (t : TapeValue). t.blocks) c.self.view_is) in
    plain-length c.args.self.now c.loop-block.length counted

pub loop-block-preserved : goal.loop-block-preserved
loop-block-preserved c = grind (arith, common_steps)
