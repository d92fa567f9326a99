use Rattle.std.proofs.Common.{◌≡◌, ◌<◌, length, arith, subst, sym, ◌∙◌, ap}
use Rattle.std.proofs.lemmas.List.Elements.{All-more, All-same}
use Rattle.std.proofs.lemmas.List.{take_all}
use Rattle.tape_values.specs.Block.{IsBlock, HoldsBytes, BlockValue, block_at}
use Rattle.tape_values.proofs.tape.bad_block.Goals as goal

pub loop-number-preserved : goal.loop-number-preserved
loop-number-preserved c =
    let here : BlockValue = c.index-blocks-number.result in
    let within : c.loop-number.number < length c.args.blocks.now = omega arith in
    let same : block_at c.block.inside.address c.deref.result.now ≡ here =
    ap (block_at c.block.inside.address) c.deref.ensures.value ∙ c.block.view_is in
    let good : IsBlock here = subst IsBlock same (c.in_default.ensures.judged) in
    let bytes : HoldsBytes here = subst HoldsBytes same (c.bad_bytes.ensures.of_bytes) in
    record {
      good = All-more IsBlock _ _ here within c.loop-number.invariant.good (subst IsBlock c.index-blocks-number.is good);
      of_bytes = All-more HoldsBytes _ _ here within c.loop-number.invariant.of_bytes (subst HoldsBytes c.index-blocks-number.is bytes);
    }

pub returns-clause-judged : goal.returns-clause-judged
returns-clause-judged c = All-same IsBlock _ _ (sym (take_all _ _ c.loop-number-test.false)) c.loop-number.invariant.good

pub returns-clause-of_bytes : goal.returns-clause-of_bytes
returns-clause-of_bytes c = All-same HoldsBytes _ _ (sym (take_all _ _ c.loop-number-test.false)) c.loop-number.invariant.of_bytes
