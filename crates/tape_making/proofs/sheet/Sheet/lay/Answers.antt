use Rattle.std.proofs.Common.{◌≡◌, ◌+◌, ◌<◌, length, get_or, arith, ap, sym, refl, ◌∙◌, None, length-set, subst}
use Rattle.std.specs.Option.{option_or}
use Rattle.tape_values.specs.Block.{BlockValue, IsBlock, block_at}
use Rattle.tape_image.proofs.Laying.{byte_in-nothing}
use Rattle.tape_making.proofs.Laying.{laid_more, rows_more}
use Rattle.tape_making.proofs.sheet.Sheet.lay.Goals as goal

pub loop-offset-init : goal.loop-offset-init
loop-offset-init c = record {
  size = c.requires.size;
  laid = λ a. ap (λ o. option_or o (get_or c.args.self.now.bytes.items a None)) (sym (byte_in-nothing c.from-first.result 0 c.deref-byte-items.result.now refl a));
}

pub loop-offset-preserved : goal.loop-offset-preserved
loop-offset-preserved c =
    let place = c.from-first.ensures in
    let bytes = c.deref-byte-items.ensures.value in
    let row : ◌≡◌ {A = BlockValue} (block_at c.from-first.result c.deref-byte-items.result.now) c.args.row.now = (λ i. record { address = place i; bytes = bytes i }) ∙ c.row.view_is in
    let within : IsBlock (block_at c.from-first.result c.deref-byte-items.result.now) = subst IsBlock (sym row) c.requires.within in
    let room : c.from-first.result + c.loop-offset.offset < length c.loop-offset.self.bytes.items = omega (arith, c.loop-offset.invariant.size, within.below_top) in
    record {
      size = length-set c.loop-offset.self.bytes.items (c.from-first.result + c.loop-offset.offset) _ ∙ c.loop-offset.invariant.size;
      laid = laid_more c.from-first.result c.loop-offset.offset c.deref-byte-items.result.now c.args.self.now.bytes.items c.loop-offset.self.bytes.items c.loop-offset-test.true room c.loop-offset.invariant.laid;
    }

pub returns : goal.returns
returns c = λ rows holds.
    let place = c.from-first.ensures in
    let bytes = c.deref-byte-items.ensures.value in
    let row : ◌≡◌ {A = BlockValue} (block_at c.from-first.result c.deref-byte-items.result.now) c.args.row.now = (λ i. record { address = place i; bytes = bytes i }) ∙ c.row.view_is in
    record {
      size = c.loop-offset.invariant.size;
      bytes = rows_more rows c.args.row.now c.from-first.result c.loop-offset.offset c.deref-byte-items.result.now c.args.self.now.bytes.items c.loop-offset.self.bytes.items c.loop-offset.invariant.laid row c.loop-offset-test.false holds.bytes;
    }
