use Rattle.std.proofs.Common.{◌≡◌, List, arith, sym, subst}
use Rattle.exchange_core.specs.declared.chunk.Chunk.{Chunk}
use Rattle.exchange_core.proofs.Fronts.{AreFront, front_grows, front_whole}
use Rattle.exchange_core.proofs.chunking.chunks_of.Goals as goal

pub loop-number-preserved : goal.loop-number-preserved
loop-number-preserved c =
    let P : List Chunk → Type 0 = λ chunks. AreFront c.args.plan.now c.args.from c.args.to c.next_chunk-chunk.result.until chunks in
    subst P (sym c.in_ok-push.ensures.items)
    (front_grows c.args.plan.now c.args.from c.args.to c.loop-number.number c.loop-number.chunks.items c.next_chunk-chunk.result c.loop-number.invariant c.next_chunk-chunk.ensures)

pub returns : goal.returns
returns c =
    let here : c.loop-number.number ≡ c.args.to = (let within = c.loop-number.invariant.within in omega (arith, within, c.loop-number-test.false)) in
    record {
      chunks = front_whole c.args.plan.now c.args.from c.args.to c.loop-number.chunks.items c.requires.some c.requires.within
          (subst (λ n. AreFront c.args.plan.now c.args.from c.args.to n c.loop-number.chunks.items) here c.loop-number.invariant);
    }
