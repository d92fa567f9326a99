use Rattle.std.proofs.Common.{◌+◌, ◌++◌, ◌∷◌, [], List, take, ap, sym, subst, ◌∙◌}
use Rattle.std.proofs.lemmas.List.{take_all}
use Rattle.exchange_core.specs.declared.chunk.Chunk.{Chunk}
use Rattle.exchange_core.specs.declared.stretch.Stretch.{Stretch}
use Rattle.exchange_core.specs.Chunk.{chunk_nr}
use Rattle.exchange_core.specs.Chunking.{AreStretches}
use Rattle.exchange_core.proofs.Cuts.{so_far_next}
use Rattle.exchange_core.proofs.stretches.stretches_of.Goals as goal

pub loop-chunk-preserved : goal.loop-chunk-preserved
loop-chunk-preserved c =
    let P : List Stretch → Type 0 = λ list. AreStretches (take (c.loop-chunk.chunk-index + 1) c.args.chunks.now) list in
    let chunk : Chunk = chunk_nr c.args.chunks.now c.loop-chunk.chunk-index in
    subst P (sym (c.in_ok-push.ensures.items ∙ ap (λ size. c.taken_up-from.new.stretches.items ++ record { from = c.taken_up-from.result; to = chunk.address + size } ∷ []) c.from.ensures))
    (so_far_next c.args.chunks.now c.loop-chunk.chunk-index c.taken_up-from.result c.loop-chunk.stretches.items c.taken_up-from.new.stretches.items c.loop-chunk-test.true c.requires.cut c.loop-chunk.invariant c.taken_up-from.ensures)

pub returns : goal.returns
returns c = record {
  stretches = subst (λ chunks. AreStretches chunks c.loop-chunk.stretches.items) (take_all c.loop-chunk.chunk-index c.args.chunks.now c.loop-chunk-test.false) c.loop-chunk.invariant;
}
