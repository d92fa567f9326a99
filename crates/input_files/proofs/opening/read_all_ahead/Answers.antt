use Rattle.std.proofs.Common.{◌∙◌, arith, refl}
use Rattle.std.proofs.lemmas.List.{length-set}
use Rattle.input_files.specs.Source.{source_remaining}
use Rattle.input_files.proofs.Left.{all_kept, kept_at}
use Rattle.input_files.proofs.opening.read_all_ahead.Goals as goal

pub loop-place-init : goal.loop-place-init
loop-place-init g c = record { size = refl; kept = all_kept _ }

pub loop-place-preserved : goal.loop-place-preserved
loop-place-preserved g c =
    let size = c.loop-place.invariant.size in
    record {
      size = length-set c.loop-place.files c.loop-place.place c.read_ahead.new.self ∙ size;
      kept = kept_at (source_remaining g.F.Read.remaining) c.args.files.now c.loop-place.files c.loop-place.place c.index-files-place.result c.read_ahead.new.self
          (omega (arith, size, c.loop-place-test.true)) c.loop-place.invariant.kept c.in_ok-read_ahead.ensures;
    }
