use Rattle.std.proofs.Common.{ap, sym, ◌∙◌}
use Rattle.tape_values.specs.Block.{top}
use Rattle.stub.specs.Decoder.{all_fit}
use Rattle.stub.specs.Place.{stub_end}
use Rattle.stub.proofs.Decoding.{all_fit_so, so_all_fit}
use Rattle.stub.proofs.place.stub_fits.Goals as goal

pub returns : goal.returns
returns c =
    let until = stub_end c.args.place c.args.stretches.now in
    let same = ap (λ u. all_fit c.args.place u top c.args.stretches.now) c.end_of.ensures in (
      λ is. all_fit_so c.args.place until top c.args.stretches.now (sym same ∙ (sym c.all_fit.ensures ∙ is)),
      λ fit. c.all_fit.ensures ∙ (same ∙ so_all_fit c.args.place until top c.args.stretches.now fit),
    )
