use Rattle.std.proofs.Common.{refl, ap, sym, ◌∙◌, ◌+◌, ◌*◌}
use Rattle.stub.proofs.place.end_of.Goals as goal

pub returns : goal.returns
returns c = ap (λ p. p + 2 * c.stub_size.result) c.from.ensures ∙ ap (λ n. c.args.place + 2 * n) (sym (c.stub_size.ensures.words c.args.place c.args.stretches.now refl))
