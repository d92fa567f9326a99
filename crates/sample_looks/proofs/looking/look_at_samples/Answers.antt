use Rattle.std.proofs.Common.{◌∙◌, ap, length, subst, take}
use Rattle.sample_looks.specs.Finding.{IsFound}
use Rattle.sample_looks.proofs.Seen.{so_over}
use Rattle.sample_looks.proofs.looking.look_at_samples.Goals as goal

pub returns-clause-honest : goal.returns-clause-honest
returns-clause-honest g c =
    let inquired = c.inquire-reader.ensures.inquired in
    so_over c.args.samples.now c.args.reader c.inquire-reader.result.0 c.inquire-reader.result.1 c.found-finding.result _ _ c.requires.begun c.requires.asked inquired.kept inquired.same_addresses
    inquired.turns.end
    (subst (λ numbers. IsFound c.args.samples.now numbers c.inquire-reader.result.1 c.found-finding.result) (c.front.ensures ∙ ap (take (length c.args.samples.now)) c.values.ensures.value) c.found-finding.ensures) inquired.honest
