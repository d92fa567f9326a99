use Rattle.std.proofs.Common.{◌∙◌, sym}
use Rattle.machine_load.proofs.GoingOn.{seen}
use Rattle.machine_load.proofs.going_on.look_again.Goals as goal

pub returns-clause-looks : goal.returns-clause-looks
returns-clause-looks g c = λ kept. seen _ _ _ _ _ kept (sym c.looks_again.ensures ∙ c.if-not-looks_again.false) c.look-looks.ensures
