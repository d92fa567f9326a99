use Rattle.loss_scripts.proofs.Forms.{rest_is}
use Rattle.loss_scripts.proofs.line.rest_after.Goals as goal

pub returns : goal.returns
returns c =
    let both = rest_is c.args.text.now c.args.keyword.now c.strip_prefix.result c.strip_prefix.ensures.cases in
    record { found = both.0; none = both.1 }
