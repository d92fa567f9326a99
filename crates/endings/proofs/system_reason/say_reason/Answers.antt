use Rattle.std.proofs.Common.{inr, ◌∙◌, subst}
use Rattle.endings.specs.FaultOutput.{IsSaidOnError}
use Rattle.endings.proofs.Reasons.{said_on_error}
use Rattle.endings.proofs.system_reason.say_reason.Goals as goal

pub returns-in-Some : goal.returns-in-Some
returns-in-Some g c =
    let at = g.E.FaultOutput.said in
    inr (
      c.requires,
      (
        c.kind.result,
        c.without_number-words.result.now,
        subst (IsSaidOnError (at c.args.err.now) (at c.say.new.err)) (c.as_bytes.ensures.value ∙ c.in-Some.ensures)
            (said_on_error c.say.result _ _ _ c.say.ensures.ok c.say.ensures.err),
      ),
    )
