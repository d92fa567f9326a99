use Rattle.std.proofs.Common.{◌≤◌, length, subst}
use Rattle.tape_image.specs.Plan.{IsPlan}
use Rattle.machine_load.proofs.Highest.{rises}
use Rattle.machine_load.proofs.looks.with_highest.Goals as goal

pub returns-then-not-all-clause-rise : goal.returns-then-not-all-clause-rise
returns-then-not-all-clause-rise c =
    rises c.args.life.now c.args.asked c.args.samples.now (subst IsPlan c.plan.ensures c.words-words.ensures.sound) (subst (λ v. v ≤ length c.args.life.now.plan.words) c.verified.ensures.value c.verified.ensures.within)
    c.requires.samples c.requires.rise c.requires.few
