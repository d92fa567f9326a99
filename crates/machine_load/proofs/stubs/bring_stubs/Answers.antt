use Rattle.machine_load.proofs.stubs.bring_stubs.Goals as goal

pub returns-clause-brought : goal.returns-clause-brought
returns-clause-brought g c = rw (c.plan.ensures, c.verified.ensures.value, c.typist.ensures) at c.bring_in-stop.ensures.brought

pub returns-clause-kept : goal.returns-clause-kept
returns-clause-kept g c = rw (c.plan.ensures, c.verified.ensures.value) at c.bring_in-stop.ensures.kept
