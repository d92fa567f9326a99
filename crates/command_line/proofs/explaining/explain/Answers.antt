use Rattle.std.proofs.Common.{refl}
use Rattle.command_line.proofs.explaining.explain.Goals as goal

pub returns-in-Meaningless : goal.returns-in-Meaningless
returns-in-Meaningless g c =
    rw (c.in-Meaningless.is, ← c.streams-in-Meaningless.view_is)
    (record { status = c.refuse-in-Meaningless.ensures.status; told = c.refuse-in-Meaningless.ensures.said; out = refl; input = refl })
