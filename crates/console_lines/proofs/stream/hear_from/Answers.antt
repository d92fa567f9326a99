use Rattle.std.proofs.Common.{rules}
use Rattle.console_lines.proofs.Dropping.{drops_more, takes_behind}
use Rattle.console_lines.proofs.Silences.{not_closed, unmet_more}
use Rattle.console_lines.proofs.stream.hear_from.Goals as goal

pub loop-preserved : goal.loop-preserved
loop-preserved g c = record {
  so_far = drops_more _ _ _ c.loop.counter c.in-Some.byte c.loop.invariant.so_far (search rules) (search rules);
  unmet = unmet_more _ _ _ c.in-Some.byte c.loop.invariant.unmet (rw (c.in_ok-byte.was, c.in-Some.is) at c.receive.ensures.silence);
  over = λ ended. absurd (not_closed c.receive.result _ _ c.in_ok-byte.was (c.receive.ensures.over (c.loop.invariant.over ended).1));
}

pub returns-then-character-ne0-clause-heard : goal.returns-then-character-ne0-clause-heard
returns-then-character-ne0-clause-heard g c =
    (c.loop.counter, search rules, c.in-Some.byte, search rules, search rules, takes_behind _ _ _ c.loop.counter c.in-Some.byte c.loop.invariant.so_far (search rules))

pub returns-in_err-byte-clause-fault : goal.returns-in_err-byte-clause-fault
returns-in_err-byte-clause-fault g c = search rules

pub returns-in_default-clause-heard : goal.returns-in_default-clause-heard
returns-in_default-clause-heard g c = search rules

pub returns-clause-fault : goal.returns-clause-fault
returns-clause-fault g c = search rules
