use Rattle.std.proofs.Common.{rules, arith, ap, ◌≤◌}
use Rattle.console_lines.proofs.Ahead.{none_left, reads_itself, some_left, taken_of}
use Rattle.console_lines.specs.ReadAhead.{left_ahead}
use Rattle.console_lines.proofs.read_ahead.ReadAheadTimedStream.read_in_time.Goals as goal

pub returns-then-self-clause-bytes : goal.returns-then-self-clause-bytes
returns-then-self-clause-bytes g c =
    let ahead = c.args.self.now in (
      taken_of _ _ _ _ _ (ap g.S.TimedStream.to_come c.give.ensures.same) c.give.ensures.given,
      λ none room. absurd (some_left ahead.bytes ahead.given ahead.filled (search (rules, arith)) (search (rules, arith)) (c.give.ensures.none none room)),
    )

pub returns-in_err-count-clause-bytes : goal.returns-in_err-count-clause-bytes
returns-in_err-count-clause-bytes g c =
    let ahead = c.args.self.now in
    let all : ahead.filled ≤ ahead.given = search (rules, arith) in
    reads_itself _ _ _ _ _ _ (none_left ahead.bytes ahead.given ahead.filled all) (none_left c.read_in_time.new.buf ahead.given ahead.filled all) (search rules)
