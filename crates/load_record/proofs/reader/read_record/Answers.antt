use Rattle.std.proofs.Common.{subst}
use Rattle.load_record.specs.Reading.{HoldsTorn}
use Rattle.load_record.proofs.Readings.{one_answer}
use Rattle.load_record.proofs.SoFar.{no_header_said, foreign_said, record_said, record_accepted, begun_so_far, line_more}
use Rattle.load_record.proofs.reader.read_record.Goals as goal

pub returns-in_default-of_header-clause-answered : goal.returns-in_default-of_header-clause-answered
returns-in_default-of_header-clause-answered c =
    no_header_said c.args.plan.now c.args.input.now c.in-Some.first.now c.in-Some.body.now c.of_header.result c.if-input-gt-RECORD_LIMIT.false c.in-Some.ensures.cut c.of_header.ensures c.in_default-of_header.is

pub returns-in_default-of_header-clause-complete : goal.returns-in_default-of_header-clause-complete
returns-in_default-of_header-clause-complete c = λ other h. one_answer c.args.plan.now c.args.input.now other _ h (returns-in_default-of_header-clause-answered c)

pub returns-in_default-read_line-clause-answered : goal.returns-in_default-read_line-clause-answered
returns-in_default-read_line-clause-answered c =
    foreign_said c.args.plan.now c.args.input.now c.in-Some-first_line.line.now c.loop-line.rest.now c.in-Some-first_line.after.now c.in-Some-of_header.version c.loop-line.progress c.loop-line.number c.read_line.result
    c.if-input-gt-RECORD_LIMIT.false c.loop-line.invariant c.in-Some-first_line.ensures.cut c.read_line.ensures.exact c.in_default-read_line.is

pub returns-in_default-read_line-clause-complete : goal.returns-in_default-read_line-clause-complete
returns-in_default-read_line-clause-complete c = λ other h. one_answer c.args.plan.now c.args.input.now other _ h (returns-in_default-read_line-clause-answered c)

pub loop-line-init : goal.loop-line-init
loop-line-init c =
    begun_so_far c.args.plan.now c.args.input.now c.in-Some.first.now c.in-Some.body.now c.in-Some-of_header.version c.in-Some.ensures.cut ((c.of_header.ensures c.in-Some-of_header.version).0 c.in-Some-of_header.is) c.in-Some.ensures.shorter

pub loop-line-preserved : goal.loop-line-preserved
loop-line-preserved c =
    line_more c.args.plan.now c.args.input.now c.in-Some-first_line.line.now c.loop-line.rest.now c.in-Some-first_line.after.now c.in-Some-of_header.version c.loop-line.progress c.in-Some-read_line.next c.loop-line.number
    c.loop-line.invariant c.in-Some-first_line.ensures.cut c.in-Some-first_line.ensures.shorter ((c.read_line.ensures.exact c.in-Some-read_line.next).0 c.in-Some-read_line.is)

pub returns-clause-answered : goal.returns-clause-answered
returns-clause-answered c =
    record_said c.args.plan.now c.args.input.now c.loop-line.rest.now c.in-Some-of_header.version c.loop-line.progress c.loop-line.number c.torn_words.result
    c.if-input-gt-RECORD_LIMIT.false c.loop-line.invariant c.in_default-first_line.ensures.cut
    (subst (λ next. HoldsTorn c.in-Some-of_header.version c.loop-line.rest.now next c.torn_words.result) c.words_after.ensures.words c.torn_words.ensures)

pub returns-clause-complete : goal.returns-clause-complete
returns-clause-complete c = λ other h. one_answer c.args.plan.now c.args.input.now other _ h (returns-clause-answered c)

pub returns-clause-accepted : goal.returns-clause-accepted
returns-clause-accepted c =
    record_accepted c.args.plan.now c.args.input.now c.loop-line.rest.now c.in-Some-of_header.version c.loop-line.progress c.loop-line.number c.torn_words.result
    c.loop-line.invariant
    (subst (λ next. HoldsTorn c.in-Some-of_header.version c.loop-line.rest.now next c.torn_words.result) c.words_after.ensures.words c.torn_words.ensures)
