use Rattle.std.proofs.Common.{rules, refl}
use Rattle.std.proofs.KnownBytes.{Consumes-kept}
use Rattle.std.specs.Io.Buffered.{reader_remaining}
use Rattle.input_files.proofs.Left.{ahead_of, never_both, none_more, one_byte_more}
use Rattle.input_files.proofs.source.ahead_of_tape.Goals as goal
use Rattle.input_files.proofs.source.ahead_of_tape.Goals.{else-loop-test, then-loop-test+in-Ok-eq0, then-loop-test+in-Err, then-loop-test+in-Ok+in_ok-push-in-Ok+in-Ok-Done}

pub loop-preserved : goal.loop-preserved
loop-preserved g c = record {
  taken = one_byte_more _ _ _ c.loop.text.items c.push.new.self.items c.read.new.buf c.in-Ok.field-0 _ c.loop.invariant.taken c.in-Ok.ensures.bytes.0 (search rules) (search rules) (search rules) c.in_ok-push-in-Ok.ensures.items refl;
  goes_on = c.loop.invariant.goes_on;
}

pub returns : goal.returns
returns g c =
    let known = reader_remaining g.F.Read.remaining in
    ahead_of known _ c.loop-test.file c.of.result.value c.loop-test.text.items c.from_vec.result.items c.loop-test.has_ended c.of.ensures c.from_vec.ensures.items
    (elim c.loop-test.branch [
      | else-loop-test w ↦ rw (w.text-is, w.file-is, w.has_ended-is) (c.loop.invariant.taken, λ is. never_both _ c.loop.invariant.goes_on is)
      | then-loop-test+in-Ok-eq0 w ↦ rw (w.text-is, w.file-is, w.has_ended-is)
          (none_more _ _ _ c.loop.text.items w.read.new.buf w.in-Ok-eq0.field-0 (search rules) c.loop.invariant.taken w.in-Ok-eq0.ensures.bytes.0, λ is. w.in-Ok-eq0.ensures.bytes.1 (search rules) (search rules))
      | then-loop-test+in-Err w ↦ rw (w.text-is, w.file-is, w.has_ended-is)
          (Consumes-kept _ _ _ c.loop.text.items c.loop.invariant.taken w.in-Err.ensures.bytes, λ is. never_both _ c.loop.invariant.goes_on is)
      | then-loop-test+in-Ok+in_ok-push-in-Ok+in-Ok-Done w ↦ rw (w.text-is, w.file-is, w.has_ended-is) (
        one_byte_more _ _ _ c.loop.text.items w.push.new.self.items w.read.new.buf w.in-Ok.field-0 _ c.loop.invariant.taken w.in-Ok.ensures.bytes.0 (search rules) (search rules) (search rules) w.in_ok-push-in-Ok.ensures.items refl,
        λ is. never_both _ c.loop.invariant.goes_on is,
      )
    ])
