use Rattle.std.proofs.Common.{inl, ◌/◌, ◌∙◌, w64, arith}
use Rattle.std.proofs.lemmas.Int.{to_z_pos}
use Rattle.run_log.proofs.time_text.utc_text.Goals as goal

pub returns-in-Ok : goal.returns-in-Ok
returns-in-Ok c =
    inl (record {
      date = c.in-Ok.date;
      day = c.in-Ok.ensures.value ∙ to_z_pos w64 (c.args.seconds / 86400) (omega (arith, c.ranges.seconds.fits));
      text_is = c.moment_text.ensures;
    })
