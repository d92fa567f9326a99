use Rattle.std.proofs.Common.{Some, Err, ap, ◌∙◌}
use Rattle.std.specs.Prelude.{unwrap_or}
use Rattle.host_devices.specs.Devices.{line_told}
use Rattle.looking_engine.specs.Leading.{reading, reads}
use Rattle.looking_engine.specs.Ways.{readings}
use Rattle.engine.specs.declared.stop.Cut.TheVariants.{TurnsOver}
use Rattle.looking_engine.proofs.Inquiries.{inquired}
use Rattle.looking_engine.proofs.Looks.{never_unkept, reader_looks}
use Rattle.looking_engine.proofs.inquiring.inquire.Goals as goal

pub returns : goal.returns
returns g c = record {
  inquired = inquired c.args.turns c.args.core c.lead.new.host.core (Some c.unwrap_or.result) (line_told g.L.Line c.args.line.now) (line_told g.L.Line c.lead.new.line) c.end.ensures.kept c.lead.ensures.kept
      (never_unkept reads readings (λ r. r.core) reader_looks _ (λ a item b never. never) c.args.turns c.lead.result (reading c.args.core) c.lead.new.host _ _ c.unwrap_or.result
      (c.unwrap_or.ensures ∙ ap (λ stop. unwrap_or stop (Err TurnsOver)) c.stop_from-stop.ensures) c.lead.ensures.led);
}
