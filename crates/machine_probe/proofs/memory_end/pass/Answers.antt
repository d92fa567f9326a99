use Rattle.std.proofs.Common.{◌∙◌, arith, ap}
use Rattle.host_devices.specs.Devices.{line_told}
use Rattle.reading_core.specs.Reader.{Reader}
use Rattle.machine_probe.proofs.Founds.{found_below}
use Rattle.machine_probe.proofs.Stepping.{stepped}
use Rattle.machine_probe.proofs.memory_end.pass.Goals as goal

pub overflow_add-found : goal.overflow_add-found
overflow_add-found g c =
    let inquired = c.inquire-core.ensures.inquired in
    rw c.values.ensures.value (omega (
      arith,
      c.requires.pieces.below,
      found_below c.args.from c.args.pieces c.inquire-core.result.0 record { addresses = inquired.same_addresses ∙ ap (λ (r : Reader). r.addresses) c.core-core.ensures.begun; kept = inquired.kept },
    ))

pub overflow_mul-found : goal.overflow_mul-found
overflow_mul-found g c = omega (arith, overflow_add-found g c)

pub returns : goal.returns
returns g c =
    rw (c.passed.ensures, c.values.ensures.value, c.foreign_count.ensures) (record {
      pass = stepped c.args.limits c.args.from c.args.pieces c.core-core.result c.inquire-core.result.0 c.inquire-core.result.1 (line_told g.L.Line c.args.line.now) (line_told g.L.Line c.inquire-core.new.line)
          c.requires.pieces c.core-core.ensures.begun c.core-core.ensures.kept c.inquire-core.ensures.inquired;
    })
