-- What the engine of the looks makes of a pass.
use Rattle.std.proofs.Common.{◌≡◌, ℕ, [], Some, Ok, Err, refl, ap, subst, ◌∙◌}
use Rattle.host_devices.specs.Devices.{LineTold}
use Rattle.host_devices.specs.Failures.{CountsFault, IsLastFault}
use Rattle.reading_core.specs.declared.phase.End.TheVariants.{Complete, GaveUp, NoWord}
use Rattle.reading_core.specs.Invariant.{IsReader}
use Rattle.reading_core.specs.Reader.{Reader}
use Rattle.looking_engine.specs.Stopping.{LookStop, line_fault}
use Rattle.looking_engine.specs.Inquired.{Inquired, IsInquired, inquiry}
use Rattle.machine_probe.specs.declared.memory_end.Limits.{Limits}
use Rattle.machine_probe.specs.declared.pieces.Pieces.{Pieces}
use Rattle.machine_probe.specs.Passes.{ArePieces, found, pass_over, reader_of}
use Rattle.machine_probe.specs.Passes.{passed}
use Rattle.machine_probe.specs.Steps.{Stepped, stop_in}
use Rattle.machine_probe.proofs.Founds.{passed_within}

-- the fault that stopped a pass is the one that is answered
same_fault : (stop : LookStop) (end : ℕ) → line_fault (Some stop) ≡ line_fault (stop_in (passed stop end))
same_fault (Ok Complete) end = refl
same_fault (Ok GaveUp) end = refl
same_fault (Ok (NoWord address)) end = refl
same_fault (Err cut) end = refl

pub stepped : (limits : Limits) (from : ℕ) (pieces : Pieces) (core last : Reader) (stop : LookStop) (before after : LineTold) → ArePieces from pieces → core ≡ reader_of (pass_over limits from pieces) → IsReader core
    → IsInquired limits.turns (inquiry core last (Some stop)) before after → Stepped (pass_over limits from pieces) (passed stop (found from pieces last)) last.foreign before after
stepped limits from pieces core last stop before after are begins reads i =
    let s = i.turns.session in record {
      said = s.said;
      came = record {
        stop = stop;
        last = last;
        is_pass = record {
          inquired = subst (λ (r : Reader). Inquired limits.turns (inquiry r last (Some stop)) (Some []) (Some s.said)) begins
              (record { heard = s.heard; said = s.said; host = s.host; goes_on = s.goes_on; within = s.within; items = s.items; unkept = s.unkept; on_line = refl });
          end = i.turns.end;
        };
        end_is = refl;
        changed_is = refl;
      };
      reads = subst IsReader begins reads;
      within = passed_within from pieces stop last are (record { addresses = i.same_addresses ∙ ap (λ (r : Reader). r.addresses) begins; kept = i.kept }) i.turns.end;
      on_line = s.on_line;
      counted = subst (λ fault. CountsFault fault before.failures after.failures) (same_fault stop (found from pieces last)) i.turns.counted;
      named = subst (λ fault. IsLastFault fault after.fault) (same_fault stop (found from pieces last)) i.turns.named;
    }
