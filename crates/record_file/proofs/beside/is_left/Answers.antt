use Rattle.std.proofs.Common.{refl}
use Rattle.host_devices.proofs.Told.{tells_join}
use Rattle.record_file.proofs.Asking.{asked_one}
use Rattle.record_file.proofs.Rows.{left, looked_at}
use Rattle.record_file.proofs.beside.is_left.Goals as goal

pub returns-in-Ok-open : goal.returns-in-Ok-open
returns-in-Ok-open g c = record {
  asked = asked_one _ _ _ (tells_join _ _ _ _ _ c.in-Ok.ensures.asked (tells_join _ _ _ _ _ c.in-Ok-open.ensures.asked (c.hold.ensures.asked _ c.in-Ok-open.ensures.opened)))
      (left _ _);
}

pub returns-in-Err : goal.returns-in-Err
returns-in-Err g c = record { asked = asked_one _ _ _ (tells_join _ _ _ _ _ c.in-Ok.ensures.asked c.in-Err.ensures.asked) ((λ held. tt), refl) }

pub returns-in_default : goal.returns-in_default
returns-in_default g c = record { asked = asked_one _ _ _ c.in-Ok.ensures.asked ((λ held. tt), refl) }

pub returns-in_default-2 : goal.returns-in_default-2
returns-in_default-2 g c = record { asked = asked_one _ _ _ c.look_at_name.ensures.asked (looked_at _ _ c.look_at_name.result) }
