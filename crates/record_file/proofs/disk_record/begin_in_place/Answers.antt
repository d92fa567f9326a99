use Rattle.host_devices.proofs.Told.{tells_join}
use Rattle.record_file.proofs.Asking.{asked_one, on_err, not_ok}
use Rattle.record_file.proofs.Rows.{all_written, over_device, over_file}
use Rattle.std.proofs.Common.{false, subst, sym, ◌∙◌}
use Rattle.record_file.specs.Beginning.{IsAllWritten, IsLetGo, IsMadeReady, Unready, Unwritten, Uncut}
use Rattle.record_file.proofs.disk_record.begin_in_place.Goals as goal

pub returns-in-Err-clause-failed : goal.returns-in-Err-clause-failed
returns-in-Err-clause-failed g c = let k = c.in-Err.ensures.failed in
    let l = c.let_go.ensures.asked in
    asked_one _ _ _ (tells_join _ _ _ _ _ k.1 l.1) (Unready _ _ (k.2.0 false) (subst (λ made. IsLetGo c.args.name.now made l.0) c.in-Err.ensures.made l.2))

pub returns-in_err-keeper-clause-asked : goal.returns-in_err-keeper-clause-asked
returns-in_err-keeper-clause-asked g c = not_ok _ c.from_residual.result c.from_residual.ensures.0

pub returns-in_err-keeper-clause-failed : goal.returns-in_err-keeper-clause-failed
returns-in_err-keeper-clause-failed g c = let k = c.in-Ok.ensures.asked in
    on_err c.from_residual.result (k.0, k.1, Unwritten _ _ k.2)

pub returns-in_err-cut_behind-clause-asked : goal.returns-in_err-cut_behind-clause-asked
returns-in_err-cut_behind-clause-asked g c = not_ok _ c.from_residual-in_err-cut_behind.result c.from_residual-in_err-cut_behind.ensures.0

pub returns-in_err-cut_behind-clause-failed : goal.returns-in_err-cut_behind-clause-failed
returns-in_err-cut_behind-clause-failed g c = let k = c.in-Ok.ensures.asked in
    let not_device = sym c.in-Ok.ensures.device ∙ c.if-device.false in
    let all = subst (IsAllWritten _ _) (sym c.writer.ensures.text) (all_written _ _ _ _ (c.in-Ok.ensures.front not_device) c.in_ok-keeper.ensures.written) in
    let q = c.in_err-cut_behind.ensures.asked _ _ all (c.in-Ok.ensures.size not_device) in
    on_err c.from_residual-in_err-cut_behind.result (asked_one _ _ _ (tells_join _ _ _ _ _ k.1 q.1) (Uncut _ _ (subst (λ device. IsMadeReady c.args.name.now c.args.held.made device k.0) (sym c.in-Ok.ensures.device ∙ c.if-device.false) k.2) q.2))

pub returns-then-device-clause-asked : goal.returns-then-device-clause-asked
returns-then-device-clause-asked g c = over_device _ _ _ _ _ _ _ _ c.in-Ok.ensures.device c.if-device.true c.in-Ok.ensures.asked

pub returns-clause-asked : goal.returns-clause-asked
returns-clause-asked g c = let not_device = sym c.in-Ok.ensures.device ∙ c.if-device.false in
    let all = subst (IsAllWritten _ _) (sym c.writer.ensures.text) (all_written _ _ _ _ (c.in-Ok.ensures.front not_device) c.in_ok-keeper.ensures.written) in
    over_file _ _ _ _ _ _ _ _ _ c.in-Ok.ensures.device c.if-device.false c.in-Ok.ensures.asked
    (c.in_ok-cut_behind.ensures.asked _ _ all (c.in-Ok.ensures.size not_device))
