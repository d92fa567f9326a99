use Rattle.std.proofs.Common.{◌∙◌, refl, sym}
use Rattle.host_devices.specs.Devices.{line_told}
use Rattle.engine.specs.Keeping.{progress_calls}
use Rattle.machine_load.specs.declared.load_end.LoadEnd.TheVariants.{Driven}
use Rattle.machine_load.proofs.GoingOn.{goes, stays}
use Rattle.machine_load.proofs.going_on.go_on.Goals as goal

pub returns-clause-gone : goal.returns-clause-gone
returns-clause-gone g c =
    goes (progress_calls g.K.Keep) c.args.first c.args.stubs (record { again = c.look_again-life.result.1; core = c.drive-core.result.0; end = Driven c.drive-core.result.1 }) c.behind_stubs-life.result c.look_again-life.result.0
    (line_told g.L.Line c.args.line.now) (line_told g.L.Line c.look_again-life.new.line) c.args.keeper.now c.behind_stubs-life.ensures c.look_again-life.ensures.life c.look_again-life.ensures.looks
    c.host-2.result c.drive-core.result.1 (line_told g.L.Line c.drive-core.new.line) c.drive-core.new.keep (sym c.in_default.is ∙ c.held_back.ensures) c.host-2.ensures refl c.drive-core.ensures.driven c.drive-core.ensures.kept

pub returns-in-Some-clause-gone : goal.returns-in-Some-clause-gone
returns-in-Some-clause-gone g c =
    stays (progress_calls g.K.Keep) c.args.first c.args.stubs (record { again = c.look_again-life.result.1; core = c.host.result; end = c.in-Some.end }) c.behind_stubs-life.result c.look_again-life.result.0
    (line_told g.L.Line c.args.line.now) (line_told g.L.Line c.look_again-life.new.line) c.args.keeper.now c.behind_stubs-life.ensures c.look_again-life.ensures.life c.look_again-life.ensures.looks
    (sym c.in-Some.is ∙ c.held_back.ensures) c.host.ensures
