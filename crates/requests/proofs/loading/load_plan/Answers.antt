use Rattle.std.proofs.Common.{inl, inr, subst}
use Rattle.std.proofs.lemmas.Result.{IfOk-weaker, IfErr-weaker}
use Rattle.machine_load.proofs.Driving.{load_reported, load_unreported}
use Rattle.machine_load.specs.Asked.{task, ◌⇒◌}
use Rattle.machine_load.specs.Scene.{ending, keeper_of, scene, tells_of}
use Rattle.requests.specs.Ending.{IsFailureOf}
use Rattle.requests.specs.declared.request_fault.RequestFault.TheVariants as request_fault
use Rattle.requests.proofs.loading.load_plan.Goals as goal

pub returns-in-Ok : goal.returns-in-Ok
returns-in-Ok g c =
    let outcome = c.in-Ok.outcome in
    let before = scene g.S.Surroundings g.W.Write c.args.around.now c.args.out.now in
    let between = scene g.S.Surroundings g.W.Write c.load.new.around c.load.new.out in
    let end = ending g.S.Line.Line outcome in
    let reported = load_reported (tells_of g.S.Surroundings g.S.Line.Line g.S.Keeper.Keep) (task c.args.plan c.args.request.options) (before ⇒ between) outcome c.in-Ok.ensures.ok in
    record {
      ok = IfOk-weaker c.end.result _ _
          (λ status is. record { ending = end; between = between; reported = reported; ended = is; no_more = c.end.ensures.no_more }) c.end.ensures.ok;
      err = IfErr-weaker c.end.result _ _
          (λ failure is. inr (record { ending = end; between = between; reported = reported; is_so = is; no_more = c.end.ensures.no_more })) c.end.ensures.err;
    }

pub returns-in-Err-clause-err : goal.returns-in-Err-clause-err
returns-in-Err-clause-err g c =
    let before = scene g.S.Surroundings g.W.Write c.args.around.now c.args.out.now in
    let after = scene g.S.Surroundings g.W.Write c.load.new.around c.load.new.out in
    inl (record {
      fault = c.in-Err.fault;
      is_so = load_unreported (keeper_of g.S.Surroundings g.S.Keeper.Keep) (task c.args.plan c.args.request.options) (before ⇒ after) c.in-Err.fault c.in-Err.ensures.err;
      is_called = subst (λ file. IsFailureOf (request_fault.Load c.in-Err.fault) c.args.request.line.now file c.failure.result) c.record_name-file.ensures c.failure.ensures;
    })
