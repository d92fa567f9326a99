use Rattle.std.proofs.Common.{◌≡◌, None, Some, refl, arith, ap, sym, subst}
use Rattle.host_devices.specs.Devices.{devices_of}
use Rattle.engine.specs.Keeping.{progress_calls}
use Rattle.engine.specs.Stopping.{keep_fault}
use Rattle.stub_engine.proofs.Bounds.{bounded, few_sent, few_spent}
use Rattle.stub_engine.proofs.Brought.{all_in_vain, no_stubs, stubs_join}
use Rattle.stub_engine.proofs.Keepings.{kept_none, kept_then}
use Rattle.stub_engine.specs.declared.tally.Tally.{Tally}
use Rattle.stub_engine.specs.Brought.{AreStubs}
use Rattle.stub_engine.specs.Parts.{bringing}
use Rattle.stub_engine.specs.Tallies.{begun}
use Rattle.stub_engine.proofs.stubs.bring_in.Goals as goal

pub loop-tally-init : goal.loop-tally-init
loop-tally-init g c =
    let v = c.args.verified in
    let at = devices_of g.L.Line g.K.Keep c.args.line.now c.args.keep.now in
    let same : c.begun-tally.result.verified ≡ v = ap (λ (t : Tally). t.verified) c.begun-tally.ensures in
    let sent : c.begun-tally.result.sent ≡ 0 = ap (λ (t : Tally). t.sent) c.begun-tally.ensures in
    let spent : c.begun-tally.result.spent ≡ 0 = ap (λ (t : Tally). t.spent) c.begun-tally.ensures in
    let vain : c.begun-tally.result.in_vain ≡ 0 = ap (λ (t : Tally). t.in_vain) c.begun-tally.ensures in record {
      stubs = subst (λ t. AreStubs (bringing c.args.plan.now c.args.typist (begun v, t) None) at at) (sym c.begun-tally.ensures) (no_stubs c.args.plan.now c.args.typist (begun v) at c.requires.within);
      kept_by = kept_none (progress_calls g.K.Keep) c.args.keep.now c.args.plan.now.words v c.begun-tally.result.verified (omega (arith, same));
      near = omega (arith, same);
      bounded = record { few = omega (arith, vain); sent = omega (arith, sent); spent = omega (arith, spent) };
    }

pub returns-in-Err-clause-brought : goal.returns-in-Err-clause-brought
returns-in-Err-clause-brought g c =
    let inv = c.loop-tally.invariant in
    let next = c.in-Err.ensures.brought in record {
      all = stubs_join c.args.plan.now c.args.typist (Some c.in-Err.stop) (begun c.args.verified) c.loop-tally.tally c.part.new.tally (devices_of g.L.Line g.K.Keep c.args.line.now c.args.keep.now) (devices_of g.L.Line g.K.Keep c.loop-tally.line c.loop-tally.keep)
          (devices_of g.L.Line g.K.Keep c.part.new.line c.part.new.keep) inv.stubs next.is_one;
      few_sent = (let few = few_sent c.args.verified c.loop-tally.tally inv.near inv.bounded in let more = next.few_sent in omega (arith, few, more));
      few_spent = (let few = few_spent c.args.verified c.loop-tally.tally inv.near inv.bounded in let more = next.few_spent in omega (arith, few, more));
    }

pub returns-in-Err-clause-kept : goal.returns-in-Err-clause-kept
returns-in-Err-clause-kept g c =
    kept_then (progress_calls g.K.Keep) (keep_fault (Some c.in-Err.stop)) c.args.keep.now c.loop-tally.keep c.part.new.keep c.args.plan.now.words c.args.verified c.loop-tally.tally.verified c.part.new.tally.verified c.loop-tally.invariant.stubs.grows c.in-Err.ensures.brought.is_one.grows c.loop-tally.invariant.kept_by
    c.in-Err.ensures.kept

pub loop-tally-preserved : goal.loop-tally-preserved
loop-tally-preserved g c =
    let inv = c.loop-tally.invariant in
    let next = c.in_default.ensures.brought in
    let v = c.args.verified in record {
      stubs = stubs_join c.args.plan.now c.args.typist None (begun v) c.loop-tally.tally c.part.new.tally (devices_of g.L.Line g.K.Keep c.args.line.now c.args.keep.now) (devices_of g.L.Line g.K.Keep c.loop-tally.line c.loop-tally.keep)
          (devices_of g.L.Line g.K.Keep c.part.new.line c.part.new.keep) inv.stubs next.is_one;
      kept_by = kept_then (progress_calls g.K.Keep) None c.args.keep.now c.loop-tally.keep c.part.new.keep c.args.plan.now.words v c.loop-tally.tally.verified c.part.new.tally.verified inv.stubs.grows next.is_one.grows inv.kept_by c.in_default.ensures.kept;
      near = (let few = next.few_words refl in omega (arith, few));
      bounded = bounded v c.loop-tally.tally c.part.new.tally inv.stubs.grows c.loop-tally-test.true (next.one_more refl) next.few_sent next.few_spent inv.bounded;
    }

-- three were in vain
pub returns-clause-brought : goal.returns-clause-brought
returns-clause-brought g c =
    let inv = c.loop-tally.invariant in record {
      all = all_in_vain c.args.plan.now c.args.typist (begun c.args.verified) c.loop-tally.tally (devices_of g.L.Line g.K.Keep c.args.line.now c.args.keep.now) (devices_of g.L.Line g.K.Keep c.loop-tally.line c.loop-tally.keep) (let few = inv.bounded.few in omega (arith, few, c.loop-tally-test.false)) inv.stubs;
      few_sent = (let few = few_sent c.args.verified c.loop-tally.tally inv.near inv.bounded in omega (arith, few));
      few_spent = (let few = few_spent c.args.verified c.loop-tally.tally inv.near inv.bounded in omega (arith, few));
    }
