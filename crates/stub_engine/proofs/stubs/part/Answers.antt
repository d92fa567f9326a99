use Rattle.std.proofs.Common.{◌^◌, ◌<◌, arith, ap, sym, subst, ◌∙◌, Some}
use Rattle.host_devices.specs.Devices.{devices_of, line_told}
use Rattle.engine.specs.Keeping.{keeping, progress_calls}
use Rattle.engine.specs.Stopping.{keep_fault}
use Rattle.host_devices.specs.Failures.{fault_of}
use Rattle.stub_engine.specs.declared.tally.Tally.{Tally}
use Rattle.stub_engine.specs.Keeping.{IsKeptBy, words_kept}
use Rattle.stub_engine.proofs.Brought.{at_most, kept_nothing, not_started, started, unplanned}
use Rattle.stub_engine.proofs.Keepings.{kept_none}
use Rattle.stub_engine.proofs.Parts.{tally_exchanged, tally_unstarted}
use Rattle.stub_engine.proofs.Stops.{is_some, keep_left, keep_unstarted}
use Rattle.stub_engine.proofs.stubs.part.Goals as goal

-- no stub is planned
pub returns-in-Err-clause-brought : goal.returns-in-Err-clause-brought
returns-in-Err-clause-brought g c = unplanned c.args.plan.now c.args.typist c.in-Err.end c.args.tally.now (devices_of g.L.Line g.K.Keep c.args.line.now c.args.keep.now) c.in-Err.ensures.unplanned c.requires.within

pub returns-in-Err-clause-kept : goal.returns-in-Err-clause-kept
returns-in-Err-clause-kept g c = kept_none (progress_calls g.K.Keep) c.args.keep.now c.args.plan.now.words c.args.tally.now.verified c.args.tally.now.verified (omega arith)

-- the stub did not start
pub returns-in-Some-clause-brought : goal.returns-in-Some-clause-brought
returns-in-Some-clause-brought g c =
    let tally = tally_unstarted c.args.tally.now c.with_counts-brought.result c.with_words.result c.bring-core.result.0 c.sent_count.result c.spent.result c.sent_count.ensures.value c.spent.ensures.value c.with_counts-brought.ensures c.with_words.ensures in
    not_started c.args.plan.now c.args.typist c.args.tally.now c.with_words.result c.in-Ok.planned.plan c.in-Ok.planned.chunks.items c.bring-core.result (Some c.in-Some.stop) (line_told g.L.Line c.args.line.now) (line_told g.L.Line c.bring-core.new.line) (g.K.Keep.told c.args.keep.now) c.in-Ok.ensures.planned (subst (λ n. n < 2 ^ 32) c.bring-core.ensures.driven.same_patience c.bring-core.ensures.driven.host.long)
    c.requires.worth c.requires.within c.in-Some.ensures (λ none. is_some c.in-Some.stop none) c.bring-core.ensures (let same = c.sent_count.ensures.value in let most = c.sent_count.ensures.most in omega (arith, same, most, at_most c.bring-core.result.0.careful)) tally

pub returns-in-Some-clause-kept : goal.returns-in-Some-clause-kept
returns-in-Some-clause-kept g c =
    let same = ap (λ (t : Tally). t.verified) c.with_words.ensures in
    kept_nothing (progress_calls g.K.Keep) (keep_fault (Some c.in-Some.stop)) c.args.keep.now c.args.plan.now.words c.args.tally.now.verified c.with_words.result.verified
    (ap keep_fault c.in-Some.ensures ∙ keep_unstarted c.bring-core.result.1 c.bring-core.ensures.no_keeper) (omega (arith, same))

-- an exchange followed
pub returns-clause-brought : goal.returns-clause-brought
returns-clause-brought g c =
    let tally = tally_exchanged c.args.tally.now c.with_counts-brought.result c.with_counts.result c.with_words-2.result c.bring-core.result.0 c.exchange-stop.result.0 c.sent_count.result c.spent.result c.from.result c.sent_count.ensures.value c.spent.ensures.value c.from.ensures c.with_counts-brought.ensures
    c.with_counts.ensures c.with_words-2.ensures in
    started c.args.plan.now c.args.typist c.args.tally.now c.with_words-2.result c.in-Ok.planned.plan c.in-Ok.planned.chunks.items c.bring-core.result c.exchange-stop.result.0 c.exchange-stop.result.1 (fault_of c.left_by.result) (line_told g.L.Line c.args.line.now) (line_told g.L.Line c.bring-core.new.line)
    (line_told g.L.Line c.exchange-stop.new.line) (g.K.Keep.told c.args.keep.now) (g.K.Keep.told c.exchange-stop.new.keep) c.in-Ok.ensures.planned (subst (λ n. n < 2 ^ 32) c.bring-core.ensures.driven.same_patience c.bring-core.ensures.driven.host.long) c.requires.worth (sym c.why_unstarted.ensures ∙ c.in_default.is) c.left_by.ensures c.bring-core.ensures (rw (c.duplex.ensures) at (rw (c.deref.ensures.value) at c.exchange-stop.ensures.led))
    (let same = c.sent_count.ensures.value in let most = c.sent_count.ensures.most in omega (arith, same, most, at_most c.bring-core.result.0.careful)) tally

pub returns-clause-kept : goal.returns-clause-kept
returns-clause-kept g c =
    let words = c.args.plan.now.words in
    let v = c.args.tally.now.verified in
    let same = ap (λ (t : Tally). t.verified) c.with_words-2.ensures in
    subst (λ fault. IsKeptBy (progress_calls g.K.Keep) (keeping (words_kept words v c.with_words-2.result.verified) fault) c.args.keep.now c.exchange-stop.new.keep) (sym (keep_left c.exchange-stop.result.1 (fault_of c.left_by.result) c.left_by.ensures))
    (subst (λ n. IsKeptBy (progress_calls g.K.Keep) (keeping (words_kept words v n) (keep_fault (Some c.exchange-stop.result.1))) c.args.keep.now c.exchange-stop.new.keep) (sym same) c.exchange-stop.ensures.kept)
