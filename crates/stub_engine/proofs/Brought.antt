-- One stub's part of a load, over its devices.
use Rattle.std.proofs.Common.{◌≡◌, ℕ, Bool, true, ◌^◌, ◌<◌, ◌≤◌, false, length, List, Option, Some, None, refl, arith, sym, subst, ◌∙◌}
use Rattle.tape_image.specs.Plan.{PlanValue}
use Rattle.tape_image.specs.Word.{WordValue}
use Rattle.host_core.specs.Core.{Core}
use Rattle.host_devices.specs.declared.fault.KeepFault.{KeepFault}
use Rattle.host_devices.specs.declared.item.Kept.{Kept}
use Rattle.host_devices.specs.Devices.{Devices, LineTold, devices}
use Rattle.engine.specs.Keeping.{KeeperCalls, keeping}
use Rattle.host_devices.specs.Failures.{CountsFault, IsLastFault}
use Rattle.host_devices.specs.Turns.{most_turns}
use Rattle.load_engine.specs.Driving.{LoadStop}
use Rattle.engine.specs.Session.{session_told}
use Rattle.engine.specs.Stopping.{keep_fault, line_fault}
use Rattle.engine.specs.declared.stop.Stop.TheVariants.{Ended}
use Rattle.exchange_core.specs.declared.chunk.Chunk.{Chunk}
use Rattle.exchange_core.specs.declared.exchange.Exchange.{Exchange}
use Rattle.exchange_core.specs.Exchange.{begun as exchange_begun}
use Rattle.exchange_core.proofs.Chunks.{chunks_few}
use Rattle.stub_engine.specs.declared.stop.StubsEnd.{StubsEnd}
use Rattle.stub_engine.specs.declared.stop.StubsEnd.TheVariants.{InVain}
use Rattle.stub_engine.specs.declared.tally.Tally.{Tally}
use Rattle.stub_engine.specs.declared.typist.Typist.{Typist}
use Rattle.stub_engine.specs.Brought.{AreStubs, IsBringerDriven, IsNextStub}
use Rattle.stub_engine.specs.Exchanged.{IsCarriedOut}
use Rattle.stub_engine.specs.Exchanging.{ExchangeStop, exchanging}
use Rattle.stub_engine.specs.Keeping.{IsKeptBy, IsToldBy, words_kept}
use Rattle.stub_engine.specs.Parts.{StubsStop, bringing, typist_of, why_left, why_unstarted}
use Rattle.stub_engine.specs.Planning.{IsPlannedFor, IsUnplanned}
use Rattle.stub_engine.specs.Tallies.{duplex_behind, with_counts, with_words}
use Rattle.stub_engine.proofs.Joins.{brought_join}
use Rattle.stub_engine.proofs.Keepings.{kept_none, told_begins, told_of, told_then}
use Rattle.stub_engine.proofs.Parts.{comes, exchanged, none_brought, one_more, unstarted}
use Rattle.stub_engine.proofs.Stops.{is_some, keep_left, keep_unstarted, line_left, line_unstarted, started_counts, unplanned_whole, vain_left, vain_unstarted}
use Rattle.host_core.specs.Bound.{largest_bound}

-- of any host
pub at_most : (careful : Bool) → largest_bound careful ≤ 193274789895
at_most true = omega arith
at_most false = omega arith

-- nothing was given to a keeper that did not fail
pub told_nothing : (fault : Option KeepFault) (kept : Option (List Kept)) (words : List WordValue) (from to : ℕ) → fault ≡ None → to ≤ from → IsToldBy (keeping (words_kept words from to) fault) kept kept
told_nothing fault kept words from to none le = subst (λ fault. IsToldBy (keeping (words_kept words from to) fault) kept kept) (sym none) (told_begins kept words from to le)

pub kept_nothing : {K : Type 0} (calls : KeeperCalls K Kept) (fault : Option KeepFault) (keep : K) (words : List WordValue) (from to : ℕ) → fault ≡ None → to ≤ from → IsKeptBy calls (keeping (words_kept words from to) fault) keep keep
kept_nothing {K} calls fault keep words from to none le = subst (λ fault. IsKeptBy calls (keeping (words_kept words from to) fault) keep keep) (sym none) (kept_none calls keep words from to le)

-- no stub was planned
pub unplanned : (tape : PlanValue) (typist : Typist) (end : StubsEnd) (tally : Tally) (at : Devices) → IsUnplanned tape tally.verified end → tally.verified ≤ length tape.words → IsNextStub (bringing tape typist (tally, tally) (Some (Ended end))) at at
unplanned tape typist end tally at un within =
    let whole = unplanned_whole end un in record {
      is_one = record {
        brought = none_brought tape typist (Some (Ended end)) tally at.line.said whole.ends;
        counted = refl;
        named = tt;
        told = told_begins at.kept tape.words tally.verified tally.verified (omega arith);
        grows = omega arith;
        within = within;
        in_vain = whole.in_vain tally;
      };
      few_words = λ none. absurd (is_some (Ended end) none);
      one_more = λ none. absurd (is_some (Ended end) none);
      few_sent = omega arith;
      few_spent = omega arith;
    }

-- a stub did not start
pub not_started : (tape : PlanValue) (typist : Typist) (old new : Tally) (stub : PlanValue) (chunks : List Chunk) (answer : Core × LoadStop) (why : Option StubsStop) (before after : LineTold) (kept : Option (List Kept)) → IsPlannedFor tape old.verified stub chunks → typist.patience < 2 ^ 32 → old.in_vain < 3 → old.verified ≤ length tape.words → why ≡ why_unstarted answer.1 → (why ≡ None → ⊥)
    → IsBringerDriven (typist_of stub typist) answer before after → answer.0.sent ≤ 193274789895 → new ≡ with_words (with_counts old answer.0.sent answer.0.spent) old.verified → IsNextStub (bringing tape typist (old, new) why) (devices before kept) (devices after kept)
not_started tape typist old new stub chunks answer why before after kept planned patient few within is stops b sent tally =
    subst (λ why. IsNextStub (bringing tape typist (old, new) why) (devices before kept) (devices after kept)) (sym is)
    (subst (λ new. IsNextStub (bringing tape typist (old, new) (why_unstarted answer.1)) (devices before kept) (devices after kept)) (sym tally) (record {
      is_one = record {
        brought = unstarted tape typist answer.1 old stub chunks answer.0 (session_told before.said None) (session_told after.said None) planned patient few b.driven.end b.driven.session;
        counted = subst (λ fault. CountsFault fault before.failures after.failures) (sym (line_unstarted answer.1)) b.driven.counted;
        named = subst (λ fault. IsLastFault fault after.fault) (sym (line_unstarted answer.1)) b.driven.named;
        told = told_nothing (keep_fault (why_unstarted answer.1)) kept tape.words old.verified old.verified (keep_unstarted answer.1 b.no_keeper) (omega arith);
        grows = omega arith;
        within = within;
        in_vain = vain_unstarted answer.1 (with_words (with_counts old answer.0.sent answer.0.spent) old.verified);
      };
      few_words = λ none. absurd (stops (is ∙ none));
      one_more = λ none. absurd (stops (is ∙ none));
      few_sent = omega (arith, sent);
      few_spent = (let paid = b.driven.host.patient in let long = b.driven.host.long in omega (arith, paid, long));
    }))

-- a stub started, and an exchange followed
pub started : (tape : PlanValue) (typist : Typist) (old new : Tally) (stub : PlanValue) (chunks : List Chunk) (answer : Core × LoadStop) (state : Exchange) (left : ExchangeStop) (why : Option StubsStop) (before between after : LineTold) (kept kept' : Option (List Kept)) → IsPlannedFor tape old.verified stub chunks → typist.patience < 2 ^ 32 → old.in_vain < 3
    → why_unstarted answer.1 ≡ None → why ≡ why_left left → IsBringerDriven (typist_of stub typist) answer before between → IsCarriedOut most_turns (exchanging tape chunks (exchange_begun old.verified (duplex_behind old.in_vain), state) (Some left)) (devices between kept) (devices after kept')
    → answer.0.sent ≤ 193274789895 → new ≡ with_words (with_counts (with_counts old answer.0.sent answer.0.spent) state.sent 0) state.verified → IsNextStub (bringing tape typist (old, new) why) (devices before kept) (devices after kept')
started tape typist old new stub chunks answer state left why before between after kept kept' planned patient few follows is b led sent tally =
    let far = comes tape old.verified (duplex_behind old.in_vain) stub chunks left state (devices between kept) (devices after kept') planned led in
    let here : between.failures ≡ before.failures = started_counts answer.1 before.failures between.failures follows b.driven.counted in
    subst (λ why. IsNextStub (bringing tape typist (old, new) why) (devices before kept) (devices after kept')) (sym is)
    (subst (λ new. IsNextStub (bringing tape typist (old, new) (why_left left)) (devices before kept) (devices after kept')) (sym tally) (record {
      is_one = record {
        brought = exchanged tape typist answer.1 left old stub chunks answer.0 state (session_told before.said None) None (devices between kept) (devices after kept') planned patient few follows b.driven.end b.driven.session led;
        counted = subst (λ fault. CountsFault fault before.failures after.failures) (sym (line_left left (why_left left) refl)) (subst (λ n. CountsFault (line_fault (Some left)) n after.failures) here led.counted);
        named = subst (λ fault. IsLastFault fault after.fault) (sym (line_left left (why_left left) refl)) led.named;
        told = subst (λ fault. IsToldBy (keeping (words_kept tape.words old.verified state.verified) fault) kept kept') (sym (keep_left left (why_left left) refl)) (told_of (keep_fault (Some left)) (words_kept tape.words old.verified state.verified) led.session.given led.session.kept kept kept' led.given led.session.news led.session.at_keeper);
        grows = far.more;
        within = far.within;
        in_vain = vain_left left (with_words (with_counts (with_counts old answer.0.sent answer.0.spent) state.sent 0) state.verified);
      };
      few_words = λ none. far.few;
      one_more = λ none. one_more old (with_counts (with_counts old answer.0.sent answer.0.spent) state.sent 0) state.verified refl refl far.more;
      few_sent = (let few = chunks_few tape old.verified chunks planned.planned.chunks_are.are in let bound = led.bound in omega (arith, sent, few, bound));
      few_spent = (let paid = b.driven.host.patient in let long = b.driven.host.long in omega (arith, paid, long));
    }))

-- ---- one after another

-- none yet
pub no_stubs : (tape : PlanValue) (typist : Typist) (tally : Tally) (at : Devices) → tally.verified ≤ length tape.words → AreStubs (bringing tape typist (tally, tally) None) at at
no_stubs tape typist tally at within = record {
  brought = none_brought tape typist None tally at.line.said tt;
  counted = refl;
  named = tt;
  told = told_begins at.kept tape.words tally.verified tally.verified (omega arith);
  grows = omega arith;
  within = within;
  in_vain = tt;
}

pub stubs_join : (tape : PlanValue) (typist : Typist) (stop : Option StubsStop) (a b c : Tally) (before middle after : Devices) → AreStubs (bringing tape typist (a, b) None) before middle → AreStubs (bringing tape typist (b, c) stop) middle after → AreStubs (bringing tape typist (a, c) stop) before after
stubs_join tape typist stop a b c before middle after s t = record {
  brought = brought_join tape typist stop a b c before.line.said middle.line.said after.line.said s.brought t.brought;
  counted = subst (λ n. CountsFault (line_fault stop) n after.line.failures) s.counted t.counted;
  named = t.named;
  told = told_then (keep_fault stop) before.kept middle.kept after.kept tape.words a.verified b.verified c.verified s.grows t.grows s.told t.told;
  grows = omega (arith, s.grows, t.grows);
  within = t.within;
  in_vain = t.in_vain;
}

-- three were in vain
pub all_in_vain : (tape : PlanValue) (typist : Typist) (old new : Tally) (before after : Devices) → new.in_vain ≡ 3 → AreStubs (bringing tape typist (old, new) None) before after → AreStubs (bringing tape typist (old, new) (Some (Ended InVain))) before after
all_in_vain tape typist old new before after vain s = record {
  brought = record {
    parts = s.brought.parts;
    are_parts = s.brought.are_parts;
    worth = s.brought.worth;
    followed = s.brought.followed;
    all_start = λ none. s.brought.all_start refl;
    ends = tt;
    said = s.brought.said;
    unsent = s.brought.unsent;
    items = s.brought.items;
    all_sent = λ line keep. s.brought.all_sent refl refl;
    on_line = s.brought.on_line;
    verified = s.brought.verified;
    sent = s.brought.sent;
    spent = s.brought.spent;
    in_vain = s.brought.in_vain;
  };
  counted = s.counted;
  named = tt;
  told = s.told;
  grows = s.grows;
  within = s.within;
  in_vain = vain;
}
