use Rattle.std.proofs.Common.{◌≡◌, ℕ, ◌<◌, List, length, arith, ap, sym, subst, ◌∙◌}
use Rattle.tape_image.specs.Word.{WordValue}
use Rattle.exchange_core.specs.declared.stretch.Stretch.{Stretch}
use Rattle.exchange_core.specs.StubPlan.{IsStubPlan, place_of}
use Rattle.exchange_core.specs.Window.{IsWindow}
use Rattle.exchange_core.proofs.Together.{read_from}
use Rattle.stub.specs.Words.{stub_words}
use Rattle.stub_engine.proofs.Layouts.{stub_length}
use Rattle.stub_engine.proofs.planning.brought_in_by.Goals as goal

pub stub_plan-requires-clause-window : goal.stub_plan-requires-clause-window
stub_plan-requires-clause-window c =
    let stretches : List Stretch = c.args.layout.stretches.items in
    let words = c.deref-2.ensures.value ∙ (c.in_ok-words.ensures.words ∙ ap (λ (list : List Stretch). stub_words c.address-place.result list) c.deref.ensures.value) in
    subst (λ n. IsWindow c.args.plan.now.words c.args.from n c.args.layout.window) (sym (ap (λ (list : List ℕ). length list) words ∙ stub_length c.address-place.result stretches)) c.requires.layout.window_is

pub returns-clause-planned : goal.returns-clause-planned
returns-clause-planned c =
    let plan = c.args.plan.now in
    let window = c.args.layout.window in
    let stretches : List Stretch = c.args.layout.stretches.items in
    let layout = c.requires.layout in
    let below : window < length plan.words = (let within = layout.window_is.within in omega (arith, within)) in
    let place : c.address-place.result ≡ place_of plan window =
    c.address-place.ensures.value ∙ ap (λ (w : WordValue). w.address) (read_from c.words.result.now plan.words window c.index-words-window.result c.words.ensures.value below c.index-words-window.is) in
    let words = c.deref-2.ensures.value ∙ (c.in_ok-words.ensures.words ∙ (ap (λ (list : List Stretch). stub_words c.address-place.result list) c.deref.ensures.value ∙ ap (λ a. stub_words a stretches) place)) in record {
      window = window;
      stretches = stretches;
      planned = record {
        window_is = subst (λ n. IsWindow plan.words c.args.from n window) (sym (stub_length (place_of plan window) stretches)) layout.window_is;
        chunks_are = layout.chunks_are;
        stretches_are = layout.stretches_are;
        stub_is = subst (λ list. IsStubPlan plan c.args.from window list c.in_ok-plan.plan) words c.in_ok-plan.ensures.stub;
        behind = c.in_ok-plan.ensures.behind;
      };
      worth = layout.worth;
    }
