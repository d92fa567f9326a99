use Rattle.std.proofs.Common.{◌≡◌, ◌<◌, ◌≤◌, [], ◌∷◌, sym, ◌∙◌, ap, arith}
use Rattle.std.specs.Prelude.{option_to_list}
use Rattle.host_core.specs.Word.{WordValue}
use Rattle.host_devices.specs.declared.item.Kept.TheVariants.{Word}
use Rattle.load_engine.proofs.News.{step_mark, step_word, step_none, word_at, marked_already, not_marked}
use Rattle.load_engine.proofs.hosting.step.Goals as goal
use Rattle.load_engine.proofs.hosting.step.Goals.{then-going+then-not-before, else-going+then-verified-before, else-going-via-then-going+else-not-before, else-going-via-else-going, else-going+else-verified-before}

pub returns-clause-news : goal.returns-clause-news
returns-clause-news c =
    let old = c.args.core.now in
    let new = c.step-key.new.self in
    let words = c.step-key.ensures.verified in
    elim c.if-going.branch [
      | then-going+then-not-before w ↦ ap option_to_list w.news-is ∙ sym (step_mark old new c.step-key.result c.progress-before.result.going c.progress-verified.result.going words c.progress-before.ensures.going c.progress-verified.ensures.going w.if-not-before.true w.if-going.true)
      | else-going+then-verified-before w ↦
          let word : WordValue = w.index-words-before.result in
          let same : w.words.result.now ≡ old.plan.words = w.words.ensures.value ∙ (ap (λ plan. plan.words) w.plan.ensures.value ∙ ap (λ plan. plan.words) c.step-key.ensures.same_plan) in
          let more : old.verified < new.verified = omega (arith, w.if-verified-before.true, c.progress-before.ensures.verified, c.progress-verified.ensures.verified) in
          ap option_to_list w.news-is ∙ (ap (λ w. Word w ∷ []) (word_at w.words.result.now old.plan.words c.progress-before.result.verified old.verified word w.index-words-before.is same c.progress-before.ensures.verified)
          ∙ sym (step_word old new c.step-key.result word words more))
      | else-going+else-verified-before w ↦
          let le : new.verified ≤ old.verified = omega (arith, w.if-verified-before.false, c.progress-before.ensures.verified, c.progress-verified.ensures.verified) in
          ap option_to_list w.news-is ∙ sym (step_none old new c.step-key.result words c.step-key.ensures.mark le
          (elim w.else-going.branch [
            | else-going-via-then-going+else-not-before x ↦ marked_already old.going new.going c.progress-before.result.going c.progress-before.ensures.going x.if-not-before.false
            | else-going-via-else-going x ↦ not_marked old.going new.going c.progress-verified.result.going c.progress-verified.ensures.going x.if-going.false
          ]))
    ]
