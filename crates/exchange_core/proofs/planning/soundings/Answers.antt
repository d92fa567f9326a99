use Rattle.std.proofs.Common.{◌<◌, ◌+◌, ◌++◌, ◌∷◌, [], List, length, arith, ap, sym, subst, ◌∙◌}
use Rattle.tape_values.specs.Block.{BlockValue}
use Rattle.exchange_core.specs.StubPlan.{AreSoundingsBefore, block_of}
use Rattle.exchange_core.proofs.Soundings.{no_sounding, sounding_more}
use Rattle.exchange_core.proofs.Together.{read_from}
use Rattle.exchange_core.proofs.planning.soundings.Goals as goal
use Rattle.exchange_core.proofs.planning.soundings.Goals.{then-is_sounding+in_ok-block_of+in_ok-push, else-is_sounding}

pub loop-number-preserved : goal.loop-number-preserved
loop-number-preserved c =
    let plan = c.args.plan.now in
    let P : List BlockValue → Type 0 = λ blocks. AreSoundingsBefore plan c.args.from c.args.to (c.loop-number.number + 1) blocks in
    let below : c.loop-number.number < length plan.words = omega (arith, c.loop-number-test.true, c.requires.within) in
    elim c.if-is_sounding.branch [
      | then-is_sounding+in_ok-block_of+in_ok-push w ↦
          (let word = read_from c.words-words.result.now plan.words c.loop-number.number w.index-words-number.result c.words-words.ensures.value below w.index-words-number.is in
          let items = ap (λ blocks. blocks.items) w.blocks-is ∙ w.in_ok-push.ensures.items ∙ ap (λ block. c.loop-number.blocks.items ++ block ∷ []) (w.in_ok-block_of.ensures ∙ ap block_of word) in
          subst P (sym items) (sounding_more plan c.args.from c.args.to c.loop-number.number c.loop-number.blocks.items c.words-words.ensures.sound c.requires.within (c.is_sounding.ensures.0 w.if-is_sounding.true) c.loop-number.invariant))
      | else-is_sounding w ↦
          subst P (sym (ap (λ blocks. blocks.items) w.blocks-is))
          (no_sounding plan c.args.from c.args.to c.loop-number.number c.loop-number.blocks.items (λ is. absurd (cc (sym w.if-is_sounding.false ∙ c.is_sounding.ensures.1 is))) (omega (arith, c.loop-number.auto.number)) c.loop-number.invariant)
    ]
