use Rattle.std.proofs.Common.{◌≡◌, ◌+◌, List, [], ◌∷◌, ◌++◌, ◌∙◌, take, get_or, append_assoc, arith, refl}
use Rattle.std.proofs.lemmas.List.{take_more}
use Rattle.memory_report.specs.declared.findings.Word.{Word}
use Rattle.memory_report.specs.Report.{word_text}
use Rattle.memory_report.specs.Words.{is_bad}
use Rattle.memory_report.proofs.Joins.{few_shown, more_shown, more_text}
use Rattle.memory_report.proofs.bad_words.push_first.Goals as goal

pub loop-word-preserved : goal.loop-word-preserved
loop-word-preserved c =
    let all : List Word = c.args.words.now in
    let i = c.loop-word.word-index in
    let this : Word = get_or all i _ in
    let more : take (i + 1) all ≡ take i all ++ this ∷ [] = take_more all i _ c.loop-word-test.true in
    let shown = c.loop-word.invariant.1 in (
      rw (c.push_if_bad-shown.ensures.items, c.loop-word.invariant.0, more, more_text word_text is_bad (take i all) this c.loop-word.shown shown) (simp append_assoc refl),
      c.push_if_bad-shown.ensures.shown ∙ (more_shown is_bad (take i all) this c.loop-word.shown shown ∙ rw more refl),
      omega (arith, c.push_if_bad-shown.ensures.shown ∙ more_shown is_bad (take i all) this c.loop-word.shown shown, few_shown is_bad (take i all ++ this ∷ [])),
      omega (arith, c.push_if_bad-shown.ensures.length, c.loop-word.invariant.3),
    )
