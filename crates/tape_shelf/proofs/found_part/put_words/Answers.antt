use Rattle.std.proofs.Common.{◌∙◌, ◌+◌, ◌*◌, ◌<◌, ◌++◌, ◌∷◌, ℕ, [], ap, arith, append_assoc, subst, sym}
use Rattle.std.specs.Prelude.{All}
use Rattle.std.proofs.lemmas.List.{take_all}
use Rattle.std.proofs.lemmas.List.Elements.{All-push}
use Rattle.tape_shelf.proofs.FoundBlocks.{one_more_word}
use Rattle.tape_shelf.proofs.found_part.put_words.Goals as goal

pub loop-word-preserved : goal.loop-word-preserved
loop-word-preserved c =
    let more = c.loop-word.invariant.more in
    let low = c.type_inv.bytes (2 * c.loop-word.word) in
    let high = c.type_inv.bytes (2 * c.loop-word.word + 1) in
    let word : ℕ = c.from.result + 256 * c.from-in-loop-word.result in
    record {
      small = subst (All (λ n. n < 65536)) (sym c.in_ok-push.ensures.items)
          (All-push (λ n. n < 65536) c.loop-word.words.items word c.loop-word.invariant.small (omega (arith, low, high, c.from.ensures, c.from-in-loop-word.ensures)));
      more = (
        more.0 ++ word ∷ [],
        one_more_word more.0 c.args.bytes.now c.loop-word.word word more.1 (omega (arith, c.loop-word-test.true, c.requires.length)) (omega (arith, low)) (omega (arith, c.from.ensures, c.from-in-loop-word.ensures)),
        c.in_ok-push.ensures.items ∙ (ap (λ list. list ++ word ∷ []) more.2 ∙ append_assoc c.args.words.now.items more.0 (word ∷ [])),
      );
    }

pub returns-clause-more : goal.returns-clause-more
returns-clause-more c =
    let more = c.loop-word.invariant.more in
    (more.0, more.1 ∙ take_all (2 * c.loop-word.word) c.args.bytes.now (omega (arith, c.loop-word-test.false, c.requires.length)), more.2)
