use Rattle.std.proofs.Common.{false, arith, sym, ◌∙◌, take, drop, ◌+◌, take-append-drop}
use Rattle.std.proofs.lemmas.List.{drop_more}
use Rattle.tape_commands.proofs.Openings.{lies_by, putting_refused}
use Rattle.tape_commands.proofs.worlds.store_words.Goals as goal

pub returns-then-not-put-clause-err : goal.returns-then-not-put-clause-err
returns-then-not-put-clause-err c =
    let puts = c.args.puts.now in
    let i = c.loop-put.put-index in
    putting_refused c.args.odt.now c.loop-put.odt puts (take i puts) (drop i puts) (drop (i + 1) puts) _ c.loop-put.invariant (sym (take-append-drop i puts)) (drop_more puts i _ (omega arith))
    (lies_by c.args.odt.now c.loop-put.odt _ false c.loop-put.invariant.size (sym c.if-not-put.true ∙ c.put.ensures.judged))
