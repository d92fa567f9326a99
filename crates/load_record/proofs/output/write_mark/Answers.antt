use Rattle.std.proofs.Common.{◌∷◌, [], ◌++◌, refl, subst, rules}
use Rattle.byte_io.specs.Output.{WritesProperPrefix}
use Rattle.load_record.specs.Lines.{mark_line}
use Rattle.load_record.proofs.Pieces.{ended_text}
use Rattle.load_record.proofs.Writing.{on_err}
use Rattle.load_record.proofs.output.write_mark.Goals as goal

pub returns-in_err-write_whole-clause-err : goal.returns-in_err-write_whole-clause-err
returns-in_err-write_whole-clause-err g c =
    on_err c.from_residual.result _
    (subst (WritesProperPrefix (g.W.Write.contents c.args.out.now) (g.W.Write.contents c.write_whole.new.out))
    (ended_text c.args.run (10 ∷ (mark_line ++ 10 ∷ [])) (mark_line ++ 10 ∷ []) 3 c.front_of_line.result refl refl c.front_of_line.ensures.front)
    c.in_err-write_whole.ensures.err)

pub returns-clause-ok : goal.returns-clause-ok
returns-clause-ok g c = search rules
