use Rattle.std.proofs.Common.{◌∷◌, [], ◌++◌, ◌∙◌, ap, refl, subst, take, length, min}
use Rattle.std.proofs.lemmas.List.{take_min}
use Rattle.std.specs.Io.KnownBytes.{Appends}
use Rattle.load_record.specs.declared.version.Version.TheVariants.{Second}
use Rattle.byte_io.specs.Output.{WritesProperPrefix}
use Rattle.load_record.specs.Lines.{header}
use Rattle.load_record.proofs.Pieces.{ended_text, header_prefix, begin_prefix, begin_whole}
use Rattle.load_record.proofs.Writing.{on_err, on_err_map, if_ok_map}
use Rattle.load_record.proofs.output.write_begin.Goals as goal

pub returns-in_err-write_whole-clause-err : goal.returns-in_err-write_whole-clause-err
returns-in_err-write_whole-clause-err g c =
    on_err c.from_residual.result _
    (header_prefix c.args.run c.args.plan.now c.args.verified _ _
    (subst (WritesProperPrefix (g.W.Write.contents c.args.out.now) (g.W.Write.contents c.write_whole.new.out))
    (ended_text c.args.run (10 ∷ (header Second ++ 10 ∷ [])) (header Second ++ 10 ∷ []) 10 c.front_of_line.result refl refl c.front_of_line.ensures.front)
    c.in_err-write_whole.ensures.err))

pub returns-clause-ok : goal.returns-clause-ok
returns-clause-ok g c =
    if_ok_map c.write_words.result _ _
    (λ now_open rest. begin_whole c.args.run now_open c.args.plan.now c.args.verified _ _ (g.W.Write.contents c.write_whole.new.out) _
    (ap (λ n. take n c.words-words.result.now) c.min-count.ensures ∙ ap (λ words. take (min c.args.verified (length words)) words) c.words-words.ensures.value ∙ take_min c.args.verified c.args.plan.now.words)
    (subst (Appends (g.W.Write.contents c.args.out.now) (g.W.Write.contents c.write_whole.new.out))
    (ended_text c.args.run (10 ∷ (header Second ++ 10 ∷ [])) (header Second ++ 10 ∷ []) 10 c.front_of_line.result refl refl c.front_of_line.ensures.front)
    c.in_ok-write_whole.ensures.ok)
    rest)
    c.write_words.ensures.ok

pub returns-clause-err : goal.returns-clause-err
returns-clause-err g c =
    on_err_map c.write_words.result _ _
    (λ rest. begin_prefix c.args.run c.args.plan.now c.args.verified _ _ (g.W.Write.contents c.write_whole.new.out) _
    (ap (λ n. take n c.words-words.result.now) c.min-count.ensures ∙ ap (λ words. take (min c.args.verified (length words)) words) c.words-words.ensures.value ∙ take_min c.args.verified c.args.plan.now.words)
    (subst (Appends (g.W.Write.contents c.args.out.now) (g.W.Write.contents c.write_whole.new.out))
    (ended_text c.args.run (10 ∷ (header Second ++ 10 ∷ [])) (header Second ++ 10 ∷ []) 10 c.front_of_line.result refl refl c.front_of_line.ensures.front)
    c.in_ok-write_whole.ensures.ok)
    rest)
    c.write_words.ensures.err
