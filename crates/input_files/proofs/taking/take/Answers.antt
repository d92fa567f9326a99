use Rattle.std.proofs.Common.{◌∙◌, inl, inr, map, refl, subst, sym}
use Rattle.std.proofs.lemmas.Result.{IfErr-weaker, IfOk-weaker}
use Rattle.input_files.specs.Inputs.{AreOpened}
use Rattle.input_files.specs.Source.{source_remaining}
use Rattle.input_files.proofs.Errors.{error_is}
use Rattle.input_files.proofs.OpenedTapes.{of_files, of_input, of_named, unopened_named}
use Rattle.input_files.proofs.taking.take.Goals as goal

pub returns-then-is_input-clause-ok : goal.returns-then-is_input-clause-ok
returns-then-is_input-clause-ok g c =
    rw (← c.streams.view_is) (IfOk-weaker c.take_input.result _ _
    (λ taken h. of_input (g.F.InputFiles.opened c.args.files.now) c.args.names.now _ _ _ (sym c.is_input.ensures ∙ c.if-is_input.true) h)
    c.take_input.ensures.ok)

pub returns-then-is_input-clause-err : goal.returns-then-is_input-clause-err
returns-then-is_input-clause-err g c =
    rw (← c.streams.view_is) (IfErr-weaker c.take_input.result _ _
    (λ failure h. inr (of_input (g.F.InputFiles.opened c.args.files.now) c.args.names.now _ _ _ (sym c.is_input.ensures ∙ c.if-is_input.true) h))
    c.take_input.ensures.err)

pub returns-in_err-opened-clause-err : goal.returns-in_err-opened-clause-err
returns-in_err-opened-clause-err g c =
    error_is c.from_residual.result c.in_err-opened.field-0.0 _ c.from_residual.ensures.1
    (inl (unopened_named c.args.names.now _ _ _ (sym c.is_input.ensures ∙ c.if-is_input.false) c.in_err-opened.ensures.err refl refl))

pub returns-in_ok-opened-clause-ok : goal.returns-in_ok-opened-clause-ok
returns-in_ok-opened-clause-ok g c =
    let known = source_remaining g.F.File.Read.remaining in
    IfOk-weaker c.take_named.result _ _
    (λ taken h. of_named c.args.names.now (map known c.deref_mut.result.now) _ _ _ (sym c.is_input.ensures ∙ c.if-is_input.false)
    (subst (λ l. AreOpened c.args.names.now (map known l) (g.F.InputFiles.opened c.args.files.now) (g.F.InputFiles.opened c.open_all.new.rt)) (sym c.deref_mut.ensures.value) c.in_ok-opened.ensures.ok)
    (of_files known c.args.names.now c.deref_mut.result.now c.take_named.new.inputs _ h) refl)
    c.take_named.ensures.ok

pub returns-in_ok-opened-clause-err : goal.returns-in_ok-opened-clause-err
returns-in_ok-opened-clause-err g c =
    let known = source_remaining g.F.File.Read.remaining in
    IfErr-weaker c.take_named.result _ _
    (λ failure h. inr (of_named c.args.names.now (map known c.deref_mut.result.now) _ _ _ (sym c.is_input.ensures ∙ c.if-is_input.false)
    (subst (λ l. AreOpened c.args.names.now (map known l) (g.F.InputFiles.opened c.args.files.now) (g.F.InputFiles.opened c.open_all.new.rt)) (sym c.deref_mut.ensures.value) c.in_ok-opened.ensures.ok)
    (of_files known c.args.names.now c.deref_mut.result.now c.take_named.new.inputs _ h) refl))
    c.take_named.ensures.err
