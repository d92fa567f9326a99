use Rattle.std.proofs.Common.{◌∙◌, inl, inr, refl, sym}
use Rattle.std.proofs.lemmas.Result.{IfErr-weaker, IfOk-weaker}
use Rattle.input_files.proofs.Errors.{error_is}
use Rattle.tape_commands.proofs.make.tape_of_words.Goals as goal

pub returns-then-is_input-clause-ok : goal.returns-then-is_input-clause-ok
returns-then-is_input-clause-ok g c =
    rw (← c.streams.view_is) (IfOk-weaker c.made_of.result _ _
    (λ made is. inl (sym c.is_input.ensures ∙ c.if-is_input.true, record { is_so = is; no_file = refl })) c.made_of.ensures.ok)

pub returns-then-is_input-clause-err : goal.returns-then-is_input-clause-err
returns-then-is_input-clause-err g c =
    rw (← c.streams.view_is) (IfErr-weaker c.made_of.result _ _
    (λ failure is. inr (inl (sym c.is_input.ensures ∙ c.if-is_input.true, record { is_so = is; no_file = refl }))) c.made_of.ensures.err)

pub returns-in_err-file-clause-err : goal.returns-in_err-file-clause-err
returns-in_err-file-clause-err g c =
    error_is c.from_residual.result c.in_err-file.field-0.0 _ c.from_residual.ensures.1
    (inl (sym c.is_input.ensures ∙ c.if-is_input.false, record { unopened = c.in_err-file.ensures.err; nothing_read = refl; nothing_written = refl }))

pub returns-in_ok-file-clause-ok : goal.returns-in_ok-file-clause-ok
returns-in_ok-file-clause-ok g c =
    IfOk-weaker c.made_of-else-is_input.result _ _
    (λ made is. inr (sym c.is_input.ensures ∙ c.if-is_input.false, record { held = _; opened = c.in_ok-file.ensures.ok; rest = _; is_so = is; nothing_read = refl }))
    c.made_of-else-is_input.ensures.ok

pub returns-in_ok-file-clause-err : goal.returns-in_ok-file-clause-err
returns-in_ok-file-clause-err g c =
    IfErr-weaker c.made_of-else-is_input.result _ _
    (λ failure is. inr (inr (sym c.is_input.ensures ∙ c.if-is_input.false, record { held = _; opened = c.in_ok-file.ensures.ok; rest = _; is_so = is; nothing_read = refl })))
    c.made_of-else-is_input.ensures.err
