use Rattle.std.proofs.Common.{inl, inr, refl}
use Rattle.input_files.proofs.Errors.{error_is}
use Rattle.input_files.proofs.taking.take_input_with_script.Goals as goal

pub returns-in_err-script_file-clause-err : goal.returns-in_err-script_file-clause-err
returns-in_err-script_file-clause-err g c =
    error_is c.from_residual.result c.in_err-script_file.field-0.0 _ c.from_residual.ensures.1
    (inl (record { unopened = c.in_err-script_file.ensures.err; nothing_read = refl; nothing_written = refl }))

pub returns-in_err-taken-clause-err : goal.returns-in_err-taken-clause-err
returns-in_err-taken-clause-err g c =
    rw (← c.streams.view_is) (error_is c.from_residual-in_err-taken.result c.in_err-taken.field-0.0 _ c.from_residual-in_err-taken.ensures.1
    (inr (_, c.in_ok-script_file.ensures.ok, c.in_err-taken.ensures.err)))

pub returns-clause-ok : goal.returns-clause-ok
returns-clause-ok g c = rw (← c.streams.view_is) (c.in_ok-script_file.ensures.ok, c.in_ok-taken.ensures.ok)
