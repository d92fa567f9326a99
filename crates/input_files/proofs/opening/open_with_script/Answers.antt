use Rattle.std.proofs.Common.{◌∷◌, [], List, Option, ℕ, rules, subst}
use Rattle.host_devices.specs.Told.{HasAsked}
use Rattle.input_files.specs.Opening.{AreAdded}
use Rattle.input_files.specs.Source.{source_remaining}
use Rattle.input_files.proofs.Left.{apart}
use Rattle.input_files.proofs.Tried.{failed_as, tape_fails, script_fails, more_fails, with_more}
use Rattle.input_files.proofs.opening.open_with_script.Goals as goal

pub returns-in_err-tapes-clause-err : goal.returns-in_err-tapes-clause-err
returns-in_err-tapes-clause-err g c =
    failed_as (c.args.tape ∷ c.args.script ∷ c.args.more.now) c.from_residual.result c.in_err-tapes.field-0.0 _ _ c.from_residual.ensures.1
    (tape_fails c.args.tape c.args.script c.args.more.now c.in_err-tapes.field-0.0 _ _ c.in_err-tapes.ensures.err)

pub returns-in_err-open_more-clause-err : goal.returns-in_err-open_more-clause-err
returns-in_err-open_more-clause-err g c =
    failed_as (c.args.tape ∷ c.args.script ∷ c.args.more.now) c.from_residual-in_err-open_more.result c.in_err-open_more.field-0.0 _ _ c.from_residual-in_err-open_more.ensures.1
    (script_fails c.args.tape c.args.script c.args.more.now c.in_err-open_more.field-0.0 _ _ _ _ c.in_ok-tapes.ensures.ok c.in_err-open_more.ensures.err)

pub returns-in_err-open_more-2-clause-err : goal.returns-in_err-open_more-2-clause-err
returns-in_err-open_more-2-clause-err g c =
    failed_as (c.args.tape ∷ c.args.script ∷ c.args.more.now) c.from_residual-in_err-open_more-2.result c.in_err-open_more-2.field-0.0 _ _ c.from_residual-in_err-open_more-2.ensures.1
    (more_fails c.args.tape c.args.script c.args.more.now c.in_err-open_more-2.field-0.0 _ _ _ _ _ _ c.in_ok-tapes.ensures.ok c.in_ok-open_more.ensures.ok c.in_err-open_more-2.ensures.err)

pub returns-clause-ok : goal.returns-clause-ok
returns-clause-ok g c =
    let known = source_remaining g.F.File.Read.remaining in
    subst (λ (held : List (Option (List ℕ))). HasAsked (g.F.InputFiles.opened c.args.rt.now) (g.F.InputFiles.opened c.open_more-2.new.rt) (AreAdded (c.args.tape ∷ c.args.script ∷ c.args.more.now) [] held))
    (apart known c.open_more-2.new.files.items c.remove-script_file.new.self.items c.remove-script_file.result (search rules) c.remove-script_file.ensures.value c.remove-script_file.ensures.items)
    (with_more c.args.tape c.args.script c.args.more.now _ _ _ _ _ _ _ c.in_ok-tapes.ensures.ok c.in_ok-open_more.ensures.ok c.in_ok-open_more-2.ensures.ok)
