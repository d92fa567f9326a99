use Rattle.input_files.proofs.Tried.{once, again, none_given, refused, not_ok, on_err, on_true}
use Rattle.input_files.proofs.opening.opened_beside.Goals as goal

pub returns-then-not-lacks_descriptor-clause-tried : goal.returns-then-not-lacks_descriptor-clause-tried
returns-then-not-lacks_descriptor-clause-tried g c = once _ _ _ _ _ c.open_input-opened.ensures.opened

pub returns-clause-tried : goal.returns-clause-tried
returns-clause-tried g c =
    again c.args.name.now _ _ _ _ _ _
    (refused c.args.name.now _ _ _
    (none_given g.F.File.Read.remaining c.open_input-opened.result (on_true c.lacks_descriptor.result c.lacks_descriptor.ensures c.if-not-lacks_descriptor.false))
    c.open_input-opened.ensures.opened)
    c.open_input.ensures.opened c.in_ok-read_all_ahead.ensures

pub returns-in_err-read_all_ahead-clause-tried : goal.returns-in_err-read_all_ahead-clause-tried
returns-in_err-read_all_ahead-clause-tried g c = not_ok _ c.from_residual.result c.from_residual.ensures.0

pub returns-in_err-read_all_ahead-clause-starved : goal.returns-in_err-read_all_ahead-clause-starved
returns-in_err-read_all_ahead-clause-starved g c =
    on_err c.from_residual.result
    (refused c.args.name.now _ _ _
    (none_given g.F.File.Read.remaining c.open_input-opened.result (on_true c.lacks_descriptor.result c.lacks_descriptor.ensures c.if-not-lacks_descriptor.false))
    c.open_input-opened.ensures.opened)
