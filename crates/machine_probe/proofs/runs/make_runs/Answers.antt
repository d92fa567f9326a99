use Rattle.machine_probe.proofs.Faults.{on_error}
use Rattle.host_devices.specs.Devices.{line_told}
use Rattle.machine_probe.proofs.Joins.{all_runs, unsearched}
use Rattle.machine_probe.proofs.Left.{leave_behind}
use Rattle.machine_probe.proofs.runs.make_runs.Goals as goal

pub returns-clause-made : goal.returns-clause-made
returns-clause-made g c =
    let told = g.L.Line.told in
    all_runs c.args.options c.in_ok-found.found c.in_ok-search.search c.in_ok-search.changed c.judge.result (told c.args.line.now) (told c.try_out.new.line) (told c.find_memory.new.line)
    c.in_ok-found.ensures.made c.judge.ensures c.in_ok-search.ensures.searched

pub returns-in_err-search-clause-wanting : goal.returns-in_err-search-clause-wanting
returns-in_err-search-clause-wanting g c =
    let told = g.L.Line.told in
    on_error c.from_residual-in_err-search.result _
    (unsearched c.args.options c.in_ok-found.found c.judge.result (told c.args.line.now) (told c.try_out.new.line) (told c.find_memory.new.line)
    c.in_ok-found.ensures.made c.judge.ensures c.in_err-search.ensures.wanting.0 c.in_err-search.ensures.wanting.1)

pub returns-in_err-found-clause-wanting : goal.returns-in_err-found-clause-wanting
returns-in_err-found-clause-wanting g c = on_error c.from_residual.result _ c.in_err-found.ensures.broken_off

pub returns-clause-left : goal.returns-clause-left
returns-clause-left g c =
    let told = line_told g.L.Line in
    leave_behind c.in_ok-found.found c.in_ok-search.search c.in_ok-search.changed (told c.args.line.now) (told c.try_out.new.line) (told c.find_memory.new.line) c.in_ok-found.ensures.left c.in_ok-search.ensures.left
