use Rattle.std.proofs.Common.{ℕ, ap, sym, subst, ◌∙◌}
use Rattle.machine_probe.specs.Follow.{stores}
use Rattle.machine_probe.specs.PuttingBack.{PutsBack}
use Rattle.machine_probe.specs.Rooms.{HasDeposit}
use Rattle.machine_probe.specs.Runs.{OnLine}
use Rattle.machine_probe.proofs.Joins.{can_put_back, deposit_of, made, not_made, not_stores}
use Rattle.machine_probe.proofs.runs.restore.Goals.{in_default-via-in-Stores+in_default, in_default-via-in_default}
use Rattle.machine_probe.proofs.runs.restore.Goals as goal

pub returns-in-Stores-Some-clause-made : goal.returns-in-Stores-Some-clause-made
returns-in-Stores-Some-clause-made g c =
    let f = c.args.found.now in
    let o = c.args.options in
    let stored = ap stores (sym c.in-Stores-Some.ensures) in
    made _ _ c.put_back.result (g.L.Line.told c.args.line.now) (g.L.Line.told c.put_back.new.line) stored
    (deposit_of o f.first f.trial f.second c.in-Stores-Some.deposit
    (λ (old : ℕ). OnLine (PutsBack o old c.put_back.result) (g.L.Line.told c.args.line.now) (g.L.Line.told c.put_back.new.line)) stored
    (λ old has. c.put_back.ensures.made old has)
    (subst (HasDeposit o f.first) c.in-Stores-Some.is-1 c.requires))

pub returns-in_default-clause-made : goal.returns-in_default-clause-made
returns-in_default-clause-made g c = elim c.in_default.branch [
  | in_default-via-in-Stores+in_default w ↦
      absurd (can_put_back c.args.options c.args.found.now.first c.args.found.now.trial c.args.found.now.second (ap stores (sym w.in_default.ensures)) (subst (HasDeposit c.args.options c.args.found.now.first) w.in_default.is-1 c.requires))
  | in_default-via-in_default w ↦ not_made _ _ (g.L.Line.told c.args.line.now) (ap stores (sym c.judge.ensures) ∙ not_stores c.judge.result w.in_default.not-Stores-0)
]
