use Rattle.std.proofs.Common.{refl}
use Rattle.host_devices.specs.Devices.{line_told}
use Rattle.machine_probe.proofs.Joins.{three_runs, tried_out}
use Rattle.machine_probe.proofs.runs.try_out.Goals as goal

pub returns-clause-made : goal.returns-clause-made
returns-clause-made g c =
    let told = g.L.Line.told in
    tried_out c.args.options _ (told c.args.line.now) (told c.look_again-second.new.line) (told c.restore-put_back.new.line) refl
    (three_runs c.args.options _ (told c.args.line.now) (told c.look-first.new.line) (told c.try_word-trial.new.line) (told c.look_again-second.new.line) c.look-first.ensures.made c.try_word-trial.ensures.made c.look_again-second.ensures.made)
    c.restore-put_back.ensures.made

pub returns-clause-left : goal.returns-clause-left
returns-clause-left g c =
    let told = line_told g.L.Line in
    record {
      looked = told c.look-first.new.line;
      look = c.look-first.ensures.left;
      tried = told c.try_word-trial.new.line;
      trial = c.try_word-trial.ensures.left;
      looked_again = told c.look_again-second.new.line;
      second_look = c.look_again-second.ensures.left;
      put_back = told c.restore-put_back.new.line;
      deposit = c.restore-put_back.ensures.left;
      search = refl;
    }
