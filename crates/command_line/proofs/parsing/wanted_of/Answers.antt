use Rattle.std.proofs.Common.{◌≡◌, rules, codes, subst, sym}
use Rattle.clap.specs.Walk.{Text}
use Rattle.clap.specs.declared.parser.matches.Found.{Found}
use Rattle.command_line.specs.Wanted.{IsWantedOf}
use Rattle.command_line.specs.declared.wanted.Wanted.{Wanted}
use Rattle.command_line.proofs.parsing.wanted_of.Goals as goal

-- what the command of this word says
said_by : (command word : Text) (found : Found) (wanted : Wanted) → command ≡ word → IsWantedOf word found wanted → IsWantedOf command found wanted
said_by command word found wanted is said = subst (λ (w : Text). IsWantedOf w found wanted) (sym is) said

pub returns-in_ok-loading_of-in-load : goal.returns-in_ok-loading_of-in-load
returns-in_ok-loading_of-in-load c =
    let is : c.args.command.now ≡ codes "load" = search rules in
    said_by _ (codes "load") _ _ is (c.at_machine.ensures (codes "load") c.in_ok-loading_of-in-load.ensures)

pub returns-in_ok-verifying_of-in-verify : goal.returns-in_ok-verifying_of-in-verify
returns-in_ok-verifying_of-in-verify c =
    let is : c.args.command.now ≡ codes "verify" = search rules in
    said_by _ (codes "verify") _ _ is (c.at_machine-in-verify.ensures (codes "verify") c.in_ok-verifying_of-in-verify.ensures)

pub returns-in_ok-saving_of-in-save : goal.returns-in_ok-saving_of-in-save
returns-in_ok-saving_of-in-save c =
    let is : c.args.command.now ≡ codes "save" = search rules in
    said_by _ (codes "save") _ _ is (c.at_machine-in-save.ensures (codes "save") c.in_ok-saving_of-in-save.ensures)

pub returns-in_ok-probing_of-in-probe : goal.returns-in_ok-probing_of-in-probe
returns-in_ok-probing_of-in-probe c =
    let is : c.args.command.now ≡ codes "probe" = search rules in
    said_by _ (codes "probe") _ _ is (c.at_machine-in-probe.ensures (codes "probe") c.in_ok-probing_of-in-probe.ensures)

pub returns-in_ok-testing_of-in-memory : goal.returns-in_ok-testing_of-in-memory
returns-in_ok-testing_of-in-memory c =
    let is : c.args.command.now ≡ codes "memory" = search rules in
    said_by _ (codes "memory") _ _ is (c.at_machine-in-memory.ensures (codes "memory") c.in_ok-testing_of-in-memory.ensures)
