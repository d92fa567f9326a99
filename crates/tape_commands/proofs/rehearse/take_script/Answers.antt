use Rattle.std.proofs.Common.{subst, rules}
use Rattle.loss_scripts.specs.Script.{IsScriptFault}
use Rattle.tape_commands.proofs.Rehearsals.{refused_input}
use Rattle.tape_commands.proofs.rehearse.take_script.Goals as goal

pub returns-in-Err-Refused-clause-err : goal.returns-in-Err-Refused-clause-err
returns-in-Err-Refused-clause-err g c =
    refused_input _ _ _ _ c.in-Err-Refused.line c.in-Ok.ensures.ok c.deref.ensures.value (subst (IsScriptFault c.deref.result.now) c.in-Err-Refused.field-0-is c.in-Err-Refused.ensures.read)

pub returns-in-Ok-read_script-clause-ok : goal.returns-in-Ok-read_script-clause-ok
returns-in-Ok-read_script-clause-ok g c = search rules
