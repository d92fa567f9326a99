-- What is said so far is the command and the names so far.
use Rattle.std.proofs.Common.{◌++◌, take}
use Rattle.endings.specs.FaultOutput.{IsSaidWhole}
use Rattle.run_log.specs.LogLine.{names_behind}
use Rattle.run_log.proofs.line.write_names.Given as goal

abbrev pub invariant-loop-name : goal.invariant-loop-name
invariant-loop-name g l = IsSaidWhole (g.E.FaultOutput.said l.fn.err) (g.E.FaultOutput.said l.err) (l.command ++ names_behind (take l.name-index l.names))
