use Rattle.machine_probe.proofs.probing.gather.Given as goal

abbrev pub ghosts-report_noted : goal.ghosts-report_noted
ghosts-report_noted g a = record { told = g.C.Line.Line.told a.line }
