-- What is noted is that of the text and the bytes so far.
use Rattle.std.proofs.Common.{ℕ, List, ◌++◌, take}
use Rattle.run_log.specs.Report.{IsNoted}
use Rattle.run_log.proofs.report_notes.ReportNotes.see.Given as goal

abbrev pub invariant-loop-byte : goal.invariant-loop-byte
invariant-loop-byte l = (text : List ℕ) → IsNoted text l.initial.self → IsNoted (text ++ take l.byte-index l.bytes) l.self
