-- The lines so far are those of the tapes so far.
use Rattle.std.proofs.Common.{◌≡◌, List, take}
use Rattle.std.specs.List.{flat_map}
use Rattle.input_files.specs.Tapes.{TapeText}
use Rattle.tape_commands.specs.CheckText.{AreTexts, tape_text}
use Rattle.tape_commands.proofs.check_text.check_text.Given as goal

abbrev pub invariant-loop-place : goal.invariant-loop-place
invariant-loop-place l = (texts : List TapeText) → AreTexts l.taken.tapes.items l.taken.layouts.items texts → l.report.items ≡ flat_map tape_text (take l.place texts)
