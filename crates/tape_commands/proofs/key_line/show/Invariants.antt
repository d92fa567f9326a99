-- The characters so far are shown.
use Rattle.std.proofs.Common.{◌≡◌, ◌++◌, take}
use Rattle.tape_commands.specs.KeyLines.{shown}
use Rattle.tape_commands.proofs.key_line.show.Given as goal

abbrev pub invariant-loop-character : goal.invariant-loop-character
invariant-loop-character l = l.text.items ≡ l.initial.text.items ++ shown (take l.character-index l.characters)
