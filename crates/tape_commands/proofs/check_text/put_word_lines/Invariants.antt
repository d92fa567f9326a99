-- The lines so far are those of the words so far.
use Rattle.std.proofs.Common.{◌≡◌, ◌++◌, take}
use Rattle.std.specs.List.{flat_map}
use Rattle.byte_io.specs.Text.{line}
use Rattle.tape_image.specs.Word.{word_fields}
use Rattle.tape_commands.proofs.check_text.put_word_lines.Given as goal

abbrev pub invariant-loop-word : goal.invariant-loop-word
invariant-loop-word l = l.report.items ≡ l.initial.report.items ++ flat_map (λ w. line (word_fields w)) (take l.word-index l.words)
