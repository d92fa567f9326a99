-- The lines so far are those of the words so far.
use Rattle.std.proofs.Common.{◌≡◌, ◌++◌, take}
use Rattle.std.specs.List.{flat_map}
use Rattle.byte_io.specs.Text.{line}
use Rattle.tape_commands.specs.Report.{held_word_text}
use Rattle.tape_commands.proofs.report.put_words.Given as goal

abbrev pub invariant-loop-word : goal.invariant-loop-word
invariant-loop-word l = l.text.items ≡ l.initial.text.items ++ flat_map (λ w. line (held_word_text l.odt.memory w)) (take l.word-index l.words)
