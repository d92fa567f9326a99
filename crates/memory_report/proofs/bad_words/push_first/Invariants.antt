-- The first eight of the bad words so far, and how many of them there are.
use Rattle.std.proofs.Common.{◌≡◌, ◌+◌, ◌*◌, ◌≤◌, ◌++◌, length, take}
use Rattle.std.specs.List.{filter}
use Rattle.arrayvec.specs.ArrayVec.{array_vec_len}
use Rattle.memory_report.specs.Report.{bad_words_text}
use Rattle.memory_report.specs.Words.{is_bad}
use Rattle.memory_report.proofs.bad_words.push_first.Given as goal

abbrev pub invariant-loop-word : goal.invariant-loop-word
invariant-loop-word l =
    (l.text.items ≡ l.initial.text.items ++ bad_words_text (take l.word-index l.words))
    × (l.shown ≡ length (take 8 (filter is_bad (take l.word-index l.words))))
    × (l.shown ≤ 8)
    × (array_vec_len l.text ≤ array_vec_len l.initial.text + 61 * l.shown)
