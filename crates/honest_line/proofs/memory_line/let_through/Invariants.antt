use Rattle.std.proofs.Common.{◌≡◌, ◌+◌, ◌≤◌, ◌++◌, length, drop}
use Rattle.honest_line.specs.LineTable.{let_through}
use Rattle.honest_line.proofs.memory_line.let_through.Given as goal

-- what is let through of the rest of the answer is still to come
abbrev pub invariant-loop-character : goal.invariant-loop-character
invariant-loop-character l = record {
  number : l.number ≡ l.before + l.character-index;
  waiting : l.waiting.items ++ let_through l.losses l.number (drop l.character-index l.answer) ≡ l.initial.waiting.items ++ let_through l.losses l.before l.answer;
  room : length l.waiting.items + length (drop l.character-index l.answer) ≤ 64;
}
