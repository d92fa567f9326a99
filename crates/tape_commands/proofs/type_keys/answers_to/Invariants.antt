-- The answers so far, and those that the machine will give, are the answers to all the keys.
use Rattle.std.proofs.Common.{◌≡◌, ◌≤◌, ◌*◌, ◌++◌, drop, length}
use Rattle.tape_commands.specs.TypedKeys.{after_typing, answers_of}
use Rattle.tape_commands.proofs.type_keys.answers_to.Given as goal

abbrev pub invariant-loop-key : goal.invariant-loop-key
invariant-loop-key l = record {
  room : length l.answers.items ≤ 9 * l.key-index;
  machine : after_typing l.odt (drop l.key-index l.keys) ≡ after_typing l.initial.odt l.keys;
  answers : l.answers.items ++ answers_of l.odt (drop l.key-index l.keys) ≡ answers_of l.initial.odt l.keys;
}
