-- The words that are left, put from here, leave what all of them do; those so far lie in memory.
use Rattle.std.proofs.Common.{drop, take}
use Rattle.tape_commands.proofs.Openings.{IsPutting}
use Rattle.tape_commands.proofs.worlds.store_words.Given as goal

abbrev pub invariant-loop-put : goal.invariant-loop-put
invariant-loop-put l = IsPutting l.initial.odt l.odt l.puts (take l.put-index l.puts) (drop l.put-index l.puts)
