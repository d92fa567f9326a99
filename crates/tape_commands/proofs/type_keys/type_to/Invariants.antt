-- What was counted was typed and answered.
use Rattle.request_values.specs.Change.{◌⇒◌}
use Rattle.std.proofs.Common.{◌-◌, ◌≤◌}
use Rattle.tape_commands.specs.TypedKeys.{IsTypedSoFar, key_limit}
use Rattle.tape_commands.proofs.type_keys.type_to.Given as goal

abbrev pub invariant-loop-count : goal.invariant-loop-count
invariant-loop-count g l = record {
  within : l.count ≤ key_limit;
  so_far : IsTypedSoFar (g.R.Read.remaining l.initial.keys ⇒ g.R.Read.remaining l.keys) (l.initial.odt ⇒ l.odt) (g.W.Write.contents l.initial.out ⇒ g.W.Write.contents l.out) l.count;
}

abbrev pub decreases-loop-count : goal.decreases-loop-count
decreases-loop-count g l = key_limit - l.count
