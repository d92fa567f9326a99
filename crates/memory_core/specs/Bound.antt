-- How many characters a life can send.
use Rattle.std.specs.Prelude.{ℕ, ◌+◌, ◌*◌, length}
use Rattle.memory_core.specs.declared.phase.Visit.{Visit}
use Rattle.memory_core.specs.declared.phase.Visit.TheVariants.{Look, Check}
use Rattle.memory_core.specs.declared.phase.Phase.{Phase}
use Rattle.memory_core.specs.declared.phase.Phase.TheVariants.{Settle, Sync, Address, Slash, Before, Value, Deposit, Return, Close, Ended}
use Rattle.memory_core.specs.declared.stage.Stage.{Stage}
use Rattle.memory_core.specs.declared.stage.Stage.TheVariants.{Unseen, Once, Turned, Returned}
use Rattle.memory_core.specs.Tester.{Tester}

-- the most that one life sends for n words: 44 for a word, which are twice its address, `/` and CR, and twice its address, `/`, six
-- digits and CR; 22 for each mishap that it survives; and a word that was given up just before its last CR, with the `Z` before it
-- (this project's choice)
abbrev pub testing_bound : ℕ → ℕ → ℕ
testing_bound n patience = 44 * (n + 1) + 22 * patience

-- what a word has cost, without the `Z` before it, when a visit of this stage begins anew
abbrev pub used_up_to : Stage → ℕ
used_up_to Unseen = 0
used_up_to (Once first) = 8
used_up_to (Turned old) = 8
used_up_to (Returned old turned) = 22

-- and when the visit itself begins: a check stands behind an address, `/`, a deposit and CR
abbrev pub used_before : Visit → ℕ
used_before Look = 1
used_before Check = 15

-- the most that was sent for a visit of the word under way, with the `Z` before
abbrev pub used_in_visit : Phase → ℕ
used_in_visit Settle = 0
used_in_visit (Sync place) = 1
used_in_visit (Address visit place) = used_before visit + place
used_in_visit (Slash visit) = used_before visit + 7
used_in_visit (Before visit) = used_before visit + 7
used_in_visit (Value visit value place) = used_before visit + 7
used_in_visit (Deposit place) = 8 + place
used_in_visit (Return place) = 15
used_in_visit (Close place) = 1
used_in_visit (Ended end) = 22

-- the most that a life can have sent where it stands
abbrev pub used : Tester → ℕ
used t = used_in_visit t.phase + used_up_to t.stage + 44 * length t.seen + 22 * t.spent
