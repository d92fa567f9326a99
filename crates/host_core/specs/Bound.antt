-- How many characters a life can send.
use Rattle.std.specs.Prelude.{ℕ, ◌+◌, ◌*◌, Bool, if◌then◌else◌}
use Rattle.host_core.specs.declared.phase.Phase.{Phase}
use Rattle.host_core.specs.declared.phase.Phase.TheVariants.{Settle, Sync, Address, Slash, Before, Value, Deposit, Return, Start, Go, Ended}
use Rattle.host_core.specs.declared.phase.Try.{Try}
use Rattle.host_core.specs.declared.phase.Try.TheVariants.{Only, First, Second}
use Rattle.host_core.specs.declared.phase.Visit.{Visit}
use Rattle.host_core.specs.declared.phase.Visit.TheVariants.{Look, Again, Check}
use Rattle.host_core.specs.declared.phase.Reason.TheVariants.{Store, Reopen, Missing, Close}
use Rattle.host_core.specs.Core.{Core}

-- the most that a word costs: 22 are its address and `/`, six digits and CR, its address and `/` once more, and CR; a careful host may make four
-- visits and two deposits (this project's choice)
abbrev pub word_cost : Bool → ℕ
word_cost careful = if careful then 44 else 22

-- the most that one life sends for a plan of n words: what each costs; 7 for the start, six digits and `G`; and for each mishap that it survives
-- and for its beginning no more than the key that resynchronises and a word that was given up
abbrev pub character_bound : Bool → ℕ → ℕ → ℕ
character_bound careful n patience = word_cost careful * n + 7 + (word_cost careful + 1) * (patience + 1)

-- the same for the largest plan and patience
abbrev pub largest_bound : Bool → ℕ
largest_bound careful = if careful then 193274789895 else 98784878599

-- what a word has cost when a deposit of it begins
abbrev pub used_till : Try → ℕ
used_till Only = 8
used_till First = 16
used_till (Second before) = 30

-- what it has cost when a visit begins: nothing but the key that resynchronises; an address, `/` and CR too; or all up to the CR of a deposit
abbrev pub used_before : Visit → ℕ
used_before Look = 1
used_before (Again first) = 9
used_before (Check deposit value) = used_till deposit + 7

-- the most that was sent for the word under way, or for the start, with the key before that resynchronises
abbrev pub used_in : Bool → Phase → ℕ
used_in careful Settle = 0
used_in careful (Sync place) = 1
used_in careful (Address visit place) = used_before visit + place
used_in careful (Slash visit) = used_before visit + 7
used_in careful (Before visit) = used_before visit + 7
used_in careful (Value visit value place) = used_before visit + 7
used_in careful (Deposit deposit value place) = used_till deposit + place
used_in careful (Return (Store deposit value) place) = used_till deposit + 7
used_in careful (Return (Reopen first) place) = 9
used_in careful (Return (Missing address) place) = word_cost careful
used_in careful (Return Close place) = 1
used_in careful (Start place) = 1 + place
used_in careful Go = 8
used_in careful (Ended end) = word_cost careful + 1

-- the most that a life can have sent where it stands
abbrev pub used : Core → ℕ
used core = used_in core.careful core.phase + word_cost core.careful * core.verified + (word_cost core.careful + 1) * core.spent
