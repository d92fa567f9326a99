-- A host that tests memory as one value, and how its life begins (this project's choice).
use Rattle.std.specs.Prelude.{ℕ, ◌==◌, if◌then◌else◌, List, [], length, get_or, Option, Some, None}
use Rattle.memory_core.specs.declared.phase.Phase.{Phase}
use Rattle.memory_core.specs.declared.phase.Phase.TheVariants.{Settle, Ended}
use Rattle.memory_core.specs.declared.phase.End.{End}
use Rattle.memory_core.specs.declared.phase.End.TheVariants.{Complete}
use Rattle.memory_core.specs.declared.stage.Stage.{Stage}
use Rattle.memory_core.specs.declared.stage.Stage.TheVariants.{Unseen, Once, Turned, Returned}
use Rattle.memory_core.specs.declared.stage.Borrowed.{Borrowed}
use Rattle.memory_core.specs.declared.seen.Seen.{Seen}
use Rattle.memory_core.specs.declared.life.LifeState.{LifeState}

-- the addresses to be tested, what was read so far of the first of them, how many mishaps a life survives and how many it
-- has had, the characters it has sent, what is known of the word under way, and its phase
pub record Tester : Type 0 where
  pub addresses : List ℕ
  pub seen : List Seen
  pub patience : ℕ
  pub spent : ℕ
  pub sent : ℕ
  pub stage : Stage
  pub phase : Phase

-- the address number k, counted from 0
abbrev pub address_nr : List ℕ → ℕ → ℕ
address_nr addresses k = get_or addresses k 0

-- the address under way: the first that is not tested yet
abbrev pub address_under_way : Tester → ℕ
address_under_way t = address_nr t.addresses (length t.seen)

-- where a life begins: with no address nothing is left to do
abbrev pub first_phase : ℕ → Phase
first_phase addresses = if addresses == 0 then Ended Complete else Settle

-- a tester at the beginning of its life
abbrev pub begun : List ℕ → ℕ → Tester
begun addresses patience = record {
  addresses = addresses;
  seen = [];
  patience = patience;
  spent = 0;
  sent = 0;
  stage = Unseen;
  phase = first_phase (length addresses);
}

-- the end of the life, where it has ended
abbrev pub ended : Phase → Option End
ended (Ended end) = Some end
ended _ = None

-- the word of this address and what it held, where that is known
abbrev pub borrowed_at : ℕ → Stage → Option Borrowed
borrowed_at address Unseen = None
borrowed_at address (Once first) = None
borrowed_at address (Turned old) = Some (record { address = address; old = old })
borrowed_at address (Returned old turned) = Some (record { address = address; old = old })

-- the word that may hold another number than before
abbrev pub borrowed : Tester → Option Borrowed
borrowed t = borrowed_at (address_under_way t) t.stage

-- the tester with these addresses, readings and patience, in the middle of a life
abbrev pub tester_of : List ℕ → List Seen → ℕ → LifeState → Tester
tester_of addresses seen patience life = record {
  addresses = addresses;
  seen = seen;
  patience = patience;
  spent = life.spent;
  sent = life.sent;
  stage = life.stage;
  phase = life.phase;
}
