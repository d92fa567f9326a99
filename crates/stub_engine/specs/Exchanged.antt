-- What the engine makes of an exchange, of a line and of a keeper.
use Rattle.std.specs.Prelude.{◌≡◌, ℕ, ◌≤◌, List, ◌++◌, length, Option, Some, IfSome}
use Rattle.host_devices.specs.declared.fault.KeepFault.{KeepFault}
use Rattle.host_devices.specs.declared.item.Item.{Item}
use Rattle.host_devices.specs.declared.item.Kept.{Kept}
use Rattle.host_devices.specs.Devices.{Devices}
use Rattle.host_devices.specs.Failures.{CountsFault, IsLastFault}
use Rattle.engine.specs.Keeping.{AllOrFront, Keeping, keeping}
use Rattle.engine.specs.Stopping.{TellsEnd, keep_fault, line_fault}
use Rattle.engine.specs.declared.stop.Cut.TheVariants.{LineFailed}
use Rattle.engine.specs.declared.stop.Stop.TheVariants.{KeepFailed, CutOff}
use Rattle.load_engine.specs.Driven.{told_by}
use Rattle.exchange_core.specs.Exchange.{IsExchange, ended, exchange_bound, led}
use Rattle.exchange_law.specs.Law.{dialogue, said_all}
use Rattle.stub_engine.specs.Belief.{IsBelievableOver}
use Rattle.stub_engine.specs.Exchanging.{ExchangeSession, ExchangeStop, Exchanging}
use Rattle.stub_engine.specs.Keeping.{words_kept}

-- all but the last characters, which were to be sent
abbrev pub LacksKeys : List Item → List Item → Type 0
LacksKeys all most = (keys : List ℕ) × (all ≡ most ++ said_all keys)

-- what was said of a dialogue: all of it, but for the last characters where a device failed
abbrev pub IsSaid : Option ExchangeStop → List Item → List Item → Type 0
IsSaid (Some (CutOff (LineFailed fault))) all said = LacksKeys all said
IsSaid (Some (KeepFailed fault)) all said = LacksKeys all said
IsSaid other all said = said ≡ all

-- what was given of what was to be kept: all of it, or a front where the keeper failed
abbrev pub IsGiven : Option KeepFault → List Kept → List Kept → Type 0
IsGiven fault all given = AllOrFront fault (given ≡ all) ((rest : List Kept) × (all ≡ given ++ rest))

-- what turns are to give a keeper: the words that became verified
abbrev pub turns_give : Exchanging → Keeping Kept
turns_give turns = keeping (words_kept turns.plan.words turns.old.verified turns.new.verified) (keep_fault turns.stop)

-- the engine led an exchange, from its beginning and for at most so many turns
pub record IsCarriedOut (most : ℕ) (turns : Exchanging) (before after : Devices) : Type 0 where
  -- what was heard, said and kept, in its order
  pub session : ExchangeSession most turns (told_by before) (told_by after)
  pub exchange : turns.new ≡ led turns.plan.image turns.chunks turns.old session.heard
  pub said : IsSaid turns.stop (dialogue turns.plan.image turns.chunks turns.old session.heard) session.said
  pub given : IsGiven (keep_fault turns.stop) (turns_give turns).items session.given
  pub end : IfSome turns.stop (λ stop. TellsEnd stop (ended turns.new.phase))
  pub counted : CountsFault (line_fault turns.stop) before.line.failures after.line.failures
  pub named : IsLastFault (line_fault turns.stop) after.line.fault
  -- what may be believed where a stub runs at the line's other end
  pub honest : IsBelievableOver turns before.line.said after.line.said
  -- it is an exchange of the same words, of which no fewer are verified, and it has sent no more than it may
  pub from_same : turns.new.from ≡ turns.old.from
  pub grows : turns.old.verified ≤ turns.new.verified
  pub kept : IsExchange turns.chunks turns.new
  pub bound : turns.new.sent ≤ exchange_bound (length turns.chunks)
