-- What an engine does that brings in a load's stubs, on the line and at the keeper.
use Rattle.std.specs.Prelude.{◌≡◌, ◌+◌, ◌≤◌, ◌^◌, length, Option, Some, None, ⊤}
use Rattle.tape_image.specs.Memory.{most_words}
use Rattle.host_core.specs.Core.{Core}
use Rattle.host_devices.specs.Devices.{Devices, LineTold, devices}
use Rattle.host_devices.specs.Failures.{CountsFault, IsLastFault}
use Rattle.host_devices.specs.Turns.{most_turns}
use Rattle.load_engine.specs.Driving.{LoadStop, driving}
use Rattle.load_engine.specs.Driven.{IsDriven}
use Rattle.engine.specs.Stopping.{keep_fault, line_fault}
use Rattle.engine.specs.declared.stop.Stop.TheVariants.{Ended}
use Rattle.host_devices.specs.declared.item.Kept.{Kept}
use Rattle.engine.specs.Keeping.{Keeping, keeping}
use Rattle.stub_engine.specs.declared.stop.StubsEnd.TheVariants.{InVain}
use Rattle.stub_engine.specs.declared.tally.Tally.{Tally}
use Rattle.stub_engine.specs.Keeping.{IsToldBy, words_kept}
use Rattle.stub_engine.specs.Parts.{AreBroughtIn, Bringing, StubsStop, most_in_vain}
use Rattle.stub_engine.specs.Tallies.{IsOneMore}

-- a host was driven that was to bring in a stub, and came to this answer; nothing of it was kept
pub record IsBringerDriven (first : Core) (answer : Core × LoadStop) (before after : LineTold) : Type 0 where
  pub driven : IsDriven most_turns (driving first answer.0 (Some answer.1)) (devices before None) (devices after None)
  pub no_keeper : keep_fault (Some answer.1) ≡ None

-- what stubs give a keeper: the words that became verified
abbrev pub stubs_give : Bringing → Keeping Kept
stubs_give stubs = keeping (words_kept stubs.plan.words stubs.old.verified stubs.new.verified) (keep_fault stubs.stop)

-- three in a row in vain is said only where it is so
abbrev pub TellsInVain : Option StubsStop → Tally → Type 0
TellsInVain (Some (Ended InVain)) tally = tally.in_vain ≡ most_in_vain
TellsInVain _ tally = ⊤

-- stubs were brought in over these devices
pub record AreStubs (stubs : Bringing) (before after : Devices) : Type 0 where
  pub brought : AreBroughtIn stubs before.line.said after.line.said
  pub counted : CountsFault (line_fault stubs.stop) before.line.failures after.line.failures
  pub named : IsLastFault (line_fault stubs.stop) after.line.fault
  -- what was kept
  pub told : IsToldBy (stubs_give stubs) before.kept after.kept
  -- no fewer words are verified, and no more than there are
  pub grows : stubs.old.verified ≤ stubs.new.verified
  pub within : stubs.new.verified ≤ length stubs.plan.words
  pub in_vain : TellsInVain stubs.stop stubs.new

-- one more at most, which sends no more than so much
pub record IsNextStub (stubs : Bringing) (before after : Devices) : Type 0 where
  pub is_one : AreStubs stubs before after
  pub few_words : stubs.stop ≡ None → stubs.new.verified ≤ most_words
  pub one_more : stubs.stop ≡ None → IsOneMore stubs.old stubs.new
  pub few_sent : stubs.new.sent ≤ stubs.old.sent + 2 ^ 38
  pub few_spent : stubs.new.spent ≤ stubs.old.spent + 2 ^ 32

-- all of a load, which send so little that a sum has room for it
pub record AreAllStubs (stubs : Bringing) (before after : Devices) : Type 0 where
  pub all : AreStubs stubs before after
  pub few_sent : stubs.new.sent ≤ 2 ^ 60
  pub few_spent : stubs.new.spent ≤ 2 ^ 60
