-- What turns make of a tester.
use Rattle.std.proofs.Common.{ℕ, Some, ap, ◌∙◌}
use Rattle.engine.specs.Keeping.{KeeperCalls}
use Rattle.engine.specs.Led.{IsLed, Scene, scene}
use Rattle.engine.specs.declared.stop.Stop.{Stop}
use Rattle.engine.specs.declared.stop.Stop.TheVariants.{Ended, KeepFailed, CutOff}
use Rattle.memory_core.specs.declared.phase.End.{End}
use Rattle.memory_core.specs.declared.stage.Borrowed.{Borrowed}
use Rattle.memory_core.specs.Invariant.{IsTester}
use Rattle.memory_core.specs.Tester.{Tester}
use Rattle.memory_core.proofs.Lives.{led_addresses, led_patience}
use Rattle.memory_core.proofs.Turns.{within_bound}
use Rattle.host_devices.specs.Devices.{LineTold}
use Rattle.memory_engine.specs.Tested.{IsTestMade, NoKeepFault, Tested, testing}
use Rattle.memory_engine.proofs.Beliefs.{led_is, tested_believable}

-- where no call of the keeper fails, the engine stops otherwise
pub never_unkept : {K : Type 0} (calls : KeeperCalls K Borrowed) → ((a : K) (item : Borrowed) (b : K) → calls.fails a item b → ⊥) → (most : ℕ) (old new : Tester) (stop : Stop End) (before after : Scene K) →
    IsLed calls most (testing old new (Some stop)) before after → NoKeepFault stop
never_unkept calls never most old new (Ended end) before after l = tt
never_unkept calls never most old new (CutOff cut) before after l = tt
never_unkept calls never most old new (KeepFailed fault) before after l =
    let k = l.keeper.kept_by in
    never k.next k.last after.keeper k.failing

pub made : {K : Type 0} (calls : KeeperCalls K Borrowed) (most : ℕ) (old new : Tester) (stop : Stop End) (before after : LineTold) → IsTester old → IsTester new → Tested most (testing old new (Some stop)) before.said after.said →
    (keeper keeper' : K) → IsLed calls most (testing old new (Some stop)) (scene before keeper) (scene after keeper') → IsTestMade most (testing old new (Some stop)) before after
made calls most old new stop before after first kept session keeper keeper' led = record {
  session = session;
  end = led.end;
  counted = led.counted;
  named = led.named;
  honest = tested_believable most stop old new before.said after.said first session;
  same_addresses = ap (λ t. t.core.addresses) session.host ∙ (ap (λ t. t.addresses) (led_is old session.heard) ∙ led_addresses old session.heard);
  same_patience = ap (λ t. t.core.patience) session.host ∙ (ap (λ t. t.patience) (led_is old session.heard) ∙ led_patience old session.heard);
  bound = within_bound new kept;
  kept = kept;
}
