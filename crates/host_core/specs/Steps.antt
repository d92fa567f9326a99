-- What one step can change, whatever is heard.
use Rattle.std.specs.Prelude.{◌≡◌, ℕ, ◌+◌, ◌<◌, true, false, length, Option, Some}
use Rattle.host_core.specs.Console.{carriage_return, go}
use Rattle.host_core.specs.Core.{Core}

-- one more word is verified: it was the plan's, and the CR that closes it is sent; the mark stays as it was
pub record IsVerifying (before after : Core) (key : Option ℕ) : Type 0 where
  pub one : after.verified ≡ before.verified + 1
  pub within : before.verified < length before.plan.words
  pub sends : key ≡ Some carriage_return
  pub same_mark : after.going ≡ before.going

-- the mark is set: no earlier mark stood, and `G` is sent
pub record IsMarking (before after : Core) (key : Option ℕ) : Type 0 where
  pub was : before.going ≡ false
  pub now : after.going ≡ true
  pub sends : key ≡ Some go
