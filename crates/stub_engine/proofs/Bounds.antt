-- How much the stubs of a load may send.
use Rattle.std.proofs.Common.{◌≡◌, ℕ, ◌+◌, ◌-◌, ◌*◌, ◌^◌, ◌<◌, ◌≤◌, inl, inr, arith}
use Rattle.stub_engine.specs.declared.tally.Tally.{Tally}
use Rattle.stub_engine.specs.Tallies.{IsOneMore}

-- what is counted grows by so much with each stub: three times for each word gained, and once more for each of those in vain
pub record AreBounded (v : ℕ) (tally : Tally) : Type 0 where
  pub few : tally.in_vain ≤ 3
  pub sent : tally.sent ≤ 2 ^ 38 * (3 * (tally.verified - v) + tally.in_vain)
  pub spent : tally.spent ≤ 2 ^ 32 * (3 * (tally.verified - v) + tally.in_vain)

grown : (v verified n verified' n' count count' : ℕ) → v ≤ verified → n < 3 → verified < verified' → n' ≡ 0 → count' ≤ count + 2 ^ 38 → count ≤ 2 ^ 38 * (3 * (verified - v) + n) → count' ≤ 2 ^ 38 * (3 * (verified' - v) + n')
grown v verified n verified' n' count count' low few more none grows bound = omega (arith, low, few, more, none, grows, bound)

grown_32 : (v verified n verified' n' count count' : ℕ) → v ≤ verified → n < 3 → verified < verified' → n' ≡ 0 → count' ≤ count + 2 ^ 32 → count ≤ 2 ^ 32 * (3 * (verified - v) + n) → count' ≤ 2 ^ 32 * (3 * (verified' - v) + n')
grown_32 v verified n verified' n' count count' low few more none grows bound = omega (arith, low, few, more, none, grows, bound)

same : (v verified n verified' n' count count' : ℕ) → v ≤ verified → verified' ≡ verified → n' ≡ n + 1 → count' ≤ count + 2 ^ 38 → count ≤ 2 ^ 38 * (3 * (verified - v) + n) → count' ≤ 2 ^ 38 * (3 * (verified' - v) + n')
same v verified n verified' n' count count' low is one grows bound = omega (arith, low, is, one, grows, bound)

same_32 : (v verified n verified' n' count count' : ℕ) → v ≤ verified → verified' ≡ verified → n' ≡ n + 1 → count' ≤ count + 2 ^ 32 → count ≤ 2 ^ 32 * (3 * (verified - v) + n) → count' ≤ 2 ^ 32 * (3 * (verified' - v) + n')
same_32 v verified n verified' n' count count' low is one grows bound = omega (arith, low, is, one, grows, bound)

pub bounded : (v : ℕ) (old new : Tally) → v ≤ old.verified → old.in_vain < 3 → IsOneMore old new → new.sent ≤ old.sent + 2 ^ 38 → new.spent ≤ old.spent + 2 ^ 32 → AreBounded v old → AreBounded v new
bounded v old new low few step sent spent b = elim step [
  | inl vain ↦ record {
    few = (let one = vain.1 in omega (arith, one, few));
    sent = same v old.verified old.in_vain new.verified new.in_vain old.sent new.sent low vain.0 vain.1 sent b.sent;
    spent = same_32 v old.verified old.in_vain new.verified new.in_vain old.spent new.spent low vain.0 vain.1 spent b.spent;
  }
  | inr gain ↦ record {
    few = (let none = gain.1 in omega (arith, none));
    sent = grown v old.verified old.in_vain new.verified new.in_vain old.sent new.sent low few gain.0 gain.1 sent b.sent;
    spent = grown_32 v old.verified old.in_vain new.verified new.in_vain old.spent new.spent low few gain.0 gain.1 spent b.spent;
  }
]

pub few_sent : (v : ℕ) (tally : Tally) → tally.verified ≤ v + 28672 → AreBounded v tally → tally.sent ≤ 2 ^ 59
few_sent v tally near b = by tally.verified tally.in_vain tally.sent near b.few b.sent
  where
    by : (verified n count : ℕ) → verified ≤ v + 28672 → n ≤ 3 → count ≤ 2 ^ 38 * (3 * (verified - v) + n) → count ≤ 2 ^ 59
    by verified n count near few bound = omega (arith, near, few, bound)

pub few_spent : (v : ℕ) (tally : Tally) → tally.verified ≤ v + 28672 → AreBounded v tally → tally.spent ≤ 2 ^ 59
few_spent v tally near b = by tally.verified tally.in_vain tally.spent near b.few b.spent
  where
    by : (verified n count : ℕ) → verified ≤ v + 28672 → n ≤ 3 → count ≤ 2 ^ 32 * (3 * (verified - v) + n) → count ≤ 2 ^ 59
    by verified n count near few bound = omega (arith, near, few, bound)
