use Rattle.std.proofs.Common.{sym}
use Rattle.tape_making.proofs.tape.next_byte.Goals as goal

pub returns-then-is_some-clause-found : goal.returns-then-is_some-clause-found
returns-then-is_some-clause-found c = record {
  behind = c.loop-address.auto.address;
  within = c.loop-address-test.true;
  there = sym c.if-is_some.ensures;
  before = c.loop-address.invariant;
}
