use Rattle.std.proofs.Common.{◌≡◌, ℕ, ◌+◌, ◌-◌, ◌*◌, ◌/◌, ◌∙◌, List, ◌++◌, ◌∷◌, [], refl, sym, subst, ap, arith}
use Rattle.reading_core.specs.Addresses.{AreAddresses}
use Rattle.memory_core.specs.Addresses.{addresses_by}
use Rattle.memory_core.proofs.Asking.{none_by, one_more_by, range_asked}
use Rattle.memory_core.proofs.memory.MemoryCore.of_range.Goals as goal

pub loop-number-init : goal.loop-number-init
loop-number-init c = c.in_ok-addresses.ensures.items ∙ sym (none_by c.args.from (2 * c.args.every))

pub loop-number-preserved : goal.loop-number-preserved
loop-number-preserved c =
    (c.in_ok-push.ensures.items ∙ item (c.from-in-loop-number.ensures) (c.from-step.ensures))
    ∙ (ap (λ (addresses : List ℕ). addresses ++ (c.args.from + 2 * c.args.every * c.loop-number.number) ∷ []) c.loop-number.invariant ∙ sym (one_more_by c.args.from (2 * c.args.every) c.loop-number.number))
  where
    item : {from' from step every : ℕ} → from' ≡ from → step ≡ every → c.loop-number.addresses.items ++ (from' + 2 * step * c.loop-number.number) ∷ [] ≡ c.loop-number.addresses.items ++ (from + 2 * every * c.loop-number.number) ∷ []
    item one two = rw (one, two) refl

pub in_room-requires-clause-asked : goal.in_room-requires-clause-asked
in_room-requires-clause-asked c =
    let all : c.loop-number.number ≡ (c.args.to - c.args.from) / (2 * c.args.every) + 1 = counted c.from.ensures c.from-step.ensures (omega (arith, c.loop-number.auto.number-end, c.loop-number-test.false)) in
    subst AreAddresses (sym (c.loop-number.invariant ∙ ap (addresses_by c.args.from (2 * c.args.every)) all)) (range_asked c.args.from c.args.to c.args.every c.requires.range c.requires.some)
  where
    counted : {n d' d step every : ℕ} → d' ≡ d → step ≡ every → n ≡ d' / (2 * step) + 1 → n ≡ d / (2 * every) + 1
    counted one two is = is ∙ rw (one, two) refl
