use Rattle.std.proofs.Common.{◌≡◌, ℕ, ◌+◌, ◌-◌, ◌*◌, ◌/◌, ◌∙◌, List, ◌++◌, ◌∷◌, [], sym, subst, ap, arith}
use Rattle.reading_core.specs.Addresses.{AreAddresses, addresses_from}
use Rattle.reading_core.proofs.Asking.{none_from, one_more_from, range_asked}
use Rattle.reading_core.proofs.reading.ReadingCore.of_range.Goals as goal

pub loop-number-init : goal.loop-number-init
loop-number-init c = c.in_ok-addresses.ensures.items ∙ sym (none_from c.args.from)

pub loop-number-preserved : goal.loop-number-preserved
loop-number-preserved c =
    c.in_ok-push.ensures.items
    ∙ (ap (λ (addresses : List ℕ). addresses ++ (c.args.from + 2 * c.loop-number.number) ∷ []) c.loop-number.invariant ∙ sym (one_more_from c.args.from c.loop-number.number))

pub new-requires : goal.new-requires
new-requires c =
    let all : c.loop-number.number ≡ (c.args.to - c.args.from) / 2 + 1 = omega (arith, c.loop-number.auto.number-end, c.loop-number-test.false) in
    subst AreAddresses (sym (c.loop-number.invariant ∙ ap (addresses_from c.args.from) all)) (range_asked c.args.from c.args.to c.requires)
