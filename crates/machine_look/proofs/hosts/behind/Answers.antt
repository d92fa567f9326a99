use Rattle.std.proofs.Common.{◌∙◌, ℕ, ◌+◌, ◌*◌, ◌∷◌, ◌++◌, [], List, ap, subst, sym, arith}
use Rattle.reading_core.specs.Addresses.{AreAddresses}
use Rattle.reading_core.proofs.Asking.{none_from, one_more_from}
use Rattle.machine_look.proofs.SavedMemory.{few_asked}
use Rattle.machine_look.proofs.hosts.behind.Goals as goal

pub loop-number-init : goal.loop-number-init
loop-number-init c = c.in_ok-addresses.ensures.items ∙ sym (none_from _)

pub loop-number-preserved : goal.loop-number-preserved
loop-number-preserved c =
    c.in_ok-push.ensures.items ∙ (ap (λ (list : List ℕ). list ++ (c.from.result + 2 * c.args.count + 2 * c.loop-number.number) ∷ []) c.loop-number.invariant ∙ sym (one_more_from (c.from.result + 2 * c.args.count) c.loop-number.number))

pub returns-clause-asked : goal.returns-clause-asked
returns-clause-asked c =
    let in_order = c.from.ensures.in_order in
    subst AreAddresses (sym c.loop-number.invariant)
    (few_asked (c.from.result + 2 * c.args.count) c.loop-number.number (omega (arith, in_order.from_is.even, c.from.ensures.value))
    (omega (arith, c.loop-number.auto.number-end, c.words_of.ensures.below, c.from.ensures.value, c.words_of.ensures.words, c.requires)))
