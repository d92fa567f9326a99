use Rattle.std.proofs.Common.{◌≡◌, ℕ, ◌+◌, ◌*◌, ◌-◌, ◌/◌, List, [], ◌∷◌, ◌++◌, ◌∙◌, ap, sym, arith}
use Rattle.std.specs.List.{filter}
use Rattle.reading_core.specs.Addresses.{addresses_from}
use Rattle.reading_core.proofs.Asking.{none_from}
use Rattle.machine_memory.specs.Bus.{is_neighbour}
use Rattle.machine_memory.proofs.Readings.{next_neighbour}
use Rattle.machine_memory.proofs.neighbours.neighbours.Goals as goal

pub loop-number-init : goal.loop-number-init
loop-number-init c = c.in_ok-list.ensures.items ∙ sym (ap (filter (is_neighbour c.args.at)) (none_from c.args.first))

pub loop-number-preserved : goal.loop-number-preserved
loop-number-preserved c =
    let first = c.args.first in
    let n = c.loop-number.number in
    c.in_ok-push_if_neighbour.ensures
    ∙ (ap (λ (t : List ℕ). t ++ filter (is_neighbour c.args.at) ((first + 2 * n) ∷ [])) c.loop-number.invariant
    ∙ sym (next_neighbour c.args.at first n))

pub returns : goal.returns
returns c =
    let all : c.loop-number.number ≡ (0o157776 - c.args.first) / 2 + 1 = omega (arith, c.loop-number.auto.number-end, c.loop-number-test.false) in
    c.loop-number.invariant ∙ ap (λ (n : ℕ). filter (is_neighbour c.args.at) (addresses_from c.args.first n)) all
