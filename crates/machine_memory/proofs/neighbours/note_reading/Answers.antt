use Rattle.std.proofs.Common.{ℕ, List, [], ◌∷◌, ◌++◌, ◌∙◌, arith, ap, sym, take, get_or, append_assoc, append-nil}
use Rattle.machine_memory.specs.Bus.{reading}
use Rattle.machine_memory.proofs.Readings.{next_reads, none_reads}
use Rattle.machine_memory.proofs.neighbours.note_reading.Goals as goal

pub loop-place-init : goal.loop-place-init
loop-place-init c = (sym (append-nil c.args.found.now.items) ∙ ap (λ (t : List ℕ). c.args.found.now.items ++ t) (sym (none_reads c.args.number c.args.addresses.now)), omega arith, omega arith)

pub loop-place-preserved : goal.loop-place-preserved
loop-place-preserved c =
    let i = c.loop-place.place in
    let number = c.args.number in
    let addresses : List ℕ = c.args.addresses.now in
    let values : List ℕ = c.args.values.now in
    let one : List ℕ = reading number (get_or addresses i 0 ∷ []) (get_or values i 0 ∷ []) in (
      c.note_if_reads.ensures.items
          ∙ (ap (λ (t : List ℕ). t ++ one) c.loop-place.invariant.0
          ∙ (append_assoc c.args.found.now.items (reading number addresses (take i values)) one
          ∙ ap (λ (t : List ℕ). c.args.found.now.items ++ t) (sym (next_reads number addresses values i 0 c.loop-place-test.true c.requires.within)))),
      omega (arith, c.loop-place.invariant.1, c.note_if_reads.ensures.more),
      omega (arith, c.loop-place.invariant.2, c.note_if_reads.ensures.room),
    )
