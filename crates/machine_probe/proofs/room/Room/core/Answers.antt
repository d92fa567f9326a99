use Rattle.std.proofs.Common.{◌∙◌, ◌++◌, ◌∷◌, ℕ, List, [], length, ◌+◌, ◌*◌, ◌-◌, ◌≡◌, ap, arith, subst, sym}
use Rattle.reading_core.specs.Addresses.{AreAddresses}
use Rattle.machine_probe.specs.Passes.{last_words}
use Rattle.machine_probe.proofs.LastWords.{none_last, one_more_last, length_last, last_asked, pushed}
use Rattle.machine_probe.proofs.room.Room.core.Goals as goal

pub loop-number-init : goal.loop-number-init
loop-number-init c = record { so_far = c.requires.room.no_address ∙ sym (none_last c.args.from c.args.pieces.bytes); room = c.requires.room.addresses }

pub loop-number-preserved : goal.loop-number-preserved
loop-number-preserved c = let bytes = c.args.pieces.bytes in let number = c.loop-number.number in record {
  so_far = pushed c.push.result _ _ _ (c.push.ensures.succeeds (omega (arith, c.loop-number.addresses.ok, ap length c.loop-number.invariant.so_far, length_last c.args.from bytes number, c.loop-number.invariant.room, c.loop-number-test.true))) c.push.ensures.items
      ∙ (ap (λ (addresses : List ℕ). addresses ++ (c.args.from + bytes * number + (bytes - 2)) ∷ []) c.loop-number.invariant.so_far ∙ sym (one_more_last c.args.from bytes number));
  room = omega (arith, c.loop-number.invariant.room, c.push.ensures.capacity);
}

pub in_room-requires-clause-asked : goal.in_room-requires-clause-asked
in_room-requires-clause-asked c =
    let all : c.loop-number.number ≡ c.args.pieces.count = omega (arith, c.loop-number.auto.number-end, c.loop-number-test.false) in
    subst AreAddresses (sym (c.loop-number.invariant.so_far ∙ ap (last_words c.args.from c.args.pieces.bytes) all)) (last_asked c.args.from c.args.pieces c.requires.pieces)

pub in_room-requires-clause-ample : goal.in_room-requires-clause-ample
in_room-requires-clause-ample c =
    rw (c.loop-number.invariant.so_far, length_last c.args.from c.args.pieces.bytes c.loop-number.number) (omega (arith, c.loop-number.auto.number-end, c.requires.room.numbers))
