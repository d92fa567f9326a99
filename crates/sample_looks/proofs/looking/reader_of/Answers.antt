use Rattle.std.proofs.Common.{◌∙◌, ap, arith, length, subst, sym}
use Rattle.std.proofs.lemmas.List.{length-map, take_all}
use Rattle.tape_image.specs.Word.{WordValue}
use Rattle.reading_core.specs.Addresses.{AreAddresses, addresses_of}
use Rattle.sample_looks.proofs.looking.reader_of.Goals as goal

pub in_room-requires-clause-asked : goal.in_room-requires-clause-asked
in_room-requires-clause-asked c =
    subst AreAddresses (sym (c.loop-sample.invariant ∙ ap addresses_of (take_all c.loop-sample.sample-index c.args.samples.now c.loop-sample-test.false)))
    (record { each = c.requires.each; rising = c.requires.rising; few = c.requires.few })

pub in_room-requires-clause-ample : goal.in_room-requires-clause-ample
in_room-requires-clause-ample c =
    omega (
      arith,
      ap length (c.loop-sample.invariant ∙ ap addresses_of (take_all c.loop-sample.sample-index c.args.samples.now c.loop-sample-test.false)),
      length-map c.args.samples.now (λ (w : WordValue). w.address),
      c.in_ok-room.ensures.capacity,
    )
