use Rattle.std.proofs.Common.{◌∙◌, ◌++◌, ◌∷◌, ℕ, [], List, length, take, ap, arith}
use Rattle.std.proofs.lemmas.List.{length-map, length-take, take_all}
use Rattle.tape_image.specs.Word.{WordValue}
use Rattle.reading_core.specs.Addresses.{addresses_of}
use Rattle.machine_load.proofs.Pushed.{next_address, pushed}
use Rattle.machine_load.proofs.looks.addresses_in.Goals as goal

pub loop-sample-preserved : goal.loop-sample-preserved
loop-sample-preserved c = record {
  so_far =
      pushed c.push.result _ _ _ (c.push.ensures.succeeds (omega (
        arith,
        c.loop-sample.addresses.ok,
        ap length c.loop-sample.invariant.so_far,
        length-map (take c.loop-sample.sample-index c.args.samples.now) (λ (w : WordValue). w.address),
        length-take c.loop-sample.sample-index c.args.samples.now,
        c.loop-sample.invariant.room,
        c.requires.few,
        c.loop-sample-test.true,
      ))) c.push.ensures.items
      ∙ (ap (λ (addresses : List ℕ). addresses ++ c.address.result ∷ []) c.loop-sample.invariant.so_far
      ∙ (ap (λ (address : ℕ). addresses_of (take c.loop-sample.sample-index c.args.samples.now) ++ address ∷ []) c.address.ensures.value
      ∙ next_address c.args.samples.now c.loop-sample.sample-index c.sample-item.result c.loop-sample-test.true c.sample-item.is));
  room = omega (arith, c.loop-sample.invariant.room, c.push.ensures.capacity);
}

pub returns-clause-items : goal.returns-clause-items
returns-clause-items c = c.loop-sample.invariant.so_far ∙ ap addresses_of (take_all c.loop-sample.sample-index c.args.samples.now c.loop-sample-test.false)
