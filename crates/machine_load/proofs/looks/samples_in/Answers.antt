use Rattle.std.proofs.Common.{◌∙◌, length, ap, arith, subst, sym}
use Rattle.reading_core.specs.Addresses.{AreAddresses, addresses_of}
use Rattle.sample_looks.specs.Samples.{AreSamples}
use Rattle.sample_looks.proofs.Spread.{asked, ended, inside, next_sample, samples}
use Rattle.machine_load.proofs.Pushed.{length_words_at, pushed}
use Rattle.machine_load.proofs.looks.samples_in.Goals as goal

pub place_of_sample-requires-clause-few : goal.place_of_sample-requires-clause-few
place_of_sample-requires-clause-few c = omega (arith, c.requires.count, c.words-words.ensures.sound.few)

pub loop-i-init : goal.loop-i-init
loop-i-init c = record { so_far = c.requires.empty; room = c.requires.ample }

pub bounds-words-place_of_sample : goal.bounds-words-place_of_sample
bounds-words-place_of_sample c =
    inside c.args.plan.now.words c.words-words.result.now c.args.count c.min-number.result c.loop-i.i c.place_of_sample.result c.words-words.ensures.value c.requires.count c.min-number.ensures c.loop-i-test.true c.place_of_sample.ensures

pub loop-i-preserved : goal.loop-i-preserved
loop-i-preserved c = record {
  so_far =
      pushed c.push.result _ _ _ (c.push.ensures.succeeds (omega (arith, c.loop-i.samples.ok, ap length c.loop-i.invariant.so_far, length_words_at c.words-words.result.now c.args.count c.loop-i.i, c.loop-i.invariant.room, c.loop-i-test.true, c.min-number.ensures))) c.push.ensures.items
      ∙ next_sample c.words-words.result.now c.loop-i.samples.items c.args.count c.loop-i.i c.place_of_sample.result c.index-words-place_of_sample.result c.loop-i.invariant.so_far c.place_of_sample.ensures c.index-words-place_of_sample.is
      (inside c.args.plan.now.words c.words-words.result.now c.args.count c.min-number.result c.loop-i.i c.place_of_sample.result c.words-words.ensures.value c.requires.count c.min-number.ensures c.loop-i-test.true c.place_of_sample.ensures);
  room = omega (arith, c.loop-i.invariant.room, c.push.ensures.capacity);
}

pub returns-clause-spread : goal.returns-clause-spread
returns-clause-spread c =
    subst (AreSamples c.args.plan.now.words c.args.count) (sym (ended c.args.plan.now.words c.words-words.result.now c.loop-i.samples.items c.args.count c.loop-i.i c.min-number.result c.words-words.ensures.value c.loop-i.invariant.so_far c.loop-i-test.false c.loop-i.auto.i-end))
    (samples c.args.plan.now.words c.args.count c.min-number.result c.min-number.ensures)

pub returns-clause-asked : goal.returns-clause-asked
returns-clause-asked c =
    subst (λ list. AreAddresses (addresses_of list)) (sym (ended c.args.plan.now.words c.words-words.result.now c.loop-i.samples.items c.args.count c.loop-i.i c.min-number.result c.words-words.ensures.value c.loop-i.invariant.so_far c.loop-i-test.false c.loop-i.auto.i-end))
    (asked c.args.plan.now c.args.count c.min-number.result c.words-words.ensures.sound c.requires.count c.min-number.ensures)

pub returns-clause-few : goal.returns-clause-few
returns-clause-few c =
    omega (arith, ap length c.loop-i.invariant.so_far, length_words_at c.words-words.result.now c.args.count c.loop-i.i, c.loop-i.auto.i-end, c.min-number.ensures)
