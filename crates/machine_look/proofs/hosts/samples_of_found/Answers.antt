use Rattle.std.proofs.Common.{◌+◌, ◌*◌, ◌<◌, List, length, get_or, ap, sym, ◌∙◌, arith, refl}
use Rattle.tape_image.specs.Word.{WordValue, whole_word}
use Rattle.sample_looks.proofs.Spread.{ended, next_sample, within}
use Rattle.machine_look.specs.Behind.{addresses_in}
use Rattle.machine_look.specs.SavedWords.{words_read}
use Rattle.machine_look.proofs.SavedMemory.{many_found, of_found, range_low, word_found}
use Rattle.machine_look.proofs.hosts.samples_of_found.Goals as goal

pub overflow_mul-place : goal.overflow_mul-place
overflow_mul-place c =
    let low = within (length c.args.found.now) c.loop-i.i (omega (arith, c.min-number.ensures, c.loop-i-test.true)) in
    omega (arith, low, c.place_of_sample-place.ensures, c.requires.within, range_low c.args.range c.from-from.ensures.in_order)

pub overflow_add-from : goal.overflow_add-from
overflow_add-from c =
    let low = within (length c.args.found.now) c.loop-i.i (omega (arith, c.min-number.ensures, c.loop-i-test.true)) in
    omega (arith, low, c.place_of_sample-place.ensures, c.requires.within, range_low c.args.range c.from-from.ensures.in_order, c.from-from.ensures.value)

pub bounds-found-place : goal.bounds-found-place
bounds-found-place c =
    let low = within (length c.args.found.now) c.loop-i.i (omega (arith, c.min-number.ensures, c.loop-i-test.true)) in
    omega (arith, low, c.place_of_sample-place.ensures)

pub word_at-requires-clause-below : goal.word_at-requires-clause-below
word_at-requires-clause-below c =
    let low = within (length c.args.found.now) c.loop-i.i (omega (arith, c.min-number.ensures, c.loop-i-test.true)) in
    omega (arith, low, c.place_of_sample-place.ensures, c.requires.within, range_low c.args.range c.from-from.ensures.in_order, c.from-from.ensures.value)

pub loop-i-preserved : goal.loop-i-preserved
loop-i-preserved c =
    let found = c.args.found.now in
    let fill = c.requires in
    let words : List WordValue = words_read (addresses_in c.args.range) found in
    let low = within (length found) c.loop-i.i (omega (arith, c.min-number.ensures, c.loop-i-test.true)) in
    let place : c.place_of_sample-place.result < length found = omega (arith, low, c.place_of_sample-place.ensures) in
    c.in_ok-push.ensures.items
    ∙ next_sample words c.loop-i.samples.items (length found) c.loop-i.i c.place_of_sample-place.result c.word_at.result c.loop-i.invariant c.place_of_sample-place.ensures
    (c.word_at.ensures ∙ (ap (λ f. whole_word (f + 2 * c.place_of_sample-place.result) (get_or found c.place_of_sample-place.result 0)) c.from-from.ensures.value
    ∙ sym (word_found c.args.range found c.place_of_sample-place.result c.word_at.result (record { whole = fill.whole; within = fill.within; small = fill.small }) place)))
    (omega (arith, place, many_found c.args.range found (record { whole = fill.whole; within = fill.within; small = fill.small })))

pub returns : goal.returns
returns c =
    let found = c.args.found.now in
    let fill = c.requires in
    let words : List WordValue = words_read (addresses_in c.args.range) found in
    of_found c.args.range found c.min-number.result c.loop-i.samples.items c.from-from.ensures.in_order (record { whole = fill.whole; within = fill.within; small = fill.small }) c.min-number.ensures
    (ended words words c.loop-i.samples.items (length found) c.loop-i.i c.min-number.result refl c.loop-i.invariant c.loop-i-test.false c.loop-i.auto.i-end)
