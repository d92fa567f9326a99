use Rattle.std.proofs.Common.{◌+◌, ◌-◌, ◌<◌, ◌%◌, arith, ap, sym, refl, inl, inr, ◌∙◌, length}
use Rattle.std.proofs.lemmas.Bool.{cases_eq}
use Rattle.exchange_core.specs.declared.stretch.Stretch.{Stretch}
use Rattle.exchange_core.specs.Chunking.{end_of}
use Rattle.exchange_core.proofs.Parts.{one_part, part_chunk, part_grows, read_bytes}
use Rattle.exchange_core.proofs.chunking.next_chunk.Goals as goal

pub loop-more-init : goal.loop-more-init
loop-more-init c =
    let plan = c.args.plan.now in
    let a = c.args.number in
    let below : a < length plan.words = omega (arith, c.requires.some, c.requires.within) in
    let bytes = read_bytes c.words-words.result.now plan.words a c.index-words-number.result c.bytes_of.result c.words-words.ensures.value below c.index-words-number.is c.bytes_of.ensures in
    one_part plan a c.chunk_of-chunk.result c.words-words.ensures.sound below
    (ap (λ chunk. chunk.address) c.chunk_of-chunk.ensures ∙ ap (λ (s : Stretch). s.from) bytes)
    (ap (λ chunk. chunk.size) c.chunk_of-chunk.ensures ∙ ap (λ (s : Stretch). s.to - s.from) bytes)
    (ap (λ chunk. chunk.until) c.chunk_of-chunk.ensures)

pub returns-then-not-goes_on : goal.returns-then-not-goes_on
returns-then-not-goes_on c =
    let plan = c.args.plan.now in
    let below : c.loop-more.more < length plan.words = omega (arith, c.loop-more-test.true, c.requires.within) in
    let bytes = read_bytes c.words-words.result.now plan.words c.loop-more.more c.index-words-more.result c.bytes_of-bytes.result c.words-words.ensures.value below c.index-words-more.is c.bytes_of-bytes.ensures in
    part_chunk plan c.args.number c.loop-more.more c.args.to c.loop-more.chunk c.words-words.ensures.sound (omega (arith, c.loop-more-test.true)) c.requires.within c.loop-more.invariant
    (λ more follows. elim (cases_eq (end_of c.loop-more.chunk % 64) 0) [
      | inl there ↦ there
      | inr apart ↦ absurd (cc (sym c.if-not-goes_on.true ∙ c.goes_on.ensures.1 (ap (λ (s : Stretch). s.from) bytes ∙ follows, apart)))
    ])

pub loop-more-preserved : goal.loop-more-preserved
loop-more-preserved c =
    let plan = c.args.plan.now in
    let below : c.loop-more.more < length plan.words = omega (arith, c.loop-more-test.true, c.requires.within) in
    let bytes = read_bytes c.words-words.result.now plan.words c.loop-more.more c.index-words-more.result c.bytes_of-bytes.result c.words-words.ensures.value below c.index-words-more.is c.bytes_of-bytes.ensures in
    let goes = c.goes_on.ensures.0 c.if-not-goes_on.false in
    part_grows plan c.args.number c.loop-more.more c.loop-more.chunk _ c.words-words.ensures.sound below c.loop-more.invariant (ap (λ (s : Stretch). s.from) (sym bytes) ∙ goes.0) goes.1 refl (ap (λ (s : Stretch). c.loop-more.chunk.size + (s.to - s.from)) bytes) refl

pub returns : goal.returns
returns c =
    part_chunk c.args.plan.now c.args.number c.loop-more.more c.args.to c.loop-more.chunk c.words-words.ensures.sound (c.loop-more.auto.more-end (omega (arith, c.requires.some))) c.requires.within c.loop-more.invariant
    (λ more follows. absurd (omega (arith, more, c.loop-more-test.false)))
