use Rattle.std.proofs.Common.{subst, sym, ◌∙◌, ap}
use Rattle.std.proofs.lemmas.List.{take_all}
use Rattle.reading_core.specs.Addresses.{AreAddresses, addresses_of}
use Rattle.reading_core.proofs.Asking.{plan_asked}
use Rattle.reading_core.proofs.reading.ReadingCore.of_plan.Goals as goal

pub new-requires : goal.new-requires
new-requires c =
    subst AreAddresses (sym (c.loop-word.invariant.0 ∙ ap addresses_of (take_all c.loop-word.word-index c.words-words.result.now c.loop-word-test.false ∙ c.words-words.ensures.value)))
    (plan_asked c.args.plan.now c.words-words.ensures.sound)
