use Rattle.std.proofs.Common.{◌≡◌, length, ap, ◌∙◌}
use Rattle.reading_core.specs.Reader.{Reader}
use Rattle.reading_core.specs.ReadingTable.{turn_of, values_after}
use Rattle.reading_core.proofs.Lives.{asked}
use Rattle.looking_engine.proofs.Numbers.{no_number, one_number}
use Rattle.looking_engine.proofs.reading.ReadingHost.step.Goals as goal

pub returns-in-Some-clause-news : goal.returns-in-Some-clause-news
returns-in-Some-clause-news c =
    let old : Reader = c.args.self.now.core in
    let now : c.values.result.now ≡ values_after old.values (turn_of old c.args.heard) = c.values.ensures.value ∙ (ap (λ (r : Reader). r.values) c.step-key.ensures.next ∙ (asked old c.args.heard).values) in
    let found = c.in-Some.ensures.lookup in
    one_number old.values c.values.result.now (turn_of old c.args.heard) (length c.values-before.result.now) c.in-Some.number.now now (ap length c.values-before.ensures.value) found.3.0 found.1

pub returns-in-None-clause-news : goal.returns-in-None-clause-news
returns-in-None-clause-news c =
    let old : Reader = c.args.self.now.core in
    let now : c.values.result.now ≡ values_after old.values (turn_of old c.args.heard) = c.values.ensures.value ∙ (ap (λ (r : Reader). r.values) c.step-key.ensures.next ∙ (asked old c.args.heard).values) in
    no_number old.values c.values.result.now (turn_of old c.args.heard) (length c.values-before.result.now) now (ap length c.values-before.ensures.value) c.in-None.ensures.lookup.3
