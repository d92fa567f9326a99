use Rattle.std.proofs.Common.{rules, tests, ◌==◌, ℕ, List, length, not}
use Rattle.std.proofs.lemmas.Iterator.Consumers.{map_from_collect, YieldsList-from_filter}
use Rattle.std.proofs.lemmas.Iterator.Splits.{YieldsList-from_slice_split}
use Rattle.tape_making.specs.Words.{is_blank}
use Rattle.tape_making.proofs.number.fields_of.Goals as goal

pub returns : goal.returns
returns c =
    map_from_collect _ c.collect.ensures.ran
    (YieldsList-from_filter _ (λ (field : List ℕ). not (length field == 0))
    (YieldsList-from_slice_split _ is_blank c.args.text.now (cc) (cc) (cc) (λ x r q k. search (rules, tests)))
    c.filter.ensures.closure (λ x r q k. search (rules, tests)))
