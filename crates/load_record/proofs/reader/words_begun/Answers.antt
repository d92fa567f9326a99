use Rattle.std.proofs.Common.{sym, ◌∙◌, ap}
use Rattle.std.proofs.lemmas.List.{take_rest}
use Rattle.octal.specs.Octal.{octal_text}
use Rattle.load_record.proofs.Runs.{begun_elsewhere, begun_here, nothing_next}
use Rattle.load_record.proofs.reader.words_begun.Goals as goal

pub returns-in_default : goal.returns-in_default
returns-in_default c = nothing_next _ _ c.in_default.ensures.value

pub returns-then-not-starts_with : goal.returns-then-not-starts_with
returns-then-not-starts_with c =
    begun_elsewhere _ _ c.oct6.result c.in-Some.word.now c.in-Some.ensures.value (c.oct6.ensures.text ∙ ap octal_text c.address.ensures.value) (sym c.starts_with.ensures.value ∙ c.if-not-starts_with.true)

pub returns : goal.returns
returns c =
    begun_here _ _ c.oct6.result _ c.in-Some.word.now c.address-2.result c.values_held.result _ c.in-Some.ensures.value (c.oct6.ensures.text ∙ ap octal_text c.address.ensures.value) (sym c.starts_with.ensures.value ∙ c.if-not-starts_with.false)
    c.address-2.ensures.value (take_rest c.args.begun.now 6) c.values_held.ensures c.from.ensures
