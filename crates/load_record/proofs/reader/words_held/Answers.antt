use Rattle.std.proofs.Common.{sym, ◌∙◌}
use Rattle.load_record.proofs.Holdings.{word_counted, half_counted, run_words_counted}
use Rattle.load_record.proofs.reader.words_held.Goals as goal

pub returns-in-First : goal.returns-in-First
returns-in-First c =
    word_counted _ _ c.as_slice.result.now _ c.in-Some.word.now c.eq.result _ c.in-First.is c.in-Some.ensures.value c.eq.ensures (c.as_slice.ensures ∙ c.word_fields.ensures) c.from.ensures

pub returns-in-Second : goal.returns-in-Second
returns-in-Second c = run_words_counted _ _ _ c.in-Some.word.now _ c.in-Second.is c.in-Some.ensures.value (sym c.is_full.ensures ∙ c.if-is_full.true) c.run_words.ensures

pub returns-in-Second-2 : goal.returns-in-Second-2
returns-in-Second-2 c =
    half_counted _ _ c.as_slice-in-Second-2.result.now _ c.in-Some.word.now c.eq-in-Second-2.result _ c.in-Second-2.is c.in-Some.ensures.value (sym c.is_full.ensures ∙ c.if-is_full.false) c.eq-in-Second-2.ensures (c.as_slice-in-Second-2.ensures ∙ c.half_line.ensures) c.from-in-Second-2.ensures
