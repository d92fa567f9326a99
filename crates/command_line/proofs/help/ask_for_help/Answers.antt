use Rattle.std.proofs.Common.{◌∙◌, ap, string_bytes, sym}
use Rattle.command_line.specs.Help.{asks_for_help}
use Rattle.command_line.proofs.Asked.{asked_at}
use Rattle.command_line.proofs.help.ask_for_help.Goals as goal

pub returns-then-asks_for_help : goal.returns-then-asks_for_help
returns-then-asks_for_help c =
    asked_at string_bytes c.args.words.now c.loop-word.word-index c.word-item.result c.loop-word-test.true
    (ap (λ w. asks_for_help (string_bytes w)) (sym c.word-item.is) ∙ ap asks_for_help (sym c.deref.ensures) ∙ sym c.asks_for_help.ensures ∙ c.if-asks_for_help.true)
