use Rattle.std.proofs.Common.{◌≡◌, map, string_bytes, ap, subst, ◌∙◌}
use Rattle.std.proofs.lemmas.Result.{IfOk-weaker}
use Rattle.clap.specs.Words.{app_of}
use Rattle.clap.specs.Simple.{is_simple, subcommand_of, subcommand_rows_of}
use Rattle.command_line.specs.Commands.{known_words}
use Rattle.command_line.specs.Wanted.{IsWantedBy}
use Rattle.command_line.proofs.Told.{known_is_simple}
use Rattle.command_line.proofs.parsing.read.Goals as goal

pub returns-in-Ok : goal.returns-in-Ok
returns-in-Ok c =
    let words = map string_bytes c.args.words.now in
    let told : app_of c.in_ok-known_words.field-0 ≡ known_words = c.in_ok-known_words.ensures in
    let entered : subcommand_rows_of c.in-Ok.matches ≡ subcommand_of known_words words =
    (c.in-Ok.ensures.matches (ap is_simple told ∙ known_is_simple)).1 ∙ ap (λ app. subcommand_of app words) told in
    IfOk-weaker c.request_of.result _ _ (λ wanted said. subst (λ met. IsWantedBy met wanted) entered said) c.request_of.ensures
