-- Which words ask for help (this project's own).
use Rattle.std.specs.Prelude.{◌≡◌, ◌⊎◌, ◌||◌, Bool, true, nat_eq, List, [], ◌∷◌, codes, ⊤}
use Rattle.std.specs.Cmp.Lexicographic.{pointwise}
use Rattle.std.specs.List.{starts_with}
use Rattle.clap.specs.Walk.{Text}
use Rattle.command_line.specs.declared.no_request.NoRequest.{NoRequest}
use Rattle.command_line.specs.declared.no_request.NoRequest.TheVariants.{Help}

-- a word asks for help or for the version: `help`, or one of the parser's own options, behind whose letter others may stand
abbrev pub asks_for_help : Text → Bool
asks_for_help word =
    (((pointwise nat_eq word (codes "help") || pointwise nat_eq word (codes "--help")) || pointwise nat_eq word (codes "--version"))
    || starts_with nat_eq word (codes "-h")) || starts_with nat_eq word (codes "-V")

-- one of the words does
abbrev pub AskForHelp : List Text → Type 0
AskForHelp [] = ⊥
AskForHelp (word ∷ words) = (asks_for_help word ≡ true) ⊎ AskForHelp words

-- help is an answer to words that ask for it alone
abbrev pub IsAnswerTo : List Text → NoRequest → Type 0
IsAnswerTo words (Help text) = AskForHelp words
IsAnswerTo words other = ⊤
