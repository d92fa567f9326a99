-- What the parser is told, one argument or one command after another.
use Rattle.std.proofs.Common.{◌≡◌, ◌<◌, ◌+◌, ◌&&◌, ℕ, Bool, true, false, not, List, [], ◌∷◌, ◌++◌, map, length, take, get_or, fold, refl, sym, ap, ap₂, ◌∙◌}
use Rattle.std.proofs.lemmas.List.{map_more}
use Rattle.std.proofs.lemmas.List.Sums.{fold_more}
use Rattle.clap.specs.Words.{AddsArg, AddsSubcommand, app_of, rule_of}
use Rattle.clap.specs.Simple.{App, Shape, is_simple, with_subcommand}
use Rattle.clap.specs.Walk.{Rule, Text}
use Rattle.clap.specs.declared.builder.arg.Arg.{Arg}
use Rattle.clap.specs.declared.builder.command.Command.{Command}
use Rattle.command_tables.specs.Words.{CommandWords, command_of, machine_commands, tape_commands, word_of}
use Rattle.command_tables.specs.declared.arguments.Argument.{Argument}
use Rattle.command_tables.specs.declared.commands.KnownCommand.{KnownCommand}
use Rattle.command_line.specs.Arguments.{rule_told}
use Rattle.command_line.specs.Commands.{IsToldAll, command_told, known_words, program_told, shape_with, with_command, with_words}

-- what is told of an argument of the tables
abbrev pub argument_rule : Argument → Rule
argument_rule argument = rule_told (word_of argument)

-- a command has one argument more
pub told_argument : (name : Text) (old new : Command) (arg : Arg) (all : List Argument) (i : ℕ) (d : Argument) → i < length all
    → AddsArg old arg new → arg.global ≡ false → rule_of arg ≡ argument_rule (get_or all i d)
    → (app_of old).top ≡ shape_with name (map argument_rule (take i all)) → (app_of new).top ≡ shape_with name (map argument_rule (take (i + 1) all))
told_argument name old new arg all i d more adds own told so_far =
    ap (λ a. a.top) (adds.shape own)
    ∙ ap₂ (λ (s : Shape) (r : Rule). record s { rules = s.rules ++ r ∷ [] }) so_far told
    ∙ ap (shape_with name) (sym (map_more argument_rule all i d more))

-- the third of such tests
third : (a b c d : Bool) → a && (b && (not c && d)) ≡ true → c ≡ false
third true true false d all = refl
third true true true d all = absurd (cc all)
third true false c d all = absurd (cc all)
third false b c d all = absurd (cc all)

-- a program has one command more
pub told_command : (first : App) (old sub new : Command) (all : List KnownCommand) (i : ℕ) (d : KnownCommand) → i < length all
    → AddsSubcommand old sub new → (app_of sub).top ≡ command_told (get_or all i d)
    → app_of old ≡ fold with_command first (take i all) → app_of new ≡ fold with_command first (take (i + 1) all)
told_command first old sub new all i d more adds told so_far =
    adds.shape (third _ _ _ _ (ap (λ (s : Shape). s.is_plain) told)) ∙ ap₂ with_subcommand so_far told ∙ sym (fold_more with_command first all i d more)

-- what is made of each, and then of that
made_of_both : {A B C : Type 0} (g : B → C) (f : A → B) (xs : List A) → map (λ x. g (f x)) xs ≡ map g (map f xs)
made_of_both g f [] = refl
made_of_both g f (x ∷ xs) = ap (λ rest. g (f x) ∷ rest) (made_of_both g f xs)

-- what the parser is told of commands of the tables is what it is told of their words
by_words : (app : App) (commands : List KnownCommand) → fold with_command app commands ≡ fold with_words app (map command_of commands)
by_words app [] = refl
by_words app (known ∷ others) =
    ap (λ shape. fold with_command (with_subcommand app shape) others) (ap (shape_with known.word.now) (made_of_both rule_told word_of known.arguments.now))
    ∙ by_words (with_words app (command_of known)) others

told_words : (before after : App) (commands : List KnownCommand) (words : List CommandWords) → IsToldAll before after commands → map command_of commands ≡ words
    → after ≡ fold with_words before words
told_words before after commands words all table = all.told ∙ by_words before commands ∙ ap (fold with_words before) table

-- a program that was told of the one table, and then of the other, knows all words
pub told_both : (bare some all : App) (first second : List KnownCommand) → IsToldAll some all second → IsToldAll bare some first → bare ≡ program_told
    → map command_of first ≡ machine_commands → map command_of second ≡ tape_commands → all ≡ known_words
told_both bare some all first second last before begun machine tape =
    told_words some all second tape_commands last tape
    ∙ ap (λ app. fold with_words app tape_commands) (told_words bare some first machine_commands before machine ∙ ap (λ app. fold with_words app machine_commands) begun)

-- all that the program knows is of the kind of which the parser says what it finds
pub known_is_simple : is_simple known_words ≡ true
known_is_simple = refl
