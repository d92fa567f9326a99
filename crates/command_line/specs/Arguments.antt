-- What the parser is told of the arguments and options (this project's own).
use Rattle.std.specs.Prelude.{true, false, Some, pos}
use Rattle.clap.specs.Lexer.{usize_max}
use Rattle.clap.specs.Simple.{new_rule}
use Rattle.clap.specs.Walk.{Rule, Text}
use Rattle.clap.specs.declared.builder.action.ArgAction.TheVariants.{Append, SetTrue}
use Rattle.clap.specs.declared.builder.value_parser.ValueParser.TheVariants.{Signed}
use Rattle.command_tables.specs.Words.{Kind, Word}
use Rattle.command_tables.specs.Words.Kind.{Needed, Allowed, Paired, Repeated, Worded, Numeric, Plain, Beside, Without}

-- an option with a text
abbrev pub option : Text → Rule
option name = record (new_rule name) { long = Some name; value_names = 1 }

-- an option without a value
abbrev pub flag : Text → Rule
flag name = record (new_rule name) { long = Some name; action = Some SetTrue }

-- what is told of a kind: where another argument or option is needed or in the way, that it is not free
abbrev pub rule_of_kind : Kind → Text → Rule
rule_of_kind Needed name = record (new_rule name) { required = true }
rule_of_kind Allowed name = new_rule name
rule_of_kind (Paired _) name = record (new_rule name) { is_free = false }
rule_of_kind Repeated name = record (new_rule name) { action = Some Append; range = Some (record { start_inclusive = 0; end_inclusive = usize_max }) }
rule_of_kind Worded name = option name
rule_of_kind (Numeric least most) name = record (option name) { parser = Some (Signed (pos least) (pos most)) }
rule_of_kind Plain name = flag name
rule_of_kind (Beside _) name = record (flag name) { is_free = false }
rule_of_kind (Without _) name = record (flag name) { is_free = false }

-- what is told of an argument or an option
abbrev pub rule_told : Word → Rule
rule_told word = rule_of_kind word.kind word.name
