-- The command that the parser entered, by the parts that it gives of it.
use Rattle.std.proofs.Common.{◌≡◌, List, Option, Some, None, option_map, refl}
use Rattle.clap.specs.Matches.{subcommand_name_of}
use Rattle.clap.specs.Simple.{subcommand_rows_of}
use Rattle.clap.specs.Walk.{Row, Text}
use Rattle.clap.specs.declared.parser.matches.ArgMatches.{ArgMatches}

joined : {B : Type 0} (o : Option B) (both : B → Text × List Row) (command : Text) (found : List Row)
    → Some command ≡ option_map (λ b. (both b).0) o → Some found ≡ option_map (λ (p : Text × List Row). p.1) (option_map both o)
    → option_map both o ≡ Some (command, found)
joined None both command found named same = absurd (cc named)
joined (Some b) both command found named same =
    let name_is : command ≡ (both b).0 = cc named in
    let rows_are : found ≡ (both b).1 = cc same in
    rw (name_is, rows_are) refl

pub entered : (matches : ArgMatches) (command : Text) (found : List Row)
    → Some command ≡ subcommand_name_of matches → Some found ≡ option_map (λ (p : Text × List Row). p.1) (subcommand_rows_of matches)
    → subcommand_rows_of matches ≡ Some (command, found)
entered matches command found named same = joined _ _ command found named same
