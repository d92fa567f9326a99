-- The words of the command line: the commands, and what may stand behind each (this project's own).
use Rattle.std.specs.Prelude.{ℕ, List, [], ◌∷◌, map, codes}
use Rattle.command_tables.specs.declared.arguments.Argument.{Argument}
use Rattle.command_tables.specs.declared.arguments.Form.{Form}
use Rattle.command_tables.specs.declared.arguments.Form.TheVariants as form
use Rattle.command_tables.specs.declared.commands.KnownCommand.{KnownCommand}

-- what is given with an argument or an option, and when it may stand there: a number within two, another that is needed or that can't stand beside it
pub data Kind : Type 0 where
  Needed : Kind
  Allowed : Kind
  Paired : List ℕ → Kind
  Repeated : Kind
  Worded : Kind
  Numeric : ℕ → ℕ → Kind
  Plain : Kind
  Beside : List ℕ → Kind
  Without : List ℕ → Kind

-- the kind that a form is: what help calls a value is not looked at
abbrev pub kind_of : Form → Kind
kind_of form.Required = Needed
kind_of form.Optional = Allowed
kind_of (form.OptionalBeside other) = Paired other.now
kind_of form.Further = Repeated
kind_of (form.Text _) = Worded
kind_of (form.Number _ least most) = Numeric least most
kind_of (form.Digit _ most) = Numeric 0 most
kind_of (form.LongNumber _ most) = Numeric 0 most
kind_of form.Flag = Plain
kind_of (form.FlagBeside other) = Beside other.now
kind_of (form.FlagWithout other) = Without other.now

-- an argument or an option
pub record Word : Type 0 where
  pub name : List ℕ
  pub kind : Kind

abbrev pub word_of : Argument → Word
word_of argument = record { name = argument.name.now; kind = kind_of argument.form }

-- a command: what is typed, and what may stand behind it
pub record CommandWords : Type 0 where
  pub word : List ℕ
  pub behind : List Word

abbrev pub command_of : KnownCommand → CommandWords
command_of known = record { word = known.word.now; behind = map word_of known.arguments.now }

-- ---- the tables

-- an argument that has to be there
abbrev pub needed : List ℕ → Word
needed name = record { name = name; kind = Needed }

-- one that may be there
abbrev pub allowed : List ℕ → Word
allowed name = record { name = name; kind = Allowed }

-- one that may be there, and needs this other then
abbrev pub paired : List ℕ → List ℕ → Word
paired name other = record { name = name; kind = Paired other }

-- one that may be there any number of times
abbrev pub repeated : List ℕ → Word
repeated name = record { name = name; kind = Repeated }

-- an option with a text
abbrev pub option : List ℕ → Word
option name = record { name = name; kind = Worded }

-- an option with a number, the least and the greatest that it may be
abbrev pub numeric : List ℕ → ℕ → ℕ → Word
numeric name least most = record { name = name; kind = Numeric least most }

-- an option without a value
abbrev pub flag : List ℕ → Word
flag name = record { name = name; kind = Plain }

-- one that needs this other
abbrev pub flag_beside : List ℕ → List ℕ → Word
flag_beside name other = record { name = name; kind = Beside other }

-- one that can't stand beside this other
abbrev pub flag_without : List ℕ → List ℕ → Word
flag_without name other = record { name = name; kind = Without other }

-- a command of this word, and what may stand behind it
abbrev pub command : List ℕ → List Word → CommandWords
command word behind = record { word = word; behind = behind }

-- the commands at a machine
abbrev pub machine_commands : List CommandWords
machine_commands =
    command (codes "load") (
    needed (codes "TAPE") ∷ needed (codes "LINE") ∷ repeated (codes "MORE")
    ∷ option (codes "record") ∷ flag_beside (codes "recheck") (codes "record") ∷ flag (codes "careful") ∷ flag (codes "fast")
    ∷ option (codes "start") ∷ flag_without (codes "no-start") (codes "start")
    ∷ numeric (codes "listen") 1 65_535 ∷ numeric (codes "patience") 0 1000 ∷ numeric (codes "quiet") 1 60_000 ∷ flag (codes "log") ∷ []
    )
    ∷ command (codes "verify") (
    needed (codes "TAPE") ∷ needed (codes "LINE") ∷ repeated (codes "MORE") ∷ flag (codes "careful")
    ∷ numeric (codes "patience") 0 100_000 ∷ numeric (codes "quiet") 1 60_000 ∷ flag (codes "log") ∷ []
    )
    ∷ command (codes "save") (
    needed (codes "FILE") ∷ needed (codes "LINE") ∷ needed (codes "FROM") ∷ needed (codes "TO") ∷ option (codes "start") ∷ flag (codes "once")
    ∷ numeric (codes "patience") 0 100_000 ∷ numeric (codes "quiet") 1 60_000 ∷ flag (codes "log") ∷ []
    )
    ∷ command (codes "probe") (
    needed (codes "LINE") ∷ option (codes "address")
    ∷ numeric (codes "patience") 0 1000 ∷ numeric (codes "quiet") 1 60_000 ∷ flag (codes "log") ∷ []
    )
    ∷ command (codes "memory") (
    needed (codes "LINE") ∷ paired (codes "FROM") (codes "TO") ∷ allowed (codes "TO") ∷ numeric (codes "every") 1 28_672
    ∷ numeric (codes "patience") 0 1000 ∷ numeric (codes "quiet") 1 60_000 ∷ flag (codes "log") ∷ []
    )
    ∷ []

-- those about no machine
abbrev pub tape_commands : List CommandWords
tape_commands =
    command (codes "make") (needed (codes "FILE") ∷ allowed (codes "WORDS") ∷ option (codes "start") ∷ [])
    ∷ command (codes "check") (needed (codes "TAPE") ∷ repeated (codes "MORE") ∷ flag (codes "blocks") ∷ [])
    ∷ command (codes "dialogue") (
    needed (codes "TAPE") ∷ repeated (codes "MORE")
    ∷ option (codes "start") ∷ flag_without (codes "no-start") (codes "start") ∷ numeric (codes "words") 0 28_672 ∷ numeric (codes "style") 0 7 ∷ []
    )
    ∷ command (codes "rehearse") (needed (codes "TAPE") ∷ needed (codes "SCRIPT") ∷ repeated (codes "MORE") ∷ [])
    ∷ command (codes "type") (numeric (codes "words") 0 28_672 ∷ numeric (codes "style") 0 7 ∷ [])
    ∷ []
