-- What the parser's error comes to (this project's own).
use Rattle.std.specs.Prelude.{◌≡◌, ◌⊎◌, ⊤}
use Rattle.clap.specs.declared.error.kind.ErrorKind.{ErrorKind}
use Rattle.clap.specs.declared.error.kind.ErrorKind.TheVariants as kind
use Rattle.command_line.specs.declared.no_request.NoRequest.{NoRequest}
use Rattle.command_line.specs.declared.no_request.NoRequest.TheVariants.{Help, Refused, NoMemory}

-- the parser's answer is the text of help or the version
abbrev pub IsHelp : ErrorKind → Type 0
IsHelp k = (k ≡ kind.DisplayHelp) ⊎ (k ≡ kind.DisplayVersion)

-- a text was asked for, or there was no memory for it
abbrev pub IsHelpText : NoRequest → Type 0
IsHelpText (Help text) = ⊤
IsHelpText NoMemory = ⊤
IsHelpText other = ⊥

-- the words are refused, or there was no memory to say why
abbrev pub IsRefusal : NoRequest → Type 0
IsRefusal (Refused text) = ⊤
IsRefusal NoMemory = ⊤
IsRefusal other = ⊥
