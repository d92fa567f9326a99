use Rattle.std.proofs.Common.{rules}
use Rattle.record_file.specs.Folder.{Current}
use Rattle.record_file.proofs.Folders.{no_slash, root_of, named_of}
use Rattle.record_file.proofs.beside.folder_of.Goals as goal

pub returns-in-None : goal.returns-in-None
returns-in-None c = Current (no_slash _ c.in-None.ensures.cases)

pub returns-in-Some : goal.returns-in-Some
returns-in-Some c = root_of _ _ _ c.in-Some.ensures.cases (search rules)

pub returns-in-Some-2 : goal.returns-in-Some-2
returns-in-Some-2 c = named_of _ _ _ c.in-Some.ensures.cases (search rules)
