use Rattle.std.proofs.Common.{arith}
use Rattle.std.proofs.lemmas.Str.Pattern.{ends_char}
use Rattle.tape_shelf.proofs.OnShelf.{empty_name, folder_name}
use Rattle.tape_shelf.proofs.new_file.names_no_file.Goals as goal

pub returns-then-is_empty : goal.returns-then-is_empty
returns-then-is_empty c = empty_name _ _ c.is_empty.ensures c.if-is_empty.ensures

pub returns-else-is_empty : goal.returns-else-is_empty
returns-else-is_empty c = folder_name _ _ c.if-is_empty.ensures (ends_char 47 _ _ c.ends_with.ensures.cases (omega arith))
