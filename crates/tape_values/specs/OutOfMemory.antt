-- Want of memory.
use Rattle.std.specs.Prelude.{ℕ, List, codes}

-- what is said of a growth of memory that was refused
abbrev pub memory_text : List ℕ
memory_text = codes "out of memory"
