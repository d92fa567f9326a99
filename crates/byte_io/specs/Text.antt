-- Texts that commands print and files hold (this project's own).
use Rattle.std.specs.Prelude.{ℕ, List, [], ◌∷◌, ◌++◌}

-- what ends a line of a text: LF
abbrev pub line_end : ℕ
line_end = 10

-- a text, and the end of its line
abbrev pub line : List ℕ → List ℕ
line text = text ++ line_end ∷ []

-- what stands between the parts of a file's name: `/`
abbrev pub name_slash : ℕ
name_slash = 47
