-- The small letter that a trial types at the prompt (this project's choice).
use Rattle.std.specs.Prelude.{ℕ}

-- `a`, which is no command of the console, and as a capital none either
abbrev pub small_letter : ℕ
small_letter = 97

-- `A`, what a console makes of it that folds small letters to capitals
abbrev pub capital_letter : ℕ
capital_letter = 65
