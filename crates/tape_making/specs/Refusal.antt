-- What is said of words that are refused (this project's own).
use Rattle.std.specs.Prelude.{ℕ, List, ◌++◌, codes, decimal}
use Rattle.tape_making.specs.declared.refusal.WordsWhy.{WordsWhy}
use Rattle.tape_making.specs.declared.refusal.WordsWhy.TheVariants.{BadNumber, NoWords, OddAddress, PastTop, TooLong}
use Rattle.tape_making.specs.declared.refusal.Refusal.{Refusal}

-- the reason's name, as it is printed
abbrev pub why_text : WordsWhy → List ℕ
why_text BadNumber = codes "BadNumber"
why_text NoWords = codes "NoWords"
why_text OddAddress = codes "OddAddress"
why_text PastTop = codes "PastTop"
why_text TooLong = codes "TooLong"

-- the line and the reason
abbrev pub refusal_text : Refusal → List ℕ
refusal_text refusal = codes "words refused at line " ++ decimal refusal.line ++ codes ": " ++ why_text refusal.why
