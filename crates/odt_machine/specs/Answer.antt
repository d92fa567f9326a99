-- The texts that the console answers with (the console ODT chapter of DEC's Microcomputer
-- Processor Handbook; what a style decides is this project's choice).
use Rattle.std.specs.Prelude.{ℕ, if◌then◌else◌, List, [], ◌∷◌, ◌++◌}
use Rattle.octal.specs.Octal.{octal_text}
use Rattle.odt_machine.specs.Character.{carriage_return, line_feed, prompt, question_mark, space}
use Rattle.odt_machine.specs.declared.style.Style.{Style}

-- the most characters of an answer: the `/` that opened a word, a space, six digits and a space
abbrev pub longest_answer : ℕ
longest_answer = 9

-- a new line with the prompt: one carriage return, or two by the style, a line feed and `@`
abbrev pub prompt_text : Style → List ℕ
prompt_text s = if s.two_returns then carriage_return ∷ carriage_return ∷ line_feed ∷ prompt ∷ [] else carriage_return ∷ line_feed ∷ prompt ∷ []

-- a command that cannot be done: its key, `?`, and a new prompt
abbrev pub refused_text : Style → ℕ → List ℕ
refused_text s c = c ∷ question_mark ∷ prompt_text s

-- an illegal key: the key itself where the style echoes it, `?`, and a new prompt
abbrev pub illegal_text : Style → ℕ → List ℕ
illegal_text s c = if s.echo_illegal then c ∷ question_mark ∷ prompt_text s else question_mark ∷ prompt_text s

-- what follows the `/` that opened a word: a space where the style has one, six digits, a space
abbrev pub word_text : Style → ℕ → List ℕ
word_text s word = if s.space_before then space ∷ octal_text word ++ space ∷ [] else octal_text word ++ space ∷ []
