-- The report of a world, as `dialogue` and `rehearse` print it (this project's own). Counts are those of the host's life.
use Rattle.std.specs.Prelude.{ℕ, ◌==◌, if◌then◌else◌, List, ◌++◌, length, codes, decimal, Option, Some, None}
use Rattle.std.specs.List.{flat_map}
use Rattle.octal.specs.Octal.{octal_text}
use Rattle.tape_image.specs.Word.{WordValue, merged}
use Rattle.odt_machine.specs.declared.mode.Mode.{Mode}
use Rattle.odt_machine.specs.declared.mode.Mode.TheVariants.{Prompt, Number, Opened, Typing, Running}
use Rattle.odt_machine.specs.Machine.{is_word, word_at}
use Rattle.host_core.specs.declared.phase.End.{End}
use Rattle.host_core.specs.Core.{ended}
use Rattle.host_core.specs.End.{end_name}
use Rattle.line_world.specs.Scene.{Scene}
use Rattle.byte_io.specs.Text.{line}

-- the characters sent and lost, the mishaps, and how many words of the plan are verified
abbrev pub life_text : Scene → List ℕ
life_text w =
    codes "sent " ++ decimal w.core.sent ++ codes " lost " ++ decimal w.lost ++ codes " spent " ++ decimal w.core.spent
    ++ codes " verified " ++ decimal w.core.verified ++ codes " of " ++ decimal (length w.core.plan.words)

-- how the life ended, if it has
abbrev pub end_text : Option End → List ℕ
end_text None = codes "none"
end_text (Some end) = end_name end

-- what the console is in the middle of
abbrev pub mode_name : Mode → List ℕ
mode_name Prompt = codes "Prompt"
mode_name (Number value digits) = codes "Number " ++ octal_text value ++ codes " " ++ decimal digits
mode_name (Opened address) = codes "Opened " ++ octal_text address
mode_name (Typing address value digits) = codes "Typing " ++ octal_text address ++ codes " " ++ octal_text value ++ codes " " ++ decimal digits
mode_name (Running address) = codes "Running " ++ octal_text address

-- what memory holds at a word's address, and whether the word stands there; or that no memory is there
abbrev pub held_text : WordValue → Option ℕ → List ℕ
held_text w None = codes " ------ absent"
held_text w (Some now) = codes " " ++ octal_text now ++ (if merged w now == now then codes " stands" else codes " differs")

-- the word that memory has at an address, if it has one there
abbrev pub held_at : List ℕ → ℕ → Option ℕ
held_at memory address = if is_word memory address then Some (word_at memory address) else None

-- a word's address, and what memory holds there
abbrev pub held_word_text : List ℕ → WordValue → List ℕ
held_word_text memory w = octal_text w.address ++ held_text w (held_at memory w.address)

-- the counts, the end, the console's mode, and a line for each word of the plan
abbrev pub report : Scene → List ℕ
report w =
    line (life_text w) ++ line (codes "end " ++ end_text (ended w.core.phase)) ++ line (codes "odt " ++ mode_name w.machine.mode)
    ++ flat_map (λ word. line (held_word_text w.machine.memory word)) w.core.plan.words
