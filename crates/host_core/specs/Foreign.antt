-- Characters that no loss explains: they are in no answer that the host can await where it stands, whatever of it is lost (this project's choice).
use Rattle.std.specs.Prelude.{ℕ, ◌+◌, ◌==◌, ◌||◌, not, Bool, true, false, if◌then◌else◌, List, [], ◌∷◌}
use Rattle.octal.specs.Octal.{digit_of, is_digit}
use Rattle.host_core.specs.Console.{carriage_return, go, line_feed, prompt, question_mark, resynchronise_of, slash, space}
use Rattle.host_core.specs.Core.{Core, word_under_way, start_of}
use Rattle.host_core.specs.declared.heard.Heard.{Heard}
use Rattle.host_core.specs.declared.heard.Heard.TheVariants.{Got, Quiet}
use Rattle.host_core.specs.declared.phase.Phase.{Phase}
use Rattle.host_core.specs.declared.phase.Phase.TheVariants.{Settle, Sync, Address, Slash, Before, Value, Deposit, Return, Start, Go, Ended}
use Rattle.host_core.specs.PhaseTable.{move}

-- a new line with the prompt has the character
abbrev pub in_prompt : ℕ → Bool
in_prompt c = c == carriage_return || (c == line_feed || c == prompt)

-- a refusal has it
abbrev pub in_refusal : ℕ → Bool
in_refusal c = c == question_mark || in_prompt c

-- a reading has it
abbrev pub in_reading : ℕ → Bool
in_reading c = c == space || is_digit c

-- the answer that a phase awaits may have the character; between answers whatever was under way may come
abbrev pub may_come : Bool → (address start : ℕ) → Phase → ℕ → Bool
may_come careful address start Settle c = true
may_come careful address start (Sync place) c = c == resynchronise_of careful || in_refusal c
may_come careful address start (Address visit place) c = c == digit_of address place
may_come careful address start (Slash visit) c = c == slash || (in_reading c || in_refusal c)
may_come careful address start (Before visit) c = in_reading c || in_refusal c
may_come careful address start (Value visit value place) c = in_reading c
may_come careful address start (Deposit deposit value place) c = c == digit_of value place
may_come careful address start (Return reason place) c = in_prompt c
may_come careful address start (Start place) c = c == digit_of start place
may_come careful address start Go c = c == go
may_come careful address start (Ended end) c = true

-- no loss explains what is heard
abbrev pub is_foreign : Core → Heard → Bool
is_foreign core (Got c) = not (may_come core.careful (word_under_way core).address (start_of core) core.phase c)
is_foreign core Quiet = false

-- how many such characters are in a list of heard things
abbrev pub foreign_count : Core → List Heard → ℕ
foreign_count core [] = 0
foreign_count core (heard ∷ more) = (if is_foreign core heard then 1 else 0) + foreign_count (move core heard).next more
