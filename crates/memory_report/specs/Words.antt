-- What was seen of tested words, bank by bank (this project's own).
use Rattle.std.specs.Prelude.{ℕ, ◌/◌, Bool, true, ◌==◌, ◌&&◌, not, if◌then◌else◌, List, Option, Some, None, length}
use Rattle.std.specs.List.{filter, fold}
use Rattle.memory_core.specs.Stage.{complement}
use Rattle.memory_core.specs.declared.seen.Seen.{Seen}
use Rattle.memory_core.specs.declared.seen.Seen.TheVariants.{Unsteady, Tested}
use Rattle.memory_report.specs.declared.findings.Word.{Word}
use Rattle.memory_report.specs.declared.verdict.Verdict.{Verdict}
use Rattle.memory_report.specs.Verdict.{and_then, verdict}

-- the word did not hold both numbers that it was given, or its looks read two
abbrev pub fails : Seen → Bool
fails (Unsteady first second) = true
fails (Tested r) = not (r.turned == complement r.old && r.back == r.old)

abbrev pub is_bad : Word → Bool
is_bad word = fails word.seen

-- a bank has 4,096 words
abbrev pub bank_of : ℕ → ℕ
bank_of address = address / 0o20000

abbrev pub is_in : ℕ → Word → Bool
is_in bank word = bank_of word.address == bank

-- what was seen of a bit, once it was seen in one word more, which may say nothing of it
abbrev pub seen_also : Option Verdict → Option Verdict → Option Verdict
seen_also None next = next
seen_also (Some earlier) None = Some earlier
seen_also (Some earlier) (Some next) = Some (and_then earlier next)

-- words of other banks say nothing of this one
abbrev pub join : ℕ → ℕ → Option Verdict → Word → Option Verdict
join bank bit seen word = if is_in bank word then seen_also seen (verdict word.seen bit) else seen

-- what was seen of a bit in all tested words of a bank
abbrev pub column : List Word → ℕ → ℕ → Option Verdict
column words bank bit = fold (join bank bit) None words

-- how many words of a bank were tested, how many of them do not hold, and how many of all do not
abbrev pub tested_in : List Word → ℕ → ℕ
tested_in words bank = length (filter (is_in bank) words)

abbrev pub bad_in : List Word → ℕ → ℕ
bad_in words bank = length (filter (λ word. is_in bank word && is_bad word) words)

abbrev pub count_bad : List Word → ℕ
count_bad words = length (filter is_bad words)

abbrev pub all_hold : List Word → Bool
all_hold words = count_bad words == 0

-- the address in a bank at which nothing answered: the last such, if there are more
abbrev pub gap_also : ℕ → Option ℕ → ℕ → Option ℕ
gap_also bank found gap = if bank_of gap == bank then Some gap else found

abbrev pub gap_in : List ℕ → ℕ → Option ℕ
gap_in gaps bank = fold (gap_also bank) None gaps
