-- What a probe prints of a console's style and of small letters (this project's own).
use Rattle.std.specs.Prelude.{ℕ, Bool, true, false, ◌&&◌, if◌then◌else◌, List, [], ◌++◌, codes, decimal, Option, Some, None}
use Rattle.odt_machine.specs.Style.{style_number}
use Rattle.odt_machine.specs.declared.style.Style.{Style}
use Rattle.byte_io.specs.Text.{line}
use Rattle.trial_core.specs.declared.habit.Habit.{Habit}
use Rattle.trial_core.specs.declared.habit.Habit.TheVariants.{Unseen, Yes, Mixed}
use Rattle.trial_core.specs.declared.habit.Seen.{Seen}
use Rattle.trial_core.specs.declared.letter.SmallLetters.{SmallLetters}
use Rattle.trial_core.specs.declared.letter.SmallLetters.TheVariants.{NotKnown, Kept, Folded}
use Rattle.probe_report.specs.declared.findings.TrialFindings.{TrialFindings}

-- the thing was seen, or seen to be missing
abbrev pub is_seen : Habit → Bool
is_seen Unseen = false
is_seen habit = true

-- the console does it, at least from time to time
abbrev pub is_done : Habit → Bool
is_done Yes = true
is_done Mixed = true
is_done habit = false

-- the style that was seen
abbrev pub style_of : Seen → Style
style_of seen = record {
  space_before = is_done seen.space_before;
  two_returns = is_done seen.two_returns;
  echo_illegal = is_done seen.echo_illegal;
}

-- its number, that of `--style`, is printed where all three were seen
abbrev pub number_lines : Seen → List ℕ
number_lines seen =
    if is_seen seen.space_before && is_seen seen.two_returns && is_seen seen.echo_illegal
    then line (codes "style " ++ decimal (style_number (style_of seen)))
    else []

-- a character that was lost looks like another style
abbrev pub mishap_text : Bool → List ℕ
mishap_text had_mishap = if had_mishap then codes ", which says nothing of the console after a mishap" else []

-- a thing that was seen both ways
abbrev pub mixed_lines : List ℕ → Habit → Bool → List ℕ
mixed_lines name Mixed had_mishap = line (name ++ codes " comes from time to time" ++ mishap_text had_mishap)
mixed_lines name habit had_mishap = []

-- the style's number, and what was seen both ways
abbrev pub seen_lines : Seen → Bool → List ℕ
seen_lines seen had_mishap =
    number_lines seen
    ++ mixed_lines (codes "the second CR") seen.two_returns had_mishap
    ++ mixed_lines (codes "the space before a word") seen.space_before had_mishap
    ++ mixed_lines (codes "the echo of an illegal key") seen.echo_illegal had_mishap

-- whether a small letter comes through as it is typed: a console that folds it to a capital may take a letter of a fast load for a command
abbrev pub letters_text : SmallLetters → List ℕ
letters_text NotKnown = codes "keeps small letters not known"
letters_text Kept = codes "keeps small letters yes"
letters_text Folded = codes "keeps small letters no: do not load with --fast"

-- of a trial, if there was one
abbrev pub style_lines : Option TrialFindings → List ℕ
style_lines None = []
style_lines (Some trial) = seen_lines trial.seen trial.had_mishap ++ line (letters_text trial.seen.small_letters)
