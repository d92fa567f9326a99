-- What a file that was opened has left.
use Rattle.std.specs.Prelude.{ℕ, Bool, true, false, List, [], Option, option_map}
use Rattle.std.specs.Io.Buffered.{reader_remaining}
use Rattle.std.specs.Io.KnownBytes.{prepend_known}
use Rattle.input_files.specs.declared.source.Ahead.{Ahead}
use Rattle.input_files.specs.declared.source.Source.{Source}
use Rattle.input_files.specs.declared.source.Source.TheVariants.{Open, Closed}

-- what a file has left from there on: nothing, if it has ended there
abbrev pub left_behind : Bool → Option (List ℕ) → Option (List ℕ)
left_behind true known = option_map (λ rest. []) known
left_behind false known = known

-- what a file that was read ahead will give: what was read and not passed on, and behind that what the file has left
abbrev pub ahead_remaining : {F : Type 0} → (F → Option (List ℕ)) → Ahead F → Option (List ℕ)
ahead_remaining remaining ahead = prepend_known ahead.text.items (left_behind ahead.has_ended (reader_remaining remaining ahead.file.value))

-- what a file will give its reader, as far as its type tells
abbrev pub source_remaining : {F : Type 0} → (F → Option (List ℕ)) → Source F → Option (List ℕ)
source_remaining remaining (Open role file) = reader_remaining remaining file
source_remaining remaining (Closed ahead) = ahead_remaining remaining ahead
