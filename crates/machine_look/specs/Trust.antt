-- Whether what was read may be believed, although the line may have changed characters (this project's own).
use Rattle.std.specs.Prelude.{ℕ, Bool, true, ◌==◌, ◌&&◌}
use Rattle.reading_core.specs.Reader.{Reader}
use Rattle.reading_core.specs.declared.care.Care.{Care}
use Rattle.reading_core.specs.declared.care.Care.TheVariants.{Once, Twice, TwiceWhereOther}

-- a host that heard so many characters that no loss explains is believed where it looked at each word twice, else only where there was none
abbrev pub is_trusted : Care → (foreign : ℕ) → Bool
is_trusted Once foreign = foreign == 0
is_trusted Twice foreign = true
is_trusted TwiceWhereOther foreign = foreign == 0

-- a save whose words are looked at with this care is, where both its looks at samples and its reading are
abbrev pub are_trusted : Care → (looks last : Reader) → Bool
are_trusted care looks last = is_trusted care looks.foreign && is_trusted care last.foreign
