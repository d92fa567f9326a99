-- What the record's file held before a load.
use Rattle.std.specs.Prelude.{ℕ, List, Contains, ⊤}
use Rattle.byte_io.specs.Text.{line_end}
use Rattle.load_record.specs.declared.version.Version.{Version}
use Rattle.load_record.specs.Lines.{header}
use Rattle.record_file.specs.InPlace.{ChangesNoByte, IsFrontOf}
use Rattle.record_file.specs.declared.old_record.Writable.{Writable}
use Rattle.record_file.specs.declared.old_record.Writable.TheVariants.{No, InPlace, Anew}

-- the text is the beginning of a version's header, or all of it
abbrev pub BeginsHeader : Version → List ℕ → Type 0
BeginsHeader version text = IsFrontOf text (header version)

-- a text that was never a record, cut off or whole: it has no line, and is the beginning of no header
pub record HoldsNoRecord (text : List ℕ) : Type 0 where
  pub no_line : Contains text line_end → ⊥
  pub no_header : (version : Version) → BeginsHeader version text → ⊥

-- a record may be written at all
abbrev pub IsWritable : Writable → Type 0
IsWritable No = ⊥
IsWritable other = ⊤

-- a record with this text, which may be begun anew so, may become another text: in place only one that changes no byte of it
abbrev pub MayBecome : Writable → List ℕ → List ℕ → Type 0
MayBecome No standing text = ⊥
MayBecome InPlace standing text = ChangesNoByte text standing
MayBecome Anew standing text = ⊤
