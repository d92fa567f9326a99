-- What listening does: what is heard is written, and nothing is sent.
use Rattle.std.specs.Prelude.{◌≡◌, ◌⊎◌, ℕ, ◌+◌, ◌-◌, ◌^◌, List, [], ◌∷◌, ◌++◌, length, map, Option, Some, None, IsSome}
use Rattle.std.specs.Io.KnownBytes.{Appends}
use Rattle.host_core.specs.declared.heard.Heard.{Heard}
use Rattle.host_core.specs.declared.heard.Heard.TheVariants.{Got, Quiet}
use Rattle.host_devices.specs.Dialogue.{characters_of}
use Rattle.host_devices.specs.Told.{Gains}
use Rattle.host_devices.specs.declared.fault.LineFault.{LineFault}
use Rattle.host_devices.specs.declared.item.Item.{Item}
use Rattle.host_devices.specs.declared.item.Item.TheVariants.{Heard as Came}

-- how many silences stand in a row at the end of what was heard, where so many stood before it
abbrev pub silences_behind : ℕ → List Heard → ℕ
silences_behind before [] = before
silences_behind before (Got character ∷ more) = silences_behind 0 more
silences_behind before (Quiet ∷ more) = silences_behind (before + 1) more

-- what a line tells of what was said on it, and what the output holds that it is copied to, each where it tells
pub record Copying : Type 0 where
  pub said : Option (List Item)
  pub out : Option (List ℕ)

-- what this line and this output tell, read by what each of them says of itself
abbrev pub copying : {L W : Type 0} → (L → Option (List Item)) → (W → Option (List ℕ)) → L → W → Copying
copying told contents line out = record { said = told line; out = contents out }

-- this was heard, nothing was sent, and the characters of it were written
pub record IsCopied (heard : List Heard) (before after : Copying) : Type 0 where
  pub on_line : Gains before.said after.said (map Came heard)
  pub written : Appends before.out after.out (characters_of heard)

-- what was heard is all for one of these reasons: so many silences stand at its end, the line failed, or it is 2 ^ 64 - 1 long
abbrev pub IsAll : ℕ → Option LineFault → List Heard → Type 0
IsAll silences fault heard = (silences_behind 0 heard ≡ silences) ⊎ IsSome fault ⊎ (length heard ≡ 2 ^ 64 - 1)

-- a listening that came to its end
pub record IsListening (silences : ℕ) (fault : Option LineFault) (before after : Copying) : Type 0 where
  pub heard : List Heard
  pub copied : IsCopied heard before after
  pub all : IsAll silences fault heard

-- a character was heard that could not be written, or not be flushed; what was heard before it was copied
pub record IsCopiedInPart (before after : Copying) : Type 0 where
  pub heard : List Heard
  pub character : ℕ
  pub on_line : Gains before.said after.said (map Came (heard ++ Got character ∷ []))
  pub written : Appends before.out after.out (characters_of heard) ⊎ Appends before.out after.out (characters_of heard ++ character ∷ [])

-- one more thing was heard and copied, or none, since the line failed
abbrev pub IsNextCopied : Option LineFault → Copying → Copying → Option Heard → Type 0
IsNextCopied fault before after (Some heard) = IsCopied (heard ∷ []) before after
IsNextCopied fault before after None = IsSome fault × IsCopied [] before after
