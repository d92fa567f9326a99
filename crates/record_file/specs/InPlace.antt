-- What may be written over a record where it is, so that the file is at no moment anything but the old record or the new one, or a front of it.
use Rattle.std.specs.Prelude.{◌≡◌, ◌⊎◌, ℕ, List, ◌++◌, IsTrue, MatchOption}
use Rattle.record_file.specs.declared.held_file.HeldFile.{HeldFile}

-- the text begins with this one
abbrev pub IsFrontOf : List ℕ → List ℕ → Type 0
IsFrontOf front text = (rest : List ℕ) × (front ++ rest ≡ text)

-- no byte that stands there becomes another one: the new text is a front of what stands there, or goes on behind all of it
abbrev pub ChangesNoByte : List ℕ → List ℕ → Type 0
ChangesNoByte text standing = IsFrontOf text standing ⊎ IsFrontOf standing text

-- what was read in a file that is held is this
abbrev pub HasRead : {T : Type 0} → (List ℕ → Type 0) → HeldFile T → Type 0
HasRead P held = MatchOption held.standing ⊥ (λ standing. P standing.items)

-- the text may be written over a file that is held: it is a device, or no byte that was read in it becomes another one
abbrev pub MayBeWrittenOver : {T : Type 0} → List ℕ → HeldFile T → Type 0
MayBeWrittenOver text held = IsTrue held.device ⊎ HasRead (ChangesNoByte text) held
