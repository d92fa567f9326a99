-- That a name of a request is out of place (this project's own).
use Rattle.std.specs.Prelude.{◌≡◌, ◌⊎◌, ℕ, List, [], ◌∷◌, ◌++◌, map, Option, Some, None}
use Rattle.std.specs.Borrow.{Bor}
use Rattle.endings.specs.declared.failure.Failure.{Failure}
use Rattle.endings.specs.declared.failure.Failure.TheVariants.{Misplaced}
use Rattle.endings.specs.declared.place.Place.{Place}
use Rattle.endings.specs.declared.place.Place.TheVariants as place
use Rattle.request_values.specs.declared.request.MachineRequest.TheVariants.{Load, Verify, Save, Probe, Memory}
use Rattle.request_values.specs.declared.request.PrintRequest.{PrintRequest}
use Rattle.request_values.specs.declared.request.PrintRequest.TheVariants.{Check, Dialogue, Rehearse}
use Rattle.request_values.specs.declared.request.Request.{Request}
use Rattle.request_values.specs.declared.request.Request.TheVariants.{Tape, Machine}
use Rattle.request_values.specs.declared.request.TapeRequest.TheVariants.{Print, Make}

-- a name, and the place where it stands
abbrev pub NameAt : Type 0
NameAt = Bor (List ℕ) × Place

-- tapes of these names
abbrev pub tapes_at : List (Bor (List ℕ)) → List NameAt
tapes_at names = map (λ name. (name, place.Tape)) names

-- a record, where there is to be one
abbrev pub record_at : Option (Bor (List ℕ)) → List NameAt
record_at None = []
record_at (Some name) = (name, place.Record) ∷ []

-- the names of a request that only prints, each at its place
abbrev pub inputs_at : PrintRequest → List NameAt
inputs_at (Check names options) = tapes_at names.items
inputs_at (Dialogue names stage) = tapes_at names.items
inputs_at (Rehearse rehearsal) = (rehearsal.tape, place.Tape) ∷ (rehearsal.script, place.Script) ∷ tapes_at rehearsal.more.items
inputs_at other = []

-- the names of a request, each at its place
abbrev pub names_at : Request → List NameAt
names_at (Machine (Load tapes load)) = (load.line, place.LineOfLoad) ∷ (tapes_at tapes.items ++ record_at load.record)
names_at (Machine (Verify tapes look)) = (look.line, place.LineOfVerify) ∷ tapes_at tapes.items
names_at (Machine (Save save)) = (save.look.line, place.LineOfSave) ∷ []
names_at (Machine (Probe probe)) = (probe.look.line, place.LineOfProbe) ∷ []
names_at (Machine (Memory test)) = (test.look.line, place.LineOfMemory) ∷ []
names_at (Tape (Make make)) = (make.words, place.Words) ∷ []
names_at (Tape (Print request)) = inputs_at request

-- a name at its place is one of these
abbrev pub IsAmong : NameAt → List NameAt → Type 0
IsAmong name [] = ⊥
IsAmong name (other ∷ names) = (name ≡ other) ⊎ IsAmong name names

-- the failure says that one of these names can't be what its place asks for
abbrev pub IsOfPlace : List NameAt → Failure → Type 0
IsOfPlace names (Misplaced name place) = IsAmong (name, place) names
IsOfPlace names other = ⊥
