-- The names of the calls that begin a record beside the old one.
use Rattle.std.proofs.Common.{◌≡◌, Bool, true, false, List, ℕ, [], ◌∷◌, ◌++◌, Some, refl}
use Rattle.std.specs.Prelude.{⊤}
use Rattle.load_record.specs.Keeper.{Lasts}
use Rattle.record_file.specs.Beginning.{Course, IsBeside, Whole, Unsynced, NotRenamed, Stopped, new_name}
use Rattle.record_file.specs.DiskStep.{DiskStep, Did, Failed, FindFile, Open, Hold, Link, Rename, Remove, Cut, LeaveAllBut}
use Rattle.record_file.specs.declared.disk.Access.TheVariants.{ReadWrite, New, Created}
use Rattle.record_file.specs.declared.made.Made.{Made}

-- a step makes, renames and removes the new file alone, which has the text when it is renamed over the record; and cuts none
abbrev pub HasNames : List ℕ → List ℕ → DiskStep → Type 0
HasNames name text (Did (Open New n)) = n ≡ new_name name
HasNames name text (Did (Link from to)) = ⊥
HasNames name text (Did (Rename from to left)) = (from ≡ new_name name) × (to ≡ name) × Lasts left (Some text)
HasNames name text (Did (Remove n)) = n ≡ new_name name
HasNames name text (Did (Cut wrote n)) = ⊥
HasNames name text other = ⊤

abbrev pub HaveNames : List ℕ → List ℕ → List DiskStep → Type 0
HaveNames name text [] = ⊤
HaveNames name text (step ∷ steps) = HasNames name text step × HaveNames name text steps

both : (name text : List ℕ) (xs ys : List DiskStep) → HaveNames name text xs → HaveNames name text ys → HaveNames name text (xs ++ ys)
both name text [] ys first then = then
both name text (x ∷ xs) ys first then = (first.0, both name text xs ys first.1 then)

pub front_of : (name text : List ℕ) (xs ys : List DiskStep) → HaveNames name text (xs ++ ys) → HaveNames name text xs
front_of name text [] ys have = tt
front_of name text (x ∷ xs) ys have = (have.0, front_of name text xs ys have.1)

pub back_of : (name text : List ℕ) (xs ys : List DiskStep) → HaveNames name text (xs ++ ys) → HaveNames name text ys
back_of name text [] ys have = have
back_of name text (x ∷ xs) ys have = back_of name text xs ys have.1

-- a step leaves each file as it is but one of this name
abbrev pub LeavesAllBut : List ℕ → DiskStep → Type 0
LeavesAllBut own (Did (Open New name)) = name ≡ own
LeavesAllBut own (Did (Open Created name)) = ⊥
LeavesAllBut own (Did (Link from to)) = ⊥
LeavesAllBut own (Did (Rename from to left)) = ⊥
LeavesAllBut own (Did (Remove name)) = name ≡ own
LeavesAllBut own (Did (Cut written length)) = ⊥
LeavesAllBut own other = ⊤

abbrev pub EachLeaves : List ℕ → List DiskStep → Type 0
EachLeaves own [] = ⊤
EachLeaves own (step ∷ steps) = LeavesAllBut own step × EachLeaves own steps

pub each_leaves : (own : List ℕ) (held : Bool) (steps : List DiskStep) → LeaveAllBut own held steps → EachLeaves own steps
each_leaves own held [] leave = tt
each_leaves own held (Did (Open New n) ∷ more) leave = (leave.0, each_leaves own false more leave.1)
each_leaves own held (Did (Open Created n) ∷ more) leave = absurd leave
each_leaves own held (Did (Open ReadWrite n) ∷ more) leave = (tt, each_leaves own held more leave.1)
each_leaves own held (Did (Open access n) ∷ more) leave = (tt, each_leaves own false more leave)
each_leaves own held (Did (Hold n) ∷ more) leave = (tt, each_leaves own true more leave.1)
each_leaves own held (Did (Link from to) ∷ more) leave = absurd leave
each_leaves own held (Did (Rename from to left) ∷ more) leave = absurd leave
each_leaves own held (Did (Remove n) ∷ more) leave = (leave.0, each_leaves own false more leave.2)
each_leaves own held (Did (Cut wrote n) ∷ more) leave = absurd leave
each_leaves own held (Failed (Remove n) ∷ more) leave = (tt, each_leaves own false more leave)
each_leaves own held (Failed (FindFile n wrote) ∷ more) leave = (tt, each_leaves own false more leave)
each_leaves own held (step ∷ more) leave = (tt, each_leaves own held more leave)

has : (name text : List ℕ) (step : DiskStep) → LeavesAllBut (new_name name) step → HasNames name text step
has name text (Did (Open New n)) leaves = leaves
has name text (Did (Link from to)) leaves = absurd leaves
has name text (Did (Rename from to left)) leaves = absurd leaves
has name text (Did (Remove n)) leaves = leaves
has name text (Did (Cut wrote n)) leaves = absurd leaves
has name text other leaves = tt

have_each : (name text : List ℕ) (steps : List DiskStep) → EachLeaves (new_name name) steps → HaveNames name text steps
have_each name text [] leave = tt
have_each name text (step ∷ steps) leave = (has name text step leave.0, have_each name text steps leave.1)

have : (name text : List ℕ) (steps : List DiskStep) → LeaveAllBut (new_name name) false steps → HaveNames name text steps
have name text steps leave = have_each name text steps (each_leaves (new_name name) false steps leave)

pub beside : (name text : List ℕ) (was : Made) (course : Course) (is : Made) (steps : List DiskStep) → IsBeside name text was course is steps → HaveNames name text steps
beside name text was course is steps (Whole before left folder whole of) =
    (tt, both name text before _ (have name text before whole.0) (tt, ((refl, refl, whole.2), (tt, tt))))
beside name text was course is steps (Unsynced before left folder whole) =
    (tt, both name text before _ (have name text before whole.0) (tt, ((refl, refl, whole.2), (tt, tt))))
beside name text was course is steps (NotRenamed same leave failed) = have name text steps (leave.0 false)
beside name text was course is steps (Stopped same leave) = have name text steps (leave.0 false)
