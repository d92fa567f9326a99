-- A load takes FILE away only where it made it.
use Rattle.std.proofs.Common.{◌≡◌, ◌⊎◌, ℕ, Bool, true, false, List, [], ◌∷◌, ◌++◌, Option, inl, inr, refl, sym, ◌∙◌}
use Rattle.record_file.specs.Beginning.{Course, Replaced, new_name, IsBeside, Whole, Unsynced, NotRenamed, Stopped, FolderOpened, FolderShut}
use Rattle.record_file.specs.Beginning.{IsFileCut, CutAndSynced, NotCut, IsLetGo, Stays, StaysBehindLink, LeadsElsewhere, Goes, IsMadeReady, ReadyDevice}
use Rattle.record_file.specs.Beginning.{IsWrittenOver, Device, PlainFile, IsNotWrittenOver, Unready, Unwritten, Uncut, IsBegun, Beside, InPlace, IsNotBegun, NotBeside, NotInPlace}
use Rattle.record_file.specs.DiskStep.{DiskStep, Did, Failed, Look, Remove, Rename, SyncFolder, LeaveAllBut}
use Rattle.record_file.specs.declared.made.Made.{Made}
use Rattle.record_file.specs.declared.made.Made.TheVariants.{Here}
use Rattle.disk_law.specs.Removing.{TakesAway, TakeAway, OnlyItsOwnFileGoes}
use Rattle.disk_law.proofs.Kept.{not_itself}
use Rattle.disk_law.proofs.Names.{EachLeaves, LeavesAllBut, each_leaves}

joined : (name : List ℕ) (xs ys : List DiskStep) → TakeAway name (xs ++ ys) → TakeAway name xs ⊎ TakeAway name ys
joined name [] ys away = inr away
joined name (x ∷ xs) ys (inl away) = inl (inl away)
joined name (x ∷ xs) ys (inr away) = elim (joined name xs ys away) [ inl front ↦ inl (inr front) | inr back ↦ inr back ]

-- ---- steps that leave each file but the new one as it is

stays : (name : List ℕ) (step : DiskStep) → LeavesAllBut (new_name name) step → TakesAway name step → ⊥
stays name (Did (Remove n)) leaves away = not_itself name (sym away ∙ leaves)
stays name other leaves away = absurd away

each_stay : (name : List ℕ) (steps : List DiskStep) → EachLeaves (new_name name) steps → TakeAway name steps → ⊥
each_stay name [] leave away = absurd away
each_stay name (step ∷ steps) leave (inl away) = stays name step leave.0 away
each_stay name (step ∷ steps) leave (inr away) = each_stay name steps leave.1 away

stay : (name : List ℕ) (steps : List DiskStep) → LeaveAllBut (new_name name) false steps → TakeAway name steps → ⊥
stay name steps leave = each_stay name steps (each_leaves (new_name name) false steps leave)

-- no name goes by three such steps
none_of : (name : List ℕ) (x y z : DiskStep) → (TakesAway name x → ⊥) → (TakesAway name y → ⊥) → (TakesAway name z → ⊥) → TakeAway name (x ∷ y ∷ z ∷ []) → ⊥
none_of name x y z a b c (inl away) = a away
none_of name x y z a b c (inr (inl away)) = b away
none_of name x y z a b c (inr (inr (inl away))) = c away
none_of name x y z a b c (inr (inr (inr away))) = absurd away

beside_keeps : (name text : List ℕ) (was : Made) (course : Course) (is : Made) (steps : List DiskStep) → IsBeside name text was course is steps → TakeAway name steps → ⊥
beside_keeps name text was course is steps (Whole before left folder whole f) (inl away) = absurd away
beside_keeps name text was course is steps (Whole before left folder whole f) (inr away) = elim (joined name before _ away) [
  | inl front ↦ stay name before whole.0 front
  | inr back ↦ none_of name (Did (Look name)) (Did (Rename (new_name name) name left)) (Did (SyncFolder folder)) (λ a. absurd a) (λ a. absurd a) (λ a. absurd a) back
]
beside_keeps name text was course is steps (Unsynced before left folder whole) (inl away) = absurd away
beside_keeps name text was course is steps (Unsynced before left folder whole) (inr away) = elim (joined name before _ away) [
  | inl front ↦ stay name before whole.0 front
  | inr back ↦ none_of name (Did (Look name)) (Did (Rename (new_name name) name left)) (Failed (SyncFolder folder)) (λ a. absurd a) (λ a. absurd a) (λ a. absurd a) back
]
beside_keeps name text was course is steps (NotRenamed same leave f) away = stay name steps (leave.0 false) away
beside_keeps name text was course is steps (Stopped same leave) away = stay name steps (leave.0 false) away

-- ---- in place

ready : (name : List ℕ) (made : Made) (device : Bool) (steps : List DiskStep) → IsMadeReady name made device steps → TakeAway name steps → ⊥
ready name made device steps ReadyDevice away = absurd away
ready name made device steps (FolderOpened target folder f) away = stay name steps tt away
ready name made device steps (FolderShut target folder f was) away = stay name steps tt away

file_cut : (name : List ℕ) (before : Option (List ℕ)) (text : List ℕ) (done : Bool) (steps : List DiskStep) → IsFileCut before text done steps → TakeAway name steps → ⊥
file_cut name before text done steps (CutAndSynced wrote true all) (inl a) = absurd a
file_cut name before text done steps (CutAndSynced wrote true all) (inr (inl a)) = absurd a
file_cut name before text done steps (CutAndSynced wrote true all) (inr (inr a)) = absurd a
file_cut name before text done steps (CutAndSynced wrote false all) (inl a) = absurd a
file_cut name before text done steps (CutAndSynced wrote false all) (inr (inl a)) = absurd a
file_cut name before text done steps (CutAndSynced wrote false all) (inr (inr a)) = absurd a
file_cut name before text done steps (NotCut wrote all) (inl a) = absurd a
file_cut name before text done steps (NotCut wrote all) (inr a) = absurd a

over : (name : List ℕ) (made : Made) (before : Option (List ℕ)) (text : List ℕ) (device : Bool) (steps : List DiskStep) → IsWrittenOver name made before text device steps → TakeAway name steps → ⊥
over name made before text device steps (Device made_ready is) away = ready name made true made_ready is away
over name made before text device steps (PlainFile made_ready cutting is cut) away = elim (joined name made_ready cutting away) [
  | inl front ↦ ready name made false made_ready is front
  | inr back ↦ file_cut name before text true cutting cut back
]

-- ---- what is let go

let_go : (name : List ℕ) (made : Made) (steps : List DiskStep) → IsLetGo name made steps → TakeAway name steps → made ≡ Here
let_go name made steps Stays away = absurd away
let_go name made steps StaysBehindLink away = absurd away
let_go name made steps (LeadsElsewhere found) away = refl
let_go name made steps (Goes removed) away = refl

not_over : (name : List ℕ) (made : Made) (before : Option (List ℕ)) (text : List ℕ) (steps : List DiskStep) → IsNotWrittenOver name made before text steps → TakeAway name steps → made ≡ Here
not_over name made before text steps (Unready unready going leave go) away = elim (joined name unready going away) [
  | inl front ↦ absurd (stay name unready leave front)
  | inr back ↦ let_go name made going go back
]
not_over name made before text steps (Unwritten device made_ready is) away = absurd (ready name made device made_ready is away)
not_over name made before text steps (Uncut made_ready cutting is cut) away = elim (joined name made_ready cutting away) [
  | inl front ↦ absurd (ready name made false made_ready is front)
  | inr back ↦ absurd (file_cut name before text false cutting cut back)
]

-- ---- whose file it is behind a beginning

beside_made : (name text : List ℕ) (was : Made) (course : Course) (is : Made) (steps : List DiskStep) → IsBeside name text was course is steps → is ≡ Here → was ≡ Here
beside_made name text was course is steps (Whole before left folder whole f) here = absurd (cc here)
beside_made name text was course is steps (Unsynced before left folder whole) here = absurd (cc here)
beside_made name text was course is steps (NotRenamed same leave f) here = here
beside_made name text was course is steps (Stopped same leave) here = here

pub only_its_own_file_goes : OnlyItsOwnFileGoes
only_its_own_file_goes name text known steps = record {
  begun = λ is away. begun steps is away;
  not_begun = λ is away. not_begun steps is away;
  closed = λ is away. let_go name known.made steps is away;
}
  where
    begun : (steps : List DiskStep) → IsBegun name known text steps → TakeAway name steps → ⊥
    begun steps (Beside after all list) away = beside_keeps name text known.made Replaced after all list away
    begun steps (InPlace after before writing list is) away = elim (joined name before writing away) [
      | inl front ↦ beside_keeps name text known.made _ after before list front
      | inr back ↦ over name after known.written text known.device writing is back
    ]

    not_begun : (steps : List DiskStep) → IsNotBegun name known text steps → TakeAway name steps → known.made ≡ Here
    not_begun steps (NotBeside after before going list go) away = elim (joined name before going away) [
      | inl front ↦ absurd (beside_keeps name text known.made _ after before list front)
      | inr back ↦ beside_made name text known.made _ after before list (let_go name after going go back)
    ]
    not_begun steps (NotInPlace after before writing list is) away = elim (joined name before writing away) [
      | inl front ↦ absurd (beside_keeps name text known.made _ after before list front)
      | inr back ↦ beside_made name text known.made _ after before list (not_over name after known.written text writing is back)
    ]
