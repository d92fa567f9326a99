-- How a shelf is taken up.
use Rattle.std.proofs.Common.{◌≡◌, ℕ, List, [], ◌∷◌, Option, Some, None, Result, Ok, Err, IfErr, IfOk, IfSome, refl, subst, sym}
use Rattle.std.specs.Io.KnownBytes.{Keeps}
use Rattle.request_values.specs.declared.range.AddressRange.{AddressRange}
use Rattle.tape_shelf.specs.declared.shelf.ShelfFault.{ShelfFault}
use Rattle.tape_shelf.specs.declared.shelf.ShelfFault.TheVariants.{IsThere, PartIsThere, NotOfSave, Write, Memory}
use Rattle.tape_shelf.specs.FoundPart.{AreFoundInPart, FillBlocks, IsPartOf, IsRefusedPart}
use Rattle.machine_look.specs.LookFault.{NoPart, NoRoom, TakesUpNothing}
use Rattle.machine_look.specs.Save.{BehindPart, InNewRoom, TakesUp}
use Rattle.tape_shelf.specs.SavedTape.{room_for}
use Rattle.tape_shelf.specs.Shelf.{ShelfStep, Reserve, NotReserved, NotResumed, Resume}
use Rattle.tape_shelf.specs.ShelfTold.{AreDone, HasDone, IsDone, ShelfTold}

-- what is so of a text that was kept was so before
of_kept : (a b : Option (List ℕ)) (P : List ℕ → Type 0) → Keeps a b → IfSome b P → IfSome a P
of_kept None b P keeps is = tt
of_kept (Some text) None P keeps is = absurd keeps
of_kept (Some text) (Some same) P keeps is = subst P keeps is

pub took_part : {V : Type 0} (result : Result V ShelfFault) (items : V → List ℕ) (range : AddressRange) (opened : List ℕ → Type 0) (a b c : ShelfTold)
    → ((folder : List ℕ) → IsDone folder (NotReserved (room_for range) PartIsThere) a b) → Keeps a.left b.left → IfOk result (λ v. FillBlocks range (items v))
    → IfOk result (λ v. IfSome b.left (λ text. AreFoundInPart range text (items v)))
    → IfOk result (λ v. (folder : List ℕ) × opened folder × IsDone folder (Resume (items v)) b c)
    → IfOk result (λ v. (taking : List ShelfStep) × TakesUp range a.left (items v) taking × (folder : List ℕ) × opened folder × AreDone folder taking a c)
took_part (Ok v) items range opened a b c there kept fill found done =
    (NotReserved (room_for range) PartIsThere ∷ Resume (items v) ∷ [], BehindPart (items v) fill (of_kept a.left b.left (λ text. AreFoundInPart range text (items v)) kept found), done.0, done.1, (b, there done.0, (c, done.2, refl)))
took_part (Err fault) items range opened a b c there kept fill found done = tt

-- what was kept is refused for what is so of it
refused_before : (a b : Option (List ℕ)) (range : AddressRange) (fault : ShelfFault) → Keeps a b → IsRefusedPart range b fault → IsRefusedPart range a fault
refused_before a b range NotOfSave keeps is = of_kept a b (λ text. IsPartOf range text → ⊥) keeps is
refused_before a b range IsThere keeps is = tt
refused_before a b range PartIsThere keeps is = tt
refused_before a b range Write keeps is = tt
refused_before a b range Memory keeps is = tt

pub took_no_part : {V : Type 0} (range : AddressRange) (a b c : ShelfTold) (result : Result V ShelfFault) → ((folder : List ℕ) → IsDone folder (NotReserved (room_for range) PartIsThere) a b)
    → Keeps a.left b.left → IfErr result (IsRefusedPart range b.left) → IfErr result (λ fault. (folder : List ℕ) → IsDone folder (NotResumed fault) b c)
    → IfErr result (λ fault. (steps : List ShelfStep) × TakesUpNothing range a.left fault steps × HasDone steps a c)
took_no_part range a b c (Ok v) there kept refused failed = tt
took_no_part range a b c (Err fault) there kept refused failed =
    (NotReserved (room_for range) PartIsThere ∷ NotResumed fault ∷ [], NoPart (refused_before a.left b.left range fault kept refused), ([], (b, there [], (c, failed [], refl))))

pub took_no_room : (range : AddressRange) (fault : ShelfFault) (a b : ShelfTold) → ((folder : List ℕ) → IsDone folder (NotReserved (room_for range) fault) a b)
    → (steps : List ShelfStep) × TakesUpNothing range a.left fault steps × HasDone steps a b
took_no_room range fault a b failed = (NotReserved (room_for range) fault ∷ [], NoRoom, ([], (b, failed [], refl)))

pub took_room : (range : AddressRange) (found : List ℕ) (size : ℕ) (opened : List ℕ → Type 0) (a b : ShelfTold) → found ≡ [] → size ≡ room_for range → (folder : List ℕ) × opened folder × IsDone folder (Reserve size) a b
    → (taking : List ShelfStep) × TakesUp range a.left found taking × (folder : List ℕ) × opened folder × AreDone folder taking a b
took_room range found size opened a b none is done =
    (Reserve (room_for range) ∷ [], subst (λ f. TakesUp range a.left f (Reserve (room_for range) ∷ [])) (sym none) InNewRoom, done.0, done.1, (b, subst (λ n. IsDone done.0 (Reserve n) a b) is done.2, refl))
