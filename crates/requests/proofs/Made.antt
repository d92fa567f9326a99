-- What becomes of a tape of words, by what is said of its shelf.
use Rattle.std.proofs.Common.{ℕ, List, [], ◌∷◌, Result, Ok, Err, OnOk, IfErr, length, refl, inr}
use Rattle.tape_shelf.specs.Shelf.{Put, Reserve, put_step}
use Rattle.tape_shelf.specs.ShelfTold.{HasDone, IsDone, ShelfTold}
use Rattle.tape_shelf.specs.declared.shelf.ShelfFault.{ShelfFault}
use Rattle.requests.specs.Making.{IsNotPutWhole}
use Rattle.std.specs.Prelude.{⊤}

-- room was taken, and the tape was put there, or it was not
module _ (text : List ℕ) (opened : List ℕ → Type 0) (a b c : ShelfTold) (room : (folder : List ℕ) × opened folder × IsDone folder (Reserve (length text)) a b) where
  pub put_whole : (result : Result ⊤ ShelfFault) → ((folder : List ℕ) → opened folder → IsDone folder (put_step text result) b c)
      → OnOk result (HasDone (Reserve (length text) ∷ Put text ∷ []) a c)
  put_whole (Ok done) h = (room.0, (b, room.2, (c, h room.0 room.1, refl)))
  put_whole (Err fault) h = tt

  pub not_put : (result : Result ⊤ ShelfFault) → ((folder : List ℕ) → opened folder → IsDone folder (put_step text result) b c)
      → IfErr result (λ fault. IsNotPutWhole text fault a c)
  not_put (Ok done) h = tt
  not_put (Err fault) h = inr (room.0, (b, room.2, (c, h room.0 room.1, refl)))
