use Rattle.std.proofs.Common.{◌≡◌, ◌+◌, ◌<◌, ◌∙◌, ℕ, List, ◌++◌, length, Option, Some, None, append-nil, ap, arith, rules, subst, sym}
use Rattle.std.proofs.lemmas.List.{length-append}
use Rattle.std.specs.Io.KnownBytes.{Keeps}
use Rattle.byte_io.specs.Input.{IsTaken}
use Rattle.request_values.specs.declared.range.AddressRange.{AddressRange}
use Rattle.tape_shelf.specs.FoundPart.{IsPartOf, IsRefusedPart}
use Rattle.tape_shelf.specs.SavedTape.{room_for}
use Rattle.tape_shelf.specs.declared.shelf.ShelfFault.TheVariants.{NotOfSave}
use Rattle.tape_shelf.proofs.left_part.read_left.Goals as goal

-- a part of such a save is read whole, and so refused for what it is
whole_refused : (range : AddressRange) (limit : ℕ) (holds unread after : Option (List ℕ)) (text : List ℕ) → limit ≡ room_for range + 1 → Keeps holds unread
    → IsTaken unread after limit text → (IsPartOf range text → ⊥) → IsRefusedPart range holds NotOfSave
whole_refused range limit None unread after text is kept taken none = tt
whole_refused range limit (Some all) None after text is kept taken none = absurd kept
whole_refused range limit (Some all) (Some left) None text is kept taken none = absurd taken.consumed
whole_refused range limit (Some all) (Some left) (Some rest) text is kept taken none = λ part. none (subst (IsPartOf range) (sym (whole part)) part) where
  parts : all ≡ text ++ rest
  parts = sym kept ∙ taken.consumed

  short : IsPartOf range all → length text < limit
  short part =
      let lengths : length all ≡ length text + length rest = ap length parts ∙ length-append text rest in
      let room : length all ≡ room_for range = part.0 in
      omega (arith, lengths, room, is)

  whole : IsPartOf range all → text ≡ all
  whole part = sym (parts ∙ (ap (λ (r : List ℕ). text ++ r) (taken.to_end (short part)) ∙ append-nil text))

pub returns-in-Ok-None-clause-refused : goal.returns-in-Ok-None-clause-refused
returns-in-Ok-None-clause-refused g c =
    let none : IsPartOf c.args.range c.deref.result.now → ⊥ = search rules in
    whole_refused c.args.range _ _ _ _ _ (ap (λ (n : ℕ). n + 1) c.tape_room.ensures) c.in-Ok.ensures.text c.in-Ok-take_up_to.ensures.taken
    (subst (λ t. IsPartOf c.args.range t → ⊥) c.deref.ensures.value none)
