-- Calls on a line in memory, one after another.
use Rattle.std.proofs.Common.{◌≡◌, ◌+◌, Bool, true, false, ℕ, [], ◌∷◌, ◌++◌, Option, Some, None, refl, ap, sym, ◌∙◌, append-nil, append_assoc}
use Rattle.host_devices.specs.declared.fault.LineFault.{LineFault}
use Rattle.host_devices.specs.declared.item.Item.{Item}
use Rattle.host_devices.specs.declared.item.Item.TheVariants.{Sent, Heard as Came}
use Rattle.honest_line.specs.Honest.{resting}
use Rattle.honest_line.specs.Lent.{HasMovedOn}
use Rattle.honest_line.specs.LineTable.{LineValue, called, delivered, with_sent, with_heard, sent_or_not, heard_or_not, first_heard}
use Rattle.honest_line.specs.Reached.{HasMoved}
use Rattle.honest_line.proofs.Lines.{sent_moved, heard_moved}
use Rattle.honest_line.proofs.Wires.{none_moves, moves_join}

pub lent_now : (line : LineValue) → HasMovedOn line line
lent_now line = ([], 0, record { items = sym (append-nil line.items); moved = none_moves (resting line.machine line.waiting 0) })

-- one item more
lent_moved : (opening old new : LineValue) (item : Item) → HasMovedOn opening old → HasMoved old item new → new.items ≡ old.items ++ item ∷ [] → HasMovedOn opening new
lent_moved opening old new item first move grown = (
  first.0 ++ item ∷ [],
  first.1 + move.0,
  record {
    items = grown ∙ (ap (λ items. items ++ item ∷ []) first.2.items ∙ append_assoc opening.items first.0 (item ∷ []));
    moved = moves_join opening.machine old.machine new.machine opening.waiting old.waiting new.waiting first.0 (item ∷ []) first.1 move.0 first.2.moved move.1;
  },
)

-- a call that fails says nothing
lent_called : (opening line : LineValue) (refusal : Option LineFault) → HasMovedOn opening line → HasMovedOn opening (called line refusal)
lent_called opening line None first = (first.0, first.1, record { items = first.2.items; moved = first.2.moved })
lent_called opening line (Some fault) first = (first.0, first.1, record { items = first.2.items; moved = first.2.moved })

delivered_items : (test : Bool) (line : LineValue) (key : ℕ) → (delivered test line key).items ≡ line.items
delivered_items true line key = refl
delivered_items false line key = refl

pub lent_sent : (opening line : LineValue) (key : ℕ) (refusal : Option LineFault) → HasMovedOn opening line → HasMovedOn opening (sent_or_not refusal line key)
lent_sent opening line key None first =
    lent_moved opening (called line None) (with_sent (called line None) key) (Sent key) (lent_called opening line None first) (sent_moved (called line None) key) (delivered_items _ _ key)
lent_sent opening line key (Some fault) first = lent_called opening line (Some fault) first

pub lent_heard : (opening line : LineValue) (refusal : Option LineFault) → HasMovedOn opening line → HasMovedOn opening (heard_or_not refusal line)
lent_heard opening line None first =
    lent_moved opening (called line None) (with_heard (called line None)) (Came (first_heard line.waiting)) (lent_called opening line None first) (heard_moved (called line None)) refl
lent_heard opening line (Some fault) first = lent_called opening line (Some fault) first
