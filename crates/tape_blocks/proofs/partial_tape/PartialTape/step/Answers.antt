use Rattle.std.proofs.Common.{◌≡◌, ℕ, ◌≤◌, List, ◌++◌, length, take, drop, arith, ap, ◌∙◌, sym, subst, take-append-drop, append_assoc, Result, Ok, Err}
use Rattle.std.proofs.lemmas.List.{length-take, length-append}
use Rattle.tape_blocks.specs.Standing.{EndsTape, IsRefusedForGood}
use Rattle.tape_blocks.specs.PartialTape.{ArePlacedBy, IsStep, IsReadBy, PlacesOn, part_of}
use Rattle.tape_blocks.specs.declared.fault.ReadError.{ReadError}
use Rattle.tape_blocks.specs.declared.fault.ReadError.TheVariants.{Tape, Memory}
use Rattle.tape_blocks.specs.declared.partial_tape.PartialTape.{PartialTape}
use Rattle.tape_blocks.specs.declared.partial_tape.Step.{Step}
use Rattle.tape_blocks.specs.declared.partial_tape.Step.TheVariants.{Took, Ended}
use Rattle.tape_blocks.proofs.Readings.{take_within}
use Rattle.tape_blocks.proofs.Steps.{step_too_long, good_longer}
use Rattle.tape_blocks.proofs.partial_tape.PartialTape.step.Goals as goal

-- a front of the bytes left, and a front of that
front_of : (n k : ℕ) (left : List ℕ) → n ≤ length (take k left) → (n ≤ length left) × (take n (take k left) ≡ take n left)
front_of n k left h =
    let l = length-take k left in
    let within : n ≤ length left = omega arith in
    (within, sym (take_within n k left (omega arith) within))

-- a step over a front of the bytes left is one over all of them
step_near : (old new : PartialTape) (k : ℕ) (left : List ℕ) (r : Result Step ReadError) → IsStep old (take k left) new r → IsStep old left new r
step_near old new k left (Ok (Took n)) s =
    let f = front_of n k left s.0 in
    (f.0, s.1, λ fed read. subst (λ t. IsReadBy new (fed ++ t)) f.1 (s.2 fed read))
step_near old new k left (Ok (Ended n start)) s =
    let f = front_of n k left s.0 in
    (f.0, λ fed read. subst (λ t. EndsTape (fed ++ t) new.blocks.items new.place start) f.1 (s.1 fed read))
step_near old new k left (Err (Tape fault)) s = λ fed read.
    subst (λ t. IsRefusedForGood t fault) (append_assoc fed (take k left) (drop k left) ∙ ap (λ t. fed ++ t) (take-append-drop k left))
    (good_longer (fed ++ take k left) (drop k left) fault (s fed read))
step_near old new k left (Err Memory) s = tt

pub returns-then-room-eq0-clause-step : goal.returns-then-room-eq0-clause-step
returns-then-room-eq0-clause-step c =
    let l = length-append c.args.self.now.header.items c.args.self.now.body.items in
    let h = c.len.ensures.value in
    let b = c.len-2.ensures in
    let k = c.args.self.now.body.ok.0 in
    let w = c.requires.part.within in
    let z = c.if-room-eq0.true in
    rw c.new-fault.ensures (λ fed read.
    step_too_long fed c.args.left.now (part_of c.args.self.now) _ c.args.self.now.place read c.requires.part.wanting (omega arith) c.requires.some)

pub returns-then-is_empty-clause-step : goal.returns-then-is_empty-clause-step
returns-then-is_empty-clause-step c = step_near c.args.self.now c.begin.new.self c.min.result c.args.left.now c.begin.result c.begin.ensures.step

pub returns-else-is_empty-clause-step : goal.returns-else-is_empty-clause-step
returns-else-is_empty-clause-step c = step_near c.args.self.now c.go_on.new.self c.min.result c.args.left.now c.go_on.result c.go_on.ensures.step

-- the places after a step over a front of the bytes left
places_near : (old new : PartialTape) (k : ℕ) (left : List ℕ) (r : Result Step ReadError) → IsStep old (take k left) new r → PlacesOn old (take k left) new r
    → PlacesOn old left new r
places_near old new k left (Ok (Took n)) s p =
    λ fed read placed. subst (λ t. ArePlacedBy new (fed ++ t)) (front_of n k left s.0).1 (p fed read placed)
places_near old new k left (Ok (Ended n start)) s p =
    λ fed read placed. subst (λ t. ArePlacedBy new (fed ++ t)) (front_of n k left s.0).1 (p fed read placed)
places_near old new k left (Err e) s p = tt

pub returns-then-is_empty-clause-places : goal.returns-then-is_empty-clause-places
returns-then-is_empty-clause-places c =
    places_near c.args.self.now c.begin.new.self c.min.result c.args.left.now c.begin.result c.begin.ensures.step c.begin.ensures.places

pub returns-else-is_empty-clause-places : goal.returns-else-is_empty-clause-places
returns-else-is_empty-clause-places c =
    places_near c.args.self.now c.go_on.new.self c.min.result c.args.left.now c.go_on.result c.go_on.ensures.step c.go_on.ensures.places
