use Rattle.std.proofs.Common.{All, slice_index, ◌<◌, ◌≡◌, ℕ, ◌+◌, ◌-◌, ◌≤◌, List, ◌++◌, length, take, drop, arith, ap, ◌∙◌, sym, subst, take-append-drop, append_assoc, Ok, Err}
use Rattle.std.proofs.lemmas.List.{length-drop, take_all}
use Rattle.std.proofs.lemmas.List.{get_or-drop}
use Rattle.std.proofs.lemmas.Result.{err_from_is_err_and}
use Rattle.std.proofs.Math.Seq.{take-add}
use Rattle.tape_blocks.specs.Standing.{EndsTape, IsRefusedForGood}
use Rattle.tape_blocks.specs.PartialTape.{ArePlacedBy, IsStep, IsReadBy, PlacesOn}
use Rattle.tape_blocks.specs.declared.fault.ReadError.{ReadError}
use Rattle.tape_blocks.specs.declared.fault.ReadError.TheVariants.{Tape, Memory}
use Rattle.tape_blocks.specs.declared.partial_tape.PartialTape.{PartialTape}
use Rattle.tape_blocks.proofs.partial_tape.PartialTape.read_on.Goals as goal
use Rattle.tape_blocks.proofs.partial_tape.PartialTape.read_on.Goals.{In_ok-count}

-- the slice behind the bytes used
rest_is : (piece : List ℕ) (used : ℕ) → take (length piece - used) (drop used piece) ≡ drop used piece
rest_is piece used = take_all (length piece - used) (drop used piece) (let l = length-drop used piece in omega arith)

-- the byte behind the bytes used
next_blank : (piece : List ℕ) (used : ℕ) → used < length piece → All (λ byte. byte ≡ 0) piece
    → slice_index (take (length piece - used) (drop used piece)) 0 ≡ 0
next_blank piece used h zeros =
    ap (λ t. slice_index t 0) (rest_is piece used) ∙ get_or-drop used piece 0 0 ∙ zeros (used + 0) 0 (omega arith)

-- the bytes used, and the first of the slice behind them
more_used : (fed piece : List ℕ) (used n : ℕ) → used ≤ length piece → n ≤ length (take (length piece - used) (drop used piece))
    → (used + n ≤ length piece) × ((fed ++ take used piece) ++ take n (take (length piece - used) (drop used piece)) ≡ fed ++ take (used + n) piece)
more_used fed piece used n h m =
    let l : length (take (length piece - used) (drop used piece)) ≡ length (drop used piece) = ap length (rest_is piece used) in
    let d = length-drop used piece in (
      omega arith,
      append_assoc fed (take used piece) (take n (take (length piece - used) (drop used piece)))
          ∙ ap (λ t. fed ++ t) (ap (λ t. take used piece ++ take n t) (rest_is piece used) ∙ sym (take-add used n piece)),
    )

step_err : (old mid new : PartialTape) (piece : List ℕ) (used : ℕ) (e : ReadError) → ((fed : List ℕ) → IsReadBy old fed → IsReadBy mid (fed ++ take used piece))
    → IsStep mid (take (length piece - used) (drop used piece)) new (Err e) → IsStep old piece new (Err e)
step_err old mid new piece used (Tape fault) before s = λ fed read.
    subst (λ t. IsRefusedForGood t fault)
    (append_assoc fed (take used piece) (take (length piece - used) (drop used piece))
    ∙ ap (λ t. fed ++ t) (ap (λ t. take used piece ++ t) (rest_is piece used) ∙ take-append-drop used piece))
    (s (fed ++ take used piece) (before fed read))
step_err old mid new piece used Memory before s = tt

pub returns-in_err-count-clause-step : goal.returns-in_err-count-clause-step
returns-in_err-count-clause-step c =
    let p = err_from_is_err_and c.from_residual.result c.from_residual.ensures.1 in
    rw (p.1, p.2)
    (step_err c.args.self.now c.loop-used.self c.step.new.self c.args.piece.now c.loop-used.used c.in_err-count.field-0.0 c.loop-used.invariant.read
    c.in_err-count.ensures.step)

found : (c : In_ok-count) → IsStep c.loop-used.self (take (length c.args.piece.now - c.loop-used.used) (drop c.loop-used.used c.args.piece.now)) c.step.new.self (Ok c.in_ok-count.field-0)
found c = c.in_ok-count.ensures.step

-- what the step left of places
placed_on : (c : In_ok-count) → PlacesOn c.loop-used.self (take (length c.args.piece.now - c.loop-used.used) (drop c.loop-used.used c.args.piece.now)) c.step.new.self (Ok c.in_ok-count.field-0)
placed_on c = c.in_ok-count.ensures.places

pub loop-used-preserved : goal.loop-used-preserved
loop-used-preserved c =
    let s = subst (λ x. IsStep c.loop-used.self (take (length c.args.piece.now - c.loop-used.used) (drop c.loop-used.used c.args.piece.now)) c.step.new.self (Ok x))
    c.in-Took.is (found ((goal.at.loop-used-preserved c).In_ok-count)) in
    let p = subst (λ x. PlacesOn c.loop-used.self (take (length c.args.piece.now - c.loop-used.used) (drop c.loop-used.used c.args.piece.now)) c.step.new.self (Ok x))
    c.in-Took.is (placed_on ((goal.at.loop-used-preserved c).In_ok-count)) in
    let f = λ (fed : List ℕ). more_used fed c.args.piece.now c.loop-used.used c.in-Took.count c.loop-used.invariant.within s.0 in
    record {
      within = (f c.args.piece.now).0;
      part = s.1;
      read = λ fed read. subst (IsReadBy c.step.new.self) (f fed).1 (s.2 (fed ++ take c.loop-used.used c.args.piece.now) (c.loop-used.invariant.read fed read));
      placed = λ fed read placed.
          subst (ArePlacedBy c.step.new.self) (f fed).1
          (p (fed ++ take c.loop-used.used c.args.piece.now) (c.loop-used.invariant.read fed read) (c.loop-used.invariant.placed fed read placed));
      blank = λ none zeros.
          c.in_ok-count.ensures.blank (c.loop-used.invariant.blank none zeros) (next_blank c.args.piece.now c.loop-used.used c.loop-used-test.true zeros);
    }

pub returns-in-Ended-clause-step : goal.returns-in-Ended-clause-step
returns-in-Ended-clause-step c =
    let s = subst (λ x. IsStep c.loop-used.self (take (length c.args.piece.now - c.loop-used.used) (drop c.loop-used.used c.args.piece.now)) c.step.new.self (Ok x))
    c.in-Ended.is (found ((goal.at.returns-in-Ended-clause-step c).In_ok-count)) in
    let f = λ (fed : List ℕ). more_used fed c.args.piece.now c.loop-used.used c.in-Ended.count c.loop-used.invariant.within s.0 in (
      (f c.args.piece.now).0,
      λ fed read.
          subst (λ t. EndsTape t c.step.new.self.blocks.items c.step.new.self.place c.in-Ended.start) (f fed).1
          (s.1 (fed ++ take c.loop-used.used c.args.piece.now) (c.loop-used.invariant.read fed read)),
    )

pub returns-in-Ended-clause-places : goal.returns-in-Ended-clause-places
returns-in-Ended-clause-places c = λ fed read placed.
    let o = (goal.at.returns-in-Ended-clause-places c).In_ok-count in
    let s = subst (λ x. IsStep c.loop-used.self (take (length c.args.piece.now - c.loop-used.used) (drop c.loop-used.used c.args.piece.now)) c.step.new.self (Ok x))
    c.in-Ended.is (found o) in
    let p = subst (λ x. PlacesOn c.loop-used.self (take (length c.args.piece.now - c.loop-used.used) (drop c.loop-used.used c.args.piece.now)) c.step.new.self (Ok x))
    c.in-Ended.is (placed_on o) in
    subst (ArePlacedBy c.step.new.self) (more_used fed c.args.piece.now c.loop-used.used c.in-Ended.count c.loop-used.invariant.within s.0).1
    (p (fed ++ take c.loop-used.used c.args.piece.now) (c.loop-used.invariant.read fed read) (c.loop-used.invariant.placed fed read placed))
