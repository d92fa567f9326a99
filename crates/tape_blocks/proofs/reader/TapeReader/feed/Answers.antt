use Rattle.std.proofs.Common.{◌≡◌, ◌++◌, sym, subst, Ok, List, ℕ, length, refl}
use Rattle.tape_blocks.specs.TapeReader.{StandsAt}
use Rattle.tape_blocks.specs.Layout.{ArePlaced}
use Rattle.tape_blocks.specs.PartialTape.{ArePlacedBy, IsReadBy, IsStep, PlacesOn, TakesAll}
use Rattle.tape_blocks.specs.declared.partial_tape.Step.TheVariants.{Took, Ended}
use Rattle.tape_blocks.specs.declared.reader_state.ReaderState.TheVariants.{Done, Failed}
use Rattle.tape_blocks.proofs.Feeding.{value, done_answers, failed_stands, failed_answers, came_open, same_outcome, took_open, took_answers, read_whole, ended_stands, ended_answers, failure_stands, failure_answers}
use Rattle.tape_blocks.proofs.Placings.{placed_in_piece, places_grow}
use Rattle.tape_blocks.proofs.reader.TapeReader.feed.Goals as goal
use Rattle.tape_blocks.proofs.reader.TapeReader.feed.Goals.{In-Open, In-Ok-Took, In-Ok-Ended}

pub returns-in-Done-clause-answered : goal.returns-in-Done-clause-answered
returns-in-Done-clause-answered c = λ fed h.
    done_answers c.args.self.now c.in-Done.field-0 fed c.args.piece.now
    (same_outcome c.self.inside.partial c.self.inside.state (Done c.in-Done.field-0) c.args.self.now c.self.view_is c.in-Done.is) h

pub returns-in-Failed-clause-stands : goal.returns-in-Failed-clause-stands
returns-in-Failed-clause-stands c = λ fed h.
    failed_stands c.args.self.now c.in-Failed.error fed c.args.piece.now
    (same_outcome c.self.inside.partial c.self.inside.state (Failed c.in-Failed.error) c.args.self.now c.self.view_is c.in-Failed.is) h

pub returns-in-Failed-clause-answered : goal.returns-in-Failed-clause-answered
returns-in-Failed-clause-answered c = λ fed h.
    failed_answers c.args.self.now c.in-Failed.error fed c.args.piece.now
    (same_outcome c.self.inside.partial c.self.inside.state (Failed c.in-Failed.error) c.args.self.now c.self.view_is c.in-Failed.is) h

-- what an open reader has read
read : (c : In-Open) (fed : List ℕ) → StandsAt c.args.self.now fed → IsReadBy c.self.inside.partial fed
read c fed h = came_open c.self.inside.partial c.self.inside.state c.args.self.now fed c.self.view_is c.in-Open.is h

-- a list at which it stands
stood : (c : In-Open) → StandsAt c.args.self.now c.self.invariant.fed
stood c = subst (λ r. StandsAt r c.self.invariant.fed) c.self.view_is c.self.invariant.stands

took : (c : In-Ok-Took) → IsStep c.self.inside.partial c.args.piece.now c.read_on.new.self (Ok (Took c.in-Ok-Took.field-0-0))
took c = subst (λ x. IsStep c.self.inside.partial c.args.piece.now c.read_on.new.self (Ok x)) c.in-Ok-Took.field-0-is c.in-Ok-Took.ensures.step

took_all : (c : In-Ok-Took) → c.in-Ok-Took.field-0-0 ≡ length c.args.piece.now
took_all c = subst (λ x. TakesAll c.args.piece.now (Ok x)) c.in-Ok-Took.field-0-is c.in-Ok-Took.ensures.whole

ended : (c : In-Ok-Ended) → IsStep c.self.inside.partial c.args.piece.now c.read_on.new.self (Ok (Ended c.in-Ok-Ended.used c.in-Ok-Ended.start))
ended c = subst (λ x. IsStep c.self.inside.partial c.args.piece.now c.read_on.new.self (Ok x)) c.in-Ok-Ended.field-0-is c.in-Ok-Ended.ensures.step

pub returns-in-Ok-Took-clause-stands : goal.returns-in-Ok-Took-clause-stands
returns-in-Ok-Took-clause-stands c = λ fed h.
    let o = (goal.at.returns-in-Ok-Took-clause-stands c).In-Open in
    took_open c.read_on.new.self c.self.inside.state (fed ++ c.args.piece.now) c.in-Open.is (took c).1
    (read_whole c.self.inside.partial c.read_on.new.self fed c.args.piece.now c.in-Ok-Took.field-0-0 (took c) (took_all c) (read o fed h))

pub invariant_of-self : goal.invariant_of-self
invariant_of-self c =
    let o = (goal.at.invariant_of-self c).In-Open in
    record {
      split = λ _. (took c).1.split;
      fed = c.self.invariant.fed ++ c.args.piece.now;
      stands = returns-in-Ok-Took-clause-stands c c.self.invariant.fed (stood o);
    }

pub returns-in-Ok-Took-clause-answered : goal.returns-in-Ok-Took-clause-answered
returns-in-Ok-Took-clause-answered c = λ fed h.
    let o = (goal.at.returns-in-Ok-Took-clause-answered c).In-Open in
    took_answers c.read_on.new.self fed c.args.piece.now (took c).1
    (read_whole c.self.inside.partial c.read_on.new.self fed c.args.piece.now c.in-Ok-Took.field-0-0 (took c) (took_all c) (read o fed h))

pub returns-in-Ok-Ended-clause-stands : goal.returns-in-Ok-Ended-clause-stands
returns-in-Ok-Ended-clause-stands c = λ fed h.
    let o = (goal.at.returns-in-Ok-Ended-clause-stands c).In-Open in
    let s = ended ((goal.at.returns-in-Ok-Ended-clause-stands c).In-Ok-Ended) in
    ended_stands fed c.args.piece.now c.in-Ok-Ended.used c.read_on.new.self.blocks.items c.read_on.new.self.place c.in-Ok-Ended.start s.0 (s.1 fed (read o fed h))

pub invariant_of-self-in-Ok-Ended : goal.invariant_of-self-in-Ok-Ended
invariant_of-self-in-Ok-Ended c =
    let o = (goal.at.invariant_of-self-in-Ok-Ended c).In-Open in
    record {
      split = λ e. absurd (cc e);
      fed = c.self.invariant.fed ++ c.args.piece.now;
      stands = returns-in-Ok-Ended-clause-stands c c.self.invariant.fed (stood o);
    }

pub returns-in-Ok-Ended-clause-answered : goal.returns-in-Ok-Ended-clause-answered
returns-in-Ok-Ended-clause-answered c = λ fed h.
    let o = (goal.at.returns-in-Ok-Ended-clause-answered c).In-Open in
    let s = ended ((goal.at.returns-in-Ok-Ended-clause-answered c).In-Ok-Ended) in
    ended_answers fed c.args.piece.now c.in-Ok-Ended.used c.read_on.new.self.blocks.items c.read_on.new.self.place c.in-Ok-Ended.start s.0 (s.1 fed (read o fed h))

pub returns-in-Err-clause-stands : goal.returns-in-Err-clause-stands
returns-in-Err-clause-stands c = λ fed h.
    let o = (goal.at.returns-in-Err-clause-stands c).In-Open in
    failure_stands c.self.inside.partial c.read_on.new.self (value c.read_on.new.self (Failed c.in-Err.error)) c.in-Err.error fed c.args.piece.now refl
    (read o fed h) c.in-Err.ensures.step

pub invariant_of-self-in-Err : goal.invariant_of-self-in-Err
invariant_of-self-in-Err c =
    let o = (goal.at.invariant_of-self-in-Err c).In-Open in
    record {
      split = λ e. absurd (cc e);
      fed = c.self.invariant.fed ++ c.args.piece.now;
      stands = returns-in-Err-clause-stands c c.self.invariant.fed (stood o);
    }

pub returns-in-Err-clause-answered : goal.returns-in-Err-clause-answered
returns-in-Err-clause-answered c = λ fed h.
    let o = (goal.at.returns-in-Err-clause-answered c).In-Open in
    failure_answers c.self.inside.partial c.read_on.new.self c.in-Err.error fed c.args.piece.now (read o fed h) c.in-Err.ensures.step

pub returns-in-Done-clause-places : goal.returns-in-Done-clause-places
returns-in-Done-clause-places c = λ fed h placed. places_grow fed c.args.piece.now _ _ placed

-- the places of an open reader's blocks
placed_before : (c : In-Open) (fed : List ℕ) → ArePlaced fed c.args.self.now.blocks c.args.self.now.places → ArePlacedBy c.self.inside.partial fed
placed_before c fed placed = subst (λ r. ArePlaced fed r.blocks r.places) (sym c.self.view_is) placed

pub returns-in-Ok-Ended-clause-places : goal.returns-in-Ok-Ended-clause-places
returns-in-Ok-Ended-clause-places c = λ fed h placed.
    let o = (goal.at.returns-in-Ok-Ended-clause-places c).In-Open in
    let p = subst (λ x. PlacesOn c.self.inside.partial c.args.piece.now c.read_on.new.self (Ok x)) c.in-Ok-Ended.field-0-is c.in-Ok-Ended.ensures.places in
    placed_in_piece fed c.args.piece.now c.in-Ok-Ended.used c.read_on.new.self.blocks.items c.read_on.new.self.places.items
    (p fed (read o fed h) (placed_before o fed placed))

pub returns-in-Ok-Took-clause-places : goal.returns-in-Ok-Took-clause-places
returns-in-Ok-Took-clause-places c = λ fed h placed.
    let o = (goal.at.returns-in-Ok-Took-clause-places c).In-Open in
    let p = subst (λ x. PlacesOn c.self.inside.partial c.args.piece.now c.read_on.new.self (Ok x)) c.in-Ok-Took.field-0-is c.in-Ok-Took.ensures.places in
    placed_in_piece fed c.args.piece.now c.in-Ok-Took.field-0-0 c.read_on.new.self.blocks.items c.read_on.new.self.places.items
    (p fed (read o fed h) (placed_before o fed placed))
