use Rattle.std.proofs.Common.{rules, ◌≡◌, ℕ, ◌+◌, ◌<◌, ◌≤◌, List, ◌++◌, length, take, arith, ap, sym, Ok}
use Rattle.std.proofs.lemmas.Result.{err_from_is_err_and}
use Rattle.std.specs.Io.KnownBytes.{IsAtEnd}
use Rattle.tape_blocks.specs.Input.{input_limit}
use Rattle.tape_blocks.proofs.Intake.{IsTaken, taken_more, growth_refused, read_failed, piece_refused, tape_laid, none_laid, none_taken, still_less}
use Rattle.tape_blocks.proofs.Placings.{same_placed}
use Rattle.tape_blocks.proofs.input.read_with_layout.Goals as goal
use Rattle.tape_blocks.proofs.input.read_with_layout.Goals.{In_ok-count, in_default-via-in-More+else-count-gt0, in_default-via-in_default}

pub returns-in_err-resize : goal.returns-in_err-resize
returns-in_err-resize g c =
    let p = err_from_is_err_and c.from_residual.result c.from_residual.ensures.1 in
    rw (p.1, p.2) (none_laid _ _ _ (growth_refused _ _ c.loop-piece.reader c.loop-piece.taken c.loop-piece.invariant))

pub returns-in_err-count : goal.returns-in_err-count
returns-in_err-count g c =
    let p = err_from_is_err_and c.from_residual-in_err-count.result c.from_residual-in_err-count.ensures.1 in
    rw (p.1, p.2) (none_laid _ _ _ (read_failed _ _ _ c.loop-piece.reader c.loop-piece.taken c.loop-piece.invariant c.in_err-count.ensures.bytes))

-- the bytes that this read gave
abbrev piece : (g : _) → In_ok-count g → List ℕ
piece g c = take c.in_ok-count.count c.read.new.buf

-- what was taken with them
taken : (g : _) (c : In_ok-count g)
    → IsTaken (g.R.Read.remaining c.args.input.now) (g.R.Read.remaining c.read.new.self) (c.loop-piece.invariant.fed ++ piece g c)
    × (length (c.loop-piece.invariant.fed ++ piece g c) ≡ c.loop-piece.taken + c.in_ok-count.count)
taken g c =
    let room : ℕ = c.min-room.result in
    let limit = c.loop-piece.invariant.limited in
    let fits : room ≤ c.needs.result = search rules in
    let within : room + c.loop-piece.taken ≤ input_limit = search rules in
    let held : length c.read.new.buf ≡ room = search rules in
    let m = c.in_ok-count.ensures.bound in
    taken_more _ _ _ c.loop-piece.reader c.loop-piece.taken c.needs.result room c.in_ok-count.count c.read.new.buf c.loop-piece.invariant
    c.in_ok-count.ensures.bytes.0 c.needs.ensures.known fits within (omega arith) m.0

-- a read of nothing is the end
at_end : (g : _) (c : In_ok-count g) → c.in_ok-count.count ≡ 0 → IsAtEnd (g.R.Read.remaining c.read.new.self)
at_end g c none =
    let limit = c.loop-piece.invariant.limited in
    let some : 0 < c.needs.result = c.needs.ensures.goes_on c.loop-piece.invariant.going in
    let held : 0 < length c.read.new.buf = search rules in
    c.in_ok-count.ensures.bytes.1 none held

pub returns-in_err-feed : goal.returns-in_err-feed
returns-in_err-feed g c =
    let o = (goal.at.returns-in_err-feed g c).In_ok-count in
    let p = err_from_is_err_and c.from_residual-in_err-feed.result c.from_residual-in_err-feed.ensures.1 in
    rw (p.1, p.2)
    (none_laid _ _ _ (piece_refused _ _ c.loop-piece.invariant.fed (piece g o) c.in_err-feed.field-0.0 (taken g o).0
    (c.in_err-feed.ensures.answered c.loop-piece.invariant.fed c.loop-piece.invariant.stands)))

pub returns-in_err-tape-in_default : goal.returns-in_err-tape-in_default
returns-in_err-tape-in_default g c =
    let o = (goal.at.returns-in_err-tape-in_default g c).In_ok-count in
    let p = err_from_is_err_and c.from_residual-in_err-tape-in_default.result c.from_residual-in_err-tape-in_default.ensures.1 in
    let t = c.loop-piece.invariant in
    rw (p.1, p.2)
    (none_laid _ _ _ (none_taken _ _ t.fed (piece g o) c.in_ok-feed.field-0 c.in_err-tape-in_default.field-0.0 (taken g o).0
    (c.in_ok-feed.ensures.answered t.fed t.stands)
    (c.in_err-tape-in_default.ensures.answered (t.fed ++ piece g o) (c.in_ok-feed.ensures.stands t.fed t.stands))
    (λ more. elim c.in_default.branch [
      | in_default-via-in-More+else-count-gt0 w ↦ at_end g o (let z = w.if-count-gt0.false in omega arith)
      | in_default-via-in_default w ↦ absurd (w.in_default.not-More more)
    ])))

pub returns-in_default : goal.returns-in_default
returns-in_default g c =
    let o = (goal.at.returns-in_default g c).In_ok-count in
    let t = c.loop-piece.invariant in
    let read = c.in_ok-tape-in_default.ensures in
    tape_laid _ _ (t.fed ++ piece g o) c.in_ok-tape-in_default.tape
    (record { places = c.in_ok-tape-in_default.places; size = c.loop-piece.taken + c.in_ok-count.count }) (taken g o).0 (taken g o).1
    (read.answered (t.fed ++ piece g o) (c.in_ok-feed.ensures.stands t.fed t.stands))
    (same_placed (t.fed ++ piece g o) _ _ _ _ (sym read.blocks) (sym read.places) (c.in_ok-feed.ensures.places t.fed t.stands t.placed))

pub loop-piece-preserved : goal.loop-piece-preserved
loop-piece-preserved g c =
    let o = (goal.at.loop-piece-preserved g c).In_ok-count in
    let t = c.loop-piece.invariant in
    record {
      placed = c.in_ok-feed.ensures.places t.fed t.stands t.placed;
      fed = t.fed ++ piece g o;
      stands = c.in_ok-feed.ensures.stands t.fed t.stands;
      going = c.in_ok-feed.ensures.goes_on.1 (ap (λ x. Ok x) c.in-More.is);
      so_far = (taken g o).0;
      counted = (taken g o).1;
      limited = still_less c.feed.new.self (t.fed ++ piece g o) (c.loop-piece.taken + c.in_ok-count.count)
          (c.in_ok-feed.ensures.goes_on.1 (ap (λ x. Ok x) c.in-More.is)) (c.in_ok-feed.ensures.stands t.fed t.stands) (taken g o).1;
    }
