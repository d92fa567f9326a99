use Rattle.std.proofs.Common.{rules, ℕ, ◌≤◌, ◌+◌, List, Option, ◌++◌, length, take, arith}
use Rattle.std.proofs.lemmas.List.{length-append, length-take}
use Rattle.std.proofs.KnownBytes.{Consumes-trans}
use Rattle.std.specs.Io.KnownBytes.{Consumes}
use Rattle.byte_io.specs.Input.{TakesAtMost}
use Rattle.byte_io.proofs.Faults.{on_err}
use Rattle.byte_io.proofs.input.read_up_to.Goals as goal

-- bytes that were gathered, and then those of a read within the room that was left
taken_more : (a b d : Option (List ℕ)) (bytes piece : List ℕ) (n limit : ℕ) → Consumes a b bytes → Consumes b d (take n piece)
    → n + length bytes ≤ limit → TakesAtMost a d limit
taken_more a b d bytes piece n limit before read fits = record {
  taken = bytes ++ take n piece;
  consumed = Consumes-trans a b d bytes (take n piece) before read;
  within = omega (arith, length-append bytes (take n piece), length-take n piece);
}

pub returns-in_err-extend_from_slice-clause-err : goal.returns-in_err-extend_from_slice-clause-err
returns-in_err-extend_from_slice-clause-err g c =
    on_err _ _ (taken_more _ _ _ c.loop-piece.bytes.items _ c.in_ok-count.count _ c.loop-piece.invariant.taken c.in_ok-count.ensures.bytes.0 (search rules))

pub returns-clause-ok : goal.returns-clause-ok
returns-clause-ok g c = search rules
