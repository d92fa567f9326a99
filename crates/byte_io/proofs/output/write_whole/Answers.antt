use Rattle.std.proofs.Common.{rules, ℕ, List, Option, ◌-◌, ◌++◌, length, take, drop, sym, ap, ◌∙◌, append_assoc, take-append-drop}
use Rattle.std.proofs.lemmas.List.{take_rest}
use Rattle.std.proofs.KnownBytes.{Appends-trans}
use Rattle.std.specs.Io.KnownBytes.{Appends}
use Rattle.byte_io.specs.Output.{WritesAllBut}
use Rattle.byte_io.proofs.output.write_whole.Goals as goal

-- the next write moves the front of what is left to what is written
moves_on : (a b d : Option (List ℕ)) (text left : List ℕ) (n : ℕ) → WritesAllBut a b text left
    → Appends b d (take n left) → WritesAllBut a d text (take (length left - n) (drop n left))
moves_on a b d text left n before wrote = record {
  written = before.written ++ take n left;
  whole = before.whole ∙ ap (λ l. before.written ++ l) (sym (take-append-drop n left)) ∙ sym (append_assoc before.written (take n left) (drop n left))
      ∙ ap (λ l. (before.written ++ take n left) ++ l) (sym (take_rest left n));
  appended = Appends-trans a b d before.written (take n left) before.appended wrote;
}

pub loop-left-preserved : goal.loop-left-preserved
loop-left-preserved g c = moves_on _ _ _ _ _ _ c.loop-left.invariant c.in-Ok.ensures.bytes

pub returns-in-Ok-eq0-clause-err : goal.returns-in-Ok-eq0-clause-err
returns-in-Ok-eq0-clause-err g c = (
  c.loop-left.left.now,
  search rules,
  record { written = c.loop-left.invariant.written; whole = c.loop-left.invariant.whole; appended = search rules },
)
