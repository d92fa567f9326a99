use Rattle.std.proofs.Common.{◌≢◌, ℕ, zero, suc, List, Option, Ok, ◌-◌, ◌++◌, length, take, drop, refl, sym, ap, ◌∙◌, append_assoc, take-append-drop, arith}
use Rattle.std.proofs.lemmas.List.{take_rest}
use Rattle.std.proofs.KnownBytes.{Appends-trans}
use Rattle.std.specs.Io.KnownBytes.{Appends}
use Rattle.endings.specs.FaultOutput.{StandardError, CountsWrite, NoneFailed}
use Rattle.endings.proofs.Lines.{IsSaidBut, none_failed_twice}
use Rattle.endings.proofs.fault_output.say.Goals as goal

-- a write that took something has not failed
took_some : (count : ℕ) (f f' : Option ℕ) → count ≢ 0 → CountsWrite f f' (Ok count) → NoneFailed f f'
took_some zero f f' some counts = absurd (some refl)
took_some (suc count) f f' some counts = counts

-- the next write moves the front of what is left to what is said
moves_on : (a b d : StandardError) (text left : List ℕ) (n : ℕ) → IsSaidBut a b text left → Appends b.text d.text (take n left) → NoneFailed b.failures d.failures
    → IsSaidBut a d text (take (length left - n) (drop n left))
moves_on a b d text left n before wrote none = record {
  said = before.said ++ take n left;
  whole = before.whole ∙ ap (λ l. before.said ++ l) (sym (take-append-drop n left)) ∙ sym (append_assoc before.said (take n left) (drop n left))
      ∙ ap (λ l. (before.said ++ take n left) ++ l) (sym (take_rest left n));
  written = Appends-trans a.text b.text d.text before.said (take n left) before.written wrote;
  none_failed = none_failed_twice a.failures b.failures d.failures before.none_failed none;
}

pub loop-left-preserved : goal.loop-left-preserved
loop-left-preserved g c =
    moves_on _ _ _ _ _ _ c.loop-left.invariant c.in-Ok.ensures.bytes (took_some c.in-Ok.count _ _ (grind arith) c.in-Ok.ensures.counted)
