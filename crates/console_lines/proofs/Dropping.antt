-- One more byte behind the dropped ones: it is dropped too, or it is the one that is taken.
use Rattle.std.proofs.Common.{ℕ, ◌+◌, List, [], ◌∷◌, ◌++◌, Option, subst, sym, arith, length-append, append-nil}
use Rattle.std.proofs.KnownBytes.{Consumes-trans}
use Rattle.std.specs.Io.KnownBytes.{Consumes}
use Rattle.std.proofs.lemmas.List.Elements.{All-append, All-cons, All-nil}
use Rattle.console_lines.specs.Hearing.{DropsThenTakes, IsPadding}

pub takes_behind : (a b d : Option (List ℕ)) (count byte : ℕ) → DropsThenTakes a b count [] → Consumes b d (byte ∷ []) → DropsThenTakes a d count (byte ∷ [])
takes_behind a b d count byte before taken = record {
  dropped = before.dropped;
  padding = before.padding;
  counted = before.counted;
  consumed = Consumes-trans a b d before.dropped (byte ∷ []) (subst (Consumes a b) (append-nil before.dropped) before.consumed) taken;
}

pub drops_more : (a b d : Option (List ℕ)) (count byte : ℕ) → DropsThenTakes a b count [] → Consumes b d (byte ∷ []) → IsPadding byte → DropsThenTakes a d (count + 1) []
drops_more a b d count byte before taken padding = record {
  dropped = before.dropped ++ byte ∷ [];
  padding = All-append IsPadding before.dropped (byte ∷ []) before.padding (All-cons IsPadding byte [] padding (All-nil IsPadding));
  counted = omega (arith, length-append before.dropped (byte ∷ []), before.counted);
  consumed = subst (Consumes a d) (sym (append-nil (before.dropped ++ byte ∷ []))) (
      Consumes-trans a b d before.dropped (byte ∷ []) (subst (Consumes a b) (append-nil before.dropped) before.consumed) taken);
}
