-- An output to which no byte was written.
use Rattle.std.proofs.Common.{◌≡◌, ◌∙◌, ℕ, List, [], ◌∷◌, ◌++◌, length, Option, Some, None, append-nil, arith, ap, refl, subst}
use Rattle.std.specs.Io.KnownBytes.{Appends, Keeps}
use Rattle.byte_io.specs.Output.{WritesPrefix}

pub nothing_behind : (before after : Option (List ℕ)) → Appends before after [] → Keeps before after
nothing_behind None after h = tt
nothing_behind (Some held) None h = absurd h
nothing_behind (Some held) (Some held') h = h ∙ append-nil held

no_front : (written left : List ℕ) → [] ≡ written ++ left → written ≡ []
no_front [] left h = refl
no_front (byte ∷ written) left h = absurd (omega (arith, ap length h))

pub nothing_in_front : (before after : Option (List ℕ)) → WritesPrefix before after [] → Keeps before after
nothing_in_front before after (left, w) =
    nothing_behind before after (subst (λ bytes. Appends before after bytes) (no_front w.written left w.whole) w.appended)
