-- The stub, as the host knows it, writes no byte outside its stretches.
use Rattle.std.proofs.Common.{◌≡◌, ℕ, ◌+◌, ◌-◌, ◌*◌, ◌<◌, true, if◌then◌else◌, List, [], ◌∷◌, map, Option, Some, None, refl, arith, sym, subst, ◌∙◌}
use Rattle.std.proofs.lemmas.Bool.Decides.{nat_tests}
use Rattle.tape_image.specs.Memory.{byte_of}
use Rattle.odt_machine.specs.Machine.{IsWide}
use Rattle.exchange_core.specs.declared.stretch.Stretch.{Stretch}
use Rattle.exchange_core.specs.Chunk.{is_nibble}
use Rattle.stub.specs.Filling.{Filling, begun, after, taken, takes, with_nibble}
use Rattle.stub.specs.Place.{StretchesFit}
use Rattle.stub.specs.Law.{IsOutside, filled, seven}
use Rattle.stub.proofs.Cuts.{HasNot, places_outside}
use Rattle.stub.proofs.Memory.{byte_other, wide_with}
use Rattle.stub.proofs.Numbers.{on_test}
use Rattle.stub.proofs.Points.{HighFits}

pub record Keeps (before : List ℕ) (b : ℕ) (f : Filling) : Type 0 where
  pub same : byte_of f.memory b ≡ byte_of before b
  pub wide : IsWide f.memory
  pub outside : HasNot f.left b
  pub high : HighFits f.high

nibble_keeps : (before : List ℕ) (b : ℕ) (f : Filling) (n a : ℕ) (rest : List ℕ) (high : Option ℕ) → n < 16 → HighFits high → byte_of f.memory b ≡ byte_of before b → IsWide f.memory →
    HasNot (a ∷ rest) b → f.left ≡ a ∷ rest → Keeps before b (with_nibble f high n a rest)
nibble_keeps before b f n a rest None small fits same wide outside is = record { same = same; wide = wide; outside = subst (λ l. HasNot l b) (sym is) outside; high = small }
nibble_keeps before b f n a rest (Some h) small fits same wide outside is = record {
  same = byte_other f.memory a (16 * h + n) b wide (both h n fits small) outside.0 ∙ same;
  wide = wide_with f.memory a (16 * h + n) wide (both h n fits small);
  outside = outside.1;
  high = tt;
}
  where
    both : (h n : ℕ) → h < 16 → n < 16 → 16 * h + n < 256
    both h n high low = omega arith

takes_keeps : (before : List ℕ) (b : ℕ) (f : Filling) (left : List ℕ) (c : ℕ) → f.left ≡ left → Keeps before b f → Keeps before b (takes f left c)
takes_keeps before b f [] c is k = k
takes_keeps before b f (a ∷ rest) c is k =
    on_test (λ t. Keeps before b (if t then with_nibble f f.high (c - 96) a rest else record f { left = [] })) (is_nibble c)
    (λ e. nibble_keeps before b f (c - 96) a rest f.high (low c e) k.high k.same k.wide (subst (λ l. HasNot l b) is k.outside) is)
    (λ e. record { same = k.same; wide = k.wide; outside = tt; high = k.high })
  where
    low : (c : ℕ) → is_nibble c ≡ true → c - 96 < 16
    low c e = grind (arith, nat_tests)

after_keeps : (before : List ℕ) (b : ℕ) (f : Filling) (cs : List ℕ) → Keeps before b f → Keeps before b (after f cs)
after_keeps before b f [] k = k
after_keeps before b f (c ∷ cs) k = after_keeps before b (taken f c) cs (takes_keeps before b f f.left c refl k)

-- a byte outside the stretches is what it was
pub outside_stays : (place end top : ℕ) (before : List ℕ) (stretches : List Stretch) (took : List ℕ) (b : ℕ) → IsWide before → StretchesFit place end top stretches → IsOutside stretches b →
    byte_of (filled before stretches took).memory b ≡ byte_of before b
outside_stays place end top before stretches took b wide fit outside =
    (after_keeps before b (begun before stretches) (map seven took) record { same = refl; wide = wide; outside = places_outside place end top b stretches fit outside; high = tt }).same
